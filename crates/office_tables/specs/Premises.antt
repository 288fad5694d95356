-- How a contract names its parts: `when` precedes what the call needs for its effect, `within` the bounds in which each
-- of its faults has a cause (`and` precedes a further bound), and a verb what it gives, adds or leaves. What is always so
-- is left out. A change of rows or of a model (`Changes`, `Updates`, `StoreUpdates`) needs for the causes of its faults,
-- too, what it needs for its effect.
use Rattle.std.specs.Prelude.{⊤}

infix 1 ◌gives◌ ◌within◌gives◌ ◌within◌and◌gives◌ ◌when◌gives◌ ◌when◌within◌gives◌ ◌within◌adds◌ ◌when◌leaves◌
-- ---- a query (`LooksUp`), a reading (`Answers`) or a change (`Updates`), and the like of a store

abbrev pub ◌gives◌ {ℓ} : {M : Type 0} {G : Type ℓ} → ((needs bounds : M → Type 0) → G → Type 0) → G → Type 0
call gives effect = call (λ _. ⊤) (λ _. ⊤) effect

abbrev pub ◌within◌gives◌ {ℓ} : {M : Type 0} {G : Type ℓ} → ((needs bounds : M → Type 0) → G → Type 0) → (M → Type 0) → G → Type 0
call within bounds gives effect = call (λ _. ⊤) bounds effect

abbrev pub ◌when◌gives◌ {ℓ} : {M : Type 0} {G : Type ℓ} → ((needs bounds : M → Type 0) → G → Type 0) → (M → Type 0) → G → Type 0
call when needed gives effect = call needed (λ _. ⊤) effect

abbrev pub ◌when◌within◌gives◌ {ℓ} : {M : Type 0} {G : Type ℓ} → ((needs bounds : M → Type 0) → G → Type 0) → (needed bounds : M → Type 0) → G → Type 0
call when needed within bounds gives effect = call needed bounds effect

-- of `Answers`, which needs nothing for its effect: within both bounds
abbrev pub ◌within◌and◌gives◌ {ℓ} : {M : Type 0} {G : Type ℓ} → ((more bounds : M → Type 0) → G → Type 0) → (bounds more : M → Type 0) → G → Type 0
call within bounds and more gives effect = call more bounds effect

-- ---- a statement that changes rows

-- of `Puts` and `PutsNumbered`
abbrev pub ◌within◌adds◌ {ℓ} : {R : Type 0} {B : Type ℓ} → (R → B → Type 0) → B → R → Type 0
call within bounds adds row = call row bounds

-- of `Changes` and `Thins`
abbrev pub ◌when◌leaves◌ : {M R : Type 0} → ((M → Type 0) → R → Type 0) → (M → Type 0) → R → Type 0
call when needed leaves rows = call needed rows
