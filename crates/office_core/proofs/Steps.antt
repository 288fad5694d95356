-- What each accepted command keeps, a run of commands keeps.
use Rattle.std.proofs.Common.{Bool, ◌≡◌, ℕ, true, false, List, [], ◌∷◌, Option, Some, None, Ok, Err, refl}
use Rattle.office_core.proofs.Common.{AllByRecursion, Check, Command, Refusal, Reply, State, WithReader, after, checks}
use Rattle.office_core.proofs.Common.{decide, first_that_holds, gate, is_some, lowest_withheld, option_map, refusal}
use Rattle.office_core.proofs.Common.{result_of, state_after, step, unless, when}

-- no check holds
abbrev pub Passes : List Check → Type 0
Passes [] = Unit {0}
Passes (c ∷ cs) = (c ≡ None) × Passes cs

pub passes : (cs : List Check) → first_that_holds cs ≡ None → Passes cs
passes [] h = tt
passes (None ∷ cs) h = (refl, passes cs h)
passes (Some why ∷ cs) h = absurd (cc)

pub held_not : (b : Bool) (why : Refusal) → when b why ≡ None → b ≡ false
held_not true why h = absurd (cc)
held_not false why h = refl

pub held_so : (b : Bool) (why : Refusal) → unless b why ≡ None → b ≡ true
held_so true why h = refl
held_so false why h = absurd (cc)

-- the gate lets it pass: nothing that is out is withheld from its reader
pub passes_gate : (s : State) → gate s ≡ None → is_some (lowest_withheld s) ≡ false
passes_gate s h = at (lowest_withheld s) h
  where
    at : (x : Option ℕ) → option_map WithReader x ≡ None → is_some x ≡ false
    at None e = refl
    at (Some c) e = absurd (cc)

-- what holds of the old state, and of the new one where no check holds, holds after the step
pub step_at : (P : State → Reply → Type 0) (s : State) (asked : Command) → ((why : Refusal) → P s (Err why))
    → (Passes (checks s asked) → P (after s asked) (Ok (result_of s asked))) → P (step s asked).0 (step s asked).1
step_at P s asked old new = at (refusal s asked) (λ e. new (passes (checks s asked) e))
  where
    at : (r : Option Refusal) → (r ≡ None → P (after s asked) (Ok (result_of s asked)))
        → P (decide r s (after s asked) (result_of s asked)).0 (decide r s (after s asked) (result_of s asked)).1
    at None h = h refl
    at (Some why) h = old why

pub run_keeps : (P : State → Type 0)
    → ((s : State) (asked : Command) → P s → Passes (checks s asked) → P (after s asked))
    → (s : State) (later : List Command) → P s → P (state_after s later)
run_keeps P keeps s [] p = p
run_keeps P keeps s (asked ∷ later) p =
    run_keeps P keeps (step s asked).0 later (step_at (λ t reply. P t) s asked (λ why. p) (λ ok. keeps s asked p ok))

-- the same, of commands of one kind
pub run_keeps_if : (P : State → Type 0) (Q : Command → Type 0)
    → ((s : State) (asked : Command) → P s → Q asked → Passes (checks s asked) → P (after s asked))
    → (s : State) (later : List Command) → AllByRecursion Q later → P s → P (state_after s later)
run_keeps_if P Q keeps s [] q p = p
run_keeps_if P Q keeps s (asked ∷ later) q p =
    run_keeps_if P Q keeps (step s asked).0 later q.1 (step_at (λ t reply. P t) s asked (λ why. p) (λ ok. keeps s asked p q.0 ok))
