-- Containers that stand once: which of them are known, and what others behind them add.
use Rattle.std.proofs.Common.{◌≡◌, ℕ, suc, Bool, true, false, not, cond, ◌||◌, List, [], ◌∷◌, ◌++◌, Option, Some, None}
use Rattle.std.proofs.Common.{refl, sym, ap, ◌∙◌, subst, inl, inr}
use Rattle.std.specs.Prelude.{filter}
use Rattle.isad_core.proofs.BoxLemmas.{same_sym}
use Rattle.catalogue_core.proofs.Common.{BoxKey, cases_Bool, distinct, is_same_box, is_some, list_any, number_among}
use Rattle.catalogue_core.proofs.Common.{option_map}
use Rattle.catalogue_core.proofs.Imported.{distinct_append, distinct_again, same_box}

-- another container is found as well where those like x are left out
any_kept : (x b : BoxKey) → is_same_box x b ≡ false → (ys : List BoxKey)
    → list_any (λ y. is_same_box y b) (filter (λ later. not (is_same_box x later)) ys) ≡ list_any (λ y. is_same_box y b) ys
any_kept x b other [] = refl
any_kept x b other (y ∷ ys) = at (is_same_box x y) refl (any_kept x b other ys)
  where
    at : (c : Bool) → is_same_box x y ≡ c
        → list_any (λ y. is_same_box y b) (filter (λ later. not (is_same_box x later)) ys) ≡ list_any (λ y. is_same_box y b) ys
        → list_any (λ y. is_same_box y b) (cond (not c) (y ∷ filter (λ later. not (is_same_box x later)) ys) (filter (λ later. not (is_same_box x later)) ys)) ≡ (is_same_box y b || list_any (λ y. is_same_box y b) ys)
    at true e k = k ∙ sym (ap (λ c. c || list_any (λ y. is_same_box y b) ys) (subst (λ z. is_same_box z b ≡ false) (same_box x y e) other))
    at false e k = ap (λ c. is_same_box y b || c) k

any_distinct : (b : BoxKey) (xs : List BoxKey)
    → list_any (λ x. is_same_box x b) (distinct xs) ≡ list_any (λ x. is_same_box x b) xs
any_distinct b [] = refl
any_distinct b (x ∷ xs) = at (is_same_box x b) refl (any_distinct b xs)
  where
    at : (c : Bool) → is_same_box x b ≡ c → list_any (λ x. is_same_box x b) (distinct xs) ≡ list_any (λ x. is_same_box x b) xs
        → (c || list_any (λ y. is_same_box y b) (filter (λ later. not (is_same_box x later)) (distinct xs))) ≡ (c || list_any (λ x. is_same_box x b) xs)
    at true e k = refl
    at false e k = any_kept x b e (distinct xs) ∙ k

-- a container that is known is known where each stands once
pub known_distinct : (xs : List BoxKey) (b : BoxKey) → list_any (is_same_box b) (distinct xs) ≡ list_any (is_same_box b) xs
known_distinct xs b = turned (distinct xs) ∙ (any_distinct b xs ∙ sym (turned xs))
  where
    turned : (ys : List BoxKey) → list_any (is_same_box b) ys ≡ list_any (λ y. is_same_box y b) ys
    turned ys = ap (λ test. list_any test ys) (λ i y. same_sym b y i)

-- it is known where it has a number
pub found_any : (cs : List BoxKey) (b : BoxKey) → is_some (number_among cs b) ≡ list_any (is_same_box b) cs
found_any [] b = refl
found_any (c ∷ cs) b =
    elim (cases_Bool (is_same_box c b)) [
      | inl same ↦ let other : is_same_box b c ≡ true = sym (same_sym c b) ∙ same in rw (same, other) refl
      | inr differs ↦ let other : is_same_box b c ≡ false = sym (same_sym c b) ∙ differs in rw (differs, other) (later (number_among cs b) ∙ found_any cs b)
    ]
  where
    later : (o : Option ℕ) → is_some (option_map suc o) ≡ is_some o
    later None = refl
    later (Some n) = refl

pub distinct_front : (xs ys : List BoxKey) → distinct (distinct xs ++ ys) ≡ distinct (xs ++ ys)
distinct_front xs ys =
    distinct_append (distinct xs) ys
    ∙ (ap (λ l. l ++ filter (λ b. not (list_any (λ x. is_same_box x b) (distinct xs))) (distinct ys)) (distinct_again xs)
    ∙ (ap (λ test. distinct xs ++ filter test (distinct ys)) (λ i b. not (any_distinct b xs i))
    ∙ sym (distinct_append xs ys)))
