-- What holds of each of a list.
use Rattle.std.proofs.Common.{◌≡◌, Bool, true, false, not, cond, ◌||◌, List, [], ◌∷◌, ◌++◌, Some, None, refl, subst}
use Rattle.std.specs.Prelude.{filter}
use Rattle.catalogue_core.proofs.Common.{AllByRecursion, BoxKey, distinct, find, is_same_box, list_any}

pub all_and : {X : Type 0} (P Q R : X → Type 0) → ((x : X) → P x → Q x → R x) → (xs : List X) → AllByRecursion P xs
    → AllByRecursion Q xs → AllByRecursion R xs
all_and P Q R f [] p q = tt
all_and P Q R f (x ∷ xs) p q = (f x p.0 q.0, all_and P Q R f xs p.1 q.1)

pub all_true : {X : Type 0} (P : X → Type 0) → ((x : X) → P x) → (xs : List X) → AllByRecursion P xs
all_true P f [] = tt
all_true P f (x ∷ xs) = (f x, all_true P f xs)

pub all_append : {X : Type 0} (P : X → Type 0) (xs ys : List X) → AllByRecursion P xs → AllByRecursion P ys
    → AllByRecursion P (xs ++ ys)
all_append P [] ys h k = k
all_append P (x ∷ xs) ys h k = (h.0, all_append P xs ys h.1 k)

pub all_split : {X : Type 0} (P : X → Type 0) (xs ys : List X) → AllByRecursion P (xs ++ ys)
    → AllByRecursion P xs × AllByRecursion P ys
all_split P [] ys h = (tt, h)
all_split P (x ∷ xs) ys h = let r = all_split P xs ys h.1 in ((h.0, r.0), r.1)

pub all_filtered : {X : Type 0} (P : X → Type 0) (p : X → Bool) (xs : List X) → AllByRecursion P xs
    → AllByRecursion P (filter p xs)
all_filtered P p [] h = tt
all_filtered P p (x ∷ xs) h = at (p x) (all_filtered P p xs h.1)
  where
    at : (b : Bool) → AllByRecursion P (filter p xs) → AllByRecursion P (cond b (x ∷ filter p xs) (filter p xs))
    at true k = (h.0, k)
    at false k = k

pub all_distinct : (P : BoxKey → Type 0) (xs : List BoxKey) → AllByRecursion P xs → AllByRecursion P (distinct xs)
all_distinct P [] h = tt
all_distinct P (x ∷ xs) h =
    (h.0, all_filtered P (λ later. not (is_same_box x later)) (distinct xs) (all_distinct P xs h.1))

-- what is found is one of them
pub all_of_found : {X : Type 0} (P : X → Type 0) (is : X → Bool) (xs : List X) (x : X) → find is xs ≡ Some x
    → AllByRecursion P xs → P x
all_of_found P is [] x e h = absurd (cc)
all_of_found P is (y ∷ ys) x e h = at (is y) e (all_of_found P is ys x)
  where
    at : (b : Bool) → cond b (Some y) (find is ys) ≡ Some x → (find is ys ≡ Some x → AllByRecursion P ys → P x) → P x
    at true k g = subst P (let s : y ≡ x = cc in s) h.0
    at false k g = g k h.1

-- where none is found, none passes
pub none_found : {X : Type 0} (p : X → Bool) (xs : List X) → find p xs ≡ None → list_any p xs ≡ false
none_found p [] e = refl
none_found p (x ∷ xs) e = at (p x) e (none_found p xs)
  where
    at : (b : Bool) → cond b (Some x) (find p xs) ≡ None → (find p xs ≡ None → list_any p xs ≡ false)
        → (b || list_any p xs) ≡ false
    at true h k = absurd (cc)
    at false h k = k h

pub some_found : {X : Type 0} (p : X → Bool) (xs : List X) (x : X) → find p xs ≡ Some x → list_any p xs ≡ true
some_found p [] x e = absurd (cc)
some_found p (y ∷ ys) x e = at (p y) e (some_found p ys x)
  where
    at : (b : Bool) → cond b (Some y) (find p ys) ≡ Some x → (find p ys ≡ Some x → list_any p ys ≡ true)
        → (b || list_any p ys) ≡ true
    at true h k = refl
    at false h k = k h
