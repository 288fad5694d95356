-- Tests of lists that agree.
use Rattle.std.proofs.Common.{◌≡◌, ℕ, Bool, true, false, not, ◌&&◌, ◌||◌, cond, List, [], ◌∷◌, refl, sym, ap, ◌∙◌, inl}
use Rattle.std.proofs.Common.{inr, filter, nat_le, nat_lt}
use Rattle.std.proofs.lemmas.Bool.{lt-ltb}
use Rattle.desk_core.proofs.Common.{In, cases_lt, false≢true, le-leb, le-ltb, list_all, list_any, lt-leb}

-- ---- of two truths

pub and_same : (a b x y : Bool) → a ≡ b → x ≡ y → (a && x) ≡ (b && y)
and_same a b x y e f = ap (λ v. v && x) e ∙ ap (λ v. b && v) f

-- where the first holds, the second agree
pub and_then : (a b x y : Bool) → a ≡ b → (a ≡ true → x ≡ y) → (a && x) ≡ (b && y)
and_then true b x y e f = ap (λ v. true && v) (f refl) ∙ ap (λ v. v && y) e
and_then false b x y e f = ap (λ v. v && y) e

pub or_same : (a b x y : Bool) → a ≡ b → x ≡ y → (a || x) ≡ (b || y)
or_same a b x y e f = ap (λ v. v || x) e ∙ ap (λ v. b || v) f

pub not_or : (a b : Bool) → not (a || b) ≡ (not a && not b)
not_or true b = refl
not_or false b = refl

-- two that are false together
pub false_together : (a b : Bool) → (a ≡ false → b ≡ false) → (b ≡ false → a ≡ false) → a ≡ b
false_together true true f g = refl
false_together true false f g = g refl
false_together false true f g = sym (f refl)
false_together false false f g = refl

-- ---- of numbers

pub not_over : (m n : ℕ) → not (nat_lt m n) ≡ nat_le n m
not_over m n = elim (cases_lt m n) [
  | inl lt ↦ rw (lt-ltb m n lt, lt-leb n m lt) refl
  | inr le ↦ rw (le-ltb m n le, le-leb n m le) refl
]

-- ---- of lists

pub all_agree : {X : Type 0} (p q : X → Bool) (xs : List X) → ((x : X) → In x xs → p x ≡ q x)
    → list_all p xs ≡ list_all q xs
all_agree p q [] h = refl
all_agree p q (x ∷ xs) h =
    and_same (p x) (q x) (list_all p xs) (list_all q xs) (h x (inl refl)) (all_agree p q xs (λ y i. h y (inr i)))

pub any_agree_in : {X : Type 0} (p q : X → Bool) (xs : List X) → ((x : X) → In x xs → p x ≡ q x)
    → list_any p xs ≡ list_any q xs
any_agree_in p q [] h = refl
any_agree_in p q (x ∷ xs) h =
    or_same (p x) (q x) (list_any p xs) (list_any q xs) (h x (inl refl)) (any_agree_in p q xs (λ y i. h y (inr i)))

pub all_and : {X : Type 0} (p q : X → Bool) (xs : List X)
    → list_all (λ x. p x && q x) xs ≡ (list_all p xs && list_all q xs)
all_and p q [] = refl
all_and p q (x ∷ xs) = ap (λ b. (p x && q x) && b) (all_and p q xs) ∙ mix (p x) (q x) (list_all p xs) (list_all q xs)
  where
    mix : (a b c d : Bool) → ((a && b) && (c && d)) ≡ ((a && c) && (b && d))
    mix true true c d = refl
    mix true false true d = refl
    mix true false false d = refl
    mix false b c d = refl

pub not_any : {X : Type 0} (p : X → Bool) (xs : List X) → not (list_any p xs) ≡ list_all (λ x. not (p x)) xs
not_any p [] = refl
not_any p (x ∷ xs) = not_or (p x) (list_any p xs) ∙ ap (λ b. not (p x) && b) (not_any p xs)

pub all_at : {X : Type 0} (p : X → Bool) (xs : List X) (x : X) → list_all p xs ≡ true → In x xs → p x ≡ true
all_at p [] x h i = absurd i
all_at p (y ∷ ys) x h (inl e) = ap p e ∙ (parts (p y) (list_all p ys) h).0
  where
    parts : (a b : Bool) → (a && b) ≡ true → (a ≡ true) × (b ≡ true)
    parts true b e = (refl, e)
    parts false b e = absurd (false≢true e)
all_at p (y ∷ ys) x h (inr i) = all_at p ys x (rest (p y) (list_all p ys) h) i
  where
    rest : (a b : Bool) → (a && b) ≡ true → b ≡ true
    rest true b e = e
    rest false b e = absurd (false≢true e)

pub all_filter : {X : Type 0} (p w : X → Bool) (xs : List X)
    → list_all p (filter w xs) ≡ list_all (λ x. not (w x) || p x) xs
all_filter p w [] = refl
all_filter p w (x ∷ xs) =
    elim (w x) as (λ b. list_all p (cond b (x ∷ filter w xs) (filter w xs)) ≡ ((not b || p x) && list_all (λ x. not (w x) || p x) xs)) [
      | true ↦ ap (λ b. p x && b) (all_filter p w xs)
      | false ↦ all_filter p w xs
    ]
