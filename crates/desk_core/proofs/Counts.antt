-- How many of a list pass a test.
use Rattle.std.proofs.Common.{◌≡◌, ◌+◌, Bool, true, false, not, ◌&&◌, ◌||◌, cond, List, [], ◌∷◌, refl, sym, ap, ◌∙◌}
use Rattle.std.proofs.Common.{inl, inr, arith, map, filter, nat_lt, zero-add}
use Rattle.std.proofs.lemmas.Bool.{lt-ltb}
use Rattle.desk_core.proofs.Common.{In, count_by, list_any, or_parts, sum_by-cons}

pub count_cons : {X : Type 0} (p : X → Bool) (x : X) (xs : List X)
    → count_by p (x ∷ xs) ≡ cond (p x) 1 0 + count_by p xs
count_cons p x xs = sum_by-cons (λ y. cond (p y) 1 0) x xs

pub count_agree : {X : Type 0} (p q : X → Bool) (xs : List X) → ((x : X) → In x xs → p x ≡ q x)
    → count_by p xs ≡ count_by q xs
count_agree p q [] h = refl
count_agree p q (x ∷ xs) h =
    count_cons p x xs ∙ ap (λ b. cond b 1 0 + count_by p xs) (h x (inl refl)) ∙ ap (λ n. cond (q x) 1 0 + n) (count_agree p q xs (λ y i. h y (inr i))) ∙ sym (count_cons q x xs)

pub count_map : {X Y : Type 0} (p : Y → Bool) (f : X → Y) (xs : List X)
    → count_by p (map f xs) ≡ count_by (λ x. p (f x)) xs
count_map p f [] = refl
count_map p f (x ∷ xs) =
    count_cons p (f x) (map f xs) ∙ ap (λ n. cond (p (f x)) 1 0 + n) (count_map p f xs) ∙ sym (count_cons (λ x. p (f x)) x xs)

pub count_filter : {X : Type 0} (p w : X → Bool) (xs : List X)
    → count_by p (filter w xs) ≡ count_by (λ x. w x && p x) xs
count_filter p w [] = refl
count_filter p w (x ∷ xs) =
    (elim (w x) as (λ b. count_by p (cond b (x ∷ filter w xs) (filter w xs)) ≡ cond (b && p x) 1 0 + count_by (λ x. w x && p x) xs) [
      | true ↦ count_cons p x (filter w xs) ∙ ap (λ n. cond (p x) 1 0 + n) (count_filter p w xs)
      | false ↦ count_filter p w xs ∙ sym (zero-add (count_by (λ x. w x && p x) xs))
    ])
    ∙ sym (count_cons (λ x. w x && p x) x xs)

-- something passes where one or more do
pub any_count : {X : Type 0} (p : X → Bool) (xs : List X) → list_any p xs ≡ nat_lt 0 (count_by p xs)
any_count p [] = refl
any_count p (x ∷ xs) =
    (elim (p x) as (λ b. (b || list_any p xs) ≡ nat_lt 0 (cond b 1 0 + count_by p xs)) [
      | true ↦ sym (lt-ltb 0 (1 + count_by p xs) (omega arith))
      | false ↦ any_count p xs ∙ ap (nat_lt 0) (sym (zero-add (count_by p xs)))
    ])
    ∙ ap (nat_lt 0) (sym (count_cons p x xs))

pub count_none : {X : Type 0} (p : X → Bool) (xs : List X) → list_any p xs ≡ false → count_by p xs ≡ 0
count_none p [] h = refl
count_none p (x ∷ xs) h =
    let parts = or_parts (p x) (list_any p xs) h in
    count_cons p x xs ∙ ap (λ b. cond b 1 0 + count_by p xs) parts.0 ∙ zero-add (count_by p xs) ∙ count_none p xs parts.1

-- those that pass another test too, and those that do not
pub count_split : {X : Type 0} (e p : X → Bool) (xs : List X)
    → count_by p xs ≡ count_by (λ x. not (e x) && p x) xs + count_by (λ x. e x && p x) xs
count_split e p [] = refl
count_split e p (x ∷ xs) =
    let rest = count_split e p xs in
    let whole = count_cons p x xs in
    let without = count_cons (λ x. not (e x) && p x) x xs in
    let within = count_cons (λ x. e x && p x) x xs in
    let here = parts (e x) (p x) in
    omega (arith, rest, whole, without, within, here)
  where
    parts : (a b : Bool) → cond b 1 0 ≡ cond (not a && b) 1 0 + cond (a && b) 1 0
    parts true true = refl
    parts true false = refl
    parts false true = refl
    parts false false = refl
