-- Lists, one item further.
use Rattle.std.proofs.Common.{◌≡◌, ℕ, suc, ◌+◌, ◌<◌, Bool, true, false, cond, List, [], ◌∷◌, ◌++◌, length, take, drop}
use Rattle.std.proofs.Common.{get_or, Option, None, sym, ap, ap₂, ◌∙◌, append-nil, arith, drop-cons}
use Rattle.std.proofs.lemmas.List.Elements.{filter-append, filter_map-append}
use Rattle.std.specs.Prelude.{filter, map}
use Rattle.public_queries.proofs.Common.{cons_option, filter_map, map-append, take_more}

pub each_more : {X Y : Type 0} (f : X → Y) (xs : List X) (i : ℕ) (x : X) → x ≡ get_or xs i x → i < length xs
    → map f (take (i + 1) xs) ≡ map f (take i xs) ++ f x ∷ []
each_more f xs i x is within =
    let here = rw (← is) at (take_more xs i x within) in ap (map f) here ∙ map-append f (take i xs) (x ∷ [])

pub mapped_more : {X Y : Type 0} (f : X → Option Y) (xs : List X) (i : ℕ) (x : X) (o : Option Y) → x ≡ get_or xs i x
    → i < length xs → f x ≡ o → filter_map f (take (i + 1) xs) ≡ filter_map f (take i xs) ++ cons_option o []
mapped_more f xs i x o is within e =
    let here = rw (← is) at (take_more xs i x within) in
    ap (filter_map f) here ∙ filter_map-append f (take i xs) (x ∷ []) ∙ ap (λ o. filter_map f (take i xs) ++ cons_option o []) e

pub none_more : {X Y : Type 0} (f : X → Option Y) (xs : List X) (i : ℕ) (x : X) → x ≡ get_or xs i x → i < length xs
    → f x ≡ None → filter_map f (take (i + 1) xs) ≡ filter_map f (take i xs)
none_more f xs i x is within e = mapped_more f xs i x None is within e ∙ append-nil (filter_map f (take i xs))

pub mapped_at : {X Y : Type 0} (f : X → Option Y) (xs : List X) (i : ℕ) (d : X) (o : Option Y) → i < length xs
    → f (get_or xs i d) ≡ o → filter_map f (take (i + 1) xs) ≡ filter_map f (take i xs) ++ cons_option o []
mapped_at f xs i d o within e =
    ap (filter_map f) (take_more xs i d within) ∙ filter_map-append f (take i xs) (get_or xs i d ∷ [])
    ∙ ap (λ o. filter_map f (take i xs) ++ cons_option o []) e

-- a list from an index on
pub left_at : {X : Type 0} (xs : List X) (i : ℕ) (x : X) → x ≡ get_or xs i x → i < length xs
    → drop i xs ≡ x ∷ drop (i + 1) xs
left_at xs i x is within = drop-cons xs i x within ∙ ap₂ ◌∷◌ (sym is) (ap (λ n. drop n xs) (let e : suc i ≡ i + 1 = omega arith in e))

-- those that are kept: one more, or not
pub kept_more : {X : Type 0} (p : X → Bool) (xs : List X) (i : ℕ) (x : X) → x ≡ get_or xs i x → i < length xs
    → p x ≡ true → filter p (take (i + 1) xs) ≡ filter p (take i xs) ++ x ∷ []
kept_more p xs i x is within e =
    let here = rw (← is) at (take_more xs i x within) in
    ap (filter p) here ∙ filter-append p (take i xs) (x ∷ []) ∙ ap (λ b. filter p (take i xs) ++ cond b (x ∷ []) []) e

pub left_out : {X : Type 0} (p : X → Bool) (xs : List X) (i : ℕ) (x : X) → x ≡ get_or xs i x → i < length xs
    → p x ≡ false → filter p (take (i + 1) xs) ≡ filter p (take i xs)
left_out p xs i x is within e =
    let here = rw (← is) at (take_more xs i x within) in
    ap (filter p) here ∙ filter-append p (take i xs) (x ∷ []) ∙ ap (λ b. filter p (take i xs) ++ cond b (x ∷ []) []) e
    ∙ append-nil (filter p (take i xs))
