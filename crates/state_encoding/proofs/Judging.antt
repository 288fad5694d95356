-- Tests of which none holds.
use Rattle.std.proofs.Common.{◌≡◌, ℕ, suc, Bool, true, false, not, List, [], ◌∷◌, ◌++◌, Option, Some, None, refl, ap}
use Rattle.state_encoding.proofs.Common.{first_held, is_some, option_map}

pub none_held : (b : Bool) (bs : List Bool) → first_held (b ∷ bs) ≡ None → (b ≡ false) × (first_held bs ≡ None)
none_held true bs h = absurd (cc)
none_held false bs h = (refl, at (first_held bs) h)
  where
    at : (r : Option ℕ) → option_map suc r ≡ None → r ≡ None
    at None e = refl
    at (Some n) e = absurd (cc)

pub hold_none : (b : Bool) (bs : List Bool) → b ≡ false → first_held bs ≡ None → first_held (b ∷ bs) ≡ None
hold_none true bs e h = absurd (cc)
hold_none false bs e h = ap (option_map suc) h

-- of two lists of tests
pub none_before : (xs ys : List Bool) → first_held (xs ++ ys) ≡ None → first_held xs ≡ None
none_before [] ys h = refl
none_before (x ∷ xs) ys h = let r = none_held x (xs ++ ys) h in hold_none x xs r.0 (none_before xs ys r.1)

pub none_behind : (xs ys : List Bool) → first_held (xs ++ ys) ≡ None → first_held ys ≡ None
none_behind [] ys h = h
none_behind (x ∷ xs) ys h = none_behind xs ys (none_held x (xs ++ ys) h).1

pub none_in_both : (xs ys : List Bool) → first_held xs ≡ None → first_held ys ≡ None → first_held (xs ++ ys) ≡ None
none_in_both [] ys h k = k
none_in_both (x ∷ xs) ys h k = let r = none_held x xs h in hold_none x (xs ++ ys) r.0 (none_in_both xs ys r.1 k)

pub nothing_there : {X : Type 0} (x : Option X) → not (is_some x) ≡ true → x ≡ None
nothing_there None h = refl
nothing_there (Some x) h = absurd (cc)
