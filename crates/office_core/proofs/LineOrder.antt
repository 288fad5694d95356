-- Lines that are put in the order of their containers are the same lines, and each container stands once where it did before.
use Rattle.std.proofs.Common.{◌≡◌, ◌≢◌, suc, ◌<◌, Bool, true, false, cond, List, [], ◌∷◌, length, refl, ap, ◌∙◌, arith}
use Rattle.std.proofs.Common.{nat_lt}
use Rattle.std.specs.Prelude.{◌||◌}
use Rattle.desk_core.specs.Orders.{in_order, put_in_order}
use Rattle.office_core.proofs.Common.{AllByRecursion, ByContainer, Line, is_line_before, list_any, ltb-false, ltb-true}

-- no two lines have one container
abbrev pub AreApart : List Line → Type 0
AreApart [] = Unit {0}
AreApart (line ∷ lines) = AllByRecursion (λ other. line.container ≢ other.container) lines × AreApart lines

module _ {X : Type 0} (before : X → X → Bool) where
  all-put : (P : X → Type 0) (x : X) (ys : List X) → P x → AllByRecursion P ys
      → AllByRecursion P (put_in_order before x ys)
  all-put P x [] p h = (p, tt)
  all-put P x (y ∷ ys) p h = at (before y x) (all-put P x ys p h.1)
    where
      at : (b : Bool) → AllByRecursion P (put_in_order before x ys)
          → AllByRecursion P (cond b (y ∷ put_in_order before x ys) (x ∷ y ∷ ys))
      at true k = (h.0, k)
      at false k = (p, h)

  -- what holds of each of them holds of each in order
  pub all-in_order : (P : X → Type 0) (xs : List X) → AllByRecursion P xs → AllByRecursion P (in_order before xs)
  all-in_order P [] h = tt
  all-in_order P (x ∷ xs) h = all-put P x (in_order before xs) h.0 (all-in_order P xs h.1)

  length-put : (x : X) (ys : List X) → length (put_in_order before x ys) ≡ suc (length ys)
  length-put x [] = refl
  length-put x (y ∷ ys) = at (before y x) (length-put x ys)
    where
      at : (b : Bool) → length (put_in_order before x ys) ≡ suc (length ys)
          → length (cond b (y ∷ put_in_order before x ys) (x ∷ y ∷ ys)) ≡ suc (suc (length ys))
      at true e = ap suc e
      at false e = refl

  -- they are as many
  pub length-in_order : (xs : List X) → length (in_order before xs) ≡ length xs
  length-in_order [] = refl
  length-in_order (x ∷ xs) = length-put x (in_order before xs) ∙ ap suc (length-in_order xs)

  swap : (a b c : Bool) → (a || (b || c)) ≡ (b || (a || c))
  swap true true c = refl
  swap true false c = refl
  swap false true c = refl
  swap false false c = refl

  any-put : (test : X → Bool) (x : X) (ys : List X)
      → list_any test (put_in_order before x ys) ≡ (test x || list_any test ys)
  any-put test x [] = refl
  any-put test x (y ∷ ys) = at (before y x) (any-put test x ys)
    where
      at : (b : Bool) → list_any test (put_in_order before x ys) ≡ (test x || list_any test ys)
          → list_any test (cond b (y ∷ put_in_order before x ys) (x ∷ y ∷ ys)) ≡ (test x || (test y || list_any test ys))
      at true e = ap (λ rest. test y || rest) e ∙ swap (test y) (test x) (list_any test ys)
      at false e = refl

  -- one of them passes exactly where one of those in order does
  pub any-in_order : (test : X → Bool) (xs : List X) → list_any test (in_order before xs) ≡ list_any test xs
  any-in_order test [] = refl
  any-in_order test (x ∷ xs) = any-put test x (in_order before xs) ∙ ap (λ rest. test x || rest) (any-in_order test xs)

below : (l : Line) (m : Line) (rest : List Line) → l.container < m.container
    → AllByRecursion (λ other. m.container < other.container) rest
    → AllByRecursion (λ other. l.container < other.container) rest
below l m [] less h = tt
below l m (r ∷ rest) less h = (let up = h.0 in omega (arith, less, up), below l m rest less h.1)

by_container-put : (l : Line) (ms : List Line) → AllByRecursion (λ other. l.container ≢ other.container) ms
    → ByContainer ms → ByContainer (put_in_order is_line_before l ms)
by_container-put l [] apart h = (tt, tt)
by_container-put l (m ∷ ms) apart h = at (nat_lt m.container l.container) refl (by_container-put l ms apart.1 h.1)
  where
    at : (b : Bool) → nat_lt m.container l.container ≡ b → ByContainer (put_in_order is_line_before l ms)
        → ByContainer (cond b (m ∷ put_in_order is_line_before l ms) (l ∷ m ∷ ms))
    at true e k = (all-put is_line_before (λ other. m.container < other.container) l ms (ltb-true m.container l.container e) h.0, k)
    at false e k =
        let up = ltb-false m.container l.container e in
        let differ = apart.0 in
        let less : l.container < m.container = omega (arith, up, differ) in
        ((less, below l m ms less h.0), h)

pub by_container-in_order : (lines : List Line) → AreApart lines → ByContainer (in_order is_line_before lines)
by_container-in_order [] h = tt
by_container-in_order (l ∷ lines) h =
    by_container-put l (in_order is_line_before lines) (all-in_order is_line_before (λ other. l.container ≢ other.container) lines h.0) (by_container-in_order lines h.1)
