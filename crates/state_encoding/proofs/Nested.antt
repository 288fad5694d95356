-- A forest is what its span rows say.
use Rattle.std.proofs.Common.{◌≡◌, ℕ, zero, suc, ◌+◌, ◌*◌, ◌<◌, ◌≤◌, Bool, true, false, not, cond, List, [], ◌∷◌, ◌++◌}
use Rattle.std.proofs.Common.{length, refl, ap, ◌∙◌, arith}
use Rattle.std.specs.Prelude.{nat_lt}
use Rattle.catalogue_core.proofs.DistinctLists.{all_so}
use Rattle.state_encoding.proofs.Common.{AllByRecursion, Empty, Forest, Node, Span, SpanRows, all_append, append-nil}
use Rattle.state_encoding.proofs.Common.{filter, filter-append, forest_of_spans, le-ltb, lt-ltb, places_said, size}
use Rattle.state_encoding.proofs.Common.{spans_from}

-- the first numbers of a forest that is numbered from k
abbrev Within : ℕ → ℕ → Span → Type 0
Within low high span = (low ≤ span.lft) × (span.lft < high)

all_within : (low high low' high' : ℕ) → low' ≤ low → high ≤ high' → (rows : List Span)
    → AllByRecursion (Within low high) rows → AllByRecursion (Within low' high') rows
all_within low high low' high' a b [] h = tt
all_within low high low' high' a b (row ∷ rows) h =
    let l = h.0.0 in
    let u = h.0.1 in
    ((omega (arith, a, l), omega (arith, b, u)), all_within low high low' high' a b rows h.1)

numbers_within : (k : ℕ) (f : Forest ℕ) → AllByRecursion (Within k (k + 2 * size f)) (spans_from k f)
numbers_within k Empty = tt
numbers_within k (Node u c o) = (
  (omega arith, omega arith),
  all_append (Within k (k + 2 * (1 + (size c + size o)))) (spans_from (k + 1) c) (spans_from (k + 2 * size c + 2) o)
      (all_within (k + 1) (k + 1 + 2 * size c) k (k + 2 * (1 + (size c + size o))) (omega arith) (omega arith) (spans_from (k + 1) c) (numbers_within (k + 1) c))
      (all_within (k + 2 * size c + 2) (k + 2 * size c + 2 + 2 * size o) k (k + 2 * (1 + (size c + size o))) (omega arith) (omega arith) (spans_from (k + 2 * size c + 2) o) (numbers_within (k + 2 * size c + 2) o)),
)

keeps : (p : Span → Bool) (rows : List Span) → AllByRecursion (λ row. p row ≡ true) rows → filter p rows ≡ rows
keeps p [] h = refl
keeps p (row ∷ rows) h =
    ap (λ b. cond b (row ∷ filter p rows) (filter p rows)) h.0 ∙ ap (λ l. row ∷ l) (keeps p rows h.1)

drops : (p : Span → Bool) (rows : List Span) → AllByRecursion (λ row. p row ≡ false) rows → filter p rows ≡ []
drops p [] h = refl
drops p (row ∷ rows) h = ap (λ b. cond b (row ∷ filter p rows) (filter p rows)) h.0 ∙ drops p rows h.1

module _ (k : ℕ) (c o : Forest ℕ) where
  inside : filter (λ (other : Span). nat_lt other.lft (k + 2 * size c + 1)) (spans_from (k + 1) c ++ spans_from (k + 2 * size c + 2) o) ≡ spans_from (k + 1) c
  inside =
      let p : Span → Bool = λ other. nat_lt other.lft (k + 2 * size c + 1) in
      filter-append p (spans_from (k + 1) c) (spans_from (k + 2 * size c + 2) o)
      ∙ (ap (λ l. l ++ filter p (spans_from (k + 2 * size c + 2) o)) (keeps p (spans_from (k + 1) c) (all_so (Within (k + 1) (k + 1 + 2 * size c)) (λ row. p row ≡ true) (λ row h. (let u = h.1 in lt-ltb row.lft (k + 2 * size c + 1) (omega (arith, u)))) (spans_from (k + 1) c) (numbers_within (k + 1) c)))
      ∙ (ap (λ l. spans_from (k + 1) c ++ l) (drops p (spans_from (k + 2 * size c + 2) o) (all_so (Within (k + 2 * size c + 2) (k + 2 * size c + 2 + 2 * size o)) (λ row. p row ≡ false) (λ row h. (let l = h.0 in le-ltb row.lft (k + 2 * size c + 1) (omega (arith, l)))) (spans_from (k + 2 * size c + 2) o) (numbers_within (k + 2 * size c + 2) o)))
      ∙ append-nil (spans_from (k + 1) c)))

  outside : filter (λ (other : Span). not (nat_lt other.lft (k + 2 * size c + 1))) (spans_from (k + 1) c ++ spans_from (k + 2 * size c + 2) o) ≡ spans_from (k + 2 * size c + 2) o
  outside =
      let p : Span → Bool = λ other. not (nat_lt other.lft (k + 2 * size c + 1)) in
      filter-append p (spans_from (k + 1) c) (spans_from (k + 2 * size c + 2) o)
      ∙ (ap (λ l. l ++ filter p (spans_from (k + 2 * size c + 2) o)) (drops p (spans_from (k + 1) c) (all_so (Within (k + 1) (k + 1 + 2 * size c)) (λ row. p row ≡ false) (λ row h. (let u = h.1 in ap not (lt-ltb row.lft (k + 2 * size c + 1) (omega (arith, u))))) (spans_from (k + 1) c) (numbers_within (k + 1) c)))
      ∙ keeps p (spans_from (k + 2 * size c + 2) o) (all_so (Within (k + 2 * size c + 2) (k + 2 * size c + 2 + 2 * size o)) (λ row. p row ≡ true) (λ row h. (let l = h.0 in ap not (le-ltb row.lft (k + 2 * size c + 1) (omega (arith, l))))) (spans_from (k + 2 * size c + 2) o) (numbers_within (k + 2 * size c + 2) o)))

nested_number : (fuel k : ℕ) (f : Forest ℕ) → size f ≤ fuel → forest_of_spans fuel (spans_from k f) ≡ f
nested_number zero k Empty h = refl
nested_number (suc fuel) k Empty h = refl
nested_number zero k (Node u c o) h = absurd (omega (arith, h))
nested_number (suc fuel) k (Node u c o) h =
    ap (λ l. Node u (forest_of_spans fuel l) (forest_of_spans fuel (filter (λ (other : Span). not (nat_lt other.lft (k + 2 * size c + 1))) (spans_from (k + 1) c ++ spans_from (k + 2 * size c + 2) o)))) (inside k c o)
    ∙ (ap (λ l. Node u (forest_of_spans fuel (spans_from (k + 1) c)) (forest_of_spans fuel l)) (outside k c o)
    ∙ (ap (λ below. Node u below (forest_of_spans fuel (spans_from (k + 2 * size c + 2) o))) (nested_number fuel (k + 1) c (omega (arith, h)))
    ∙ ap (λ beside. Node u c beside) (nested_number fuel (k + 2 * size c + 2) o (omega (arith, h)))))

length-number : (k : ℕ) (f : Forest ℕ) → length (spans_from k f) ≡ size f
length-number k Empty = refl
length-number k (Node u c o) =
    let a = length-number (k + 1) c in
    let b = length-number (k + 2 * size c + 2) o in
    let e = Rattle.std.proofs.Common.length-append (spans_from (k + 1) c) (spans_from (k + 2 * size c + 2) o) in
    omega (arith, a, b, e)

pub spans_say : (f : Forest ℕ) → places_said (SpanRows (spans_from 1 f)) ≡ f
spans_say f = let l = length-number 1 f in nested_number (suc (length (spans_from 1 f))) 1 f (omega (arith, l))
