-- The rows of a forest's places have numbers that they may have: those of its units, and else no more than twice as many as it
-- has units.
use Rattle.std.proofs.Common.{◌≡◌, ℕ, ◌+◌, ◌*◌, ◌≤◌, ◌^◌, true, Option, Some, refl, ◌∙◌, inl, inr, arith}
use Rattle.state_encoding.proofs.Common.{Empty, Forest, In, In-append_left, In-append_right, Node, and_from}
use Rattle.state_encoding.proofs.Common.{is_good_link, is_good_span, is_place_number, is_unit_number, list_all}
use Rattle.state_encoding.proofs.Common.{list_all-append, lt-ltb, nodes, option_map_or, rows_below, size, spans_from}

abbrev AreUnitNumbers : Forest ℕ → Type 0
AreUnitNumbers f = (u : ℕ) → In u (nodes f) → is_unit_number u ≡ true

fits : (n more : ℕ) → n + more ≤ 2 ^ 32 → 1 ≤ more → is_place_number n ≡ true
fits n more few some = lt-ltb n (2 ^ 32) (omega (arith, few, some))

pub links_numbered : (parent : Option ℕ) (k : ℕ) (f : Forest ℕ) → option_map_or is_unit_number parent true ≡ true
    → AreUnitNumbers f → k + size f ≤ 2 ^ 32 → list_all is_good_link (rows_below parent k f) ≡ true
links_numbered parent k Empty p n few = refl
links_numbered parent k (Node u c o) p n few =
    let here = n u (inl refl) in
    let below = links_numbered (Some u) 1 c here (λ v i. n v (inr (In-append_left (nodes c) (nodes o) v i))) (omega (arith, few)) in
    let beside = links_numbered parent (k + 1) o p (λ v i. n v (inr (In-append_right (nodes c) (nodes o) v i))) (omega (arith, few)) in
    and_from (is_good_link (record { id = u; parent = parent; ord = k })) _
    (and_from (is_unit_number u) _ here (and_from (option_map_or is_unit_number parent true) _ p (fits k (size (Node u c o)) few (omega arith))))
    (list_all-append is_good_link (rows_below (Some u) 1 c) (rows_below parent (k + 1) o)
    ∙ and_from (list_all is_good_link (rows_below (Some u) 1 c)) _ below beside)

pub spans_numbered : (k : ℕ) (f : Forest ℕ) → AreUnitNumbers f → k + 2 * size f ≤ 2 ^ 32
    → list_all is_good_span (spans_from k f) ≡ true
spans_numbered k Empty n few = refl
spans_numbered k (Node u c o) n few =
    let here = n u (inl refl) in
    let below = spans_numbered (k + 1) c (λ v i. n v (inr (In-append_left (nodes c) (nodes o) v i))) (omega (arith, few)) in
    let beside = spans_numbered (k + 2 * size c + 2) o (λ v i. n v (inr (In-append_right (nodes c) (nodes o) v i))) (omega (arith, few)) in
    and_from (is_good_span (record { id = u; lft = k; rgt = k + 2 * size c + 1 })) _
    (and_from (is_unit_number u) _ here
    (and_from (is_place_number k) _ (fits k (2 * size (Node u c o)) few (omega arith)) (fits (k + 2 * size c + 1) (1 + 2 * size o) (omega (arith, few)) (omega arith))))
    (list_all-append is_good_span (spans_from (k + 1) c) (spans_from (k + 2 * size c + 2) o)
    ∙ and_from (list_all is_good_span (spans_from (k + 1) c)) _ below beside)
