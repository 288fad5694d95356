-- A forest is what its link rows say.
use Rattle.std.proofs.Common.{◌≡◌, ℕ, zero, suc, ◌+◌, ◌<◌, List, length, Option, Some, None, refl, ap, ◌∙◌, arith}
use Rattle.std.proofs.Common.{length-append}
use Rattle.tree_core.specs.Steps.{Fits}
use Rattle.state_encoding.proofs.Common.{Empty, Forest, HoldsLinks, Link, LinkRows, Node, fits_all, forest_of_links}
use Rattle.state_encoding.proofs.Common.{grow, length_permutation, places_said, rows_below, siblings, size}

linked_fits : (fuel : ℕ) (links : List Link) (p : Option ℕ) (k : ℕ) (f : Forest ℕ) → Fits links p k f → size f < fuel
    → forest_of_links fuel links p k ≡ f
linked_fits zero links p k f h l = absurd (omega (arith, l))
linked_fits (suc fuel) links p k Empty h l =
    ap (λ r. grow r (λ u. forest_of_links fuel links (Some u) 1) (forest_of_links fuel links p (k + 1))) h
linked_fits (suc fuel) links p k (Node u c o) h l =
    ap (λ r. grow r (λ u. forest_of_links fuel links (Some u) 1) (forest_of_links fuel links p (k + 1))) h.0
    ∙ (ap (λ below. Node u below (forest_of_links fuel links p (k + 1))) (linked_fits fuel links (Some u) 1 c h.1 (omega (arith, l)))
    ∙ ap (λ beside. Node u c beside) (linked_fits fuel links p (k + 1) o h.2 (omega (arith, l))))

length-rows : (p : Option ℕ) (k : ℕ) (f : Forest ℕ) → length (rows_below p k f) ≡ size f
length-rows p k Empty = refl
length-rows p k (Node u c o) =
    let a = length-rows (Some u) 1 c in
    let b = length-rows p (k + 1) o in
    let e = length-append (rows_below (Some u) 1 c) (rows_below p (k + 1) o) in
    omega (arith, a, b, e)

pub links_say : (f : Forest ℕ) (links : List Link) → HoldsLinks f links → places_said (LinkRows links) ≡ f
links_say f links h =
    let a = length_permutation (siblings f) links h.rows in
    let b = length-rows None 1 f in
    linked_fits (suc (length links)) links None 1 f (fits_all f links h) (omega (arith, a, b))
