-- One more tree is printed.
use Rattle.std.proofs.Common.{◌≡◌, ℕ, zero, suc, ◌+◌, ◌-◌, ◌<◌, ◌≤◌, List, [], ◌∷◌, ◌++◌, length, get_or, take, map}
use Rattle.std.proofs.Common.{refl, sym, ap, ◌∙◌, arith, append_assoc}
use Rattle.std.proofs.Math.Seq.{take-append_seam}
use Rattle.std.proofs.lemmas.Grind.{flat_map-append}
use Rattle.isad_core.specs.Values.{identifier}
use Rattle.isad_core.specs.declared.display.Shown.{Shown}
use Rattle.finding_aids.proofs.Common.{BoxKey, Bytes, Empty, Forest, Node, PublicUnit, Repository, Tree, aid}
use Rattle.finding_aids.proofs.Common.{append-nil, grove, height_of_all, identifier_of, join, map-append, most_deep}
use Rattle.finding_aids.proofs.Common.{out-Tree, shown_by, shown_told, shown_unit_by, side_by_side, take_more}
use Rattle.finding_aids.proofs.Common.{tree_height, tree_of, unit_lines}
use Rattle.finding_aids.proofs.PlantLemmas.{height-parts, length-push, side_by_side-push, tree_of-parts}

-- ---- no child is too deep

highest-le : (trees : List Tree) (i : ℕ) (t : Tree) → i < length trees → t ≡ get_or trees i t
    → tree_height t ≤ height_of_all trees
highest-le [] i t within is = absurd (omega arith)
highest-le (u ∷ trees) zero t within is = omega (arith, ap tree_height is)
highest-le (u ∷ trees) (suc i) t within is = omega (arith, highest-le trees i t (omega arith) is)

pub child_fits : (depth : ℕ) (trees : List Tree) (i : ℕ) (t : Tree) → i < length trees → t ≡ get_or trees i t
    → depth + height_of_all trees ≤ most_deep
    → depth + 1 + height_of_all (out-Tree t).children.items ≤ most_deep
child_fits depth trees i t within is fits = omega (arith, highest-le trees i t within is, height-parts t)

-- ---- forests side by side

shown_by-join : (at : Repository) (number : BoxKey → ℕ) (ids : List Bytes) (depth : ℕ) (f g : Forest PublicUnit)
    → shown_by at number ids depth (join f g) ≡ shown_by at number ids depth f ++ shown_by at number ids depth g
shown_by-join at number ids depth Empty g = refl
shown_by-join at number ids depth (Node unit children others) g =
    let here = shown_unit_by at number (ids ++ identifier_of unit ∷ []) depth unit in
    let below = shown_by at number (ids ++ identifier_of unit ∷ []) (depth + 1) children in
    ap (λ (more : List Shown). here ∷ (below ++ more)) (shown_by-join at number ids depth others g)
    ∙ ap (λ (more : List Shown). here ∷ more) (sym (append_assoc below (shown_by at number ids depth others) (shown_by at number ids depth g)))

-- what is printed of one tree: its unit, and then its children
pub printed_tree : (at : Repository) (number : BoxKey → ℕ) (ids : List Bytes) (depth : ℕ) (t : Tree)
    → aid (shown_by at number ids depth (tree_of t))
    ≡ unit_lines (shown_told at number (ids ++ identifier (out-Tree t).row.now.values ∷ []) depth (out-Tree t).row.now.values)
    ++ aid (shown_by at number (ids ++ identifier (out-Tree t).row.now.values ∷ []) (depth + 1) (grove (out-Tree t).children.items))
printed_tree at number ids depth t =
    let inner = shown_by at number (ids ++ identifier (out-Tree t).row.now.values ∷ []) (depth + 1) (grove (out-Tree t).children.items) in
    ap (λ (f : Forest PublicUnit). aid (shown_by at number ids depth f)) (tree_of-parts t)
    ∙ ap (λ (more : List Shown). unit_lines (shown_told at number (ids ++ identifier (out-Tree t).row.now.values ∷ []) depth (out-Tree t).row.now.values) ++ aid more) (append-nil inner)

-- one more tree of several
pub printed_more : (at : Repository) (number : BoxKey → ℕ) (ids : List Bytes) (depth : ℕ) (trees : List Tree) (i : ℕ) (t : Tree)
    → i < length trees → t ≡ get_or trees i t
    → aid (shown_by at number ids depth (grove (take (i + 1) trees)))
    ≡ aid (shown_by at number ids depth (grove (take i trees))) ++ aid (shown_by at number ids depth (tree_of t))
printed_more at number ids depth trees i t within is =
    let before = shown_by at number ids depth (grove (take i trees)) in
    ap (λ (ts : List Tree). aid (shown_by at number ids depth (grove ts))) (take_more trees i t within ∙ ap (λ (u : Tree). take i trees ++ u ∷ []) (sym is))
    ∙ (ap (λ (fs : List (Forest PublicUnit)). aid (shown_by at number ids depth (side_by_side fs))) (map-append tree_of (take i trees) (t ∷ []))
    ∙ (ap (λ (f : Forest PublicUnit). aid (shown_by at number ids depth f)) (side_by_side-push (map tree_of (take i trees)) (tree_of t))
    ∙ (ap aid (shown_by-join at number ids depth (grove (take i trees)) (tree_of t))
    ∙ flat_map-append unit_lines before (shown_by at number ids depth (tree_of t)))))

-- the children of a tree stand less high than the trees beside it
pub child_lower : (trees : List Tree) (i : ℕ) (t : Tree) → i < length trees → t ≡ get_or trees i t
    → height_of_all (out-Tree t).children.items < height_of_all trees
child_lower trees i t within is = omega (arith, highest-le trees i t within is, height-parts t)

-- one more tree is printed: its unit below the units above it, and then its children
pub tree_printed : (at : Repository) (number : BoxKey → ℕ) (start before middle after : Bytes) (above ids more given : List Bytes) (id : Bytes) (depth : ℕ)
    (trees : List Tree) (i : ℕ) (t : Tree) (children : List Tree) → i < length trees → t ≡ get_or trees i t → children ≡ (out-Tree t).children.items
    → ids ≡ above → id ≡ identifier (out-Tree t).row.now.values → more ≡ ids ++ id ∷ [] → given ≡ more
    → before ≡ start ++ aid (shown_by at number above depth (grove (take i trees)))
    → middle ≡ before ++ unit_lines (shown_told at number given depth (out-Tree t).row.now.values)
    → after ≡ middle ++ aid (shown_by at number more (depth + 1) (grove children))
    → after ≡ start ++ aid (shown_by at number above depth (grove (take (i + 1) trees)))
tree_printed at number start before middle after above ids more given id depth trees i t children within is of_tree same name pushed lent so_far unit below =
    let values = (out-Tree t).row.now.values in
    let path : more ≡ above ++ identifier values ∷ [] =
    pushed ∙ (ap (λ (xs : List Bytes). xs ++ id ∷ []) same ∙ ap (λ (x : Bytes). above ++ x ∷ []) name) in
    let done = aid (shown_by at number above depth (grove (take i trees))) in
    let lines = unit_lines (shown_told at number (above ++ identifier values ∷ []) depth values) in
    let inner = aid (shown_by at number (above ++ identifier values ∷ []) (depth + 1) (grove (out-Tree t).children.items)) in
    below
    ∙ (ap (λ (xs : List Bytes). middle ++ aid (shown_by at number xs (depth + 1) (grove children))) path
    ∙ (ap (λ (ts : List Tree). middle ++ aid (shown_by at number (above ++ identifier values ∷ []) (depth + 1) (grove ts))) of_tree
    ∙ (ap (λ (m : Bytes). m ++ inner) (unit ∙ (ap (λ (xs : List Bytes). before ++ unit_lines (shown_told at number xs depth values)) (lent ∙ path) ∙ ap (λ (b : Bytes). b ++ lines) so_far))
    ∙ (append_assoc (start ++ done) lines inner
    ∙ (ap (λ (m : Bytes). (start ++ done) ++ m) (sym (printed_tree at number above depth t))
    ∙ (append_assoc start done (aid (shown_by at number above depth (tree_of t)))
    ∙ ap (λ (m : Bytes). start ++ m) (sym (printed_more at number above depth trees i t within is))))))))

-- the identifiers are as they were before
pub popped : (ids more left : List Bytes) (id : Bytes) (n : ℕ) → more ≡ ids ++ id ∷ [] → n ≡ length more
    → left ≡ take (n - 1) more → left ≡ ids
popped ids more left id n pushed count rest =
    let one : n - 1 ≡ length ids = omega (arith, count, ap length pushed, length-push ids id) in
    rest ∙ (ap (λ (k : ℕ). take k more) one ∙ (ap (take (length ids)) pushed ∙ take-append_seam ids (id ∷ [])))
