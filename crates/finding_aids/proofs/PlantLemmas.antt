-- A forest that grows from the last row up is what the public sees of the rows.
use Rattle.std.proofs.Common.{◌≡◌, ℕ, zero, suc, ◌+◌, ◌-◌, ◌<◌, ◌≤◌, max, Bool, true, false, nat_eq, pos, List, [], ◌∷◌}
use Rattle.std.proofs.Common.{◌++◌, length, get_or, take, drop, reverse, map, Option, Some, None, refl, sym, ap, ◌∙◌}
use Rattle.std.proofs.Common.{subst, arith, add-one, inl, inr}
use Rattle.std.proofs.Math.Dec.{eqb-suc-suc}
use Rattle.std.proofs.lemmas.Option.{get_or_from_slice_get, slice_get-map, slice_get_within}
use Rattle.std.specs.Option.{option_eq, option_map_or}
use Rattle.finding_aids.specs.declared.previews.places.RowPosition.{RowPosition}
use Rattle.finding_aids.specs.declared.previews.trees.Tree.TheFolds.{fold_out-Tree}
use Rattle.finding_aids.proofs.Common.{All, AllPlaced, ArePlaced, Bytes, Empty, Forest, HasGrown, IsBelow, IsPlaced}
use Rattle.finding_aids.proofs.Common.{New, Node, PublicUnit, Row, Slot, Told, Tree, branches, cases_Bool, depth_at}
use Rattle.finding_aids.proofs.Common.{depth_below, drop_all, drop_more, each, eqb-true, forest_of_trees, grove}
use Rattle.finding_aids.proofs.Common.{grown_at, has_legacy, height_of_all, height_step, highest, if◌then◌else◌}
use Rattle.finding_aids.proofs.Common.{index_of, join, length-map, length-reverse, length-take-le, map-append}
use Rattle.finding_aids.proofs.Common.{most_deep, new_unit, numbered_from, option_and_then, option_map, out-Tree}
use Rattle.finding_aids.proofs.Common.{parent_number, public_of, rest_of, reverse-append, seen_below, side_by_side}
use Rattle.finding_aids.proofs.Common.{side_by_side_backwards, slice_get, take_all, tree_height, tree_of, tree_step}
use Rattle.finding_aids.proofs.PlaceLemmas.{as_many, depth_below-named, depth_by, from_last-reverse, index_of_within}
use Rattle.finding_aids.proofs.PlaceLemmas.{reverse-push, rows_to}

-- ---- forests side by side

join-Empty : {A : Type 0} → (f : Forest A) → join f Empty ≡ f
join-Empty Empty = refl
join-Empty (Node a children others) = ap (Node a children) (join-Empty others)

join-join : {A : Type 0} → (f g h : Forest A) → join (join f g) h ≡ join f (join g h)
join-join Empty g h = refl
join-join (Node a children others) g h = ap (Node a children) (join-join others g h)

in_order-push : (fs : List (Forest PublicUnit)) (f : Forest PublicUnit) → side_by_side_backwards (fs ++ f ∷ []) ≡ join f (side_by_side_backwards fs)
in_order-push [] f = sym (join-Empty f)
in_order-push (g ∷ fs) f = ap (λ (h : Forest PublicUnit). join h g) (in_order-push fs f) ∙ join-join f (side_by_side_backwards fs) g

pub side_by_side-push : (fs : List (Forest PublicUnit)) (f : Forest PublicUnit)
    → side_by_side (fs ++ f ∷ []) ≡ join (side_by_side fs) f
side_by_side-push [] f = join-Empty f
side_by_side-push (g ∷ fs) f = ap (join g) (side_by_side-push fs f) ∙ sym (join-join g (side_by_side fs) f)

side_by_side-reverse : (fs : List (Forest PublicUnit)) → side_by_side (reverse fs) ≡ side_by_side_backwards fs
side_by_side-reverse [] = refl
side_by_side-reverse (f ∷ fs) =
    ap side_by_side (reverse-append (f ∷ []) fs)
    ∙ (side_by_side-push (reverse fs) f ∙ ap (λ (g : Forest PublicUnit). join g f) (side_by_side-reverse fs))

map-reverse : {X Y : Type 0} → (f : X → Y) (xs : List X) → map f (reverse xs) ≡ reverse (map f xs)
map-reverse f [] = refl
map-reverse f (x ∷ xs) =
    ap (map f) (reverse-append (x ∷ []) xs)
    ∙ (map-append f (reverse xs) (x ∷ [])
    ∙ (ap (λ ys. ys ++ f x ∷ []) (map-reverse f xs) ∙ sym (reverse-append (f x ∷ []) (map f xs))))

-- trees that have the last one first, the other way round
pub grove-reverse : (trees : List Tree) → grove (reverse trees) ≡ forest_of_trees trees
grove-reverse trees = ap side_by_side (map-reverse tree_of trees) ∙ side_by_side-reverse (map tree_of trees)

pub tree_of-parts : (t : Tree)
    → tree_of t ≡ Node (Told (out-Tree t).id (out-Tree t).row.now.values) (grove (out-Tree t).children.items) Empty
tree_of-parts = fold_out-Tree (Forest PublicUnit) tree_step

-- one more tree comes before the others
pub planted-push : (trees : List Tree) (t : Tree)
    → forest_of_trees (trees ++ t ∷ []) ≡ Node (Told (out-Tree t).id (out-Tree t).row.now.values) (grove (out-Tree t).children.items) (forest_of_trees trees)
planted-push trees t =
    ap side_by_side_backwards (map-append tree_of trees (t ∷ []))
    ∙ (in_order-push (map tree_of trees) (tree_of t)
    ∙ ap (λ (f : Forest PublicUnit). join f (forest_of_trees trees)) (tree_of-parts t))

-- ---- heights

highest-push : (ns : List ℕ) (n : ℕ) → highest (ns ++ n ∷ []) ≡ max (highest ns) n
highest-push [] n = omega arith
highest-push (m ∷ ns) n = omega (arith, highest-push ns n)

highest-reverse : (ns : List ℕ) → highest (reverse ns) ≡ highest ns
highest-reverse [] = refl
highest-reverse (n ∷ ns) =
    omega (arith, ap highest (reverse-append (n ∷ []) ns), highest-push (reverse ns) n, highest-reverse ns)

pub height_of_all-reverse : (trees : List Tree) → height_of_all (reverse trees) ≡ height_of_all trees
height_of_all-reverse trees = ap highest (map-reverse tree_height trees) ∙ highest-reverse (map tree_height trees)

pub height-parts : (t : Tree) → tree_height t ≡ suc (height_of_all (out-Tree t).children.items)
height-parts = fold_out-Tree ℕ height_step

height_of_all-push : (trees : List Tree) (t : Tree)
    → height_of_all (trees ++ t ∷ []) ≡ max (height_of_all trees) (tree_height t)
height_of_all-push trees t = ap highest (map-append tree_height trees (t ∷ [])) ∙ highest-push (map tree_height trees) (tree_height t)

-- ---- numbers of rows

number_of-index : (legacy : Bytes) (above : List Row)
    → parent_number Empty [] (suc (length above)) above legacy ≡ option_map suc (index_of legacy above)
number_of-index legacy [] = refl
number_of-index legacy (row ∷ above) =
    let back : suc (suc (length above)) - 1 ≡ suc (length above) = omega arith in
    elim (cases_Bool (has_legacy legacy row)) [
      | inl same ↦ rw (same, back) refl
      | inr other ↦ rw (other, back) (number_of-index legacy above)
    ]

parent-index : (parent : Option Bytes) (above : List Row)
    → option_and_then (parent_number Empty [] (suc (length above)) above) parent ≡ option_map suc (option_and_then (λ legacy. index_of legacy above) parent)
parent-index None above = refl
parent-index (Some legacy) above = number_of-index legacy above

-- the new row that a row makes
abbrev pub new_of : ℕ → Option ℕ → Row → New
new_of k parent x = record { id = suc k; parent = option_map suc parent; row = x }

pub rest_of-row : (rows : List Row) (k : ℕ) (x : Row) (place : RowPosition) → k < length rows → x ≡ get_or rows k x
    → IsPlaced (reverse (take k rows)) x place
    → rest_of rows k ≡ new_of k place.parent x ∷ rest_of rows (suc k)
rest_of-row rows k x place within is placed =
    let above = reverse (take k rows) in
    let count : length above ≡ k = length-reverse (take k rows) ∙ length-take-le k rows (omega arith) in
    let here : drop k rows ≡ x ∷ drop (k + 1) rows =
    drop_more rows k x within ∙ ap (λ (y : Row). y ∷ drop (k + 1) rows) (sym is) in
    let turned : reverse (take (suc k) rows) ≡ x ∷ above =
    ap (λ (n : ℕ). reverse (take n rows)) (sym (add-one k)) ∙ (ap reverse (rows_to rows k x within is) ∙ reverse-push (take k rows) x) in
    let parent : option_and_then (parent_number Empty [] (suc k) above) x.parent ≡ option_map suc place.parent =
    subst (λ (n : ℕ). option_and_then (parent_number Empty [] (suc n) above) x.parent ≡ option_map suc place.parent) count
    (parent-index x.parent above ∙ ap (option_map suc) (sym placed.parent)) in
    ap (numbered_from Empty [] (suc k) above) here
    ∙ (ap (λ (p : Option ℕ). record { id = suc k; parent = p; row = x } ∷ numbered_from Empty [] (suc k + 1) (x ∷ above) (drop (k + 1) rows)) parent
    ∙ (ap (λ (n : ℕ). new_of k place.parent x ∷ numbered_from Empty [] n (x ∷ above) (drop (k + 1) rows)) (add-one (suc k))
    ∙ (ap (λ (n : ℕ). new_of k place.parent x ∷ numbered_from Empty [] (suc (suc k)) (x ∷ above) (drop n rows)) (add-one k)
    ∙ ap (λ (more : List Row). new_of k place.parent x ∷ numbered_from Empty [] (suc (suc k)) more (drop (suc k) rows)) (sym turned))))

-- ---- what the public sees of one more row

published_below : (b : Bool) (p : Option ℕ) (new : New) (rest : List New) → new.row.published ≡ true
    → public_of (pos 0) (each (new_unit []) (if b then Node new (branches (Some new.id) rest) (branches p rest) else branches p rest))
    ≡ (if b then Node (Told new.id new.row.values) (seen_below (Some new.id) rest) (seen_below p rest) else seen_below p rest)
published_below true p new rest published = rw published refl
published_below false p new rest published = refl

draft_below : (b : Bool) (p : Option ℕ) (new : New) (rest : List New) → new.row.published ≡ false
    → public_of (pos 0) (each (new_unit []) (if b then Node new (branches (Some new.id) rest) (branches p rest) else branches p rest)) ≡ seen_below p rest
draft_below true p new rest draft = rw draft refl
draft_below false p new rest draft = refl

same_place : (a b : Option ℕ) → option_eq nat_eq (option_map suc a) (option_map suc b) ≡ option_eq nat_eq a b
same_place None None = refl
same_place None (Some n) = refl
same_place (Some m) None = refl
same_place (Some m) (Some n) = eqb-suc-suc m n

pub seen_below-published : (k : ℕ) (parent p : Option ℕ) (x : Row) (rest : List New) → x.published ≡ true
    → seen_below (option_map suc p) (new_of k parent x ∷ rest)
    ≡ (if option_eq nat_eq parent p then Node (Told (suc k) x.values) (seen_below (Some (suc k)) rest) (seen_below (option_map suc p) rest) else seen_below (option_map suc p) rest)
seen_below-published k parent p x rest published =
    published_below (option_eq nat_eq (option_map suc parent) (option_map suc p)) (option_map suc p) (new_of k parent x) rest published
    ∙ ap (λ (b : Bool). if b then Node (Told (suc k) x.values) (seen_below (Some (suc k)) rest) (seen_below (option_map suc p) rest) else seen_below (option_map suc p) rest) (same_place parent p)

pub seen_below-draft : (k : ℕ) (parent p : Option ℕ) (x : Row) (rest : List New) → x.published ≡ false
    → seen_below (option_map suc p) (new_of k parent x ∷ rest) ≡ seen_below (option_map suc p) rest
seen_below-draft k parent p x rest draft =
    draft_below (option_eq nat_eq (option_map suc parent) (option_map suc p)) (option_map suc p) (new_of k parent x) rest draft

-- ---- slots

slice_get_front : {X : Type 0} → (xs : List X) (x : X) (j : ℕ) → j < length xs
    → slice_get (xs ++ x ∷ []) j ≡ slice_get xs j
slice_get_front [] x j h = absurd (omega arith)
slice_get_front (y ∷ xs) x zero h = refl
slice_get_front (y ∷ xs) x (suc j) h = slice_get_front xs x j (omega arith)

slice_get_last : {X : Type 0} → (xs : List X) (x : X) → slice_get (xs ++ x ∷ []) (length xs) ≡ Some x
slice_get_last [] x = refl
slice_get_last (y ∷ xs) x = slice_get_last xs x

grown_at-front : (slots : List Slot) (slot : Slot) (tops : List Tree) (p : Option ℕ) → IsBelow (length slots) p
    → grown_at (slots ++ slot ∷ []) tops p ≡ grown_at slots tops p
grown_at-front slots slot tops None h = refl
grown_at-front slots slot tops (Some j) h =
    ap (λ (o : Option Slot). option_map_or (λ (s : Slot). s.children.items) o []) (slice_get_front slots slot j h)

grown_at-last : (slots : List Slot) (slot : Slot) (tops : List Tree)
    → grown_at (slots ++ slot ∷ []) tops (Some (length slots)) ≡ slot.children.items
grown_at-last slots slot tops =
    ap (λ (o : Option Slot). option_map_or (λ (s : Slot). s.children.items) o []) (slice_get_last slots slot)

depth_at-front : (slots : List Slot) (slot : Slot) (p : Option ℕ) → IsBelow (length slots) p
    → depth_at (slots ++ slot ∷ []) p ≡ depth_at slots p
depth_at-front slots slot None h = refl
depth_at-front slots slot (Some j) h =
    ap (λ (o : Option Slot). option_map_or (λ (s : Slot). s.place.depth) o 0) (slice_get_front slots slot j h)

depth_at-last : (slots : List Slot) (slot : Slot)
    → depth_at (slots ++ slot ∷ []) (Some (length slots)) ≡ slot.place.depth
depth_at-last slots slot =
    ap (λ (o : Option Slot). option_map_or (λ (s : Slot). s.place.depth) o 0) (slice_get_last slots slot)

-- the same by the places alone
abbrev depth_in : List RowPosition → Option ℕ → ℕ
depth_in places None = 0
depth_in places (Some j) = option_map_or (λ (place : RowPosition). place.depth) (slice_get places j) 0

depth_at-places : (slots : List Slot) (p : Option ℕ) → depth_at slots p ≡ depth_in (map (λ (s : Slot). s.place) slots) p
depth_at-places slots None = refl
depth_at-places slots (Some j) =
    by_slot (slice_get slots j)
    ∙ ap (λ (o : Option RowPosition). option_map_or (λ (place : RowPosition). place.depth) o 0) (sym (slice_get-map (λ (s : Slot). s.place) slots j))
  where
    by_slot : (o : Option Slot)
        → option_map_or (λ (s : Slot). s.place.depth) o 0 ≡ option_map_or (λ (place : RowPosition). place.depth) (option_map (λ (s : Slot). s.place) o) 0
    by_slot None = refl
    by_slot (Some s) = refl

-- a place is one deeper than its parent's
deeper : (above : List Row) (places : List RowPosition) (x : Row) (place : RowPosition) → IsPlaced above x place
    → AllPlaced above (reverse places)
    → place.depth ≡ suc (depth_in places place.parent)
deeper above places x place h placed = by_parent x.parent h.parent h.depth
  where
    by_place : (j : ℕ) (o : Option RowPosition) → option_map (λ (p : RowPosition). suc p.depth) o ≡ Some place.depth
        → place.depth ≡ suc (option_map_or (λ (p : RowPosition). p.depth) o 0)
    by_place j None e = absurd (cc)
    by_place j (Some p) e = cc

    by_index : (o : Option ℕ) → place.parent ≡ o → depth_by (reverse places) o ≡ Some place.depth
        → place.depth ≡ suc (depth_in places place.parent)
    by_index None p e = absurd (cc)
    by_index (Some j) p e =
        by_place j (slice_get places j) (ap (option_map (λ (q : RowPosition). suc q.depth)) (sym (from_last-reverse places j)) ∙ e)
        ∙ ap (λ (o : Option ℕ). suc (depth_in places o)) (sym p)

    by_parent : (parent : Option Bytes) → place.parent ≡ option_and_then (λ legacy. index_of legacy above) parent
        → depth_below above parent ≡ Some place.depth
        → place.depth ≡ suc (depth_in places place.parent)
    by_parent None p d = let one : place.depth ≡ 1 = cc in one ∙ ap (λ (o : Option ℕ). suc (depth_in places o)) (sym p)
    by_parent (Some legacy) p d =
        by_index (index_of legacy above) p (sym (depth_below-named legacy above (reverse places) placed) ∙ d)

below_more : (n : ℕ) (p : Option ℕ) → IsBelow n p → IsBelow (suc n) p
below_more n None h = tt
below_more n (Some j) h = omega arith

pub length-push : {X : Type 0} → (xs : List X) (x : X) → length (xs ++ x ∷ []) ≡ suc (length xs)
length-push [] x = refl
length-push (y ∷ xs) x = ap suc (length-push xs x)

-- what is known of the last slot and of those before it
pub record Last (rows : List Row) (slots : List Slot) (slot : Slot) (tops : List Tree) (x : Row) : Type 0 where
  pub within : length slots < length rows
  pub placed : IsPlaced (reverse (take (length slots) rows)) x slot.place
  pub others : AllPlaced (reverse (take (length slots) rows)) (reverse (map (λ (s : Slot). s.place) slots))
  pub children : forest_of_trees slot.children.items ≡ seen_below (Some (suc (length slots))) (rest_of rows (suc (length slots)))
  pub grown : (p : Option ℕ) → IsBelow (length slots) p
      → forest_of_trees (grown_at slots tops p) ≡ seen_below (option_map suc p) (rest_of rows (suc (length slots)))
  pub deep : slot.place.depth ≡ suc (depth_at slots slot.place.parent)
  pub low_children : height_of_all slot.children.items + slot.place.depth ≤ most_deep
  pub low : (p : Option ℕ) → IsBelow (length slots) p
      → height_of_all (grown_at slots tops p) + depth_at slots p ≤ most_deep

pub last_slot : (rows : List Row) (slots : List Slot) (slot : Slot) (tops : List Tree) (x : Row)
    → HasGrown rows (slots ++ slot ∷ []) tops → x ≡ get_or rows (length slots) x → Last rows slots slot tops x
last_slot rows slots slot tops x h is =
    let k = length slots in
    let count : length (slots ++ slot ∷ []) ≡ suc k = length-push slots slot in
    let within : k < length rows = omega (arith, h.few) in
    let turned : reverse (take (length (slots ++ slot ∷ [])) rows) ≡ x ∷ reverse (take k rows) =
    ap (λ (n : ℕ). reverse (take n rows)) (count ∙ sym (add-one k)) ∙ (ap reverse (rows_to rows k x within is) ∙ reverse-push (take k rows) x) in
    let places : reverse (map (λ (s : Slot). s.place) (slots ++ slot ∷ [])) ≡ slot.place ∷ reverse (map (λ (s : Slot). s.place) slots) =
    ap reverse (map-append (λ (s : Slot). s.place) slots (slot ∷ [])) ∙ reverse-push (map (λ (s : Slot). s.place) slots) slot.place in
    let parts : AllPlaced (x ∷ reverse (take k rows)) (slot.place ∷ reverse (map (λ (s : Slot). s.place) slots)) =
    subst (λ (r : List Row). AllPlaced r (slot.place ∷ reverse (map (λ (s : Slot). s.place) slots))) turned
    (subst (λ (p : List RowPosition). AllPlaced (reverse (take (length (slots ++ slot ∷ [])) rows)) p) places h.placed) in
    let behind : rest_of rows (length (slots ++ slot ∷ [])) ≡ rest_of rows (suc k) = ap (rest_of rows) count in
    record {
      within = within;
      placed = parts.0;
      others = parts.1;
      children = ap forest_of_trees (sym (grown_at-last slots slot tops))
          ∙ (h.grown (Some k) (subst (λ (n : ℕ). k < n) (sym count) (omega arith)) ∙ ap (seen_below (Some (suc k))) behind);
      grown = λ p below. ap forest_of_trees (sym (grown_at-front slots slot tops p below))
          ∙ (h.grown p (subst (λ (n : ℕ). IsBelow n p) (sym count) (below_more k p below)) ∙ ap (seen_below (option_map suc p)) behind);
      deep = deeper (reverse (take k rows)) (map (λ (s : Slot). s.place) slots) x slot.place parts.0 parts.1
          ∙ ap suc (sym (depth_at-places slots slot.place.parent));
      low_children = subst (λ (n : ℕ). height_of_all slot.children.items + n ≤ most_deep) (depth_at-last slots slot)
          (subst (λ (trees : List Tree). height_of_all trees + depth_at (slots ++ slot ∷ []) (Some k) ≤ most_deep) (grown_at-last slots slot tops)
          (h.low (Some k) (subst (λ (n : ℕ). k < n) (sym count) (omega arith))));
      low = λ p below. subst (λ (n : ℕ). height_of_all (grown_at slots tops p) + n ≤ most_deep) (depth_at-front slots slot p below)
          (subst (λ (trees : List Tree). height_of_all trees + depth_at (slots ++ slot ∷ []) p ≤ most_deep) (grown_at-front slots slot tops p below)
          (h.low p (subst (λ (n : ℕ). IsBelow n p) (sym count) (below_more k p below))));
    }

-- a parent comes before
pub parent_below : (rows : List Row) (slots : List Slot) (slot : Slot) (tops : List Tree) (x : Row)
    → Last rows slots slot tops x → IsBelow (length slots) slot.place.parent
parent_below rows slots slot tops x h =
    subst (λ (p : Option ℕ). IsBelow (length slots) p) (sym h.placed.parent) (named x.parent)
  where
    found : (o : Option ℕ) → ((j : ℕ) → o ≡ Some j → j < length slots) → IsBelow (length slots) o
    found None f = tt
    found (Some j) f = f j refl

    count : length (reverse (take (length slots) rows)) ≡ length slots
    count = length-reverse (take (length slots) rows) ∙ length-take-le (length slots) rows (omega (arith, h.within))

    named : (parent : Option Bytes)
        → IsBelow (length slots) (option_and_then (λ legacy. index_of legacy (reverse (take (length slots) rows))) parent)
    named None = tt
    named (Some legacy) = found (index_of legacy (reverse (take (length slots) rows)))
        (λ j e. subst (λ (n : ℕ). j < n) count (index_of_within legacy (reverse (take (length slots) rows)) j e))

-- a draft leaves everything as it is
pub grown_draft : (rows : List Row) (slots : List Slot) (slot : Slot) (tops : List Tree) (x : Row)
    → Last rows slots slot tops x → x ≡ get_or rows (length slots) x → x.published ≡ false → HasGrown rows slots tops
grown_draft rows slots slot tops x h is draft = record {
  few = omega (arith, h.within);
  placed = h.others;
  grown = λ p below. h.grown p below
      ∙ (sym (seen_below-draft (length slots) slot.place.parent p x (rest_of rows (suc (length slots))) draft)
      ∙ ap (seen_below (option_map suc p)) (sym (rest_of-row rows (length slots) x slot.place h.within is h.placed)));
  low = h.low;
}

option_eq-true : (a b : Option ℕ) → option_eq nat_eq a b ≡ true → a ≡ b
option_eq-true None None h = refl
option_eq-true None (Some n) h = absurd (cc)
option_eq-true (Some m) None h = absurd (cc)
option_eq-true (Some m) (Some n) h = ap Some (eqb-true m n h)

-- a published row comes before the others below its parent
pub grown_published : (rows : List Row) (slots more : List Slot) (slot : Slot) (tops later : List Tree) (x : Row) (t : Tree)
    → Last rows slots slot tops x → x ≡ get_or rows (length slots) x → x.published ≡ true
    → (out-Tree t).id ≡ suc (length slots) → (out-Tree t).row.now ≡ x
    → (out-Tree t).children.items ≡ reverse slot.children.items
    → map (λ (s : Slot). s.place) more ≡ map (λ (s : Slot). s.place) slots
    → ((p : Option ℕ) → grown_at more later p ≡ (if option_eq nat_eq slot.place.parent p then grown_at slots tops p ++ t ∷ [] else grown_at slots tops p))
    → HasGrown rows more later
grown_published rows slots more slot tops later x t h is published id row children places puts =
    let k = length slots in
    let rest = rest_of rows (suc k) in
    let count : length more ≡ k =
    sym (length-map more (λ (s : Slot). s.place)) ∙ (ap length places ∙ length-map slots (λ (s : Slot). s.place)) in
    let behind : rest_of rows (length more) ≡ new_of k slot.place.parent x ∷ rest =
    ap (rest_of rows) count ∙ rest_of-row rows k x slot.place h.within is h.placed in
    record {
      few = omega (arith, h.within);
      placed = subst (λ (n : ℕ). AllPlaced (reverse (take n rows)) (reverse (map (λ (s : Slot). s.place) more))) (sym count)
          (subst (λ (p : List RowPosition). AllPlaced (reverse (take k rows)) (reverse p)) (sym places) h.others);
      grown = λ p below. ap forest_of_trees (puts p)
          ∙ (by_place p (option_eq nat_eq slot.place.parent p) (subst (λ (n : ℕ). IsBelow n p) count below)
          ∙ (sym (seen_below-published k slot.place.parent p x rest published) ∙ ap (seen_below (option_map suc p)) (sym behind)));
      low = λ p below. subst (λ (trees : List Tree). height_of_all trees + depth_at more p ≤ most_deep) (sym (puts p))
          (subst (λ (n : ℕ). height_of_all (if option_eq nat_eq slot.place.parent p then grown_at slots tops p ++ t ∷ [] else grown_at slots tops p) + n ≤ most_deep) (sym (same_depth p))
          (low_at p (option_eq nat_eq slot.place.parent p) refl (subst (λ (n : ℕ). IsBelow n p) count below)));
    }
  where
    same_depth : (p : Option ℕ) → depth_at more p ≡ depth_at slots p
    same_depth p = depth_at-places more p ∙ (ap (λ (ps : List RowPosition). depth_in ps p) places ∙ sym (depth_at-places slots p))

    low_at : (p : Option ℕ) (b : Bool) → option_eq nat_eq slot.place.parent p ≡ b → IsBelow (length slots) p
        → height_of_all (if b then grown_at slots tops p ++ t ∷ [] else grown_at slots tops p) + depth_at slots p ≤ most_deep
    low_at p true e below =
        let same : depth_at slots slot.place.parent ≡ depth_at slots p =
        ap (depth_at slots) (option_eq-true slot.place.parent p e) in
        let tall : tree_height t ≡ suc (height_of_all slot.children.items) =
        height-parts t ∙ ap suc (ap height_of_all children ∙ height_of_all-reverse slot.children.items) in
        omega (arith, height_of_all-push (grown_at slots tops p) t, h.low p below, h.low_children, h.deep)
    low_at p false e below = h.low p below

    by_place : (p : Option ℕ) (b : Bool) → IsBelow (length slots) p
        → forest_of_trees (if b then grown_at slots tops p ++ t ∷ [] else grown_at slots tops p)
        ≡ (if b then Node (Told (suc (length slots)) x.values) (seen_below (Some (suc (length slots))) (rest_of rows (suc (length slots)))) (seen_below (option_map suc p) (rest_of rows (suc (length slots))))
        else seen_below (option_map suc p) (rest_of rows (suc (length slots))))
    by_place p true below =
        planted-push (grown_at slots tops p) t
        ∙ (ap (λ (n : ℕ). Node (Told n (out-Tree t).row.now.values) (grove (out-Tree t).children.items) (forest_of_trees (grown_at slots tops p))) id
        ∙ (ap (λ (r : Row). Node (Told (suc (length slots)) r.values) (grove (out-Tree t).children.items) (forest_of_trees (grown_at slots tops p))) row
        ∙ (ap (λ (c : Forest PublicUnit). Node (Told (suc (length slots)) x.values) c (forest_of_trees (grown_at slots tops p))) (ap grove children ∙ (grove-reverse slot.children.items ∙ h.children))
        ∙ ap (λ (o : Forest PublicUnit). Node (Told (suc (length slots)) x.values) (seen_below (Some (suc (length slots))) (rest_of rows (suc (length slots)))) o) (h.grown p below))))
    by_place p false below = h.grown p below

-- ---- the beginning and the end

pub grown_none : (rows : List Row) (slots : List Slot) (places : List RowPosition) → ArePlaced rows places
    → All (λ (place : RowPosition). place.depth ≤ most_deep) places
    → map (λ (s : Slot). s.place) slots ≡ places → All (λ (s : Slot). s.children.items ≡ []) slots
    → HasGrown rows slots []
grown_none rows slots places placed shallow are bare = record {
  few = omega (arith, count);
  placed = subst (λ (r : List Row). AllPlaced (reverse r) (reverse (map (λ (s : Slot). s.place) slots))) (sym (take_all (length slots) rows (omega (arith, count))))
      (subst (λ (p : List RowPosition). AllPlaced (reverse rows) (reverse p)) (sym are) placed);
  grown = λ p below. ap forest_of_trees (empty p) ∙ ap (seen_below (option_map suc p)) (sym nothing);
  low = λ p below. subst (λ (trees : List Tree). height_of_all trees + depth_at slots p ≤ most_deep) (sym (empty p))
      (subst (λ (n : ℕ). 0 + n ≤ most_deep) (sym (depth_at-places slots p ∙ ap (λ (ps : List RowPosition). depth_in ps p) are)) (shallow_in p));
}
  where
    count : length slots ≡ length rows
    count = sym (length-map slots (λ (s : Slot). s.place)) ∙ (ap length are
        ∙ (sym (length-reverse places) ∙ (as_many (reverse rows) (reverse places) placed ∙ length-reverse rows)))

    nothing : rest_of rows (length slots) ≡ []
    nothing = ap (numbered_from Empty [] (suc (length slots)) (reverse (take (length slots) rows))) (drop_all (length slots) rows (omega (arith, count)))

    shallow_at : (j : ℕ) (o : Option RowPosition) → slice_get places j ≡ o
        → option_map_or (λ (place : RowPosition). place.depth) o 0 ≤ most_deep
    shallow_at j None e = omega arith
    shallow_at j (Some place) e =
        subst (λ (p : RowPosition). p.depth ≤ most_deep) (get_or_from_slice_get places j place place e) (shallow j place (slice_get_within places j place e))

    shallow_in : (p : Option ℕ) → 0 + depth_in places p ≤ most_deep
    shallow_in None = omega arith
    shallow_in (Some j) = omega (arith, shallow_at j (slice_get places j) refl)

    children_none : (j : ℕ) (o : Option Slot) → slice_get slots j ≡ o
        → option_map_or (λ (s : Slot). s.children.items) o [] ≡ []
    children_none j None e = refl
    children_none j (Some s) e =
        ap (λ (t : Slot). t.children.items) (sym (get_or_from_slice_get slots j s s e)) ∙ bare j s (slice_get_within slots j s e)

    empty : (p : Option ℕ) → grown_at slots [] p ≡ []
    empty None = refl
    empty (Some j) = children_none j (slice_get slots j) refl

pub grown_all : (rows : List Row) (tops : List Tree) → HasGrown rows [] tops
    → forest_of_trees tops ≡ seen_below None (numbered_from Empty [] 1 [] rows)
grown_all rows tops h = h.grown None tt
