-- Equal forests, and equal numbers of the containers in them, are shown alike.
use Rattle.std.proofs.Common.{◌≡◌, ℕ, ◌+◌, Bool, true, false, cond, List, [], ◌∷◌, ◌++◌, Option, Some, None, refl, ap}
use Rattle.std.proofs.Common.{◌∙◌}
use Rattle.std.specs.Prelude.{map}
use Rattle.isad_core.specs.declared.display.Body.TheVariants.{Full}
use Rattle.isad_core.specs.declared.display.Shown.{Shown}
use Rattle.catalogue_core.proofs.Common.{AllByRecursion, BoxKey, Bytes, Coded, Empty, Forest, Node, Page, PageBox}
use Rattle.catalogue_core.proofs.Common.{Press, PublicUnit, Repository, Stub, Told, box_number, boxes_on_page, boxes_or}
use Rattle.catalogue_core.proofs.Common.{boxes_told, code_of, coded_below, filter_map, flat_map, has, identifier_of}
use Rattle.catalogue_core.proofs.Common.{line_elements, nearest_boxes, nodes, numbered_boxes, own_lines, page_at}
use Rattle.catalogue_core.proofs.Common.{page_boxes, page_line, pages_side_by_side, path, public_number, shown_below}
use Rattle.catalogue_core.proofs.Common.{shown_unit, title, tree, with_codes}
use Rattle.catalogue_core.proofs.EachOf.{all_append, all_split}

-- the containers have the same numbers in both lists

abbrev Alike : List BoxKey → List BoxKey → List BoxKey → Type 0
Alike xs ys boxes = AllByRecursion (λ box. box_number xs box ≡ box_number ys box) boxes

-- the containers of each of these units do

abbrev pub AllAlike : List BoxKey → List BoxKey → List PublicUnit → Type 0
AllAlike xs ys units = AllByRecursion (λ unit. Alike xs ys (boxes_told unit)) units

pub each_alike : (xs ys : List BoxKey) (units : List PublicUnit) → Alike xs ys (flat_map boxes_told units)
    → AllAlike xs ys units
each_alike xs ys [] h = tt
each_alike xs ys (unit ∷ units) h =
    let r = all_split (λ box. box_number xs box ≡ box_number ys box) (boxes_told unit) (flat_map boxes_told units) h in
    (r.0, each_alike xs ys units r.1)

pub path_alike : (P : PublicUnit → Type 0) (is : PublicUnit → Bool) (f : Forest PublicUnit) → AllByRecursion P (nodes f)
    → AllByRecursion P (path is f)
path_alike P is Empty h = tt
path_alike P is (Node a c o) h =
    let r = all_split P (nodes c) (nodes o) h.1 in
    at (is a) (has is c) (path_alike P is c r.0) (path_alike P is o r.1)
  where
    at : (b d : Bool) → AllByRecursion P (path is c) → AllByRecursion P (path is o)
        → AllByRecursion P (cond b (a ∷ []) (cond d (a ∷ path is c) (path is o)))
    at true d p q = (h.0, tt)
    at false true p q = (h.0, p)
    at false false p q = q

pub tree_alike : (P : PublicUnit → Type 0) (is : PublicUnit → Bool) (f : Forest PublicUnit) → AllByRecursion P (nodes f)
    → AllByRecursion P (nodes (tree is f))
tree_alike P is Empty h = tt
tree_alike P is (Node a c o) h =
    let r = all_split P (nodes c) (nodes o) h.1 in
    at (is a) (has is c) r.0 (tree_alike P is c r.0) (tree_alike P is o r.1)
  where
    at : (b d : Bool) → AllByRecursion P (nodes c) → AllByRecursion P (nodes (tree is c))
        → AllByRecursion P (nodes (tree is o))
        → AllByRecursion P (nodes (cond b (Node a c Empty) (cond d (tree is c) (tree is o))))
    at true d w p q = (h.0, all_append P (nodes c) [] w tt)
    at false true w p q = p
    at false false w p q = q

-- one unit

numbers_alike : (xs ys boxes : List BoxKey) → Alike xs ys boxes
    → numbered_boxes (box_number xs) boxes ≡ numbered_boxes (box_number ys) boxes
numbers_alike xs ys [] h = refl
numbers_alike xs ys (box ∷ boxes) h =
    ap (λ n. (n, box.name) ∷ numbered_boxes (box_number xs) boxes) h.0 ∙ ap (λ l. (box_number ys box, box.name) ∷ l) (numbers_alike xs ys boxes h.1)

unit_alike : (at : Repository) (xs ys : List BoxKey) (ids : List Bytes) (depth : ℕ) (unit : PublicUnit)
    → Alike xs ys (boxes_told unit) → shown_unit at xs ids depth unit ≡ shown_unit at ys ids depth unit
unit_alike at xs ys ids depth (Told id values) h =
    let shown : List (ℕ × Bytes) → Shown =
    λ boxes. record { depth = depth; code = code_of at.country at.repo ids; level = values.level; title = title values; body = Full (own_lines values) boxes } in
    ap shown (numbers_alike xs ys values.boxes h)
unit_alike at xs ys ids depth (Stub id identifier level until) h = refl

pub shown_alike : (at : Repository) (xs ys : List BoxKey) (above : List Bytes) (depth : ℕ) (f : Forest PublicUnit)
    → AllAlike xs ys (nodes f) → shown_below at xs above depth f ≡ shown_below at ys above depth f
shown_alike at xs ys above depth Empty h = refl
shown_alike at xs ys above depth (Node a c o) h =
    let r = all_split (λ unit. Alike xs ys (boxes_told unit)) (nodes c) (nodes o) h.1 in
    ap (λ u. u ∷ (shown_below at xs (above ++ identifier_of a ∷ []) (depth + 1) c ++ shown_below at xs above depth o)) (unit_alike at xs ys (above ++ identifier_of a ∷ []) depth a h.0)
    ∙ (ap (λ l. shown_unit at ys (above ++ identifier_of a ∷ []) depth a ∷ (l ++ shown_below at xs above depth o)) (shown_alike at xs ys (above ++ identifier_of a ∷ []) (depth + 1) c r.0)
    ∙ ap (λ l. shown_unit at ys (above ++ identifier_of a ∷ []) depth a ∷ (shown_below at ys (above ++ identifier_of a ∷ []) (depth + 1) c ++ l)) (shown_alike at xs ys above depth o r.1))

abbrev pub with_boxes : Repository → List BoxKey → Press
with_boxes at xs = record { at = at; containers = xs }

pub beside_alike : (at : Repository) (xs ys : List BoxKey) (above : List Bytes) (f : Forest PublicUnit)
    → AllAlike xs ys (nodes f) → pages_side_by_side (with_boxes at xs) above f ≡ pages_side_by_side (with_boxes at ys) above f
beside_alike at xs ys above Empty h = refl
beside_alike at xs ys above (Node a c o) h =
    let r = all_split (λ unit. Alike xs ys (boxes_told unit)) (nodes c) (nodes o) h.1 in
    ap (λ u. (public_number a, u) ∷ pages_side_by_side (with_boxes at xs) above o) (unit_alike at xs ys (above ++ identifier_of a ∷ []) 0 a h.0)
    ∙ ap (λ l. (public_number a, shown_unit at ys (above ++ identifier_of a ∷ []) 0 a) ∷ l) (beside_alike at xs ys above o r.1)

-- the page

abbrev AllCoded : List BoxKey → List BoxKey → List Coded → Type 0
AllCoded xs ys units = AllByRecursion (λ unit. Alike xs ys unit.values.boxes) units

coded_same : (at : Repository) (xs ys : List BoxKey) (above : List Bytes) (higher : List Coded) (way : List PublicUnit)
    → coded_below (with_boxes at xs) above higher way ≡ coded_below (with_boxes at ys) above higher way
coded_same at xs ys above higher [] = refl
coded_same at xs ys above higher (Told id values ∷ way) =
    coded_same at xs ys (above ++ identifier_of (Told id values) ∷ []) (record { code = code_of at.country at.repo (above ++ identifier_of (Told id values) ∷ []); values = values } ∷ higher) way
coded_same at xs ys above higher (Stub id identifier level until ∷ way) = refl

coded_alike : (at : Repository) (xs ys : List BoxKey) (above : List Bytes) (higher : List Coded) (way : List PublicUnit)
    → AllAlike xs ys way → AllCoded xs ys higher → AllCoded xs ys (coded_below (with_boxes at xs) above higher way)
coded_alike at xs ys above higher [] h k = k
coded_alike at xs ys above higher (Told id values ∷ way) h k =
    coded_alike at xs ys (above ++ identifier_of (Told id values) ∷ []) (record { code = code_of at.country at.repo (above ++ identifier_of (Told id values) ∷ []); values = values } ∷ higher) way h.1 (h.0, k)
coded_alike at xs ys above higher (Stub id identifier level until ∷ way) h k = k

page_boxes_alike : (at : Repository) (xs ys : List BoxKey) (from : Option Bytes) (boxes : List BoxKey)
    → Alike xs ys boxes → page_boxes (with_boxes at xs) from boxes ≡ page_boxes (with_boxes at ys) from boxes
page_boxes_alike at xs ys from [] h = refl
page_boxes_alike at xs ys from (box ∷ boxes) h =
    ap (λ n. (n, box.name, from) ∷ page_boxes (with_boxes at xs) from boxes) h.0
    ∙ ap (λ l. (box_number ys box, box.name, from) ∷ l) (page_boxes_alike at xs ys from boxes h.1)

or_alike : (at : Repository) (xs ys : List BoxKey) (from : Option Bytes) (boxes : List BoxKey) (further other : List PageBox)
    → Alike xs ys boxes → further ≡ other
    → boxes_or (with_boxes at xs) from boxes further ≡ boxes_or (with_boxes at ys) from boxes other
or_alike at xs ys from [] further other h e = e
or_alike at xs ys from (box ∷ boxes) further other h e = page_boxes_alike at xs ys from (box ∷ boxes) h

nearest_alike : (at : Repository) (xs ys : List BoxKey) (units : List Coded) → AllCoded xs ys units
    → nearest_boxes (with_boxes at xs) units ≡ nearest_boxes (with_boxes at ys) units
nearest_alike at xs ys [] h = refl
nearest_alike at xs ys (unit ∷ higher) h =
    or_alike at xs ys (Some unit.code) unit.values.boxes (nearest_boxes (with_boxes at xs) higher) (nearest_boxes (with_boxes at ys) higher) h.0 (nearest_alike at xs ys higher h.1)

on_page_alike : (at : Repository) (xs ys : List BoxKey) (units : List Coded) → AllCoded xs ys units
    → boxes_on_page (with_boxes at xs) units ≡ boxes_on_page (with_boxes at ys) units
on_page_alike at xs ys [] h = refl
on_page_alike at xs ys (unit ∷ higher) h =
    or_alike at xs ys None unit.values.boxes (nearest_boxes (with_boxes at xs) higher) (nearest_boxes (with_boxes at ys) higher) h.0 (nearest_alike at xs ys higher h.1)

pub page_at_alike : (at : Repository) (xs ys : List BoxKey) (way : List PublicUnit) (f : Forest PublicUnit)
    → AllAlike xs ys way → AllAlike xs ys (nodes f)
    → page_at (with_boxes at xs) way f ≡ page_at (with_boxes at ys) way f
page_at_alike at xs ys way Empty h k = refl
page_at_alike at xs ys way (Node (Stub id identifier level until) c o) h k = refl
page_at_alike at xs ys way (Node (Told id values) c o) h k =
    let r = all_split (λ unit. Alike xs ys (boxes_told unit)) (nodes c) (nodes o) k.1 in
    let e = coded_same at xs ys [] [] way in
    let made : Shown → List Coded → List PageBox → List (ℕ × Shown) → Option Page =
    λ head units boxes below. Some (record { head = head; lines = filter_map (page_line units) line_elements; boxes = boxes; below = below }) in
    ap (λ head. made head (with_codes (with_boxes at xs) way) (boxes_on_page (with_boxes at xs) (with_codes (with_boxes at xs) way)) (pages_side_by_side (with_boxes at xs) (map identifier_of way) c)) (unit_alike at xs ys (map identifier_of way) 0 (Told id values) k.0)
    ∙ (ap (λ boxes. made (shown_unit at ys (map identifier_of way) 0 (Told id values)) (with_codes (with_boxes at xs) way) boxes (pages_side_by_side (with_boxes at xs) (map identifier_of way) c)) (on_page_alike at xs ys (with_codes (with_boxes at xs) way) (coded_alike at xs ys [] [] way h tt))
    ∙ (ap (λ units. made (shown_unit at ys (map identifier_of way) 0 (Told id values)) units (boxes_on_page (with_boxes at ys) units) (pages_side_by_side (with_boxes at xs) (map identifier_of way) c)) e
    ∙ ap (λ below. made (shown_unit at ys (map identifier_of way) 0 (Told id values)) (with_codes (with_boxes at ys) way) (boxes_on_page (with_boxes at ys) (with_codes (with_boxes at ys) way)) below) (beside_alike at xs ys (map identifier_of way) c r.0)))

-- the answers

abbrev pub alike_unit : List BoxKey → List BoxKey → PublicUnit → Type 0
alike_unit xs ys unit = Alike xs ys (boxes_told unit)
