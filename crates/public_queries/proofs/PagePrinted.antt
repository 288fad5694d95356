-- The page of a unit, printed from what was read, is that of what the public may know.
use Rattle.std.proofs.Common.{◌≡◌, ℕ, Bool, true, false, not, ◌&&◌, cond, List, [], ◌∷◌, ◌++◌, Option, Some, None, refl}
use Rattle.std.proofs.Common.{sym, ap, subst, ◌∙◌}
use Rattle.std.specs.Fmt.{decimal}
use Rattle.std.specs.Prelude.{map}
use Rattle.isad_core.specs.declared.display.Page.{Page}
use Rattle.public_queries.proofs.Common.{AllByRecursion, BoxKey, Bytes, Empty, Forest, HasDistinctIds, Head, Node}
use Rattle.public_queries.proofs.Common.{OnPath, PageBox, Press, PublicUnit, Repository, Shown, Text, Told, Unit}
use Rattle.public_queries.proofs.Common.{Unknown, UnknownUnit, all_bare, are_open, below_first, box_lines, box_number}
use Rattle.public_queries.proofs.Common.{boxes_on_page, boxes_or, closed_page, code_of, coded_below, coded_of}
use Rattle.public_queries.proofs.Common.{coded_way, codes, each, false≢true, filter_map, flat_map, found_container}
use Rattle.public_queries.proofs.Common.{found_element, has, has_id, has_public_number, head_alone, head_identifiers}
use Rattle.public_queries.proofs.Common.{head_line, head_of, housed_lines, identifier, identifier_of, indent, is_later}
use Rattle.public_queries.proofs.Common.{is_unit_closed, known_of, line, line_elements, lines_or, map-append}
use Rattle.public_queries.proofs.Common.{nearest_boxes, nearest_lines, page, page_answer, page_at, page_boxes}
use Rattle.public_queries.proofs.Common.{page_line, page_of, page_of_units, pages_side_by_side, part_below, path}
use Rattle.public_queries.proofs.Common.{public_of, published_units, reverse, reverse-append, shown_unit, shows_last}
use Rattle.public_queries.proofs.Common.{stub_of, tops, tree, unit_below, unit_values, with_codes, ℤ}
use Rattle.public_queries.proofs.Standing.{seen_below, public_node, Stands, nowhere, seen, shown_in}
use Rattle.public_queries.proofs.HeadsPrinted.{known_ids, same_head, same_beside}
use Rattle.public_queries.proofs.HeadLineLemmas.{shows_last-push}

-- ---- what is told of the units of a path

module _ (day : ℤ) where
  abbrev pub AreOpen : List Unit → Type 0
  AreOpen w = AllByRecursion (λ (u : Unit). is_unit_closed day u ≡ false) w

  open_known : (a : Unit) → is_unit_closed day a ≡ false → known_of day a ≡ Told a.id a.values
  open_known a e = ap (λ b. cond b (stub_of a a.until) (Told a.id a.values)) e

  pub same_coded : (press : Press) (above : List Bytes) (higher : List OnPath) (w : List Unit) → AreOpen w
      → coded_below press above (map coded_of higher) (map (known_of day) w) ≡ map coded_of (coded_way press.at above higher (map (unit_values press.containers) w))
  same_coded press above higher [] h = refl
  same_coded press above higher (a ∷ w) h =
      ap (λ x. coded_below press above (map coded_of higher) (x ∷ map (known_of day) w)) (open_known a h.0)
      ∙ same_coded press (above ++ identifier a.values ∷ []) (record { code = code_of press.at.country press.at.repo (above ++ identifier a.values ∷ []); unit = unit_values press.containers a } ∷ higher) w h.1

-- ---- containers

abbrev AreNumbered : List BoxKey → List OnPath → Type 0
AreNumbered boxes units =
    AllByRecursion (λ (x : OnPath). x.unit.containers ≡ map (box_number boxes) x.unit.values.boxes) units

numbered_lines : (press : Press) (from : Option Bytes) (bs : List BoxKey)
    → page_boxes press from bs ≡ box_lines from (map (box_number press.containers) bs) bs
numbered_lines press from [] = refl
numbered_lines press from (b ∷ bs) =
    ap (λ l. (box_number press.containers b, b.name, from) ∷ l) (numbered_lines press from bs)

same_lines : (press : Press) (from : Option Bytes) (bs : List BoxKey) (ns : List ℕ) (f g : List PageBox)
    → ns ≡ map (box_number press.containers) bs → f ≡ g → boxes_or press from bs f ≡ lines_or from ns bs g
same_lines press from [] ns f g e same = same
same_lines press from (b ∷ bs) ns f g e same =
    numbered_lines press from (b ∷ bs) ∙ ap (λ l. box_lines from l (b ∷ bs)) (sym e)

same_nearest : (press : Press) (units : List OnPath) → AreNumbered press.containers units
    → nearest_boxes press (map coded_of units) ≡ nearest_lines units
same_nearest press [] h = refl
same_nearest press (x ∷ units) h =
    same_lines press (Some x.code) x.unit.values.boxes x.unit.containers _ _ h.0 (same_nearest press units h.1)

pub same_housed : (press : Press) (units : List OnPath) → AreNumbered press.containers units
    → boxes_on_page press (map coded_of units) ≡ housed_lines units
same_housed press [] h = refl
same_housed press (x ∷ units) h =
    same_lines press None x.unit.values.boxes x.unit.containers _ _ h.0 (same_nearest press units h.1)

pub are_numbered : (at : Repository) (boxes : List BoxKey) (above : List Bytes) (higher : List OnPath) (w : List Unit)
    → AreNumbered boxes higher → AreNumbered boxes (coded_way at above higher (map (unit_values boxes) w))
are_numbered at boxes above higher [] h = h
are_numbered at boxes above higher (a ∷ w) h =
    are_numbered at boxes (above ++ identifier a.values ∷ []) (record { code = code_of at.country at.repo (above ++ identifier a.values ∷ []); unit = unit_values boxes a } ∷ higher) w (refl, h)

-- ---- pages

printed_alike : (p q : Page) → head_line p.head ≡ head_line q.head → p.lines ≡ q.lines → p.boxes ≡ q.boxes
    → flat_map unit_below p.below ≡ flat_map unit_below q.below → page p ≡ page q
printed_alike p q a b e d =
    ap (λ l. line l ++ flat_map found_element p.lines ++ flat_map found_container p.boxes ++ flat_map unit_below p.below) a
    ∙ ap (λ l. line (head_line q.head) ++ flat_map found_element l ++ flat_map found_container p.boxes ++ flat_map unit_below p.below) b
    ∙ ap (λ l. line (head_line q.head) ++ flat_map found_element q.lines ++ flat_map found_container l ++ flat_map unit_below p.below) e
    ∙ ap (λ l. line (head_line q.head) ++ flat_map found_element q.lines ++ flat_map found_container q.boxes ++ l) d

below_alike : (n : ℕ) (a b : Shown) → head_line a ≡ head_line b → unit_below (n, a) ≡ unit_below (n, b)
below_alike n a b e = ap (λ l. line (indent 1 ++ codes "Unit " ++ decimal n ++ codes ": " ++ l)) e

-- ---- the unit where it stands

pub last_same : (a b : List Head) (x y : Head) → a ++ x ∷ [] ≡ b ++ y ∷ [] → x ≡ y
last_same a b x y e = first (reverse a) (reverse b) (sym (reverse-append a (x ∷ [])) ∙ ap reverse e ∙ reverse-append b (y ∷ []))
  where
    first : (a b : List Head) → x ∷ a ≡ y ∷ b → x ≡ y
    first a b e = cc

and_true : (a b : Bool) → (a && b) ≡ true → (a ≡ true) × (b ≡ true)
and_true true b e = (refl, e)
and_true false b e = absurd (false≢true e)

not_true : (b : Bool) → not b ≡ true → b ≡ false
not_true true e = absurd (false≢true e)
not_true false e = refl

module _ (press : Press) (day : ℤ) (u : ℕ) (f : Forest Unit) (distinct : HasDistinctIds (each (λ (unit : Unit). unit.id) f)) where
  -- the public is not shown it
  pub page_hidden : shown_in day u f ≡ false → page_answer (page_of press u (public_of day f)) ≡ Unknown UnknownUnit
  page_hidden e =
      let it = seen day u f distinct in
      let none : tree (has_public_number u) (public_of day f) ≡ Empty =
      it.tree_is ∙ ap (λ b. cond b (public_of day (tree (has_id u) f)) Empty) e in
      ap (λ t. page_answer (page_at press (path (has_public_number u) (public_of day f)) t)) none

  page_found : shown_in day u f ≡ true
      → page_of press u (public_of day f) ≡ page_at press (map (known_of day) (path (has_id u) f)) (public_of day (tree (has_id u) f))
  page_found e =
      let it = seen day u f distinct in
      ap (λ t. page_at press (path (has_public_number u) (public_of day f)) t) (it.tree_is ∙ ap (λ b. cond b (public_of day (tree (has_id u) f)) Empty) e)
      ∙ ap (λ l. page_at press l (public_of day (tree (has_id u) f))) (it.path_is ∙ ap (λ b. cond b (map (known_of day) (path (has_id u) f)) []) e)

  pub is_there : shown_in day u f ≡ true → has (has_id u) f ≡ true
  is_there e = at (has (has_id u) f) refl
    where
      at : (b : Bool) → has (has_id u) f ≡ b → has (has_id u) f ≡ true
      at true h = h
      at false h = absurd (false≢true (ap (λ l. shows_last day (map head_of l)) (sym (nowhere (has_id u) f h).0) ∙ e))

  module _ (it : Stands (has_id u) f) (e : shown_in day u f ≡ true) where
    parts_shown : (are_open day (map head_of it.above) ≡ true) × (not it.node.draft ≡ true)
    parts_shown =
        and_true _ _ (sym (shows_last-push day (map head_of it.above) (head_of it.node)) ∙ ap (shows_last day) (sym (map-append head_of it.above (it.node ∷ []))) ∙ ap (λ l. shows_last day (map head_of l)) (sym it.way) ∙ e)

    -- the tree that is shown
    shown_tree : public_of day (tree (has_id u) f) ≡ Node (known_of day it.node) (seen_below day (is_unit_closed day it.node) it.children) Empty
    shown_tree = ap (public_of day) it.part ∙ public_node day it.node it.children Empty (not_true it.node.draft parts_shown.1)

    closed_at : (way : List PublicUnit) (g : Forest PublicUnit) → is_unit_closed day it.node ≡ true
        → page_at press way (Node (known_of day it.node) g Empty) ≡ Some (closed_page (shown_unit press.at press.containers (map identifier_of way) 0 (known_of day it.node)))
    closed_at way g c = at it.node.until c
      where
        at : (until : Option ℤ) → is_later day until ≡ true
            → page_at press way (Node (cond (is_unit_closed day it.node) (stub_of it.node until) (Told it.node.id it.node.values)) g Empty) ≡ Some (closed_page (shown_unit press.at press.containers (map identifier_of way) 0 (cond (is_unit_closed day it.node) (stub_of it.node until) (Told it.node.id it.node.values))))
        at None l = absurd (false≢true l)
        at (Some d) l = subst (λ b. page_at press way (Node (cond b (stub_of it.node (Some d)) (Told it.node.id it.node.values)) g Empty) ≡ Some (closed_page (shown_unit press.at press.containers (map identifier_of way) 0 (cond b (stub_of it.node (Some d)) (Told it.node.id it.node.values))))) (sym c) refl

    head_same : head_line (shown_unit press.at press.containers (map identifier_of (map (known_of day) (path (has_id u) f))) 0 (known_of day it.node)) ≡ head_line (head_alone press.at (head_identifiers (map head_of (path (has_id u) f))) day (head_of it.node))
    head_same =
        ap (λ l. head_line (shown_unit press.at press.containers l 0 (known_of day it.node))) (known_ids day (path (has_id u) f)) ∙ same_head day press.at press.containers (head_identifiers (map head_of (path (has_id u) f))) it.node

    pub page_closed : is_unit_closed day it.node ≡ true
        → page_answer (page_of press u (public_of day f)) ≡ Text (page (closed_page (head_alone press.at (head_identifiers (map head_of (path (has_id u) f))) day (head_of it.node))))
    page_closed c =
        ap page_answer (page_found e ∙ ap (page_at press (map (known_of day) (path (has_id u) f))) shown_tree ∙ closed_at (map (known_of day) (path (has_id u) f)) (seen_below day (is_unit_closed day it.node) it.children) c)
        ∙ ap Text (printed_alike (closed_page (shown_unit press.at press.containers (map identifier_of (map (known_of day) (path (has_id u) f))) 0 (known_of day it.node))) (closed_page (head_alone press.at (head_identifiers (map head_of (path (has_id u) f))) day (head_of it.node))) head_same refl refl refl)

    told_at : (way : List PublicUnit) (g : Forest PublicUnit) → is_unit_closed day it.node ≡ false
        → page_at press way (Node (known_of day it.node) g Empty)
        ≡ Some (record { head = shown_unit press.at press.containers (map identifier_of way) 0 (known_of day it.node); lines = filter_map (page_line (with_codes press way)) line_elements; boxes = boxes_on_page press (with_codes press way); below = pages_side_by_side press (map identifier_of way) g })
    told_at way g c =
        subst (λ b. page_at press way (Node (cond b (stub_of it.node it.node.until) (Told it.node.id it.node.values)) g Empty)
        ≡ Some (record { head = shown_unit press.at press.containers (map identifier_of way) 0 (cond b (stub_of it.node it.node.until) (Told it.node.id it.node.values)); lines = filter_map (page_line (with_codes press way)) line_elements; boxes = boxes_on_page press (with_codes press way); below = pages_side_by_side press (map identifier_of way) g })) (sym c) refl

    are_open_units : (xs : List Unit) → are_open day (map head_of xs) ≡ true → AreOpen day xs
    are_open_units [] h = tt
    are_open_units (a ∷ xs) h =
        let one = and_true _ _ h in
        (not_true (is_unit_closed day a) (and_true _ _ one.0).1, are_open_units xs one.1)

    open_push : (xs : List Unit) (x : Unit) → AreOpen day xs → is_unit_closed day x ≡ false → AreOpen day (xs ++ x ∷ [])
    open_push [] x h c = (c, tt)
    open_push (a ∷ xs) x h c = (h.0, open_push xs x h.1 c)

    pub page_told : is_unit_closed day it.node ≡ false
        → page_answer (page_of press u (public_of day f))
        ≡ Text (page (page_of_units (head_alone press.at (head_identifiers (map head_of (path (has_id u) f))) day (head_of it.node)) (coded_way press.at [] [] (map (unit_values press.containers) (path (has_id u) f))) (all_bare press.at (head_identifiers (map head_of (path (has_id u) f))) day (map head_of (published_units (tops (part_below has_id (Some u) f)))))))
    page_told c =
        let way = path (has_id u) f in
        let units = coded_way press.at [] [] (map (unit_values press.containers) way) in
        let opened : AreOpen day way =
        subst (AreOpen day) (sym it.way) (open_push it.above it.node (are_open_units it.above parts_shown.0) c) in
        let same : with_codes press (map (known_of day) way) ≡ map coded_of units =
        same_coded day press [] [] way opened in
        let lower : pages_side_by_side press (map identifier_of (map (known_of day) way)) (seen_below day (is_unit_closed day it.node) it.children) ≡ pages_side_by_side press (head_identifiers (map head_of way)) (public_of day it.children) =
        ap (λ l. pages_side_by_side press l (seen_below day (is_unit_closed day it.node) it.children)) (known_ids day way) ∙ ap (λ b. pages_side_by_side press (head_identifiers (map head_of way)) (seen_below day b it.children)) c
        in
        ap page_answer (page_found e ∙ ap (page_at press (map (known_of day) way)) shown_tree ∙ told_at (map (known_of day) way) (seen_below day (is_unit_closed day it.node) it.children) c)
        ∙ ap Text
        (printed_alike (record { head = shown_unit press.at press.containers (map identifier_of (map (known_of day) way)) 0 (known_of day it.node); lines = filter_map (page_line (with_codes press (map (known_of day) way))) line_elements; boxes = boxes_on_page press (with_codes press (map (known_of day) way)); below = pages_side_by_side press (map identifier_of (map (known_of day) way)) (seen_below day (is_unit_closed day it.node) it.children) }) (page_of_units (head_alone press.at (head_identifiers (map head_of way)) day (head_of it.node)) units (all_bare press.at (head_identifiers (map head_of way)) day (map head_of (published_units (tops (part_below has_id (Some u) f))))))
        head_same
        (ap (λ l. filter_map (page_line l) line_elements) same)
        (ap (boxes_on_page press) same ∙ same_housed press units (are_numbered press.at press.containers [] [] way tt))
        (ap (flat_map unit_below) lower ∙ same_beside day unit_below below_alike press (head_identifiers (map head_of way)) it.children ∙ ap (λ g. flat_map unit_below (all_bare press.at (head_identifiers (map head_of way)) day (map head_of (published_units (tops (below_first g)))))) (sym it.part)))
