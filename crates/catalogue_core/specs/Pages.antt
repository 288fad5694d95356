-- What the public is shown of units: the tops, the finding aid of a unit, and its page (ISAD(G) 2.1 to 2.4).
use Rattle.std.specs.Prelude.{ℕ, ◌++◌, Bool, nat_eq, List, [], ◌∷◌, Option, Some, None, map, filter_map, cond}
use Rattle.std.specs.List.{flat_map}
use Rattle.isad_core.specs.Texts.{Bytes}
use Rattle.isad_core.specs.Codes.{code_of}
use Rattle.isad_core.specs.Elements.{is_found_above}
use Rattle.isad_core.specs.Values.{line_elements, text_of}
use Rattle.isad_core.specs.PrintedDescriptions.{aid, numbered_line}
use Rattle.isad_core.specs.declared.element.Element.{Element}
use Rattle.isad_core.specs.declared.display.Page.{Page}
use Rattle.isad_core.specs.declared.display.Shown.{Shown}
use Rattle.isad_core.specs.declared.values.BoxKey.{BoxKey}
use Rattle.isad_core.specs.declared.values.Values.{Values}
use Rattle.tree_core.specs.Forest.{Forest, Empty, Node, path, tree}
use Rattle.catalogue_core.specs.CatalogueMerge.{box_number}
use Rattle.catalogue_core.specs.PublicForest.{PublicUnit, Told, Stub}
use Rattle.catalogue_core.specs.Aids.{Repository, identifier_of, shown_unit, shown_below}

abbrev pub public_number : PublicUnit → ℕ
public_number (Told id values) = id
public_number (Stub id identifier level until) = id

-- the unit has this number
abbrev pub has_public_number : ℕ → PublicUnit → Bool
has_public_number u unit = nat_eq u (public_number unit)

-- what is needed to print units: the repository, and the containers with their numbers
pub record Press : Type 0 where
  pub at : Repository
  pub containers : List BoxKey

-- ---- units side by side, each with its number

abbrev pub pages_side_by_side : Press → List Bytes → Forest PublicUnit → List (ℕ × Shown)
pages_side_by_side press above Empty = []
pages_side_by_side press above (Node unit children others) =
    (public_number unit, shown_unit press.at press.containers (above ++ identifier_of unit ∷ []) 0 unit)
    ∷ pages_side_by_side press above others

-- the tops, a line for each
abbrev pub tops_text : List (ℕ × Shown) → Bytes
tops_text = flat_map numbered_line

abbrev pub fonds_text : Press → Forest PublicUnit → Bytes
fonds_text press f = tops_text (pages_side_by_side press [] f)

-- ---- the finding aid of a unit

-- a list without its last element
abbrev pub before_last : {X : Type 0} → List X → List X
before_last [] = []
before_last (x ∷ []) = []
before_last (x ∷ y ∷ ys) = x ∷ before_last (y ∷ ys)

-- the identifiers of the units above the last of a path
abbrev pub above_last : List PublicUnit → List Bytes
above_last way = map identifier_of (before_last way)

-- the units of the branch, with the codes that they have below the units above it
abbrev pub aid_units : Press → ℕ → Forest PublicUnit → List Shown
aid_units press u f = shown_below press.at press.containers (above_last (path (has_public_number u) f)) 0 (tree (has_public_number u) f)

abbrev pub aid_of : Press → ℕ → Forest PublicUnit → Bytes
aid_of press u f = aid (aid_units press u f)

-- ---- the page of a unit

-- the values of a unit that the public may know, with its reference code
pub record Coded : Type 0 where
  pub code : Bytes
  pub values : Values

-- the units of a path that are shown in full, with their codes, the lowest first; `above` are the identifiers of the
-- units above, and `higher` are those units themselves
abbrev pub coded_below : Press → List Bytes → List Coded → List PublicUnit → List Coded
coded_below press above higher [] = higher
coded_below press above higher (Told id values ∷ way) =
    coded_below press (above ++ identifier_of (Told id values) ∷ [])
    (record { code = code_of press.at.country press.at.repo (above ++ identifier_of (Told id values) ∷ []); values = values } ∷ higher)
    way
coded_below press above higher (Stub id identifier level until ∷ way) = higher

abbrev pub with_codes : Press → List PublicUnit → List Coded
with_codes press = coded_below press [] []

abbrev pub PageLine : Type 0
PageLine = Element × Bytes × Option Bytes

-- the value of the nearest of these units that has one, with the code of that unit (ISAD(G) 2.4)
abbrev pub nearest_value : Element → List Coded → Option PageLine
nearest_value element [] = None
nearest_value element (unit ∷ higher) = or_else (text_of element unit.values) (nearest_value element higher)
  where
    or_else : Option Bytes → Option PageLine → Option PageLine
    or_else (Some text) further = Some (element, text, Some unit.code)
    or_else None further = further

-- the unit's own value; if it has none and the element is found above, the nearest value above
abbrev pub page_line : List Coded → Element → Option PageLine
page_line [] element = None
page_line (unit ∷ higher) element = own_or (text_of element unit.values)
  where
    own_or : Option Bytes → Option PageLine
    own_or (Some text) = Some (element, text, None)
    own_or None = cond (is_found_above element) (nearest_value element higher) None

abbrev pub PageBox : Type 0
PageBox = ℕ × Bytes × Option Bytes

abbrev pub page_boxes : Press → Option Bytes → List BoxKey → List PageBox
page_boxes press from boxes = map (λ box. (box_number press.containers box, box.name, from)) boxes

-- these containers or, if there are none, those found further up
abbrev pub boxes_or : Press → Option Bytes → List BoxKey → List PageBox → List PageBox
boxes_or press from [] further = further
boxes_or press from (box ∷ boxes) further = page_boxes press from (box ∷ boxes)

-- the containers of the nearest of these units that has some, with the code of that unit
abbrev pub nearest_boxes : Press → List Coded → List PageBox
nearest_boxes press [] = []
nearest_boxes press (unit ∷ higher) = boxes_or press (Some unit.code) unit.values.boxes (nearest_boxes press higher)

-- the containers that a unit lies in: its own, or those of the nearest unit above that has some
abbrev pub boxes_on_page : Press → List Coded → List PageBox
boxes_on_page press [] = []
boxes_on_page press (unit ∷ higher) = boxes_or press None unit.values.boxes (nearest_boxes press higher)

-- the page of the unit at the head of a tree; `way` is its path. A closed unit has only its head line.
abbrev pub page_at : Press → List PublicUnit → Forest PublicUnit → Option Page
page_at press way Empty = None
page_at press way (Node (Stub id identifier level until) children others) =
    Some
    (record {
      head = shown_unit press.at press.containers (map identifier_of way) 0 (Stub id identifier level until);
      lines = [];
      boxes = [];
      below = [];
    })
page_at press way (Node (Told id values) children others) =
    Some
    (record {
      head = shown_unit press.at press.containers (map identifier_of way) 0 (Told id values);
      lines = filter_map (page_line (with_codes press way)) line_elements;
      boxes = boxes_on_page press (with_codes press way);
      below = pages_side_by_side press (map identifier_of way) children;
    })

abbrev pub page_of : Press → ℕ → Forest PublicUnit → Option Page
page_of press u f = page_at press (path (has_public_number u) f) (tree (has_public_number u) f)
