-- The rows of the catalogue's tables: the office's own, the units with their texts and places, the containers and what
-- lies in them. How rows are made from a catalogue, and what is read back from them.
use Rattle.std.specs.Prelude.{ℕ, ℤ, zero, suc, ◌+◌, ◌&&◌, Bool, not, cond, List, [], ◌∷◌, length, filter, find, Option}
use Rattle.std.specs.Prelude.{Some, None, option_map, nat_eq, nat_lt}
use Rattle.isad_core.specs.Texts.{Bytes}
use Rattle.isad_core.specs.declared.values.BoxKey.{BoxKey}
use Rattle.tree_core.specs.Forest.{Forest, Empty, Node}
use Rattle.tree_core.specs.Links.{siblings}
use Rattle.tree_core.specs.Spans.{spans_from}
use Rattle.tree_core.specs.Steps.{is_at}
use Rattle.tree_core.specs.declared.rows.Link.{Link}
use Rattle.tree_core.specs.declared.rows.Span.{Span}
use Rattle.tree_core.specs.Encodings.{TreeEncoding, Links, Spans}
use Rattle.catalogue_core.specs.Units.{Unit}
use Rattle.catalogue_core.specs.CatalogueMerge.{box_number}

-- ---- office

pub record OfficeRow : Type 0 where
  pub version : ℕ
  pub country : Bytes
  pub repo : Bytes
  pub seats : ℕ
  pub daily : ℕ
  pub hands : ℕ
  pub run_size : ℕ
  pub day : ℤ
  pub next_unit : ℕ

-- ---- unit, element, container, housing

pub record UnitRow : Type 0 where
  pub id : ℕ
  pub source : Bytes
  pub legacy : Bytes
  pub level : Bytes
  pub draft : Bool
  pub until : Option ℤ  -- the first day on which its closure holds no more

abbrev pub unit_row : Unit → UnitRow
unit_row unit =
    record { id = unit.id; source = unit.source; legacy = unit.legacy; level = unit.values.level; draft = unit.draft; until = unit.until }

-- a text of a unit, by the place of its element in the standard's order, from 1
pub record ElementRow : Type 0 where
  pub unit : ℕ
  pub k : ℕ
  pub value : Bytes

-- the texts leave out the fourth element, the level
abbrev pub after_level : ℕ → ℕ
after_level k = cond (nat_lt k 4) k (k + 1)

abbrev pub element_rows_from : ℕ → ℕ → List (Option Bytes) → List ElementRow
element_rows_from u k [] = []
element_rows_from u k (None ∷ texts) = element_rows_from u (suc k) texts
element_rows_from u k (Some text ∷ texts) =
    record { unit = u; k = after_level k; value = text } ∷ element_rows_from u (suc k) texts

pub record ContainerRow : Type 0 where
  pub id : ℕ
  pub name : Bytes
  pub location : Bytes
  pub kind : Bytes

abbrev pub container_row : ℕ → BoxKey → ContainerRow
container_row n box = record { id = n; name = box.name; location = box.location; kind = box.kind }

-- a container of a unit, at its place in the unit's order from 1
pub record HousingRow : Type 0 where
  pub unit : ℕ
  pub ord : ℕ
  pub container : ℕ

abbrev pub housing_row : List BoxKey → ℕ → ℕ → BoxKey → HousingRow
housing_row containers u n box = record { unit = u; ord = n; container = box_number containers box }

-- ---- the places of the units: link rows in version 1, span rows in version 2

pub data PlaceRows : Type 0 where
  LinkRows : List Link → PlaceRows
  SpanRows : List Span → PlaceRows

abbrev pub place_rows : TreeEncoding → Forest ℕ → PlaceRows
place_rows Links f = LinkRows (siblings f)
place_rows Spans f = SpanRows (spans_from 1 f)

-- ---- all of them but the office's own

pub record CatalogueRows : Type 0 where
  pub units : List UnitRow
  pub places : PlaceRows
  pub elements : List ElementRow
  pub containers : List ContainerRow
  pub housings : List HousingRow

-- ---- what rows say

-- the tree of a row, with what is below it and beside it, or nothing if there is no row
abbrev pub grow : Option Link → (ℕ → Forest ℕ) → Forest ℕ → Forest ℕ
grow None below beside = Empty
grow (Some row) below beside = Node row.id (below row.id) beside

-- The forest of link rows below a parent: the row at each place from k on, with the rows below it, until there is none.
-- `fuel` is more than the number of rows.
abbrev pub forest_of_links : ℕ → List Link → Option ℕ → ℕ → Forest ℕ
forest_of_links zero links parent k = Empty
forest_of_links (suc fuel) links parent k =
    grow (find (is_at parent k) links) (λ u. forest_of_links fuel links (Some u) 1) (forest_of_links fuel links parent (k + 1))

-- the forest of span rows in ascending lft: what lies inside the first row is below it, and the rest beside it
abbrev pub forest_of_spans : ℕ → List Span → Forest ℕ
forest_of_spans zero spans = Empty
forest_of_spans (suc fuel) [] = Empty
forest_of_spans (suc fuel) (span ∷ spans) =
    Node span.id
    (forest_of_spans fuel (filter (λ (other : Span). nat_lt other.lft span.rgt) spans))
    (forest_of_spans fuel (filter (λ (other : Span). not (nat_lt other.lft span.rgt)) spans))

abbrev pub places_said : PlaceRows → Forest ℕ
places_said (LinkRows links) = forest_of_links (suc (length links)) links None 1
places_said (SpanRows spans) = forest_of_spans (suc (length spans)) spans

abbrev pub box_from : ContainerRow → BoxKey
box_from row = record { name = row.name; location = row.location; kind = row.kind }

-- the text of an element of a unit
abbrev pub text_said : List ElementRow → ℕ → ℕ → Option Bytes
text_said elements u k =
    option_map (λ (row : ElementRow). row.value)
    (find (λ (row : ElementRow). nat_eq row.unit u && nat_eq row.k (after_level k)) elements)

-- the rows of a unit
abbrev pub housings_of : ℕ → List HousingRow → List HousingRow
housings_of u housings = filter (λ (row : HousingRow). nat_eq row.unit u) housings
