-- What is published of a unit.
use Rattle.std.specs.Prelude.{◌≡◌, ℕ, ℤ, false, cond, List, [], ◌∷◌, ◌++◌, Option, Some, None, map}
use Rattle.std.specs.List.{list_any}
use Rattle.isad_core.specs.Codes.{code_of}
use Rattle.isad_core.specs.Texts.{Bytes}
use Rattle.isad_core.specs.Values.{identifier, text_of}
use Rattle.isad_core.specs.declared.values.BoxKey.{BoxKey}
use Rattle.isad_core.specs.declared.values.Values.{Values}
use Rattle.catalogue_core.specs.Units.{Unit, is_unit_closed}
use Rattle.catalogue_core.specs.CatalogueMerge.{box_number}
use Rattle.catalogue_core.specs.PublicForest.{PublicUnit, Told, Stub, stub_of}
use Rattle.catalogue_core.specs.Aids.{Repository, identifier_of}
use Rattle.catalogue_core.specs.Pages.{Press, PageLine, PageBox, before_last}
use Rattle.catalogue_core.specs.Members.{StandsIn}

abbrev pub boxes_told : PublicUnit → List BoxKey
boxes_told (Told id values) = values.boxes
boxes_told (Stub id identifier level until) = []

abbrev pub last_of : List Unit → Option Unit
last_of [] = None
last_of (unit ∷ []) = Some unit
last_of (unit ∷ lower ∷ way) = last_of (lower ∷ way)

-- what is published of a unit on a day: a stub if it is closed, and otherwise its values
abbrev pub TellsOf : ℤ → Option Unit → PublicUnit → Type 0
TellsOf day None told = ⊥
TellsOf day (Some unit) told = told ≡ cond (is_unit_closed day unit) (stub_of unit unit.until) (Told unit.id unit.values)

-- What is published is of a unit of the forest, the last of one of these paths. Neither it nor a unit above it is a
-- draft, and no unit above it is closed. If the unit is closed itself, only its stub is published.
pub record IsPublished (day : ℤ) (ways : List (List Unit)) (told : PublicUnit) : Type 0 where
  pub way : List Unit
  pub stands : StandsIn way ways
  pub no_draft : list_any (λ (unit : Unit). unit.draft) way ≡ false
  pub open_above : list_any (is_unit_closed day) (before_last way) ≡ false
  pub answers : TellsOf day (last_of way) told

abbrev pub identifiers : List Unit → List Bytes
identifiers way = map (λ (unit : Unit). identifier unit.values) way

-- ---- what stands on a page

-- What a page shows as the origin of a value: the reference code of the unit that it is from, or nothing if that is the
-- unit of the page itself, with no unit of the path below it.
abbrev pub from_unit : Repository → List PublicUnit → PublicUnit → List PublicUnit → Option Bytes
from_unit at above unit [] = None
from_unit at above unit (next ∷ below) = Some (code_of at.country at.repo (map identifier_of (above ++ unit ∷ [])))

-- These are the values of a unit of this path, and `from` is the origin that a page shows for them.
pub record AreToldOn (at : Repository) (way : List PublicUnit) (from : Option Bytes) (values : Values) : Type 0 where
  pub above : List PublicUnit
  pub id : ℕ
  pub below : List PublicUnit
  pub stands : way ≡ above ++ Told id values ∷ below
  pub named : from ≡ from_unit at above (Told id values) below

-- A line of a page has a text of a unit of the path.
pub record LineIsTold (at : Repository) (way : List PublicUnit) (line : PageLine) : Type 0 where
  pub values : Values
  pub of_unit : AreToldOn at way line.2 values
  pub text : text_of line.0 values ≡ Some line.1

-- A container on a page is one that a unit of the path names, with its number and its name.
pub record BoxIsTold (press : Press) (way : List PublicUnit) (told : PageBox) : Type 0 where
  pub values : Values
  pub of_unit : AreToldOn press.at way told.2 values
  pub box : BoxKey
  pub stands : StandsIn box values.boxes
  pub is : (told.0 ≡ box_number press.containers box) × (told.1 ≡ box.name)
