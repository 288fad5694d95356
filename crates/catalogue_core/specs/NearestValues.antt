-- A value that is found above is that of the nearest unit above that has one (ISAD(G) 2.4).
use Rattle.std.specs.Prelude.{◌≡◌, ◌⊎◌, ℕ, ℤ, Bool, true, false, List, ◌∷◌, ◌++◌, Some, None, is_some}
use Rattle.std.specs.List.{list_any, AllByRecursion}
use Rattle.isad_core.specs.Elements.{is_found_above}
use Rattle.isad_core.specs.Values.{text_of}
use Rattle.isad_core.specs.declared.element.Element.{Element}
use Rattle.isad_core.specs.declared.display.Page.{Page}
use Rattle.isad_core.specs.declared.values.Values.{Values}
use Rattle.tree_core.specs.Forest.{Forest, path}
use Rattle.catalogue_core.specs.Units.{Unit}
use Rattle.catalogue_core.specs.PublicForest.{PublicUnit, Told, Stub, public_of}
use Rattle.catalogue_core.specs.Aids.{Repository}
use Rattle.catalogue_core.specs.Pages.{Press, PageLine, has_public_number, page_of}
use Rattle.catalogue_core.specs.PublishedUnits.{from_unit}

-- the public may know a value of this unit for the element
abbrev pub has_value : Element → PublicUnit → Bool
has_value element (Told id values) = is_some (text_of element values)
has_value element (Stub id identifier level until) = false

-- The line has the text of a unit of the path, and that unit as its origin. No unit below that one, down to the last of
-- the path, the unit of the page, has a text for the element. The text of a unit above is used only for elements that
-- are found above.
pub record IsNearestValue (at : Repository) (way : List PublicUnit) (line : PageLine) : Type 0 where
  pub above : List PublicUnit
  pub id : ℕ
  pub values : Values
  pub below : List PublicUnit
  pub stands : way ≡ above ++ Told id values ∷ below
  pub text : text_of line.0 values ≡ Some line.1
  pub named : line.2 ≡ from_unit at above (Told id values) below
  pub nearest : list_any (has_value line.0) below ≡ false
  pub found : (line.2 ≡ None) ⊎ (is_found_above line.0 ≡ true)

-- Each line of a page has the nearest value.
abbrev pub LinesAreNearest : Type 0
LinesAreNearest = (press : Press) (day : ℤ) (f : Forest Unit) (u : ℕ) (shown : Page) →
    page_of press u (public_of day f) ≡ Some shown →
    AllByRecursion (IsNearestValue press.at (path (has_public_number u) (public_of day f))) shown.lines
