-- A catalogue of two units, written out, and tables that represent it.
use Rattle.std.specs.Prelude.{ℤ, pos, ◌==◌, true, false, if◌then◌else◌, List, [], ◌∷◌, Some, None, codes, map}
use Rattle.std.specs.Prelude.{replicate}
use Rattle.sqlite.specs.Effect.{Database}
use Rattle.sqlite.specs.Tree.{Trees}
use Rattle.isad_core.specs.declared.values.BoxKey.{BoxKey}
use Rattle.tree_core.specs.Forest.{Empty, Node}
use Rattle.tree_core.specs.declared.rows.Link.{Link}
use Rattle.catalogue_core.specs.CatalogueMerge.{Catalogue}
use Rattle.catalogue_statements.specs.Rows.{office_row, cells_of_unit, ElementRow, element_row}
use Rattle.catalogue_statements.specs.Rows.{numbered_container_cells, HousingRow, housing_row, link_row}
use Rattle.office_tables.specs.Versions.{First}
use Rattle.office_tables.specs.Schema.{schema, office, unit, element, container, housing, link}
use Rattle.catalogue_core.specs.Units.{Unit}
use Rattle.catalogue_statements.specs.declared.office.OfficeRow.{OfficeRow}

-- ---- the catalogue

abbrev pub first_box : BoxKey
first_box = record { name = codes "Box 1"; location = codes "Shelf 3"; kind = [] }

-- a fonds in a container, with its code and its title
abbrev pub dock_fonds : Unit
dock_fonds = record {
  id = 1;
  source = codes "docks";
  legacy = codes "10";
  values = record { level = codes "Fonds"; texts = Some (codes "HUL") ∷ Some (codes "Hull Dock Company") ∷ replicate 23 None; boxes = first_box ∷ [] };
  draft = false;
  until = None;
}

-- a series below it: a draft, closed until 2024-12-31 (on that day it is open), with its title and its extent
abbrev pub dock_series : Unit
dock_series = record {
  id = 2;
  source = codes "docks";
  legacy = codes "11";
  values = record { level = codes "Series"; texts = None ∷ Some (codes "Minutes") ∷ None ∷ Some (codes "2 m") ∷ replicate 21 None; boxes = [] };
  draft = true;
  until = Some (pos 20088);
}

abbrev pub example_catalogue : Catalogue
example_catalogue = record { forest = Node dock_fonds (Node dock_series Empty Empty) Empty; containers = first_box ∷ []; next = 3 }

-- ---- its tables; the others are empty

abbrev pub settings : OfficeRow
settings = record { country = codes "GB"; repo = codes "0999"; seats = 2; daily = 3; hands = 1; run_size = 2; day = pos 19783; next_unit = 3 }

abbrev pub element_rows : List (ℤ × ElementRow)
element_rows =
    (pos 1, record { unit = 1; k = 1; value = codes "HUL" }) ∷ (pos 2, record { unit = 1; k = 2; value = codes "Hull Dock Company" })
    ∷ (pos 3, record { unit = 2; k = 2; value = codes "Minutes" }) ∷ (pos 4, record { unit = 2; k = 5; value = codes "2 m" }) ∷ []

abbrev pub housing_rows : List (ℤ × HousingRow)
housing_rows = (pos 1, record { unit = 1; ord = 1; container = 1 }) ∷ []

abbrev pub link_rows : List Link
link_rows = record { id = 1; parent = None; ord = 1 } ∷ record { id = 2; parent = Some 1; ord = 1 } ∷ []

abbrev pub example_trees : Trees
example_trees tree =
    if tree == office.tree then office_row First settings ∷ []
    else if tree == unit.tree then cells_of_unit dock_fonds ∷ cells_of_unit dock_series ∷ []
    else if tree == element.tree then map element_row element_rows
    else if tree == container.tree then numbered_container_cells (1, first_box) ∷ []
    else if tree == housing.tree then map housing_row housing_rows
    else if tree == link.tree then map link_row link_rows
    else []

abbrev pub example_database : Database
example_database = record { schema = schema First; trees = example_trees }
