-- Texts and containers, as other tables change.
use Rattle.std.proofs.Common.{◌≡◌, ℕ, List, ◌∙◌}
use Rattle.office_tables.specs.Schema as tables
use Rattle.catalogue_store.proofs.Common.{AreElements, AreHoused, BoxKey, Catalogue, Database, Descriptions, ElementRow}
use Rattle.catalogue_store.proofs.Common.{HasDescriptions, HousingRow, IsDescribed, KnowsItsContainers, OfficeRow}
use Rattle.catalogue_store.proofs.Common.{RepresentsCatalogue, Trees, Values, Version, element_row, housing_row}
use Rattle.catalogue_store.proofs.Common.{still_numbered, with_boxes}

pub same_elements : (old new : Trees) (xs : List ElementRow) → new tables.element.tree ≡ old tables.element.tree
    → AreElements old xs → AreElements new xs
same_elements old new xs same at =
    record { rows = still_numbered element_row (old tables.element.tree) (new tables.element.tree) xs same at.rows }

pub same_housed : (old new : Trees) (boxes : List BoxKey) (hs : List HousingRow)
    → new tables.container.tree ≡ old tables.container.tree → new tables.housing.tree ≡ old tables.housing.tree
    → AreHoused old boxes hs → AreHoused new boxes hs
same_housed old new boxes hs containers housings at =
    record { containers = containers ∙ at.containers; apart = at.apart; rows = still_numbered housing_row (old tables.housing.tree) (new tables.housing.tree) hs housings at.rows }

pub same_descriptions : (old new : Trees) (d : Descriptions) → new tables.element.tree ≡ old tables.element.tree
    → new tables.container.tree ≡ old tables.container.tree → new tables.housing.tree ≡ old tables.housing.tree
    → HasDescriptions old d → HasDescriptions new d
same_descriptions old new d texts containers housings at = record {
  texts = same_elements old new d.elements texts at.texts;
  housings = same_housed old new d.housed.boxes d.housed.rows containers housings at.housings;
}

-- what a catalogue's tables have of both
abbrev pub descriptions_in : (v : Version) (db : Database) (o : OfficeRow) (c : Catalogue)
    → RepresentsCatalogue v db o c → Descriptions
descriptions_in v db o c at =
    record { elements = at.elements.elements; housed = record { boxes = c.containers; rows = at.housings.housings } }

pub descriptions_shown : (v : Version) (db : Database) (o : OfficeRow) (c : Catalogue)
    → (at : RepresentsCatalogue v db o c) → KnowsItsContainers c
    → HasDescriptions db.trees (descriptions_in v db o c at)
descriptions_shown v db o c at knows = record {
  texts = record { rows = at.elements.rows };
  housings = record { containers = at.containers; apart = knows.apart; rows = at.housings.rows };
}

pub same_described : (old new : Trees) (unit : ℕ) (values : Values) (boxes : List BoxKey) (xs : List ElementRow) (hs : List HousingRow)
    → new tables.element.tree ≡ old tables.element.tree → new tables.container.tree ≡ old tables.container.tree
    → new tables.housing.tree ≡ old tables.housing.tree
    → IsDescribed unit values boxes xs hs old → IsDescribed unit values boxes xs hs new
same_described old new unit values boxes xs hs texts containers housings it = record {
  elements = it.elements;
  texts = same_elements old new it.elements texts it.texts;
  texts_more = it.texts_more;
  housings = it.housings;
  housed = same_housed old new (with_boxes boxes values.boxes) it.housings containers housings it.housed;
  housed_more = it.housed_more;
}
