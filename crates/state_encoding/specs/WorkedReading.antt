-- The rows of a small office, and the state that they describe.
use Rattle.std.specs.Prelude.{◌≡◌, ℕ, false, replicate, [], ◌∷◌, Some, None, codes, List}
use Rattle.isad_core.specs.declared.values.BoxKey.{BoxKey}
use Rattle.tree_core.specs.Forest.{Empty, Node}
use Rattle.tree_core.specs.WorkedExamples.{link_of, span_of}
use Rattle.catalogue_core.specs.Units.{Unit}
use Rattle.office_core.specs.State.{State}
use Rattle.office_tables.specs.Versions.{Version, First, Second}
use Rattle.catalogue_core.specs.CatalogueRows.{LinkRows, SpanRows}
use Rattle.state_encoding.specs.OfficeRows.{tables, state_of}
use Rattle.office_core.specs.WorkedExamples.{new_office, march_1, march_2, year_end}

abbrev pub box_named : ℕ → BoxKey
box_named letter = record { name = letter ∷ []; location = codes "L"; kind = [] }

abbrev pub unit_with_boxes : ℕ → List BoxKey → Unit
unit_with_boxes n boxes =
    record {
      id = n;
      source = codes "a";
      legacy = n ∷ [];
      values = record { level = codes "Fonds"; texts = None ∷ Some (codes "Title") ∷ None ∷ Some (codes "2 m") ∷ replicate 21 None; boxes = boxes };
      draft = false;
      until = Some march_2;
    }

-- a move has put unit 4 below unit 1, before unit 2
abbrev pub sample : State
sample =
    record new_office {
      catalogue = record {
        forest = Node (unit_with_boxes 1 (box_named 66 ∷ box_named 65 ∷ [])) (Node (unit_with_boxes 4 []) Empty (Node (unit_with_boxes 2 (box_named 65 ∷ [])) Empty Empty)) (Node (unit_with_boxes 3 []) Empty Empty);
        containers = box_named 65 ∷ box_named 66 ∷ [];
        next = 5;
      };
      readers = record { name = codes "Ann"; until = year_end } ∷ record { name = codes "Bob"; until = march_1 } ∷ [];
      seats = None ∷ Some 2 ∷ [];
      runs = record { day = march_1; lines = record { container = 2; order = 1; ticket = 1 } ∷ record { container = 1; order = 2; ticket = 2 } ∷ [] }
          ∷ record { day = march_1; lines = record { container = 1; order = 3; ticket = 1 } ∷ [] } ∷ [];
    }

-- the state that the rows of the sample describe, part by part
pub record SaysAgain (version : Version) : Type 0 where
  pub settings : (state_of (tables version sample)).settings ≡ sample.settings
  pub next : (state_of (tables version sample)).catalogue.next ≡ sample.catalogue.next
  pub forest : (state_of (tables version sample)).catalogue.forest ≡ sample.catalogue.forest
  pub boxes : (state_of (tables version sample)).catalogue.containers ≡ sample.catalogue.containers
  pub readers : (state_of (tables version sample)).readers ≡ sample.readers
  pub seats : (state_of (tables version sample)).seats ≡ sample.seats
  pub runs : (state_of (tables version sample)).runs ≡ sample.runs

pub record ReadAgain : Type 0 where
  pub linked : SaysAgain First
  pub nested : SaysAgain Second
  -- places follow the order of the units in the tree, not their numbers
  pub links : (tables First sample).catalogue.places ≡ LinkRows (link_of 1 None 1 ∷ link_of 4 (Some 1) 1 ∷ link_of 2 (Some 1) 2 ∷ link_of 3 None 2 ∷ [])
  pub spans : (tables Second sample).catalogue.places ≡ SpanRows (span_of 1 1 6 ∷ span_of 4 2 3 ∷ span_of 2 4 5 ∷ span_of 3 7 8 ∷ [])
