-- Tables that show the catalogue of their rows show all of the state that these say.
use Rattle.std.proofs.Common.{◌≡◌, ℕ, None, sym, ap, subst}
use Rattle.std.specs.Prelude.{drop}
use Rattle.desk_store.specs.Representation.{RepresentsDesk}
use Rattle.adoption.specs.Desk.{RepresentsItsDesk}
use Rattle.adoption.proofs.Common.{AreGoodTables, AreSoundTables, Database, Forest, RepresentsAGoodState}
use Rattle.adoption.proofs.Common.{RepresentsItsCatalogue, RepresentsItsState, Trees, Version, catalogue_cell_cause}
use Rattle.adoption.proofs.Common.{catalogue_tests, cell_cause, cells_are_said, desk_tests, either_of, none_before}
use Rattle.adoption.proofs.Common.{of_desk, rows_in, unread}
use Rattle.adoption.proofs.desk.Again.{said_again, sound_but}
use Rattle.adoption.proofs.desk.DeskTables.{passed, desk_shown}
use Rattle.adoption.proofs.tables.JudgedTables.{can_be_judged}

-- without any cause, none of the first holds
first_five : (version : Version) (db : Trees) → cell_cause version db ≡ None → catalogue_cell_cause version db ≡ None
first_five version db none =
    none_before (either_of (unread version db) (catalogue_tests version (rows_in version db))) (either_of (drop 5 (unread version db)) (desk_tests (rows_in version db))) none

pub sound_are_good : (version : Version) (db : Database) → AreSoundTables version db → AreGoodTables version db
sound_are_good version db sound = record {
  schema_is = sound.schema_is;
  live = sound.live;
  ordered = sound.ordered;
  catalogue = first_five version db.trees sound.causeless;
  desk = ap of_desk sound.causeless;
}

module _ (places : Trees → Forest ℕ → Type 0) (version : Version) (db : Database) (good : AreGoodTables version db) (catalogue : RepresentsItsCatalogue places version db) where
  desk : RepresentsItsDesk version db
  desk = desk_shown version db good

  pub good_state : RepresentsAGoodState places version db
  good_state =
      let it = passed version db good in
      let state = sound_but version db.trees it catalogue.keys desk.keys in
      record {
        sound = state;
        judged = can_be_judged version db.trees it catalogue.keys desk.keys;
        represents = record {
          catalogue = catalogue.represents;
          desk = subst (RepresentsDesk db.trees) (sym (said_again version db.trees it catalogue.keys desk.keys version)) desk.represents;
          texts = state.texts;
        };
      }

module _ (places : Trees → Forest ℕ → Type 0) (version : Version) (db : Database) (sound : AreSoundTables version db) (catalogue : RepresentsItsCatalogue places version db) where
  pub sound_state : RepresentsItsState places version db
  sound_state =
      let good = sound_are_good version db sound in
      let room = desk_shown version db good in
      record {
        sound = (cells_are_said version db.trees (record { catalogue = catalogue.keys; desk = room.keys }) sound.causeless).sound;
        represents = (good_state places version db good catalogue).represents;
      }
