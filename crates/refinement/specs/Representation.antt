-- When the tables of a connection represent the state of an office.
use Rattle.std.specs.Prelude.{ℕ}
use Rattle.sqlite.specs.Effect.{Database}
use Rattle.sqlite.specs.Tree.{Trees}
use Rattle.tree_core.specs.Forest.{Forest}
use Rattle.office_tables.specs.Versions.{Version}
use Rattle.catalogue_statements.specs.Representation.{Represents}
use Rattle.catalogue_statements.specs.declared.office.OfficeRow.{OfficeRow}
use Rattle.desk_store.specs.Representation.{RepresentsDesk}
use Rattle.office_core.specs.SoundOffice.{AreTexts}
use Rattle.office_core.specs.State.{State}
use Rattle.state_encoding.specs.OfficeRows.{tables}

-- the office's own row for a state
abbrev pub office_of : State → OfficeRow
office_of s = record {
  country = s.settings.country;
  repo = s.settings.repo;
  seats = s.settings.seats;
  daily = s.settings.daily;
  hands = s.settings.hands;
  run_size = s.settings.run_size;
  day = s.day;
  next_unit = s.catalogue.next;
}

-- The catalogue's tables represent its catalogue and its settings, the desk's tables have the rows of its desk, and its
-- texts are UTF-8.
pub record RepresentsState (places : Trees → Forest ℕ → Type 0) (version : Version) (db : Database) (s : State) : Type 0 where
  pub catalogue : Represents places version db (office_of s) s.catalogue
  pub desk : RepresentsDesk db.trees (tables version s).desk
  pub texts : AreTexts s
