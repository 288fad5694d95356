-- Tables of any origin represent the state that their rows describe.
use Rattle.std.specs.Prelude.{◌≡◌, ℕ, false}
use Rattle.sqlite.specs.Effect.{Database}
use Rattle.sqlite.specs.Tree.{Trees}
use Rattle.tree_core.specs.Forest.{Forest}
use Rattle.office_tables.specs.Versions.{Version}
use Rattle.desk_core.specs.declared.reader.Place.TheVariants.{Shelf}
use Rattle.office_core.specs.SoundDesk.{AreFiled, AreGoodOrders, AreGoodSeats, AreGoodRuns, AreGoodReaders}
use Rattle.office_core.specs.SoundDesk.{AreGoodPermits}
use Rattle.office_core.specs.SoundOffice.{IsSoundOffice, AreTexts}
use Rattle.office_core.specs.Soundness.{ArePermitsOfUnits}
use Rattle.office_core.specs.State.{State, is_container}
use Rattle.state_encoding.specs.DeskSoundness.{AreGoodDeskDays}
use Rattle.state_encoding.specs.RowSoundness.{IsSoundCatalogue}
use Rattle.refinement.specs.AccessConditions.{CanBeJudged}
use Rattle.refinement.specs.Representation.{RepresentsState}
use Rattle.adoption.specs.Catalogue.{described_state}
use Rattle.adoption.specs.SoundTables.{AreGoodTables, AreSoundTables}

-- ---- without a cause

-- the state that the rows describe is sound, and the tables represent it
pub record RepresentsItsState (places : Trees → Forest ℕ → Type 0) (version : Version) (db : Database) : Type 0 where
  pub sound : IsSoundOffice (described_state version db)
  pub represents : RepresentsState places version db (described_state version db)

-- tables for which no cause holds represent the sound state that their rows describe
abbrev pub SoundTablesRepresentTheirState : (Trees → Forest ℕ → Type 0) → Version → Database → Type 0
SoundTablesRepresentTheirState places version db = AreSoundTables version db → RepresentsItsState places version db

-- ---- except for the rules of the day

-- A state that is sound except for the rules of the day: the holder of a container may have no seat, may have more
-- containers than the settings allow, or may not be allowed to see what is in it.
pub record IsSoundButForTheDay (s : State) : Type 0 where
  pub catalogue : IsSoundCatalogue s
  pub days : AreGoodDeskDays s
  pub filed : AreFiled s
  pub orders : AreGoodOrders s
  pub seats : AreGoodSeats s
  pub places : (c : ℕ) → is_container s c ≡ false → s.place c ≡ Shelf
  pub runs : AreGoodRuns s
  pub readers : AreGoodReaders s
  pub permits : AreGoodPermits s
  pub units : ArePermitsOfUnits s
  pub texts : AreTexts s

-- The state that the rows describe is sound except for the rules of the day, it determines who may see what, and the
-- tables represent it.
pub record RepresentsAGoodState (places : Trees → Forest ℕ → Type 0) (version : Version) (db : Database) : Type 0 where
  pub sound : IsSoundButForTheDay (described_state version db)
  pub judged : CanBeJudged (described_state version db)
  pub represents : RepresentsState places version db (described_state version db)

-- tables for which none of the causes 1 to 9 holds represent the state that their rows describe
abbrev pub GoodTablesRepresentTheirState : (Trees → Forest ℕ → Type 0) → Version → Database → Type 0
GoodTablesRepresentTheirState places version db = AreGoodTables version db → RepresentsAGoodState places version db
