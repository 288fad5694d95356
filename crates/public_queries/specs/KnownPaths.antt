-- What is known of a unit and its path before texts are read.
use Rattle.std.specs.Prelude.{◌≡◌, ℕ, true, List, map, find}
use Rattle.tree_core.specs.Forest.{nodes, path}
use Rattle.catalogue_core.specs.Descriptions.{HasAllPlaces, KnowsItsContainers}
use Rattle.catalogue_core.specs.CatalogueMerge.{Catalogue}
use Rattle.catalogue_core.specs.UnitMarks.{AreMarks, AreWalkMarks}
use Rattle.catalogue_core.specs.Units.{Unit, has_id}
use Rattle.visibility.specs.declared.marks.Mark.{Mark}
use Rattle.catalogue_statements.specs.declared.office.OfficeRow.{OfficeRow}
use Rattle.office_core.specs.State.{State}
use Rattle.refinement.specs.Representation.{office_of}
use Rattle.catalogue_store.specs.Heads.{head_of}
use Rattle.public_queries.specs.HeadLines.{shows_last}
use Rattle.public_queries.specs.OwnRows.{is_closed_there, is_open_there}

-- the values of every unit can be read: each has a place for every text, and its containers are known
pub record IsTellable (c : Catalogue) : Type 0 where
  pub places : HasAllPlaces c
  pub containers : KnowsItsContainers c

-- the office's row and the marks of its units are known
pub record RepresentsKnown (known : OfficeRow) (forest : List Mark) (s : State) : Type 0 where
  pub office : known ≡ office_of s
  pub walk : AreWalkMarks s.catalogue.forest forest

-- and the marks of the path of a unit
pub record RepresentsMarked (known : OfficeRow) (forest : List Mark) (unit : ℕ) (marks : List Mark) (s : State) : Type 0 where
  pub own : RepresentsKnown known forest s
  pub marks_are : AreMarks (path (has_id unit) s.catalogue.forest) marks

-- the office's row and the path of a unit are known, and the public is shown the unit
pub record RepresentsPath (known : OfficeRow) (unit : ℕ) (way : List ℕ) (s : State) : Type 0 where
  pub office : known ≡ office_of s
  pub way_is : way ≡ map (λ (u : Unit). u.id) (path (has_id unit) s.catalogue.forest)
  pub shown : shows_last s.day (map head_of (path (has_id unit) s.catalogue.forest)) ≡ true

-- the same, and the marks of all units
pub record RepresentsShown (known : OfficeRow) (forest : List Mark) (unit : ℕ) (way : List ℕ) (s : State) : Type 0 where
  pub at : RepresentsPath known unit way s
  pub walk : AreWalkMarks s.catalogue.forest forest

-- the marks of the path of a unit are known, and the public is shown the unit, which is not closed
pub record RepresentsWay (known : OfficeRow) (forest : List Mark) (unit : ℕ) (marks : List Mark) (s : State) : Type 0 where
  pub marked : RepresentsMarked known forest unit marks s
  pub shown : shows_last s.day (map head_of (path (has_id unit) s.catalogue.forest)) ≡ true
  pub open_is : is_open_there s.day (find (has_id unit) (nodes s.catalogue.forest)) ≡ true

-- the same of the path of a unit that is closed
pub record RepresentsStub (known : OfficeRow) (unit : ℕ) (way : List ℕ) (s : State) : Type 0 where
  pub at : RepresentsPath known unit way s
  pub closed : is_closed_there s.day (find (has_id unit) (nodes s.catalogue.forest)) ≡ true
