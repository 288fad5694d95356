-- What a migration does: the places were links, and become nested sets.
use Rattle.std.specs.Prelude.{◌≡◌, ℕ, List, [], ◌∷◌, Result, OnOk, OnErr, IfErr}
use Rattle.sqlite_trees.specs.declared.store.Store as store
use Rattle.sqlite.specs.Effect.{Database}
use Rattle.sqlite.specs.Held.{Held, state}
use Rattle.sqlite.specs.Order.{Row}
use Rattle.sqlite.specs.State.{State, HasCleanDisk}
use Rattle.tree_core.specs.Forest.{Forest}
use Rattle.office_tables.specs.Versions.{Version, First, Second}
use Rattle.office_tables.specs.Faults.{FaultsHaveCause, BlamesDisk}
use Rattle.office_tables.specs.Schema as tables
use Rattle.office_tables.specs.Step.{Continues, InTransaction, IsAborted, OnlyTouches}
use Rattle.office_tables.specs.declared.fault.StoreFault.{StoreFault}
use Rattle.catalogue_statements.specs.Rows.{office_row}
use Rattle.catalogue_statements.specs.Representation.{RepresentsOffice}
use Rattle.catalogue_statements.specs.declared.office.OfficeRow.{OfficeRow}
use Rattle.nested_sets.specs.Representation.{RepresentsSpanRows}

-- a row of the table `office`: its version, and the rest
abbrev pub VersionedRow : Type 0
VersionedRow = Version × OfficeRow

abbrev pub versioned_cells : VersionedRow → Row
versioned_cells row = office_row row.0 row.1

-- there is one row, of version 1
abbrev pub HasVersion1 : List VersionedRow → Type 0
HasVersion1 rows = (o : OfficeRow) × (rows ≡ (First, o) ∷ [])

-- the same row in version 2
abbrev pub in_version_2 : VersionedRow → VersionedRow
in_version_2 row = (Second, row.1)

-- the office's row has version 1, and there are no places yet
abbrev pub AwaitsPlaces : State → OfficeRow × Forest ℕ → Type 0
AwaitsPlaces s m = RepresentsOffice First s.now.trees m.0 × (s.now.trees tables.span.tree ≡ [])

-- the office's row has version 2, and the places are those of the forest
abbrev pub HasSpanPlaces : State → OfficeRow × Forest ℕ → Type 0
HasSpanPlaces s m = RepresentsOffice Second s.now.trees m.0 × RepresentsSpanRows s.now.trees m.1

-- A call brings the tables from version 1 to version 2: what they represent by `links`, they then represent by `spans`.
-- Only the office's row and the places change. The call blames the disk for its own failures only; if what is
-- represented is within the bounds, every fault has a cause.
pub record Migrates {S X M : Type 0} (g : store.Ghosts S) (links spans : Database → M → Type 0) (before after : Held S) (r : Result X StoreFault) (bounds : M → Type 0) : Type 0 where
  pub represents : HasCleanDisk (state g after) → (m : M) → links (state g before).now m → OnOk r (spans (state g after).now m)
  pub only : HasCleanDisk (state g after) → OnOk r (OnlyTouches (tables.office.tree ∷ tables.link.tree ∷ []) (state g before).now (state g after).now)
  pub inside : OnOk r (InTransaction Second (state g after))
  pub goes : OnOk r (Continues (state g before) (state g after))
  pub aborts : OnErr r (IsAborted (state g before) (state g after))
  pub disk : HasCleanDisk (state g after) → IfErr r (BlamesDisk (state g before) (state g after))
  pub faults : (m : M) → links (state g before).now m → bounds m → FaultsHaveCause (state g before) (state g after) r
