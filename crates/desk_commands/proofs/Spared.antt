-- How a command ends whose calls may have spared the catalogue.
use Rattle.std.proofs.Common.{◌≡◌, ℕ, true, List, Some, Ok, Err, Result, OnErr, OnOk, ap, ◌∙◌}
use Rattle.std.specs.Prelude.{nat_eq}
use Rattle.sqlite.specs.State as store
use Rattle.sqlite_trees.specs.declared.store.Store as trees
use Rattle.desk_core.specs.DeskRows.{Desk}
use Rattle.catalogue_core.specs.Bounds.{IsKept}
use Rattle.catalogue_core.specs.CatalogueMerge.{Catalogue}
use Rattle.office_tables.specs.Calls.{Updates}
use Rattle.office_tables.specs.Faults.{HasCause, IsUnlimited}
use Rattle.office_tables.specs.declared.fault.StoreFault.{StoreFault}
use Rattle.catalogue_statements.specs.Representation.{Represents}
use Rattle.catalogue_statements.specs.declared.office.OfficeRow.{OfficeRow}
use Rattle.refinement.proofs.Crashes.{went}
use Rattle.refinement.proofs.Doings as ends
use Rattle.refinement.proofs.Tellings.{looked_crash}
use Rattle.desk_commands.proofs.Common.{CanBeJudged, CarriesOut, CarriesOutSparing, Command, Database, Forest}
use Rattle.desk_commands.proofs.Common.{HasCleanDisk, Held, IsAborted, IsErr, IsErrAnd, IsLegible, IsSoundOffice}
use Rattle.desk_commands.proofs.Common.{LeavesUnchanged, OnlyTouches, Refusal, Reply, RepresentsDeskAlone}
use Rattle.desk_commands.proofs.Common.{RepresentsState, State, Trees, Version, early, list_all, list_any, on_ok_then}
use Rattle.desk_commands.proofs.Common.{reading_room_trees, refusal, state, touched_wider, ⊤}

-- what a call that failed need not say
not_said : {X : Type 0} (r : Result X StoreFault) (e : StoreFault) (P : Type 0) → IsErr r × IsErrAnd r (λ f. f ≡ e)
    → OnOk r P
not_said (Ok x) e P h = let never = h.0 in absurd (cc)
not_said (Err f) e P h = tt

-- what a call that reads touches
reads_only : (a b : store.State) (touched : List ℕ) → LeavesUnchanged a b → HasCleanDisk b
    → OnlyTouches touched a.now b.now
reads_only a b touched looked clean tree table other = ap (λ (db : Database). db.trees tree) (looked.same clean)

-- a change of these tables alone
pub spared : {S X Stays Model : Type 0} {g : trees.Ghosts S} {touched : List ℕ} {shows : Database → Stays → Model → Type 0} {before after : Held S} {x : X} {may kept : Model → Type 0} {made : Model → Model}
    → Updates g touched shows before after (Ok x) may kept made
    → list_all (λ t. list_any (nat_eq t) reading_room_trees) touched ≡ true → HasCleanDisk (state g after)
    → OnlyTouches reading_room_trees (state g before).now (state g after).now
spared {g = g} {touched = touched} {before = before} {after = after} made within clean =
    touched_wider touched reading_room_trees (state g before).now (state g after).now within (made.only clean)

-- ---- it passes a fault on

module _ {places : Trees → Forest ℕ → Type 0} {version : Version} {known : State → Type 0} {asked : Command} {old new : store.State} (e : StoreFault) {r : Result Reply StoreFault} (handed : IsErr r × IsErrAnd r (λ f. f ≡ e)) where
  pub fails : CarriesOut places version known asked old new r → CarriesOutSparing places version known asked old new r
  fails it = record { carries = it; only = λ spares clean. not_said r e (OnlyTouches reading_room_trees old.now new.now) handed }

  module _ (cut : IsAborted old new) where
    pub does_pass : ((s : State) → IsSoundOffice s → known s → RepresentsState places version old.now s → HasCleanDisk new → IsUnlimited old → HasCause old new e)
        → CarriesOutSparing places version known asked old new r
    does_pass why = fails (ends.does_pass e handed cut why)

    pub desk_passed : ((beside : ⊤) (d : Desk) → RepresentsDeskAlone old.now beside d → ⊤ → IsLegible d → HasCleanDisk new → IsUnlimited old → HasCause old new e)
        → CarriesOutSparing places version known asked old new r
    desk_passed faults = fails (ends.desk_passed e handed cut faults)

    pub catalogue_passed : ((o : OfficeRow) (k : Catalogue) → Represents places version old.now o k → ⊤ → IsKept k → HasCleanDisk new → IsUnlimited old → HasCause old new e)
        → CarriesOutSparing places version known asked old new r
    catalogue_passed faults = fails (ends.catalogue_passed e handed cut faults)

    pub office_passed : ((beside : ⊤) (s : State) → RepresentsState places version old.now s → ⊤ → CanBeJudged s → HasCleanDisk new → IsUnlimited old → HasCause old new e)
        → CarriesOutSparing places version known asked old new r
    office_passed faults = fails (ends.office_passed e handed cut faults)

-- ---- it reads first

module _ {places : Trees → Forest ℕ → Type 0} {version : Version} {known : State → Type 0} {asked : Command} {a b : store.State} (looked : LeavesUnchanged a b) where
  pub does_then : {later : State → Type 0} {c : store.State} {r : Result Reply StoreFault}
      → CarriesOutSparing places version later asked b c r
      → (HasCleanDisk b → (s : State) → IsSoundOffice s → known s → RepresentsState places version a.now s → later s)
      → CarriesOutSparing places version known asked a c r
  does_then {later} {c} {r} last learns = record {
    carries = ends.does_then looked last.carries learns;
    only = λ spares clean.
        let at_b = early (went r b c last.goes last.aborts) clean in
        on_ok_then r (OnlyTouches reading_room_trees b.now c.now) (OnlyTouches reading_room_trees a.now c.now)
        (λ only tree table other. only tree table other ∙ ap (λ (db : Database). db.trees tree) (looked.same at_b))
        (last.only spares clean);
  }

  pub after_look : {c : store.State} {r : Result Reply StoreFault} → CarriesOutSparing places version known asked b c r
      → CarriesOutSparing places version known asked a c r
  after_look {c} {r} last =
      record { carries = ends.after_look looked last.carries; only = (does_then last (λ clean s sound so it. so)).only }

  pub is_refused : {why : Refusal}
      → (HasCleanDisk b → (s : State) → IsSoundOffice s → known s → RepresentsState places version a.now s → refusal s asked ≡ Some why)
      → CarriesOutSparing places version known asked a b (Ok (Err why))
  is_refused {why} holds = record {
    carries = ends.is_refused looked holds;
    only = λ spares clean. reads_only a b reading_room_trees looked clean;
  }

-- ---- it reads last, after it changed tables

pub judged_last : {places : Trees → Forest ℕ → Type 0} {version : Version} {known : State → Type 0} {asked : Command} (a b c : store.State) {r : Result Reply StoreFault}
    → CarriesOut places version known asked a c r
    → (HasCleanDisk b → OnlyTouches reading_room_trees a.now b.now)
    → OnOk r (LeavesUnchanged b c) → OnErr r (IsAborted b c)
    → CarriesOutSparing places version known asked a c r
judged_last a b c {r = r} it only looks cut = record {
  carries = it;
  only = λ spares clean.
      let at_b = early (looked_crash r b c looks cut) clean in
      on_ok_then r (LeavesUnchanged b c) (OnlyTouches reading_room_trees a.now c.now)
      (λ looked tree table other. ap (λ (db : Database). db.trees tree) (looked.same clean) ∙ only at_b tree table other)
      looks;
}
