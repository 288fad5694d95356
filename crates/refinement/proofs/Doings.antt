-- How carrying out a command ends, and how a call ends that passes the fault of a step on.
use Rattle.std.proofs.Common.{◌≡◌, ℕ, List, Option, Some, None, Ok, Err, Result, ap, sym, subst}
use Rattle.sqlite.specs.Held.{Held, state}
use Rattle.sqlite.specs.State as store
use Rattle.sqlite_trees.specs.declared.store.Store as trees
use Rattle.desk_core.specs.DeskRows.{Desk}
use Rattle.desk_core.specs.LegibleDesks.{IsLegible}
use Rattle.desk_core.specs.declared.refusal.Refusal.{Refusal}
use Rattle.catalogue_core.specs.Bounds.{IsKept}
use Rattle.office_tables.proofs.CallEnds.{excused_then, same_fault}
use Rattle.office_tables.proofs.CallEnds as ends
use Rattle.office_tables.proofs.Calls.{cut_after, cut_then, early, goes_then, on_err_then, on_ok_then}
use Rattle.office_tables.proofs.Causes.{still_unlimited}
use Rattle.office_tables.proofs.LaterCauses.{next_cause}
use Rattle.office_tables.specs.Calls.{Answers, Updates}
use Rattle.office_tables.specs.Faults.{HasCause, IsUnlimited}
use Rattle.office_tables.specs.declared.fault.StoreFault.TheVariants as fault
use Rattle.office_core.proofs.KeptOffices.{office_kept}
use Rattle.office_core.specs.Rules.{Reply, after, decide, refusal, result_of, step}
use Rattle.office_core.specs.State.{State}
use Rattle.office_core.specs.declared.command.Command.{Command}
use Rattle.refinement.specs.AccessConditions.{CanBeJudged}
use Rattle.refinement.specs.CommandSteps.{CarriesOut, CarriesOutStep}
use Rattle.refinement.proofs.Common.{Catalogue, Continues, Database, Forest, Goes, HasCleanDisk, IsAborted, IsErr}
use Rattle.refinement.proofs.Common.{IsErrAnd, IsSoundOffice, LeavesUnchanged, OfficeRow, Represents}
use Rattle.refinement.proofs.Common.{RepresentsDeskAlone, RepresentsState, StoreFault, Trees, Version, desk_legible}
use Rattle.refinement.proofs.Common.{office_of, tables, ⊤}
use Rattle.refinement.proofs.Crashes.{went}
use Rattle.refinement.proofs.Judged.{judged_now}

module _ (places : Trees → Forest ℕ → Type 0) (version : Version) (known : State → Type 0) (asked : Command) where
  -- it ends with a fault
  pub does_not : (old new : store.State) (r : Result Reply StoreFault) (e : StoreFault) → r ≡ Err e → IsAborted old new
      → ((s : State) → IsSoundOffice s → known s → RepresentsState places version old.now s → HasCleanDisk new → IsUnlimited old → HasCause old new e)
      → CarriesOut places version known asked old new r
  does_not old new r e is cut why =
      subst (λ (r : Result Reply StoreFault). CarriesOut places version known asked old new r) (sym is)
      (record { steps = λ clean s sound so shown. tt; goes = tt; aborts = cut; faults = λ s sound so shown clean free. why s sound so shown clean free })

  -- it reads first, and more is known then
  pub does_after : (later : State → Type 0) (a b c : store.State) (r : Result Reply StoreFault) → LeavesUnchanged a b
      → (HasCleanDisk b → (s : State) → IsSoundOffice s → known s → RepresentsState places version a.now s → later s)
      → CarriesOut places version later asked b c r → CarriesOut places version known asked a c r
  does_after later a b c r looked learns last =
      let still = λ (at_b : HasCleanDisk b) (s : State) (it : RepresentsState places version a.now s).
      subst (λ (db : Database). RepresentsState places version db s) (sym (looked.same at_b)) it in
      record {
        steps = λ clean s sound so it.
            let at_b = early (went r b c last.goes last.aborts) clean in
            last.steps clean s sound (learns at_b s sound so it) (still at_b s it);
        goes = on_ok_then r (Goes b c) (Goes a c) (λ on. goes_then looked.goes on) last.goes;
        aborts = on_err_then r (IsAborted b c) (IsAborted a c) (λ cut. cut_then looked.goes.on cut) last.aborts;
        faults = λ s sound so it. excused_then _ looked.goes.on r last.aborts (λ at_b. last.faults s sound (learns at_b s sound so it) (still at_b s it));
      }

  -- it reads first, and is refused
  pub does_refuse : (a b : store.State) (r : Reply) → LeavesUnchanged a b
      → (HasCleanDisk b → (s : State) → IsSoundOffice s → known s → RepresentsState places version a.now s → CarriesOutStep places version s asked r b.now)
      → CarriesOut places version known asked a b (Ok r)
  does_refuse a b r looked step = record { steps = step; goes = looked.goes; aborts = tt; faults = λ s sound so it clean free. tt }

-- a step where no check holds, and one where the first that holds is known
pub accepted : (s : State) (asked : Command) → refusal s asked ≡ None
    → step s asked ≡ (after s asked, Ok (result_of s asked))
accepted s asked none = ap (λ (why : Option Refusal). decide why s (after s asked) (result_of s asked)) none

pub refused : (s : State) (asked : Command) (why : Refusal) → refusal s asked ≡ Some why → step s asked ≡ (s, Err why)
refused s asked why some = ap (λ (why : Option Refusal). decide why s (after s asked) (result_of s asked)) some

pub refuses : (places : Trees → Forest ℕ → Type 0) (version : Version) (s : State) (asked : Command) (why : Refusal) (db : Database)
    → refusal s asked ≡ Some why → CarriesOutStep places version s asked (Err why) db
refuses places version s asked why db holds =
    record { told = sym (ap (λ (p : State × Reply). p.1) (refused s asked why holds)); represents = λ ok. absurd (cc) }

-- ---- a command that passes the fault of its first step on

module _ {places : Trees → Forest ℕ → Type 0} {version : Version} {known : State → Type 0} {asked : Command} {old new : store.State} (e : StoreFault) {r : Result Reply StoreFault} (handed : IsErr r × IsErrAnd r (λ f. f ≡ e)) (cut : IsAborted old new) where
  pub does_pass : ((s : State) → IsSoundOffice s → known s → RepresentsState places version old.now s → HasCleanDisk new → IsUnlimited old → HasCause old new e)
      → CarriesOut places version known asked old new r
  does_pass why = does_not places version known asked old new r e (same_fault handed) cut why

  -- the step is a call on the desk
  pub desk_passed : ((beside : ⊤) (d : Desk) → RepresentsDeskAlone old.now beside d → ⊤ → IsLegible d → HasCleanDisk new → IsUnlimited old → HasCause old new e)
      → CarriesOut places version known asked old new r
  desk_passed faults = does_pass (λ s sound so it. faults tt (tables version s).desk it.desk tt (desk_legible version s sound))

  -- on the catalogue
  pub catalogue_passed : ((o : OfficeRow) (k : Catalogue) → Represents places version old.now o k → ⊤ → IsKept k → HasCleanDisk new → IsUnlimited old → HasCause old new e)
      → CarriesOut places version known asked old new r
  catalogue_passed faults =
      does_pass (λ s sound so it. faults (office_of s) s.catalogue it.catalogue tt (office_kept s sound))

  -- on all tables
  pub office_passed : ((beside : ⊤) (s : State) → RepresentsState places version old.now s → ⊤ → CanBeJudged s → HasCleanDisk new → IsUnlimited old → HasCause old new e)
      → CarriesOut places version known asked old new r
  office_passed faults = does_pass (λ s sound so it. faults tt s it tt (judged_now s sound))

-- ---- a command that reads first

module _ {places : Trees → Forest ℕ → Type 0} {version : Version} {known : State → Type 0} {asked : Command} {a b : store.State} (looked : LeavesUnchanged a b) where
  -- and more is known for its last step
  pub does_then : {later : State → Type 0} {c : store.State} {r : Result Reply StoreFault}
      → CarriesOut places version later asked b c r
      → (HasCleanDisk b → (s : State) → IsSoundOffice s → known s → RepresentsState places version a.now s → later s)
      → CarriesOut places version known asked a c r
  does_then {later} {c} {r} last learns = does_after places version known asked later a b c r looked learns last

  -- and knows no more
  pub after_look : {c : store.State} {r : Result Reply StoreFault} → CarriesOut places version known asked b c r
      → CarriesOut places version known asked a c r
  after_look last = does_then last (λ clean s sound so it. so)

  -- and a check holds
  pub is_refused : {why : Refusal}
      → (HasCleanDisk b → (s : State) → IsSoundOffice s → known s → RepresentsState places version a.now s → refusal s asked ≡ Some why)
      → CarriesOut places version known asked a b (Ok (Err why))
  is_refused {why} holds =
      does_refuse places version known asked a b (Err why) looked (λ clean s sound so it. refuses places version s asked why b.now (holds clean s sound so it))

-- ---- a call on tables that ends with a fault

-- there was no memory for what was read
pub tells_full : {S X Stays Model : Type 0} {g : trees.Ghosts S} {represents : Database → Stays → Model → Type 0} {kept may : Model → Type 0} {before after : Held S} {r : Result X StoreFault} {answer : Stays → Model → X → Type 0}
    → IsErr r × IsErrAnd r (λ f. f ≡ fault.Memory) → LeavesUnchanged (state g before) (state g after)
    → Answers g represents before after r may kept answer
tells_full {g = g} {represents = represents} {kept = kept} {may = may} {before = before} {after = after} {r = r} {answer = answer} full looked =
    ends.tells_not (same_fault full) (cut_after looked.goes.on) (λ s m it allowed within clean free. tt)

-- it passes the fault of a step on
module _ {S X Stays Model : Type 0} {g : trees.Ghosts S} {represents : Database → Stays → Model → Type 0} {kept may : Model → Type 0} {before after : Held S} (e : StoreFault) {r : Result X StoreFault} (handed : IsErr r × IsErrAnd r (λ f. f ≡ e)) where
  -- of its first step
  module _ (cut : IsAborted (state g before) (state g after))
      (why : (s : Stays) (m : Model) → represents (state g before).now s m → may m → kept m → HasCleanDisk (state g after) → IsUnlimited (state g before) → HasCause (state g before) (state g after) e) where
    pub tells_passed : {answer : Stays → Model → X → Type 0} → Answers g represents before after r may kept answer
    tells_passed {answer} = ends.tells_not (same_fault handed) cut why

    pub makes_passed : {made : Model → Model} {touched : List ℕ}
        → Updates g touched represents before after r may kept made
    makes_passed {made} {touched} =
        ends.makes_not (same_fault handed) cut why

  -- of a later one
  pub tells_passed_later : {b : store.State} {answer : Stays → Model → X → Type 0} → LeavesUnchanged (state g before) b
      → IsAborted b (state g after)
      → ((s : Stays) (m : Model) → represents b.now s m → may m → kept m → HasCleanDisk (state g after) → IsUnlimited b → HasCause b (state g after) e)
      → Answers g represents before after r may kept answer
  tells_passed_later {b} {answer} looked cut why =
      let a = state g before in
      let c = state g after in
      ends.tells_not (same_fault handed) (cut_then looked.goes.on cut) (λ s m it allowed within clean free.
      next_cause a b c looked.goes.on cut clean e
      (λ at_b. why s m (subst (λ (db : Database). represents db s m) (sym (looked.same at_b)) it) allowed within clean (still_unlimited a b looked.goes.on free)))

  -- and it changed tables before
  pub makes_passed_later : (mid : Held S) {made : Model → Model} {touched : List ℕ}
      → Continues (state g before) (state g mid) → IsAborted (state g mid) (state g after)
      → ((s : Stays) (m : Model) → represents (state g before).now s m → may m → kept m → HasCleanDisk (state g mid) → HasCleanDisk (state g after) → IsUnlimited (state g mid) → HasCause (state g mid) (state g after) e)
      → Updates g touched represents before after r may kept made
  makes_passed_later mid {made} {touched} on cut why =
      ends.makes_cut (same_fault handed) on cut why
