-- A call that reads first, on tables that show a model: what it does when it then writes, or leaves all as it is.
use Rattle.std.proofs.Common.{◌≡◌, ℕ, true, nat_eq, List, Result, Ok, Err, OnOk, sym, subst}
use Rattle.sqlite_trees.specs.declared.store.Store as store
use Rattle.office_tables.proofs.Outcomes.{on_ok_by}
use Rattle.office_tables.specs.Faults.{HasCause}
use Rattle.office_tables.specs.declared.fault.StoreFault.TheVariants as fault
use Rattle.csv_import.proofs.Common.{Catalogue, Database, Forest, Goes, HasCleanDisk, Held, IsAborted, IsErr, IsErrAnd}
use Rattle.csv_import.proofs.Common.{LeavesUnchanged, OnlyTouches, RepresentsLegible, RepresentsNumbered, StoreFault}
use Rattle.csv_import.proofs.Common.{Trees, Updates, Version, cut_after, cut_then, early, excused_then, goes_nowhere}
use Rattle.csv_import.proofs.Common.{goes_then, list_all, list_any, makes_passed, makes_well, nothing_touched}
use Rattle.csv_import.proofs.Common.{on_err_then, on_ok_then, state, touched_wider}

-- what the last step needs, and that it makes what the call does
pub record Serves {Model : Type 0} (kept_then may_then : Model → Type 0) (made_then made : Model → Model) (m : Model) : Type 0 where
  pub within : kept_then m
  pub allowed : may_then m
  pub same : made_then m ≡ made m

module _ {S Stays Model : Type 0} {g : store.Ghosts S} {represents : Database → Stays → Model → Type 0} {kept may : Model → Type 0} {made : Model → Model} {touched : List ℕ} {before mid : Held S} (looked : LeavesUnchanged (state g before) (state g mid)) where
  -- all stays as it is, and so it should be
  pub makes_nothing : {X : Type 0} {x : X}
      → ((s : Stays) (m : Model) → represents (state g before).now s m → may m → HasCleanDisk (state g mid) → m ≡ made m)
      → Updates g touched represents before mid (Ok x) may kept made
  makes_nothing same =
      let a = state g before in
      let b = state g mid in
      makes_well looked.goes (λ clean. subst (λ db. OnlyTouches touched a.now db) (sym (looked.same clean)) (nothing_touched touched a.now))
      (λ clean s m it allowed. subst (λ k. represents b.now s k) (same s m it allowed clean) (subst (λ db. represents db s m) (sym (looked.same clean)) it))

  -- its last step writes
  pub makes_then : {X : Type 0} {after : Held S} {kept_then may_then : Model → Type 0} {made_then : Model → Model} {touched_less : List ℕ} {r : Result X StoreFault}
      → Updates g touched_less represents mid after r may_then kept_then made_then
      → list_all (λ t. list_any (nat_eq t) touched) touched_less ≡ true
      → ((s : Stays) (m : Model) → represents (state g before).now s m → may m → HasCleanDisk (state g mid) → Serves kept_then may_then made_then made m)
      → Updates g touched represents before after r may kept made
  makes_then {after = after} {touched_less = touched_less} {r = r} step less serves =
      let a = state g before in
      let b = state g mid in
      let c = state g after in
      record {
        represents_updated = λ clean s m it allowed.
            on_ok_by r (Goes b c) (represents c.now s (made m))
            (λ went.
            let at_b = early went.on.crash clean in
            let so = serves s m it allowed at_b in
            subst (λ k. OnOk r (represents c.now s k)) so.same (step.represents_updated clean s m (subst (λ db. represents db s m) (sym (looked.same at_b)) it) so.allowed))
            step.goes;
        only = λ clean.
            on_ok_by r (Goes b c) (OnlyTouches touched a.now c.now)
            (λ went.
            let at_b = early went.on.crash clean in
            on_ok_then r (OnlyTouches touched_less b.now c.now) (OnlyTouches touched a.now c.now)
            (λ only. touched_wider touched_less touched a.now c.now less (subst (λ db. OnlyTouches touched_less db c.now) (looked.same at_b) only)) (step.only clean))
            step.goes;
        goes = on_ok_then r (Goes b c) (Goes a c) (goes_then looked.goes) step.goes;
        aborts = on_err_then r (IsAborted b c) (IsAborted a c) (cut_then looked.goes.on) step.aborts;
        faults = λ s m it allowed within.
            excused_then _ looked.goes.on r step.aborts (λ at_b. let so = serves s m it allowed at_b in step.faults s m (subst (λ db. represents db s m) (sym (looked.same at_b)) it) so.allowed so.within);
      }

-- what it tells besides changes nothing of it
pub makes_same : {S X Y Stays Model : Type 0} {g : store.Ghosts S} {represents : Database → Stays → Model → Type 0} {kept may : Model → Type 0} {made : Model → Model} {touched : List ℕ} {before after : Held S} {x : X} {y : Y}
    → Updates g touched represents before after (Ok x) may kept made
    → Updates g touched represents before after (Ok y) may kept made
makes_same it = makes_well it.goes it.only it.represents_updated

-- it passes the fault of its last step on
pub makes_fault : {S X Y Stays Model : Type 0} {g : store.Ghosts S} {represents : Database → Stays → Model → Type 0} {kept may : Model → Type 0} {made : Model → Model} {touched : List ℕ} {before after : Held S} (e : StoreFault) {r : Result Y StoreFault}
    → IsErr r × IsErrAnd r (λ f. f ≡ e) → Updates {X = X} g touched represents before after (Err e) may kept made
    → Updates g touched represents before after r may kept made
makes_fault {g = g} {represents = represents} {kept = kept} {may = may} {made = made} {touched = touched} {before = before} {after = after} e {r = r} handed it =
    makes_passed e handed it.aborts it.faults

-- there was no memory for it
pub makes_full : {S X Stays Model : Type 0} {g : store.Ghosts S} {represents : Database → Stays → Model → Type 0} {kept may : Model → Type 0} {made : Model → Model} {touched : List ℕ} {held : Held S} {e : StoreFault} {r : Result X StoreFault}
    → IsErr r × IsErrAnd r (λ f. f ≡ e) → e ≡ fault.Memory → Updates g touched represents held held r may kept made
makes_full {g = g} {held = held} {e = e} handed full =
    makes_passed e handed (cut_after goes_nowhere.on) (λ s m it may kept clean free. subst (HasCause (state g held) (state g held)) (sym full) tt)

-- a call that leaves the settings
pub makes_legible : {S X : Type 0} {g : store.Ghosts S} {places : Trees → Forest ℕ → Type 0} {version : Version} {kept may : Catalogue → Type 0} {made : Catalogue → Catalogue} {touched : List ℕ} {before after : Held S} {r : Result X StoreFault}
    → Updates g touched (RepresentsNumbered places version) before after r may kept made
    → Updates g touched (RepresentsLegible places version) before after r may kept made
makes_legible {g = g} {places = places} {version = version} {made = made} {after = after} {r = r} it = record {
  represents_updated = λ clean o c shown allowed.
      on_ok_then r (RepresentsNumbered places version (state g after).now o (made c)) (RepresentsLegible places version (state g after).now o (made c))
      (λ made_so. record { tables = made_so; settings = shown.settings }) (it.represents_updated clean o c shown.tables allowed);
  only = it.only;
  goes = it.goes;
  aborts = it.aborts;
  faults = λ o c shown. it.faults o c shown.tables;
}
