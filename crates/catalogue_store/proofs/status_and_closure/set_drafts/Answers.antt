use Rattle.std.proofs.Common.{◌≡◌, ◌∙◌, ℕ, List, [], ◌∷◌, take, get_or, sym, subst, arith}
use Rattle.office_tables.specs.Schema as tables
use Rattle.catalogue_store.proofs.Common.{Catalogue, Represents, draft_step, early, get_or_default, goes_nowhere}
use Rattle.catalogue_store.proofs.Common.{goes_then, makes_cut, makes_well, nothing_touched, same_fault, state}
use Rattle.catalogue_store.proofs.Common.{status_of_none, take_all, take_more, touched_again, untouched, with_status}
use Rattle.catalogue_store.proofs.status_and_closure.set_drafts.Goals as goal

pub loop-unit-init : goal.loop-unit-init
loop-unit-init g c =
    let a = state g.S.Store c.args.tables.now in
    record {
      goes = goes_nowhere;
      represents = λ clean o k it. subst (λ (k : Catalogue). Represents g.P.Places.represents g.P.Versioned.version a.now o k) (sym (status_of_none c.args.draft k)) it;
      only = λ clean. nothing_touched (tables.unit.tree ∷ []) a.now;
    }

pub loop-unit-preserved : goal.loop-unit-preserved
loop-unit-preserved g c =
    let b = state g.S.Store c.loop-unit.tables in
    let d = state g.S.Store c.set_draft.new.tables in
    let i = c.loop-unit.unit-index in
    let units = c.args.units.now in
    let so_far = c.loop-unit.invariant in
    let is : c.unit-item.result ≡ get_or units i 0 = c.unit-item.is ∙ get_or_default units i c.unit-item.result 0 c.loop-unit-test.true in
    let drafted = rw is at c.in_ok-set_draft.ensures in
    let last = drafted.leaves.goes in
    record {
      goes = goes_then so_far.goes last;
      represents = λ clean o k it.
          let before = so_far.represents (early last.on.crash clean) o k it in
          let wrote = drafted.rows clean before.catalogue.units.units before.catalogue.units.rows before.catalogue.units.rise in
          subst (λ (ids : List ℕ). Represents g.P.Places.represents g.P.Versioned.version d.now o (with_status ids c.args.draft k)) (sym (take_more units i 0 c.loop-unit-test.true))
          (draft_step g.P.Versioned.version g.P.Places.represents g.met.P.Places.shows_same b.now d.now o k c.args.draft (take i units) (get_or units i 0) before (last.schema clean) wrote);
      only = λ clean. touched_again (tables.unit.tree ∷ []) (state g.S.Store c.args.tables.now).now b.now d.now (so_far.only (early last.on.crash clean)) (drafted.only clean);
    }

pub returns-in_err-set_draft : goal.returns-in_err-set_draft
returns-in_err-set_draft g c =
    let b = state g.S.Store c.loop-unit.tables in
    let d = state g.S.Store c.set_draft.new.tables in
    let units = c.args.units.now in
    let r = c.from_residual.result in
    let so_far = c.loop-unit.invariant in
    let failed = c.in_err-set_draft.ensures in
    makes_cut (same_fault c.from_residual.ensures) so_far.goes.on so_far.only failed.leaves.aborts (λ clean. untouched (tables.unit.tree ∷ []) b d c.in_err-set_draft.field-0.0 (failed.leaves.spares clean)) (λ o k it may _ before clean free.
    let at = (so_far.represents before o k it).catalogue.units in
    failed.faults at.units at.rows at.rise clean free)

pub returns : goal.returns
returns g c =
    let b = state g.S.Store c.loop-unit.tables in
    let so_far = c.loop-unit.invariant in
    makes_well so_far.goes so_far.only (λ clean o k it may.
    subst (λ (ids : List ℕ). Represents g.P.Places.represents g.P.Versioned.version b.now o (with_status ids c.args.draft k)) (take_all c.loop-unit.unit-index c.args.units.now (omega (arith, c.loop-unit-test.false))) (so_far.represents clean o k it))
