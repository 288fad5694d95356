use Rattle.std.proofs.Common.{rules, ◌≡◌, ◌∙◌, ℕ, List, [], ◌∷◌, take, get_or, sym, subst, arith}
use Rattle.catalogue_statements.proofs.Common.{AreRemoved, IsUnlimited, ascending-filter, cause_then, early}
use Rattle.catalogue_statements.proofs.Common.{get_or_default, goes_nowhere, goes_then, nothing_touched, state}
use Rattle.catalogue_statements.proofs.Common.{still_unlimited, take_all, take_more, touched_again, unit_tables}
use Rattle.catalogue_statements.proofs.Common.{untouched, without_records}
use Rattle.catalogue_statements.proofs.Moves.{id_of}
use Rattle.catalogue_statements.proofs.Removals.{removed_none, removed_then, next_listed}
use Rattle.catalogue_statements.proofs.UnitFaults.{told_after}
use Rattle.catalogue_statements.proofs.WritingCalls.{only_cut, only_well}
use Rattle.catalogue_statements.proofs.units.remove_units.Goals as goal

pub loop-id-init : goal.loop-id-init
loop-id-init g c =
    let a = state g.S.Store c.args.tables.now in
    (goes_nowhere, ((λ clean. nothing_touched unit_tables a.now), λ clean xs stored up listed. removed_none a.now))

pub returns-in_err-remove_unit-clause-writes : goal.returns-in_err-remove_unit-clause-writes
returns-in_err-remove_unit-clause-writes g c =
    let b = state g.S.Store c.loop-id.tables in
    let d = state g.S.Store c.remove_unit.new.tables in
    let so_far = c.loop-id.invariant in
    let failed = c.in_err-remove_unit.ensures in
    only_cut c.in_err-remove_unit.field-0.0 c.from_residual.ensures so_far.0 so_far.1.0 failed.leaves.aborts (λ clean. untouched unit_tables b d _ (failed.leaves.spares clean))

pub returns-clause-writes : goal.returns-clause-writes
returns-clause-writes g c = let so_far = c.loop-id.invariant in only_well so_far.0 so_far.1.0

pub loop-id-preserved : goal.loop-id-preserved
loop-id-preserved g c =
    let a = state g.S.Store c.args.tables.now in
    let b = state g.S.Store c.loop-id.tables in
    let d = state g.S.Store c.remove_unit.new.tables in
    let i = c.loop-id.id-index in
    let ids = c.args.ids.now in
    let invariant = c.loop-id.invariant in
    let is : c.id-item.result ≡ get_or ids i 0 = c.id-item.is ∙ get_or_default ids i c.id-item.result 0 c.loop-id-test.true in
    let removed = rw is at c.in_ok-remove_unit.ensures in
    let last = removed.leaves.goes in (
      goes_then invariant.0 last,
      (
        (λ clean. touched_again unit_tables a.now b.now d.now (invariant.1.0 (early last.on.crash clean)) (removed.only clean)),
        λ clean xs stored up listed.
            let gone = take i ids in
            let before = invariant.1.1 (early last.on.crash clean) xs stored up listed in
            let one = removed.removes clean (without_records id_of gone xs) (before.units xs stored up) (ascending-filter _ _ xs up) (next_listed ids i xs listed c.loop-id-test.true) in
            subst (λ (l : List ℕ). AreRemoved l a.now d.now) (sym (take_more ids i 0 c.loop-id-test.true)) (removed_then gone (get_or ids i 0 ∷ []) a.now b.now d.now before one),
      ),
    )

pub returns-clause-removes : goal.returns-clause-removes
returns-clause-removes g c clean xs stored up listed =
    let a = state g.S.Store c.args.tables.now in
    let b = state g.S.Store c.loop-id.tables in
    subst (λ (l : List ℕ). AreRemoved l a.now b.now) (take_all c.loop-id.id-index c.args.ids.now (omega (arith, c.loop-id-test.false))) (c.loop-id.invariant.1.1 clean xs stored up listed)

pub returns-in_err-remove_unit-clause-faults : goal.returns-in_err-remove_unit-clause-faults
returns-in_err-remove_unit-clause-faults g c told listed clean free =
    let a = state g.S.Store c.args.tables.now in
    let b = state g.S.Store c.loop-id.tables in
    let invariant = c.loop-id.invariant in
    let before = early c.in_err-remove_unit.ensures.leaves.aborts.crash clean in
    let free_b : IsUnlimited b = still_unlimited a b invariant.0.on free in
    let why = c.in_err-remove_unit.ensures.faults (told_after (take c.loop-id.id-index c.args.ids.now) a.now b.now told (invariant.1.1 before told.units told.unit_rows told.units_rise listed)) clean free_b in
    let whole = cause_then a b (state g.S.Store c.remove_unit.new.tables) invariant.0.on before _ why in
    search (rules, whole)
