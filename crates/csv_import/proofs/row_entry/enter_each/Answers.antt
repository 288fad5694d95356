use Rattle.std.proofs.Common.{◌≤◌, ◌+◌, [], ◌∷◌, arith, length, subst, sym}
use Rattle.csv_import.proofs.Common.{Catalogue, Counts, RepresentsEntering, catalogue_after, described_trees, early}
use Rattle.csv_import.proofs.Common.{goes_nowhere, goes_then, iter_rest, length_push, makes_passed_later, makes_well}
use Rattle.csv_import.proofs.Common.{nothing_touched, state, touched_again, zip_end, zip_first, zip_second, zip_turn}
use Rattle.csv_import.proofs.KnownUnits.{all_entered, first_comes, its_turn, others_come}
use Rattle.csv_import.proofs.Pairs.{both_begin, pair_of}
use Rattle.csv_import.proofs.RowsToCome.{counted_few}
use Rattle.csv_import.proofs.row_entry.enter_each.Goals as goal

pub loop-row-init : goal.loop-row-init
loop-row-init g c =
    record {
      few = omega arith;
      goes = goes_nowhere;
      only = λ clean. nothing_touched described_trees (state g.S.Store c.args.tables.now).now;
      so_far = λ clean o k it so. (k, it, first_comes so.0 so.1 so.2);
    }

pub count-counts-requires : goal.count-counts-requires
count-counts-requires g c =
    let both = both_begin zip_first zip_second iter_rest iter_rest c.into_iter-row-iterator.ensures.into_iter_gives c.zip-row-items.ensures.first c.iter.ensures.rest c.zip-row-items.ensures.second.0 in
    let turn = zip_turn c.args.import.now.rows.now c.args.units.now c.loop-row.yielded _ c.loop-row.row-iterator c.next.new.self c.next.result both.0 both.1 c.loop-row.yielded_by (c.in-Some.row, c.in-Some.unit) c.in-Some.is c.next.ensures.steps in
    let pair = pair_of (length c.loop-row.yielded) c.in-Some.row.now c.in-Some.unit.now turn in
    omega (arith, c.loop-row.invariant.few, pair.low, c.args.import.now.few)

pub loop-row-preserved : goal.loop-row-preserved
loop-row-preserved g c =
    let i = length c.loop-row.yielded in
    let invariant = c.loop-row.invariant in
    let both = both_begin zip_first zip_second iter_rest iter_rest c.into_iter-row-iterator.ensures.into_iter_gives c.zip-row-items.ensures.first c.iter.ensures.rest c.zip-row-items.ensures.second.0 in
    let turn = zip_turn c.args.import.now.rows.now c.args.units.now c.loop-row.yielded _ c.loop-row.row-iterator c.next.new.self c.next.result both.0 both.1 c.loop-row.yielded_by (c.in-Some.row, c.in-Some.unit) c.in-Some.is c.next.ensures.steps in
    let pair = pair_of (length c.loop-row.yielded) c.in-Some.row.now c.in-Some.unit.now turn in
    let longer = length_push c.loop-row.yielded (c.in-Some.row, c.in-Some.unit) in
    let became = c.in_ok-became.ensures in
    let step = became.updates in
    record {
      few = omega (arith, longer, subst (λ (n : Counts). n.changed + n.new + n.same ≤ i + 1) (sym c.count-counts.ensures) (counted_few c.in_ok-became.became c.loop-row.counts i invariant.few));
      goes = goes_then invariant.goes step.goes;
      only = λ clean.
          touched_again described_trees (state g.S.Store c.args.tables.now).now (state g.S.Store c.loop-row.tables).now (state g.S.Store c.enter_row.new.tables).now
          (invariant.only (early step.goes.on.crash clean)) (step.only clean);
      so_far = λ clean o k it so.
          let x = invariant.so_far (early step.goes.on.crash clean) o k it so in
          let its = its_turn x.2 pair so.0 so.1 in (
            catalogue_after c.args.import.now.source.now (c.in-Some.row.now ∷ []) x.0,
            step.represents_updated clean o x.0 x.1 its,
            others_come x.2 pair longer (became.told clean o x.0 x.1 its) c.count-counts.ensures,
          );
    }

pub returns-in_err-became-clause-updates : goal.returns-in_err-became-clause-updates
returns-in_err-became-clause-updates g c =
    let invariant = c.loop-row.invariant in
    let both = both_begin zip_first zip_second iter_rest iter_rest c.into_iter-row-iterator.ensures.into_iter_gives c.zip-row-items.ensures.first c.iter.ensures.rest c.zip-row-items.ensures.second.0 in
    let turn = zip_turn c.args.import.now.rows.now c.args.units.now c.loop-row.yielded _ c.loop-row.row-iterator c.next.new.self c.next.result both.0 both.1 c.loop-row.yielded_by (c.in-Some.row, c.in-Some.unit) c.in-Some.is c.next.ensures.steps in
    let pair = pair_of (length c.loop-row.yielded) c.in-Some.row.now c.in-Some.unit.now turn in
    let step = c.in_err-became.ensures.updates in
    makes_passed_later _ c.from_residual.ensures c.loop-row.tables invariant.goes.on step.aborts (λ o k it so kept before.
    let x = invariant.so_far before o k it so in
    step.faults o x.0 x.1 (its_turn x.2 pair so.0 so.1) tt)

pub returns-clause-updates : goal.returns-clause-updates
returns-clause-updates g c =
    let invariant = c.loop-row.invariant in
    let both = both_begin zip_first zip_second iter_rest iter_rest c.into_iter-row-iterator.ensures.into_iter_gives c.zip-row-items.ensures.first c.iter.ensures.rest c.zip-row-items.ensures.second.0 in
    let last = zip_end c.args.import.now.rows.now c.args.units.now c.loop-row.yielded _ c.loop-row.row-iterator c.next.new.self c.next.result both.0 both.1 c.loop-row.yielded_by c.in-None.is c.next.ensures.steps in
    makes_well invariant.goes invariant.only (λ clean o k it so.
    let x = invariant.so_far clean o k it so in
    let all = all_entered x.2 so.0 so.2 last in
    subst (λ (y : Catalogue). RepresentsEntering g.P.Versioned.version (state g.S.Store c.loop-row.tables).now o y) (sym all.is) x.1)

pub returns-clause-counts : goal.returns-clause-counts
returns-clause-counts g c clean o k it so =
    let both = both_begin zip_first zip_second iter_rest iter_rest c.into_iter-row-iterator.ensures.into_iter_gives c.zip-row-items.ensures.first c.iter.ensures.rest c.zip-row-items.ensures.second.0 in
    let last = zip_end c.args.import.now.rows.now c.args.units.now c.loop-row.yielded _ c.loop-row.row-iterator c.next.new.self c.next.result both.0 both.1 c.loop-row.yielded_by c.in-None.is c.next.ensures.steps in
    let x = c.loop-row.invariant.so_far clean o k it so in
    let all = all_entered x.2 so.0 so.2 last in
    (all.counts_are, all.number)
