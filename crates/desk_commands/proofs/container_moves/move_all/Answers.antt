use Rattle.std.proofs.Common.{◌≡◌, ℕ, List, ◌∷◌, [], take, get_or, subst, ◌∙◌, arith}
use Rattle.office_tables.proofs.CallEnds.{makes_well}
use Rattle.office_tables.specs.Schema as tables
use Rattle.desk_commands.proofs.Common.{RepresentsDesk, early, get_or_default, goes_nowhere, goes_then}
use Rattle.desk_commands.proofs.Common.{makes_passed_later, nothing_touched, state, take_all, touched_again}
use Rattle.desk_commands.proofs.Common.{with_all_placed}
use Rattle.desk_commands.proofs.MovedAll.{next_placed}
use Rattle.desk_commands.proofs.container_moves.move_all.Goals as goal

pub loop-container-init : goal.loop-container-init
loop-container-init g c =
    record {
      goes = goes_nowhere;
      only = λ clean. nothing_touched (tables.holding.tree ∷ []) (state g.S.Store c.args.tables.now).now;
      so_far = λ clean d shown. shown;
    }

pub loop-container-preserved : goal.loop-container-preserved
loop-container-preserved g c =
    let b = state g.S.Store c.loop-container.tables in
    let d = state g.S.Store c.set_place.new.tables in
    let before = c.loop-container.invariant in
    let cs = c.args.containers.now in
    let i = c.loop-container.container-index in
    let is : c.container-item.result ≡ get_or cs i 0 =
    c.container-item.is ∙ get_or_default cs i c.container-item.result 0 c.loop-container-test.true in
    let made = rw is at c.in_ok-set_place.ensures.updates in
    record {
      goes = goes_then before.goes made.goes;
      only = λ clean. touched_again (tables.holding.tree ∷ []) (state g.S.Store c.args.tables.now).now b.now d.now (before.only (early made.goes.on.crash clean)) (made.only clean);
      so_far = λ clean m shown.
          next_placed c.args.place.now cs i m c.loop-container-test.true
          (made.represents_updated clean tt (with_all_placed c.args.place.now (take i cs) m) (before.so_far (early made.goes.on.crash clean) m shown) tt);
    }

pub returns-in_err-set_place : goal.returns-in_err-set_place
returns-in_err-set_place g c =
    let before = c.loop-container.invariant in
    let made = c.in_err-set_place.ensures.updates in
    let so_far = take c.loop-container.container-index c.args.containers.now in
    record {
      updates = makes_passed_later _ c.from_residual.ensures c.loop-container.tables before.goes.on made.aborts (λ s m shown may kept at_b.
          made.faults tt (with_all_placed c.args.place.now so_far m) (before.so_far at_b m shown) tt tt);
    }

pub returns : goal.returns
returns g c =
    record {
      updates = makes_well c.loop-container.invariant.goes c.loop-container.invariant.only (λ clean s d shown may.
          subst (λ (l : List ℕ). RepresentsDesk (state g.S.Store c.loop-container.tables).now.trees (with_all_placed c.args.place.now l d)) (take_all c.loop-container.container-index c.args.containers.now (omega (arith, c.loop-container-test.false)))
          (c.loop-container.invariant.so_far clean d shown));
    }
