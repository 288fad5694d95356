use Rattle.std.proofs.Common.{◌≡◌, ◌<◌, false, nat_eq, ◌&&◌, ◌∷◌, [], ◌++◌, length, map, take, refl, sym, arith, subst}
use Rattle.office_tables.specs.Schema as tables
use Rattle.desk_store.proofs.Common.{ContainerOrder, HasNumbered, RunLineRow, early, goes_then, line_of_run, list_any}
use Rattle.desk_store.proofs.Common.{makes_cut, makes_well, next_rowid, one_at_end, run_line_cells, same_fault, state}
use Rattle.desk_store.proofs.Common.{take_all, touched_again, untouched}
use Rattle.desk_store.proofs.RunCalls.{free_line, line_more}
use Rattle.desk_store.proofs.runs.insert_lines.Goals as goal

pub loop-line-preserved : goal.loop-line-preserved
loop-line-preserved g c =
    let a = state g.S.Store c.args.tables.now in
    let b = state g.S.Store c.loop-line.tables in
    let d = state g.S.Store c.insert_line.new.tables in
    let invariant = c.loop-line.invariant in
    let last = c.in_ok-insert_line.ensures.leaves.goes in
    let i = c.loop-line.line-index in
    let low : i < length c.args.taken.now = omega (arith, c.loop-line-test.true) in (
      goes_then invariant.0 last,
      (
        λ clean. touched_again (tables.run_line.tree ∷ []) a.now b.now d.now (invariant.1.0 (early last.on.crash clean)) (c.in_ok-insert_line.ensures.puts clean).only,
        λ clean ls at.
            let before = invariant.1.1 (early last.on.crash clean) ls at in
            let put = c.in_ok-insert_line.ensures.puts clean in
            let one = one_at_end run_line_cells (λ _. refl) (b.now.trees tables.run_line.tree) (d.now.trees tables.run_line.tree) _ (next_rowid (b.now.trees tables.run_line.tree)) _ before put.rows put.fresh in
            let here = subst (λ (x : ContainerOrder). HasNumbered run_line_cells (d.now.trees tables.run_line.tree) ((ls ++ map (line_of_run c.args.run) (take i c.args.taken.now)) ++ line_of_run c.args.run x ∷ [])) c.line-item.is one in
            subst (HasNumbered run_line_cells (d.now.trees tables.run_line.tree)) (line_more c.args.run ls c.args.taken.now i c.line-item.result low) here,
      ),
    )

pub returns-in_err-insert_line : goal.returns-in_err-insert_line
returns-in_err-insert_line g c =
    let b = state g.S.Store c.loop-line.tables in
    let d = state g.S.Store c.insert_line.new.tables in
    let so_far = c.loop-line.invariant in
    let i = c.loop-line.line-index in
    let low : i < length c.args.taken.now = omega (arith, c.loop-line-test.true) in
    let touched = tables.run_line.tree ∷ [] in
    let last = c.in_err-insert_line.ensures in
    makes_cut (same_fault c.from_residual.ensures) so_far.0.on so_far.1.0 last.leaves.aborts (λ clean. untouched touched b d c.in_err-insert_line.field-0.0 (last.leaves.spares clean)) (λ beside ls at may kept before clean free. last.faults _ (so_far.1.1 before ls at) (subst (λ (x : ContainerOrder). list_any (λ (l : RunLineRow). nat_eq c.args.run l.run && nat_eq x.container l.container) (ls ++ map (line_of_run c.args.run) (take i c.args.taken.now)) ≡ false) (sym c.line-item.is) (free_line c.args.run ls c.args.taken.now i c.line-item.result kept.0 kept.1 low)) clean free)

pub returns : goal.returns
returns g c =
    let d = state g.S.Store c.loop-line.tables in
    let so_far = c.loop-line.invariant in
    let all = take_all c.loop-line.line-index c.args.taken.now (omega (arith, c.loop-line-test.false)) in
    makes_well so_far.0 so_far.1.0 (λ clean beside ls at may.
    subst (λ taken. HasNumbered run_line_cells (d.now.trees tables.run_line.tree) (ls ++ map (line_of_run c.args.run) taken)) all (so_far.1.1 clean ls at))
