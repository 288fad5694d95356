use Rattle.std.proofs.Common.{ℕ, List, [], ◌∷◌, refl}
use Rattle.office_tables.proofs.StoreCalls.{makes_not}
use Rattle.office_tables.specs.Schema as tables
use Rattle.desk_store.proofs.Common.{cut_then, goes_then, last_cause, last_touched, on_err_then, on_ok_both, on_ok_then}
use Rattle.desk_store.proofs.Common.{same_fault, state, still_unlimited, touched_wider, wider_last}
use Rattle.desk_store.proofs.RunCalls.{both_touched, lines_still, run_free, no_line, run_shown, clean_before}
use Rattle.desk_store.proofs.runs.insert_all.Goals as goal

abbrev both : List ℕ
both = tables.run.tree ∷ tables.run_line.tree ∷ []

pub returns-in_err-insert_run : goal.returns-in_err-insert_run
returns-in_err-insert_run g c =
    let a = state g.S.Store c.args.tables.now in
    let b = state g.S.Store c.insert_run.new.tables in
    let e = c.in_err-insert_run.field-0.0 in
    let last = c.in_err-insert_run.ensures in
    makes_not (same_fault c.from_residual.ensures) last.leaves.aborts last.leaves.spares (λ beside d shown is once. last.faults d.runs shown.runs (run_free a b b c.args.run c.args.on c.args.taken.now d shown is))

pub returns : goal.returns
returns g c =
    let a = state g.S.Store c.args.tables.now in
    let b = state g.S.Store c.insert_run.new.tables in
    let d = state g.S.Store c.insert_lines.new.tables in
    let r = c.insert_lines.result in
    let put = c.in_ok-insert_run.ensures in
    let goes = put.leaves.goes in
    let lines = c.insert_lines.ensures in
    record {
      call = record {
        represents_updated = λ clean beside desk shown is.
            let wrote = put.puts (clean_before b d r lines.goes lines.aborts clean) in
            on_ok_both r _ _ _ (λ only has. run_shown a b d c.args.run c.args.on c.args.taken.now wrote only desk shown is has) (lines.only clean)
            (lines.represents_updated clean tt desk.run_lines (lines_still a b d c.args.run c.args.on c.args.taken.now wrote.only desk shown) tt);
        only = λ clean.
            let wrote = put.puts (clean_before b d r lines.goes lines.aborts clean) in
            on_ok_then r _ _ (both_touched a b d c.args.run c.args.on c.args.taken.now wrote.only) (lines.only clean);
        goes = on_ok_then r _ _ (goes_then goes) lines.goes;
        aborts = on_err_then r _ _ (cut_then goes.on) lines.aborts;
        faults = λ beside desk shown is once clean free. last_cause a b d goes.on r lines.aborts clean (λ cleaner.
            lines.faults tt desk.run_lines (lines_still a b d c.args.run c.args.on c.args.taken.now (put.puts cleaner).only desk shown) tt
            (no_line a b d c.args.run c.args.on c.args.taken.now desk shown is, once) clean (still_unlimited a b goes.on free));
      };
      spares = λ clean.
          last_touched both a b d goes.on (λ before. touched_wider (tables.run.tree ∷ []) both a.now b.now refl (put.puts before).only)
          r lines.aborts clean (wider_last (tables.run_line.tree ∷ []) both b d r refl (lines.spares clean));
    }
