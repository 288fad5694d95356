use Rattle.std.proofs.Common.{◌≡◌, map, ◌&&◌, sym, ap, ◌∙◌}
use Rattle.integrity_checks.proofs.Common.{looks_then, order_record, run_line_record, run_record, state}
use Rattle.integrity_checks.proofs.ExaminationEnds.{earlier, examined, still}
use Rattle.integrity_checks.proofs.JudgedTables.{runs_judged}
use Rattle.integrity_checks.proofs.desk_rows.runs_are_good.Goals as goal
use Rattle.integrity_checks.proofs.desk_rows.runs_are_good.Goals.{then-all, else-all, then-are_read, else-are_read}

pub returns : goal.returns
returns g c = examined (looks_then c.in_ok-all.ensures.reads.looks c.in_ok-lines.ensures.reads.looks) (λ clean a held are fine.
    let all = c.in_ok-all.all in
    let lines = c.in_ok-lines.lines in
    let good = c.in_ok-are_good.are_good in
    let judged = runs_judged c.args.around.now a (state g.S.Store c.args.tables.now).now.trees held (map order_record c.args.orders.now) are fine (map run_record all.rows.items) (map run_line_record lines.rows.items) all.are_read lines.are_read good
    (c.in_ok-all.ensures.answers (earlier c.in_ok-lines.ensures clean)) (still c.in_ok-all.ensures.reads.looks c.in_ok-lines.ensures clean)
    (λ b e around os rs ls sound. c.in_ok-are_good.ensures b e around os (rs ∙ ap (map run_record) (sym c.deref.ensures.value)) (ls ∙ ap (map run_line_record) (sym c.deref-2.ensures.value)) sound) in
    let both : c.if-all.are_read ≡ (all.are_read && lines.are_read) = elim c.if-all.branch [
      | then-all w ↦ w.are_read-is ∙ ap (λ b. b && lines.are_read) (sym w.if-all.true)
      | else-all w ↦ w.are_read-is ∙ w.if-all.false ∙ ap (λ b. b && lines.are_read) (sym w.if-all.false)
    ] in
    elim c.if-are_read.branch [
      | then-are_read w ↦ w.result-is ∙ ap (λ b. b && good) (sym w.if-are_read.true ∙ both) ∙ judged
      | else-are_read w ↦ w.result-is ∙ w.if-are_read.false ∙ ap (λ b. b && good) (sym w.if-are_read.false ∙ both) ∙ judged
    ])
