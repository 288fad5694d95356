use Rattle.std.proofs.Common.{map, ◌&&◌, sym, ap, ◌∙◌}
use Rattle.integrity_checks.proofs.Common.{permit_record, state}
use Rattle.integrity_checks.proofs.ExaminationEnds.{examined}
use Rattle.integrity_checks.proofs.JudgedTables.{permits_judged}
use Rattle.integrity_checks.proofs.desk_rows.permits_are_good.Goals as goal
use Rattle.integrity_checks.proofs.desk_rows.permits_are_good.Goals.{then-all, else-all}

pub returns : goal.returns
returns g c = examined c.in_ok-all.ensures.reads.looks (λ clean a held.
    let old = state g.S.Store c.args.tables.now in
    let all = c.in_ok-all.all in
    let good = c.in_ok-are_good.are_good in
    let judged = permits_judged c.args.around.now a old.now.trees held (map permit_record all.rows.items) all.are_read good (c.in_ok-all.ensures.answers clean)
    (λ b e around is. c.in_ok-are_good.ensures b e around (is ∙ ap (map permit_record) (sym c.deref.ensures.value))) in
    elim c.if-all.branch [
      | then-all w ↦ w.result-is ∙ ap (λ b. b && good) (sym w.if-all.true) ∙ judged
      | else-all w ↦ w.result-is ∙ w.if-all.false ∙ ap (λ b. b && good) (sym w.if-all.false) ∙ judged
    ])
