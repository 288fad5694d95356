use Rattle.std.proofs.Common.{map, ◌&&◌, sym, ap, ◌∙◌}
use Rattle.integrity_checks.proofs.Common.{seat_record, state}
use Rattle.integrity_checks.proofs.ExaminationEnds.{examined}
use Rattle.integrity_checks.proofs.JudgedTables.{seats_judged}
use Rattle.integrity_checks.proofs.desk_rows.seats_are_good.Goals as goal
use Rattle.integrity_checks.proofs.desk_rows.seats_are_good.Goals.{then-all, else-all}

pub returns : goal.returns
returns g c = examined c.in_ok-all.ensures.reads.looks (λ clean a held.
    let old = state g.S.Store c.args.tables.now in
    let all = c.in_ok-all.all in
    let good = c.are_good_seats-are_good.result in
    let judged = seats_judged c.args.around.now a old.now.trees held (map seat_record all.rows.items) all.are_read good (c.in_ok-all.ensures.answers clean)
    (λ b e around is. c.are_good_seats-are_good.ensures b e around (is ∙ ap (map seat_record) (sym c.deref.ensures.value))) in
    elim c.if-all.branch [
      | then-all w ↦ w.result-is ∙ ap (λ b. b && good) (sym w.if-all.true) ∙ judged
      | else-all w ↦ w.result-is ∙ w.if-all.false ∙ ap (λ b. b && good) (sym w.if-all.false) ∙ judged
    ])
