use Rattle.std.proofs.Common.{◌≡◌, Some, sym, ◌∙◌}
use Rattle.integrity_checks.proofs.Common.{around_in, looks_then, number_registered, state}
use Rattle.integrity_checks.proofs.DeskDefects.{bad_readers, defect_of_cards}
use Rattle.integrity_checks.proofs.ExaminationEnds.{earlier, examined, examined_last, passes_later, still}
use Rattle.integrity_checks.proofs.desk_check.load_check_desk.Goals as goal

pub returns-in_default : goal.returns-in_default
returns-in_default g c =
    let one = c.in_ok-readers.ensures in
    let db = (state g.S.Store c.args.tables.now).now.trees in
    examined one.reads.looks (λ clean. bad_readers (around_in c.args.limits.now c.args.today db) db (sym (one.answers clean) ∙ c.in_default.is))

pub returns-in_err-around : goal.returns-in_err-around
returns-in_err-around g c = passes_later c.from_residual-in_err-around.ensures c.in_ok-readers.ensures.reads.looks c.in_err-around.ensures

pub returns : goal.returns
returns g c =
    let one = c.in_ok-readers.ensures in
    let two = c.in_ok-around.ensures in
    examined_last (looks_then one.reads.looks two.reads.looks) c.check_cards.ensures (λ clean told follows.
    let db = (state g.S.Store c.args.tables.now).now.trees in
    let readers = c.in-Some.readers in
    let a = around_in c.args.limits.now c.args.today db in
    let count : number_registered db ≡ Some readers = sym (one.answers (earlier two clean)) ∙ c.in-Some.is in
    follows a (still one.reads.looks two clean count) ∙ defect_of_cards a db readers count)
