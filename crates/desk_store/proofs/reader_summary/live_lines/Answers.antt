use Rattle.std.proofs.Common.{◌≡◌, ◌++◌, map, subst, sym}
use Rattle.office_tables.proofs.LookUps.{looks_full, looks_passed, looks_passed_later, looks_well}
use Rattle.office_tables.specs.Schema as tables
use Rattle.desk_store.proofs.Common.{Database, IsPermutation, early, looks_then, order_cells}
use Rattle.desk_store.proofs.CardRows.{lines_together}
use Rattle.desk_store.proofs.reader_summary.live_lines.Goals as goal

pub returns-in_err-waiting : goal.returns-in_err-waiting
returns-in_err-waiting g c = looks_passed c.from_residual.ensures c.in_err-waiting.ensures c.in_err-waiting.ensures.faults

pub returns-in_err-out : goal.returns-in_err-out
returns-in_err-out g c =
    let looked = c.in_ok-waiting.ensures.reads.looks in
    looks_passed_later c.from_residual-in_err-out.ensures looked c.in_err-out.ensures
    (λ clean xs held. c.in_err-out.ensures.faults xs (subst (λ (db : Database). db.trees tables.orders.tree ≡ map order_cells xs) (sym (looked.same clean)) held))

pub returns-in_err-by_number : goal.returns-in_err-by_number
returns-in_err-by_number g c =
    looks_full c.from_residual-in_err-by_number.ensures (looks_then c.in_ok-waiting.ensures.reads.looks c.in_ok-out.ensures.reads.looks)

pub returns : goal.returns
returns g c =
    let looked = c.in_ok-waiting.ensures.reads.looks in
    looks_well (looks_then looked c.in_ok-out.ensures.reads.looks)
    (λ clean xs held counted.
    let before = early c.in_ok-out.ensures.reads.looks.goes.on.crash clean in
    let waiting = c.in_ok-waiting.ensures.answers before xs held counted in
    let out = c.in_ok-out.ensures.answers clean xs (subst (λ (db : Database). db.trees tables.orders.tree ≡ map order_cells xs) (sym (looked.same before)) held) counted in
    lines_together c.args.ticket xs counted c.in_ok-waiting.waiting.items c.in_ok-out.out.items c.in_ok-by_number.field-0.items waiting out
    (subst (λ l. IsPermutation (c.in_ok-waiting.waiting.items ++ l) c.in_ok-by_number.field-0.items) c.deref.ensures.value c.in_ok-by_number.ensures.all) c.in_ok-by_number.ensures.order)
