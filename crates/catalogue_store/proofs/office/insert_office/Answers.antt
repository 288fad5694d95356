use Rattle.std.proofs.Common.{rules, refl}
use Rattle.office_tables.proofs.Errors.{stops}
use Rattle.office_tables.proofs.WriteCauses.{write_disk}
use Rattle.catalogue_statements.proofs.InsertFaults.{insert_office_cause}
use Rattle.catalogue_statements.proofs.Inserts.{insert_office_text, insert_office_command, insert_office_is}
use Rattle.catalogue_statements.proofs.Inserts.{insert_office_plain, insert_office_done, insert_office_rows}
use Rattle.catalogue_statements.proofs.Inserts.{insert_office_touches, insert_office_fresh}
use Rattle.catalogue_store.proofs.Common.{HasCleanDisk, early, fault_of, in_office, office_of, spares_stopped, state}
use Rattle.catalogue_store.proofs.Common.{write_cut, write_went}
use Rattle.catalogue_store.proofs.office.insert_office.Goals as goal

pub returns-in_err-execute-clause-leaves : goal.returns-in_err-execute-clause-leaves
returns-in_err-execute-clause-leaves g c inside =
    let old = state g.S.Store c.args.conn.now in
    let new = state g.S.Store c.execute.new.self in
    let known = in_office insert_office_text insert_office_command old (office_of g.P.Versioned.version old inside) insert_office_is insert_office_plain in
    let cut = write_cut insert_office_text _ old new insert_office_command refl known c.in_err-execute.field-0.0 c.in_err-execute.ensures.runs c.execute.ensures.survives in
    let disk = λ (clean : HasCleanDisk new). write_disk insert_office_text _ old new insert_office_command refl (known (early c.execute.ensures.survives clean)) c.in_err-execute.field-0.0 (c.in_err-execute.ensures.runs clean) in
    let spared = λ (clean : HasCleanDisk new). spares_stopped old new (fault_of c.in_err-execute.field-0.0) (disk clean) (stops insert_office_text _ old new c.in_err-execute.field-0.0 (c.in_err-execute.ensures.runs clean)) in
    record { crash = cut.crash; goes = search rules; aborts = search (rules, cut); spares = λ clean. let it = spared clean in search (rules, it) }

pub returns-clause-leaves : goal.returns-clause-leaves
returns-clause-leaves g c inside =
    let old = state g.S.Store c.args.conn.now in
    let new = state g.S.Store c.execute.new.self in
    let ran = λ (clean : HasCleanDisk new). rw (c.number.ensures, c.number-version.ensures, c.words.ensures, c.words-2.ensures, c.number-2.ensures, c.from.ensures, c.number-3.ensures, c.from-2.ensures, c.number-4.ensures, c.from-3.ensures, c.number-5.ensures, c.from-4.ensures, c.day.ensures, c.cell.ensures) at (c.in_ok-execute.ensures.runs clean) in
    let at = λ (clean : HasCleanDisk new). (office_of g.P.Versioned.version old inside) (early c.execute.ensures.survives clean) in
    let done = λ (clean : HasCleanDisk new). insert_office_done old new g.P.Versioned.version c.args.row.now c.in_ok-execute.field-0 (at clean).0 (at clean).1 (ran clean) in
    let known = in_office insert_office_text insert_office_command old (office_of g.P.Versioned.version old inside) insert_office_is insert_office_plain in
    let went = write_went insert_office_text _ old new insert_office_command refl known (λ clean. ((at clean).0, (at clean).1, (done clean).0, (done clean).1)) c.execute.ensures.survives in
    record { crash = went.on.crash; goes = went; aborts = tt; spares = λ _. tt }

pub returns-clause-puts : goal.returns-clause-puts
returns-clause-puts g c inside clean =
    let old = state g.S.Store c.args.conn.now in
    let new = state g.S.Store c.execute.new.self in
    let ran = rw (c.number.ensures, c.number-version.ensures, c.words.ensures, c.words-2.ensures, c.number-2.ensures, c.from.ensures, c.number-3.ensures, c.from-2.ensures, c.number-4.ensures, c.from-3.ensures, c.number-5.ensures, c.from-4.ensures, c.day.ensures, c.cell.ensures) at (c.in_ok-execute.ensures.runs clean) in
    let at = (office_of g.P.Versioned.version old inside) (early c.execute.ensures.survives clean) in
    let v = g.P.Versioned.version in
    let row = c.args.row.now in
    let count = c.in_ok-execute.field-0 in
    record { rows = insert_office_rows old new v row count at.0 at.1 ran; only = insert_office_touches old new v row count at.0 at.1 ran; fresh = insert_office_fresh old new v row count at.0 at.1 ran }

pub returns-in_err-execute-clause-faults : goal.returns-in_err-execute-clause-faults
returns-in_err-execute-clause-faults g c inside none clean free =
    let old = state g.S.Store c.args.conn.now in
    let new = state g.S.Store c.execute.new.self in
    let ran = rw (c.number.ensures, c.number-version.ensures, c.words.ensures, c.words-2.ensures, c.number-2.ensures, c.from.ensures, c.number-3.ensures, c.from-2.ensures, c.number-4.ensures, c.from-3.ensures, c.number-5.ensures, c.from-4.ensures, c.day.ensures, c.cell.ensures) at (c.in_err-execute.ensures.runs clean) in
    let at = office_of g.P.Versioned.version old inside (early c.execute.ensures.survives clean) in
    let cause = insert_office_cause old new g.P.Versioned.version c.args.row.now at.0 at.1 c.schema.ensures.live free none c.in_err-execute.field-0.0 ran in
    search (rules, cause)
