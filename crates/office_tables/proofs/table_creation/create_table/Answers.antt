use Rattle.std.proofs.Common.{◌∙◌, IsUtf8, rules, refl}
use Rattle.office_tables.proofs.Common.{CreateTable, IsAborted, state}
use Rattle.office_tables.proofs.Calls.{early, known_in, write_cut, write_continues}
use Rattle.office_tables.proofs.Creations.{creates}
use Rattle.office_tables.proofs.CreationCauses.{table_cause}
use Rattle.office_tables.proofs.WriteCauses.{write_disk}
use Rattle.office_tables.proofs.table_creation.create_table.Goals as goal

pub returns-in_err-execute-clause-aborts : goal.returns-in_err-execute-clause-aborts
returns-in_err-execute-clause-aborts g c there start before after making defines =
    let old = state g.S.Store c.args.conn.now in
    let new = state g.S.Store c.execute.new.self in
    let cut : IsAborted old new = write_cut c.args.text.now _ old new CreateTable refl (λ clean. known_in before c.args.text.now CreateTable old (making clean).0.schema_is (making clean).1 defines.says.is defines.says.plain)
    c.in_err-execute.field-0.0 c.in_err-execute.ensures.runs c.execute.ensures.survives in
    search (rules, cut)

pub returns-clause-made : goal.returns-clause-made
returns-clause-made g c there start before after making defines =
    let old = state g.S.Store c.args.conn.now in
    let new = state g.S.Store c.execute.new.self in
    let on = write_continues c.args.text.now _ old new CreateTable refl (λ clean. known_in before c.args.text.now CreateTable old (making clean).0.schema_is (making clean).1 defines.says.is defines.says.plain)
    (λ clean. (creates there before after c.args.text.now start old new c.in_ok-execute.field-0 (making (early c.execute.ensures.survives clean)).0 (c.in_ok-execute.ensures.runs clean) defines).1) c.execute.ensures.survives in
    (on, λ clean. ((creates there before after c.args.text.now start old new c.in_ok-execute.field-0 (making (early on.crash clean)).0 (c.in_ok-execute.ensures.runs clean) defines).0, (on.within clean).mode ∙ (making (early on.crash clean)).1))

pub returns-in_err-execute-clause-disk : goal.returns-in_err-execute-clause-disk
returns-in_err-execute-clause-disk g c there start before after making defines clean =
    let old = state g.S.Store c.args.conn.now in
    let new = state g.S.Store c.execute.new.self in
    let before_clean = early c.execute.ensures.survives clean in
    let fair = write_disk c.args.text.now _ old new CreateTable refl (known_in before c.args.text.now CreateTable old (making before_clean).0.schema_is (making before_clean).1 defines.says.is defines.says.plain) c.in_err-execute.field-0.0 (c.in_err-execute.ensures.runs clean) in
    search (rules, fair)

pub returns-in_err-execute-clause-faults : goal.returns-in_err-execute-clause-faults
returns-in_err-execute-clause-faults g c there start before after making defines clean =
    let old = state g.S.Store c.args.conn.now in
    let new = state g.S.Store c.execute.new.self in
    let made = (making (early c.execute.ensures.survives clean)).0 in
    let utf8 : IsUtf8 c.args.text.now = search rules in
    let why = table_cause there before after c.args.text.now utf8 defines old new made.schema_is c.in_err-execute.field-0.0 (c.in_err-execute.ensures.runs clean) in
    search (rules, why)
