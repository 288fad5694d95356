use Rattle.std.proofs.Common.{rules}
use Rattle.office_tables.proofs.Common.{state}
use Rattle.office_tables.proofs.RowWrites.{went_well, was_cut, statement_spares}
use Rattle.office_tables.proofs.change_statement.change.Goals as goal

pub returns-in_err-execute-clause-leaves : goal.returns-in_err-execute-clause-leaves
returns-in_err-execute-clause-leaves g c =
    let old = state g.S.Store c.args.conn.now in
    let new = state g.S.Store c.execute.new.self in
    let cut = was_cut _ _ old new c.requires c.execute.ensures.survives c.in_err-execute.field-0.0 c.in_err-execute.ensures.runs in
    let spared = statement_spares _ _ old new c.requires c.execute.ensures.survives c.in_err-execute.field-0.0 c.in_err-execute.ensures.runs in
    record { crash = cut.crash; goes = search rules; aborts = search (rules, cut); spares = λ clean. let it = spared clean in search (rules, it) }

pub returns-clause-leaves : goal.returns-clause-leaves
returns-clause-leaves g c =
    let new = state g.S.Store c.execute.new.self in
    let went = went_well _ _ (state g.S.Store c.args.conn.now) new c.requires c.execute.ensures.survives c.in_ok-execute.field-0 c.in_ok-execute.ensures.runs in
    record { crash = went.on.crash; goes = went; aborts = tt; spares = λ _. tt }
