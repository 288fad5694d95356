use Rattle.std.proofs.Common.{◌∙◌}
use Rattle.nested_sets.proofs.Common.{Continues, First, HasCleanDisk, early, known_in, making_not, same_fault, schema}
use Rattle.nested_sets.proofs.Common.{state}
use Rattle.nested_sets.proofs.Dropping.{drop_text, drop_command, drop_says, drops, drop_cause, drop_cut, drop_continues}
use Rattle.nested_sets.proofs.Dropping.{blames}
use Rattle.nested_sets.proofs.migration_statements.drop_links.Goals as goal

pub returns-in_err-execute-clause-leaves : goal.returns-in_err-execute-clause-leaves
returns-in_err-execute-clause-leaves g c =
    let old = state g.S.Store c.args.conn.now in
    let new = state g.S.Store c.execute.new.self in
    let at = c.requires.inside in
    let known = λ (clean : HasCleanDisk old). known_in (schema First) drop_text drop_command old (at clean).0 (at clean).1 drop_says.is drop_says.plain in
    let why = λ (clean : HasCleanDisk new). drop_cause old new (at (early c.execute.ensures.survives clean)).0 c.schema.ensures.live c.in_err-execute.field-0.0 (c.in_err-execute.ensures.runs clean) in
    making_not old new c.from_residual.result _ (same_fault c.from_residual.ensures) (drop_cut old new known c.execute.ensures.survives c.in_err-execute.field-0.0 c.in_err-execute.ensures.runs)
    (λ clean. blames old new _ (why clean)) (λ clean free. why clean)

pub returns-clause-kept : goal.returns-clause-kept
returns-clause-kept g c clean =
    let new = state g.S.Store c.execute.new.self in
    let at = c.requires.inside (early c.execute.ensures.survives clean) in
    let done = drops (state g.S.Store c.args.conn.now) new at.0 c.in_ok-execute.field-0 (c.in_ok-execute.ensures.runs clean) in
    (done.0, done.1.mode ∙ at.1)

pub returns-clause-leaves : goal.returns-clause-leaves
returns-clause-leaves g c =
    let old = state g.S.Store c.args.conn.now in
    let new = state g.S.Store c.execute.new.self in
    let at = c.requires.inside in
    let known = λ (clean : HasCleanDisk old). known_in (schema First) drop_text drop_command old (at clean).0 (at clean).1 drop_says.is drop_says.plain in
    let on : Continues old new = drop_continues old new known c.execute.ensures.survives
    (λ clean. (drops old new (at (early c.execute.ensures.survives clean)).0 c.in_ok-execute.field-0 (c.in_ok-execute.ensures.runs clean)).1) in
    record { goes = on; aborts = tt; disk = λ clean. tt; faults = λ clean free. tt }
