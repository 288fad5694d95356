use Rattle.std.proofs.Common.{Ok, Err}
use Rattle.desk_store.proofs.Common.{same_fault}
use Rattle.desk_store.proofs.Creations.{holding_defined, run_defined, run_line_defined}
use Rattle.desk_store.proofs.TableSteps.{makes_one, makes_not, makes_next}
use Rattle.desk_store.proofs.table_creation.create_runs.Goals as goal

pub returns-in_err-create_table : goal.returns-in_err-create_table
returns-in_err-create_table g c = makes_not (same_fault c.from_residual.ensures) (makes_one g.S.Store c.args.conn.now c.create_table.new.conn (Err c.in_err-create_table.field-0.0) holding_defined c.in_err-create_table.ensures.made c.in_err-create_table.ensures.faults c.in_err-create_table.ensures.aborts)

pub returns-in_err-create_table-2 : goal.returns-in_err-create_table-2
returns-in_err-create_table-2 g c =
    let step1 = makes_one g.S.Store c.args.conn.now c.create_table.new.conn (Ok c.in_ok-create_table.field-0) holding_defined c.in_ok-create_table.ensures.made c.in_ok-create_table.ensures.faults c.in_ok-create_table.ensures.aborts in
    makes_not (same_fault c.from_residual-in_err-create_table-2.ensures) (makes_next step1 (makes_one g.S.Store c.create_table.new.conn c.create_table-2.new.conn (Err c.in_err-create_table-2.field-0.0) run_defined c.in_err-create_table-2.ensures.made c.in_err-create_table-2.ensures.faults c.in_err-create_table-2.ensures.aborts))

pub returns : goal.returns
returns g c =
    let step1 = makes_one g.S.Store c.args.conn.now c.create_table.new.conn (Ok c.in_ok-create_table.field-0) holding_defined c.in_ok-create_table.ensures.made c.in_ok-create_table.ensures.faults c.in_ok-create_table.ensures.aborts in
    let step2 = makes_next step1 (makes_one g.S.Store c.create_table.new.conn c.create_table-2.new.conn (Ok c.in_ok-create_table-2.field-0) run_defined c.in_ok-create_table-2.ensures.made c.in_ok-create_table-2.ensures.faults c.in_ok-create_table-2.ensures.aborts) in
    makes_next step2 (makes_one g.S.Store c.create_table-2.new.conn c.create_table-3.new.conn c.create_table-3.result run_line_defined c.create_table-3.ensures.made c.create_table-3.ensures.faults c.create_table-3.ensures.aborts)
