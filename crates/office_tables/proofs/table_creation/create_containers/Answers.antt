use Rattle.std.proofs.Common.{rules}
use Rattle.office_tables.proofs.Common.{Continues, IsAborted, IsMaking, desk_tables, state}
use Rattle.office_tables.proofs.Creations.{s3, s4, s5, container_defined, housing_defined}
use Rattle.office_tables.proofs.Calls.{cut_then, continues_then, on_ok_then, on_err_then}
use Rattle.office_tables.proofs.WriteCauses.{last_disk}
use Rattle.office_tables.proofs.LaterCauses.{last_cause}
use Rattle.office_tables.proofs.table_creation.create_containers.Goals as goal

pub returns-in_err-create_table-clause-aborts : goal.returns-in_err-create_table-clause-aborts
returns-in_err-create_table-clause-aborts g c start making =
    let a1 = state g.S.Store c.create_table.new.conn in
    let one : IsAborted (state g.S.Store c.args.conn.now) a1 = c.in_err-create_table.ensures.aborts desk_tables start s3 s4 making container_defined in
    search (rules, one)

pub returns-clause-made : goal.returns-clause-made
returns-clause-made g c start making =
    let a0 = state g.S.Store c.args.conn.now in
    let a1 = state g.S.Store c.create_table.new.conn in
    let step1 = c.in_ok-create_table.ensures.made desk_tables start s3 s4 making container_defined in
    let a2 = state g.S.Store c.create_table-2.new.conn in
    on_ok_then c.create_table-2.result (Continues a1 a2 × IsMaking desk_tables s5 start a2) (Continues a0 a2 × IsMaking desk_tables s5 start a2) (λ last. (continues_then step1.0 last.0, last.1))
    (c.create_table-2.ensures.made desk_tables start s4 s5 step1.1 housing_defined)

pub returns-clause-aborts : goal.returns-clause-aborts
returns-clause-aborts g c start making =
    let a0 = state g.S.Store c.args.conn.now in
    let a1 = state g.S.Store c.create_table.new.conn in
    let step1 = c.in_ok-create_table.ensures.made desk_tables start s3 s4 making container_defined in
    let a2 = state g.S.Store c.create_table-2.new.conn in
    on_err_then c.create_table-2.result (IsAborted a1 a2) (IsAborted a0 a2) (λ last. cut_then step1.0 last) (c.create_table-2.ensures.aborts desk_tables start s4 s5 step1.1 housing_defined)

pub returns-in_err-create_table-clause-disk : goal.returns-in_err-create_table-clause-disk
returns-in_err-create_table-clause-disk g c start making clean =
    let fair = c.in_err-create_table.ensures.disk desk_tables start s3 s4 making container_defined clean in
    search (rules, fair)

pub returns-clause-disk : goal.returns-clause-disk
returns-clause-disk g c start making clean =
    let a0 = state g.S.Store c.args.conn.now in
    let a1 = state g.S.Store c.create_table.new.conn in
    let step1 = c.in_ok-create_table.ensures.made desk_tables start s3 s4 making container_defined in
    let a2 = state g.S.Store c.create_table-2.new.conn in
    last_disk a0 a1 a2 step1.0 c.create_table-2.result (c.create_table-2.ensures.aborts desk_tables start s4 s5 step1.1 housing_defined) clean (c.create_table-2.ensures.disk desk_tables start s4 s5 step1.1 housing_defined clean)

pub returns-in_err-create_table-clause-faults : goal.returns-in_err-create_table-clause-faults
returns-in_err-create_table-clause-faults g c start making clean =
    let why = c.in_err-create_table.ensures.faults desk_tables start s3 s4 making container_defined clean in
    search (rules, why)

pub returns-clause-faults : goal.returns-clause-faults
returns-clause-faults g c start making clean =
    let a0 = state g.S.Store c.args.conn.now in
    let a1 = state g.S.Store c.create_table.new.conn in
    let step1 = c.in_ok-create_table.ensures.made desk_tables start s3 s4 making container_defined in
    let a2 = state g.S.Store c.create_table-2.new.conn in
    last_cause a0 a1 a2 step1.0 c.create_table-2.result (c.create_table-2.ensures.aborts desk_tables start s4 s5 step1.1 housing_defined) clean (λ _. c.create_table-2.ensures.faults desk_tables start s4 s5 step1.1 housing_defined clean)
