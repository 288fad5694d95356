use Rattle.std.proofs.Common.{rules}
use Rattle.office_tables.proofs.Common.{Continues, IsAborted, IsMaking, desk_schema, desk_tables, state}
use Rattle.office_tables.proofs.Creations.{s1, s2, s3, office_defined, unit_defined, element_defined}
use Rattle.office_tables.proofs.Calls.{cut_then, continues_then, on_ok_then, on_err_then, early}
use Rattle.office_tables.proofs.Causes.{cause_then}
use Rattle.office_tables.proofs.LaterCauses.{last_cause}
use Rattle.office_tables.proofs.WriteCauses.{disk_then, last_disk}
use Rattle.office_tables.proofs.table_creation.create_units.Goals as goal

pub returns-in_err-create_table-clause-aborts : goal.returns-in_err-create_table-clause-aborts
returns-in_err-create_table-clause-aborts g c start making =
    let a1 = state g.S.Store c.create_table.new.conn in
    let one : IsAborted (state g.S.Store c.args.conn.now) a1 = c.in_err-create_table.ensures.aborts desk_tables start desk_schema s1 making office_defined in
    search (rules, one)

pub returns-in_err-create_table-2-clause-aborts : goal.returns-in_err-create_table-2-clause-aborts
returns-in_err-create_table-2-clause-aborts g c start making =
    let step1 = c.in_ok-create_table.ensures.made desk_tables start desk_schema s1 making office_defined in
    let on1 = step1.0 in
    let a2 = state g.S.Store c.create_table-2.new.conn in
    let one : IsAborted (state g.S.Store c.create_table.new.conn) a2 = c.in_err-create_table-2.ensures.aborts desk_tables start s1 s2 step1.1 unit_defined in
    let all : IsAborted (state g.S.Store c.args.conn.now) a2 = cut_then on1 one in
    search (rules, all)

pub returns-clause-made : goal.returns-clause-made
returns-clause-made g c start making =
    let a0 = state g.S.Store c.args.conn.now in
    let a2 = state g.S.Store c.create_table-2.new.conn in
    let step1 = c.in_ok-create_table.ensures.made desk_tables start desk_schema s1 making office_defined in
    let on1 = step1.0 in
    let step2 = c.in_ok-create_table-2.ensures.made desk_tables start s1 s2 step1.1 unit_defined in
    let on2 = continues_then on1 step2.0 in
    let a3 = state g.S.Store c.create_table-3.new.conn in
    on_ok_then c.create_table-3.result (Continues a2 a3 × IsMaking desk_tables s3 start a3) (Continues a0 a3 × IsMaking desk_tables s3 start a3) (λ last. (continues_then on2 last.0, last.1))
    (c.create_table-3.ensures.made desk_tables start s2 s3 step2.1 element_defined)

pub returns-clause-aborts : goal.returns-clause-aborts
returns-clause-aborts g c start making =
    let a0 = state g.S.Store c.args.conn.now in
    let a2 = state g.S.Store c.create_table-2.new.conn in
    let step1 = c.in_ok-create_table.ensures.made desk_tables start desk_schema s1 making office_defined in
    let on1 = step1.0 in
    let step2 = c.in_ok-create_table-2.ensures.made desk_tables start s1 s2 step1.1 unit_defined in
    let on2 = continues_then on1 step2.0 in
    let a3 = state g.S.Store c.create_table-3.new.conn in
    on_err_then c.create_table-3.result (IsAborted a2 a3) (IsAborted a0 a3) (λ last. cut_then on2 last) (c.create_table-3.ensures.aborts desk_tables start s2 s3 step2.1 element_defined)

pub returns-in_err-create_table-clause-disk : goal.returns-in_err-create_table-clause-disk
returns-in_err-create_table-clause-disk g c start making clean =
    let fair = c.in_err-create_table.ensures.disk desk_tables start desk_schema s1 making office_defined clean in
    search (rules, fair)

pub returns-in_err-create_table-2-clause-disk : goal.returns-in_err-create_table-2-clause-disk
returns-in_err-create_table-2-clause-disk g c start making clean =
    let a1 = state g.S.Store c.create_table.new.conn in
    let step1 = c.in_ok-create_table.ensures.made desk_tables start desk_schema s1 making office_defined in
    let on1 = step1.0 in
    let a2 = state g.S.Store c.create_table-2.new.conn in
    let before = early (c.in_err-create_table-2.ensures.aborts desk_tables start s1 s2 step1.1 unit_defined).crash clean in
    let one = c.in_err-create_table-2.ensures.disk desk_tables start s1 s2 step1.1 unit_defined clean in
    let all = disk_then (state g.S.Store c.args.conn.now) a1 a2 on1 before _ one in
    search (rules, all)

pub returns-clause-disk : goal.returns-clause-disk
returns-clause-disk g c start making clean =
    let a0 = state g.S.Store c.args.conn.now in
    let a2 = state g.S.Store c.create_table-2.new.conn in
    let step1 = c.in_ok-create_table.ensures.made desk_tables start desk_schema s1 making office_defined in
    let on1 = step1.0 in
    let step2 = c.in_ok-create_table-2.ensures.made desk_tables start s1 s2 step1.1 unit_defined in
    let on2 = continues_then on1 step2.0 in
    let a3 = state g.S.Store c.create_table-3.new.conn in
    last_disk a0 a2 a3 on2 c.create_table-3.result (c.create_table-3.ensures.aborts desk_tables start s2 s3 step2.1 element_defined) clean (c.create_table-3.ensures.disk desk_tables start s2 s3 step2.1 element_defined clean)

pub returns-in_err-create_table-clause-faults : goal.returns-in_err-create_table-clause-faults
returns-in_err-create_table-clause-faults g c start making clean =
    let why = c.in_err-create_table.ensures.faults desk_tables start desk_schema s1 making office_defined clean in
    search (rules, why)

pub returns-in_err-create_table-2-clause-faults : goal.returns-in_err-create_table-2-clause-faults
returns-in_err-create_table-2-clause-faults g c start making clean =
    let a1 = state g.S.Store c.create_table.new.conn in
    let step1 = c.in_ok-create_table.ensures.made desk_tables start desk_schema s1 making office_defined in
    let on1 = step1.0 in
    let a2 = state g.S.Store c.create_table-2.new.conn in
    let before = early (c.in_err-create_table-2.ensures.aborts desk_tables start s1 s2 step1.1 unit_defined).crash clean in
    let one = c.in_err-create_table-2.ensures.faults desk_tables start s1 s2 step1.1 unit_defined clean in
    let all = cause_then (state g.S.Store c.args.conn.now) a1 a2 on1 before _ one in
    search (rules, all)

pub returns-clause-faults : goal.returns-clause-faults
returns-clause-faults g c start making clean =
    let a0 = state g.S.Store c.args.conn.now in
    let a2 = state g.S.Store c.create_table-2.new.conn in
    let step1 = c.in_ok-create_table.ensures.made desk_tables start desk_schema s1 making office_defined in
    let on1 = step1.0 in
    let step2 = c.in_ok-create_table-2.ensures.made desk_tables start s1 s2 step1.1 unit_defined in
    let on2 = continues_then on1 step2.0 in
    let a3 = state g.S.Store c.create_table-3.new.conn in
    last_cause a0 a2 a3 on2 c.create_table-3.result (c.create_table-3.ensures.aborts desk_tables start s2 s3 step2.1 element_defined) clean (λ _. c.create_table-3.ensures.faults desk_tables start s2 s3 step2.1 element_defined clean)
