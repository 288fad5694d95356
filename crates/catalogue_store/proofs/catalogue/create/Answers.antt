use Rattle.std.proofs.Common.{[]}
use Rattle.sqlite.specs.Change.{KeepsRows}
use Rattle.office_tables.specs.Schema.{desk_tables}
use Rattle.office_tables.specs.Schema as tables
use Rattle.catalogue_store.proofs.Common.{BlamesDisk, Continues, Empty, Goes, InTransaction, IsSame, PutsRow}
use Rattle.catalogue_store.proofs.Common.{Represents, Spares, continues_then, early, if_err_then, making_last}
use Rattle.catalogue_store.proofs.Common.{making_not, making_then, office_row, on_ok_both, on_ok_then, same_fault}
use Rattle.catalogue_store.proofs.Common.{state}
use Rattle.catalogue_store.proofs.Beginning.{shows_beginning, desk_kept}
use Rattle.catalogue_store.proofs.catalogue.create.Goals as goal

pub returns-in_err-create_units-clause-leaves : goal.returns-in_err-create_units-clause-leaves
returns-in_err-create_units-clause-leaves g c start making =
    let step = c.in_err-create_units.ensures in
    making_not (state g.S.Store c.args.conn.now) (state g.S.Store c.create_units.new.conn) c.from_residual.result c.in_err-create_units.field-0.0 (same_fault c.from_residual.ensures) (step.aborts start making) (step.disk start making) (λ clean free. step.faults start making clean)

pub returns-in_err-create_containers-clause-leaves : goal.returns-in_err-create_containers-clause-leaves
returns-in_err-create_containers-clause-leaves g c start making =
    let a0 = state g.S.Store c.args.conn.now in
    let a1 = state g.S.Store c.create_units.new.conn in
    let step1 = c.in_ok-create_units.ensures.made start making in
    let a2 = state g.S.Store c.create_containers.new.conn in
    let step = c.in_err-create_containers.ensures in
    making_then a0 a1 a2 step1.0 c.from_residual-in_err-create_containers.result c.in_err-create_containers.field-0.0 (same_fault c.from_residual-in_err-create_containers.ensures) (step.aborts start step1.1) (step.disk start step1.1) (λ clean free. step.faults start step1.1 clean)

pub returns-in_err-create-clause-leaves : goal.returns-in_err-create-clause-leaves
returns-in_err-create-clause-leaves g c start making =
    let a0 = state g.S.Store c.args.conn.now in
    let step1 = c.in_ok-create_units.ensures.made start making in
    let a2 = state g.S.Store c.create_containers.new.conn in
    let step2 = c.in_ok-create_containers.ensures.made start step1.1 in
    let on2 = continues_then step1.0 step2.0 in
    let a3 = state g.S.Store c.create.new.conn in
    let left = c.in_err-create.ensures.leaves start step2.1 in
    making_then a0 a2 a3 on2 c.from_residual-in_err-create.result c.in_err-create.field-0.0 (same_fault c.from_residual-in_err-create.ensures) left.aborts left.disk left.faults

pub returns-clause-leaves : goal.returns-clause-leaves
returns-clause-leaves g c start making =
    let a0 = state g.S.Store c.args.conn.now in
    let step1 = c.in_ok-create_units.ensures.made start making in
    let step2 = c.in_ok-create_containers.ensures.made start step1.1 in
    let on2 = continues_then step1.0 step2.0 in
    let a3 = state g.S.Store c.create.new.conn in
    let step3 = c.in_ok-create.ensures.made start step2.1 in
    let on3 = continues_then on2 (c.in_ok-create.ensures.leaves start step2.1).goes in
    let inside : InTransaction g.P.Versioned.version a3 = λ clean. ((step3 clean).0.schema_is, (step3 clean).1) in
    let a4 = state g.S.Store c.insert_office.new.conn in
    let left = c.insert_office.ensures.leaves inside in
    let r = c.insert_office.result in
    making_last a0 a3 a4 on3 r (on_ok_then r (Goes a3 a4) (Continues a3 a4) (λ last. last.on) left.goes) left.aborts (λ clean. if_err_then r (Spares IsSame a3 a4) (BlamesDisk a3 a4) (λ e it. it.disk) (left.spares clean)) (λ before. c.insert_office.ensures.faults inside (step3 before).0.empty.0)

pub returns-clause-represents : goal.returns-clause-represents
returns-clause-represents g c start making clean =
    let step1 = c.in_ok-create_units.ensures.made start making in
    let step2 = c.in_ok-create_containers.ensures.made start step1.1 in
    let on2 = continues_then step1.0 step2.0 in
    let a3 = state g.S.Store c.create.new.conn in
    let step3 = c.in_ok-create.ensures.made start step2.1 in
    let on3 = continues_then on2 (c.in_ok-create.ensures.leaves start step2.1).goes in
    let inside : InTransaction g.P.Versioned.version a3 = λ clean. ((step3 clean).0.schema_is, (step3 clean).1) in
    let a4 = state g.S.Store c.insert_office.new.conn in
    let left = c.insert_office.ensures.leaves inside in
    on_ok_both c.insert_office.result (Goes a3 a4) (PutsRow tables.office.tree (office_row g.P.Versioned.version c.args.row.now) a3.now a4.now)
    (Represents g.P.Places.represents g.P.Versioned.version a4.now c.args.row.now (record { forest = Empty; containers = []; next = c.args.row.now.next_unit }))
    (λ last puts.
    let clean3 = early last.on.crash clean in
    shows_beginning g.P.Versioned.version g.P.Places.represents g.met.P.Places.shows_same start a3.now a4.now c.args.row.now (step3 clean3).0 (last.schema clean) puts (c.in_ok-create.ensures.nothing start step2.1 clean3))
    left.goes (c.insert_office.ensures.puts inside clean)

pub returns-clause-desk : goal.returns-clause-desk
returns-clause-desk g c start making clean =
    let step1 = c.in_ok-create_units.ensures.made start making in
    let step2 = c.in_ok-create_containers.ensures.made start step1.1 in
    let on2 = continues_then step1.0 step2.0 in
    let a3 = state g.S.Store c.create.new.conn in
    let step3 = c.in_ok-create.ensures.made start step2.1 in
    let on3 = continues_then on2 (c.in_ok-create.ensures.leaves start step2.1).goes in
    let inside : InTransaction g.P.Versioned.version a3 = λ clean. ((step3 clean).0.schema_is, (step3 clean).1) in
    let a4 = state g.S.Store c.insert_office.new.conn in
    let left = c.insert_office.ensures.leaves inside in
    on_ok_both c.insert_office.result (Goes a3 a4) (PutsRow tables.office.tree (office_row g.P.Versioned.version c.args.row.now) a3.now a4.now) (KeepsRows desk_tables start.trees a4.now.trees)
    (λ last puts. desk_kept g.P.Versioned.version start a3.now a4.now c.args.row.now (step3 (early last.on.crash clean)).0 puts)
    left.goes (c.insert_office.ensures.puts inside clean)
