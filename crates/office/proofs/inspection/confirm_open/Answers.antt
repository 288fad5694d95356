use Rattle.std.proofs.Common.{[], rules}
use Rattle.office_tables.proofs.Errors.{stops}
use Rattle.office_tables.proofs.Transactions.{begin_cause, begin_text}
use Rattle.office.proofs.Common.{ConfirmsOpen, HasCleanDisk, fault_of, state}
use Rattle.office.proofs.Adoptions.{not_prepared}
use Rattle.office.proofs.HandedOn.{handed_on}
use Rattle.office.proofs.inspection.confirm_open.Goals as goal

pub returns-in_err-prepare : goal.returns-in_err-prepare
returns-in_err-prepare g c =
    let old = state g.S.Store c.args.conn.now in
    let new = state g.S.Store c.prepare.new.self in
    let e = c.in_err-prepare.field-0.0 in
    let not_run = λ (clean : HasCleanDisk new). not_prepared begin_text [] old new e (c.in_err-prepare.ensures.err clean []) in
    handed_on (ConfirmsOpen g.S.Store c.args.conn.now c.prepare.new.self) _ (fault_of e) c.from_residual.ensures
    (record { still_open = λ clean. tt; stopped = λ clean. stops begin_text [] old new e (not_run clean); faults = λ clean outside. begin_cause old new e (not_run clean) outside; crash = search rules })

pub returns : goal.returns
returns g c = record { still_open = λ clean. (c.in_ok-prepare.ensures.ok clean).1.0; stopped = λ clean. tt; faults = λ clean outside. tt; crash = search rules }
