use Rattle.std.proofs.Common.{◌≡◌, true, None}
use Rattle.office_core.proofs.KeptOffices.{office_kept}
use Rattle.office_core.specs.declared.command.Command.TheVariants as command
use Rattle.office_core.specs.declared.done.Done.TheVariants as done
use Rattle.catalogue_commands.proofs.Common.{AreAsked, AreEnough, TellOf, does_pass, has_unit, issued_of, office_of}
use Rattle.catalogue_commands.proofs.Common.{passed_where, permit_rows, state, tables}
use Rattle.catalogue_commands.proofs.Removed.{removes, removes_near}
use Rattle.catalogue_commands.proofs.removal.remove_beside.Goals as goal

pub returns-in_err-units : goal.returns-in_err-units
returns-in_err-units g c =
    does_pass _ c.from_residual.ensures c.in_err-units.ensures.writes.leaves.aborts
    (λ s sound so it. c.in_err-units.ensures.faults (office_of s) s.catalogue it.catalogue so.1 (office_kept s sound) (permit_rows s) it.desk.permits)

pub returns : goal.returns
returns g c =
    let a = state g.S.Store c.args.tables.now in
    let b = state g.S.Store c.remove_branch.new.tables in
    let u = c.args.unit in
    let v = g.P.Versioned.version in
    let loans = c.args.loans.now in
    passed_where g.S.Store g.P.Places.represents v (λ s. (c.args.today ≡ s.day) × (has_unit s.catalogue.forest u ≡ true) × AreAsked u s (issued_of (tables v s).desk) loans) (command.Remove u) c.args.today (done.Remove c.in_ok-units.units) a c.remove_branch.new.tables c.pass_gate_with.new.tables c.pass_gate_with.result (λ s. AreEnough loans s × TellOf s.catalogue None)
    (removes u v loans g.P.Places.represents a b c.args.today c.in_ok-units.units c.in_ok-units.ensures.removes c.in_ok-units.ensures.count)
    (λ s sound so. (removes_near u v loans s sound so.1 so.2, tt)) c.in_ok-units.ensures.writes.leaves.goes c.pass_gate_with.ensures.answers
