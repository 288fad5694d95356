use Rattle.std.proofs.Common.{Some, refl}
use Rattle.office_core.specs.declared.command.Command.TheVariants as command
use Rattle.office_core.specs.declared.done.Done.TheVariants as done
use Rattle.access.proofs.Passing.{passed_where}
use Rattle.known_units.specs.KnownUnits.{TellOf}
use Rattle.access.specs.Gate.{OthersAreOpen}
use Rattle.desk_commands.proofs.Common.{state, tables}
use Rattle.desk_commands.proofs.Spared.{desk_passed, judged_last, spared}
use Rattle.desk_commands.proofs.Revoked.{gate_is_left, judged, revokes_near, represents}
use Rattle.desk_commands.proofs.revocation.take_back.Goals as goal

pub returns-in_err-revoke : goal.returns-in_err-revoke
returns-in_err-revoke g c = let made = c.in_err-revoke.ensures.updates in desk_passed _ c.from_residual.ensures made.aborts made.faults

pub returns : goal.returns
returns g c =
    let a = state g.S.Store c.args.tables.now in
    let b = state g.S.Store c.revoke.new.tables in
    let made = c.in_ok-revoke.ensures.updates in
    let told = rw c.get.ensures.same at c.pass_gate_near.ensures.answers in
    judged_last a b (state g.S.Store c.pass_gate_near.new.tables) (passed_where g.S.Store g.P.Places.represents g.P.Versioned.version _ (command.Revoke c.args.ticket c.args.unit) c.args.today (done.Revoke c.args.unit) a c.revoke.new.tables c.pass_gate_near.new.tables c.pass_gate_near.result (λ s. OthersAreOpen c.args.unit s × TellOf s.catalogue (Some c.args.known.now))
    (record {
      represents = λ clean s sound so it. represents s sound c.args.ticket c.args.unit g.P.Places.represents g.met.P.Places.shows_same g.P.Versioned.version a.now b.now it (made.goes.schema clean) (made.only clean)
          (made.represents_updated clean tt (tables g.P.Versioned.version s).desk it.desk tt);
      judged = λ s sound so. judged s sound c.args.ticket c.args.unit;
      day = λ s so. so.0;
      last = λ s so. gate_is_left s c.args.ticket c.args.unit so.1;
      answers = λ clean s so it. refl;
    })
    (λ s sound so. (revokes_near s sound c.args.ticket c.args.unit, so.2)) made.goes told)
    (spared made.call refl) told.looks told.aborts
