use Rattle.std.proofs.Common.{◌∙◌}
use Rattle.desk_commands.proofs.Common.{holder_shown, tables}
use Rattle.desk_commands.proofs.Spared.{desk_passed, does_then}
use Rattle.desk_commands.proofs.seats.take_seat.Goals as goal

pub returns-in_err-who : goal.returns-in_err-who
returns-in_err-who g c = let told = c.in_err-who.ensures.answers in desk_passed _ c.from_residual.ensures told.aborts told.faults

pub returns : goal.returns
returns g c =
    let told = c.in_ok-who.ensures.answers in
    does_then told.looks c.sit_down.ensures
    (λ clean s sound so it. (
      so.0,
      so.1,
      told.answers clean tt (tables g.P.Versioned.version s).desk it.desk ∙ holder_shown g.P.Versioned.version s sound c.args.ticket,
    ))
