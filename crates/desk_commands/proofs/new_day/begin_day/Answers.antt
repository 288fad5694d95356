use Rattle.desk_commands.proofs.Common.{desk_legible, false≢true}
use Rattle.desk_commands.proofs.Spared.{does_pass}
use Rattle.desk_commands.proofs.DayOpened.{house_of, opens_day, shows_house}
use Rattle.desk_commands.proofs.OneStep.{does_well}
use Rattle.desk_commands.proofs.new_day.begin_day.Goals as goal

pub returns-in_err-open_day : goal.returns-in_err-open_day
returns-in_err-open_day g c =
    let made = c.in_err-open_day.ensures.updates in
    does_pass _ c.from_residual.ensures made.aborts
    (λ s sound so it. made.faults tt (house_of g.P.Versioned.version s) (shows_house g.P.Places.represents g.P.Versioned.version _ s it) tt (desk_legible g.P.Versioned.version s sound))

pub returns : goal.returns
returns g c =
    let v = g.P.Versioned.version in
    let made = c.in_ok-open_day.ensures.updates in
    does_well made.goes (λ spares clean. absurd (false≢true spares)) (λ clean s sound so it.
    let put = made.represents_updated clean tt (house_of v s) (shows_house g.P.Places.represents v _ s it) tt in
    opens_day v s c.args.day so.0 g.P.Places.represents g.met.P.Places.shows_same _ _ so.1 it (made.goes.schema clean) (made.only clean) put)
