use Rattle.std.proofs.Common.{ap, ◌∙◌}
use Rattle.desk_commands.proofs.Common.{Place, is_some, looks_nowhere, order_out}
use Rattle.desk_commands.proofs.Spared.{does_then, is_refused}
use Rattle.desk_commands.proofs.Returned.{in_house, not_issued}
use Rattle.desk_commands.proofs.container_return.return_from.Goals as goal

pub returns-in-Out : goal.returns-in-Out
returns-in-Out g c = does_then looks_nowhere c.take_back.ensures (λ clean s sound so it. so.1 ∙ c.in-Out.is)

pub returns-in_default : goal.returns-in_default
returns-in_default g c =
    is_refused looks_nowhere (λ clean s sound so it.
    not_issued g.P.Places.represents g.P.Versioned.version s c.args.container so.0 (ap (λ (p : Place). is_some (order_out p)) so.1 ∙ in_house c.args.place c.in_default.not-Out))
