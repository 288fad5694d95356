use Rattle.std.proofs.Common.{ap, sym, ◌∙◌}
use Rattle.office.proofs.Common.{Command, false≢true, of_named, spares_catalogue}
use Rattle.office.proofs.commands.perform.Goals as goal

pub returns-in-OpenDay-clause-only : goal.returns-in-OpenDay-clause-only
returns-in-OpenDay-clause-only g c spares =
    absurd (false≢true (sym (ap (λ (asked : Command). spares_catalogue (of_named asked)) c.in-OpenDay.is) ∙ spares))

pub returns-in-Import-clause-only : goal.returns-in-Import-clause-only
returns-in-Import-clause-only g c spares =
    absurd (false≢true (sym (ap (λ (asked : Command). spares_catalogue (of_named asked)) c.in-Import.is) ∙ spares))

pub returns-in-SetStatus-clause-only : goal.returns-in-SetStatus-clause-only
returns-in-SetStatus-clause-only g c spares =
    absurd (false≢true (sym (ap (λ (asked : Command). spares_catalogue (of_named asked)) c.in-SetStatus.is) ∙ spares))

pub returns-in-SetClosure-clause-only : goal.returns-in-SetClosure-clause-only
returns-in-SetClosure-clause-only g c spares =
    absurd (false≢true (sym (ap (λ (asked : Command). spares_catalogue (of_named asked)) c.in-SetClosure.is) ∙ spares))

pub returns-in-Move-clause-only : goal.returns-in-Move-clause-only
returns-in-Move-clause-only g c spares =
    absurd (false≢true (sym (ap (λ (asked : Command). spares_catalogue (of_named asked)) c.in-Move.is) ∙ spares))

pub returns-in-Remove-clause-only : goal.returns-in-Remove-clause-only
returns-in-Remove-clause-only g c spares =
    absurd (false≢true (sym (ap (λ (asked : Command). spares_catalogue (of_named asked)) c.in-Remove.is) ∙ spares))
