use Rattle.std.proofs.Common.{ap, ◌∙◌, nat_eq}
use Rattle.desk_core.proofs.Common.{count_by}
use Rattle.desk_core.proofs.FitReaders.{permits_told}
use Rattle.desk_core.proofs.consistency.readers.are_good_permits.Goals as goal

pub returns : goal.returns
returns c = λ a d h e.
    c.permits_are_fit.ensures
    ∙ permits_told c.args.around.now a d c.in_ok-tally.tally c.args.permits.now h e
    (λ n le. c.in_ok-tally.ensures n le ∙ ap (count_by (nat_eq n)) (c.deref.ensures.value ∙ c.in_ok-tickets.ensures))
