use Rattle.std.proofs.Common.{◌∙◌}
use Rattle.desk_core.proofs.FitReaders.{seats_told}
use Rattle.desk_core.proofs.consistency.readers.are_good_seats.Goals as goal

pub returns : goal.returns
returns c = λ a d h e. c.seats_are_fit.ensures ∙ seats_told c.args.around.now a d c.args.seats.now h e
