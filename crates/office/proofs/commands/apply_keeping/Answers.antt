use Rattle.office.proofs.Followed.{kept_on, still_sound}
use Rattle.office.proofs.commands.apply_keeping.Goals as goal

pub returns-clause-marks : goal.returns-clause-marks
returns-clause-marks g c =
    kept_on g.S.Store c.args.closed.now c.apply_to-outcome.new.closed g.met.P.Places.shows_same c.args.is_sound c.args.command.now c.apply_to-outcome.result
    c.apply_to-outcome.new.kept c.follow.new.kept c.requires.days c.requires.texts c.requires.office c.apply_to-outcome.ensures.applies c.requires.known
    c.apply_to-outcome.ensures.stays c.follow.ensures

pub returns-clause-known : goal.returns-clause-known
returns-clause-known g c = λ noted.
    still_sound g.S.Store c.args.closed.now c.apply_to-outcome.new.closed c.requires.days c.requires.texts c.apply_to-outcome.ensures.applies (c.requires.known noted)
