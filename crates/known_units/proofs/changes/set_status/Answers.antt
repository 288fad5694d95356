use Rattle.known_units.proofs.Changed.{status_followed}
use Rattle.known_units.proofs.Marked.{marks_are}
use Rattle.known_units.proofs.changes.set_status.Goals as goal

pub returns : goal.returns
returns c d it = status_followed d c.args.known.now c.set_draft.new.self it c.args.whole c.args.unit c.args.draft (c.set_draft.ensures it.walk.forest (marks_are d.forest c.args.known.now it))
