use Rattle.known_units.proofs.Changed.{closure_followed}
use Rattle.known_units.proofs.Marked.{marks_are}
use Rattle.known_units.proofs.changes.set_closure.Goals as goal

pub returns : goal.returns
returns c d it =
    closure_followed d c.args.known.now c.set_until.new.self it c.args.unit c.args.until
    (rw c.end_in_marks.ensures at (c.set_until.ensures it.walk.forest (marks_are d.forest c.args.known.now it)))
