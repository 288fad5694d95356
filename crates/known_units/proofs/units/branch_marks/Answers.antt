use Rattle.known_units.proofs.Marked.{branch_told, marks_are}
use Rattle.known_units.proofs.units.branch_marks.Goals as goal

pub returns : goal.returns
returns c f it = branch_told f c.args.known.now it c.args.unit c.branch-known.result.now (c.branch-known.ensures it.walk.forest (marks_are f c.args.known.now it))
