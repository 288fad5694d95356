use Rattle.std.proofs.Common.{Global, Vec}
use Rattle.visibility.specs.declared.marks.Mark.{Mark}
use Rattle.known_units.proofs.Marked.{if_ok, marks_are, path_told}
use Rattle.known_units.proofs.units.path_marks.Goals as goal

pub returns : goal.returns
returns c =
    if_ok c.path.result _ _ (λ (v : Vec Mark Global) told f it.
    path_told f it.walk.forest c.args.unit v.items it.walk.theirs (told it.walk.forest (marks_are f c.args.known.now it)))
    c.path.ensures
