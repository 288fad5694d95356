use Rattle.std.proofs.Common.{Global, Vec}
use Rattle.isad_core.specs.declared.number.Number.{Number}
use Rattle.known_units.proofs.Marked.{below_told, if_ok, marks_are}
use Rattle.known_units.proofs.units.units_below.Goals as goal

pub returns : goal.returns
returns c =
    if_ok c.children.result _ _ (λ (v : Vec Number Global) told f it.
    below_told f it.walk.forest c.args.unit v.items it.walk.theirs (told it.walk.forest (marks_are f c.args.known.now it)))
    c.children.ensures
