use Rattle.std.proofs.Common.{◌∙◌, ap, not}
use Rattle.atom_csv.proofs.BoxLemmas.{contains_has, has_more}
use Rattle.atom_csv.proofs.boxes.keep.Goals as goal

pub returns-clause-new : goal.returns-clause-new
returns-clause-new c =
    c.in_ok-is_new.ensures.added ∙ ap not (contains_has c.args.known.now (c.args.name, c.args.location, c.args.kind))

pub returns-clause-kept : goal.returns-clause-kept
returns-clause-kept c = has_more c.args.known.now c.insert.new.self (c.args.name, c.args.location, c.args.kind) c.in_ok-is_new.ensures.updates.0
