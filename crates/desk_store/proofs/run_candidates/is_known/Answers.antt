use Rattle.std.proofs.Common.{◌∙◌}
use Rattle.desk_store.proofs.PickingLists.{contains_any}
use Rattle.desk_store.proofs.run_candidates.is_known.Goals as goal

pub returns : goal.returns
returns c = c.contains.ensures ∙ contains_any c.args.known.now.keys c.args.container
