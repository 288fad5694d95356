use Rattle.desk_store.proofs.PickingLists.{has_more}
use Rattle.desk_store.proofs.run_candidates.keep.Goals as goal

pub returns-clause-kept : goal.returns-clause-kept
returns-clause-kept c = has_more c.args.known.now.keys c.insert.new.self.keys c.args.container c.in_ok-is_new.ensures.updates.0
