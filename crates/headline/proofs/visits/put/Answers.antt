use Rattle.std.proofs.Common.{refl}
use Rattle.headline.proofs.Common.{Directly, RepresentsSpanRows, Second, ToDo, has_clean_disk, heard_reply, is_shown}
use Rattle.headline.proofs.Common.{is_still_open}
use Rattle.headline.proofs.Runs.{of_command}
use Rattle.headline.proofs.visits.put.Goals as goal

pub returns-clause-put : goal.returns-clause-put
returns-clause-put g c = (
  Directly (ToDo c.args.call.now.command) (heard_reply c.apply.result),
  (c.apply.result, refl, refl),
  of_command (is_shown g.S.Store RepresentsSpanRows Second) (has_clean_disk g.S.Store) (is_still_open g.S.Store) c.args.call.now.command c.apply.result c.args.office.now c.apply.new.self c.apply.ensures.call,
)
