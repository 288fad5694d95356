use Rattle.std.proofs.Common.{refl}
use Rattle.headline.proofs.Common.{Directly, RepresentsSpanRows, Second, ToTell, has_clean_disk, heard_answer, is_shown}
use Rattle.headline.proofs.Common.{is_still_open}
use Rattle.headline.proofs.Runs.{of_question}
use Rattle.headline.proofs.visits.ask.Goals as goal

pub returns : goal.returns
returns g c = (
  Directly (ToTell c.args.call.now.query) (heard_answer c.ask.result),
  (c.ask.result, refl, refl),
  of_question (is_shown g.S.Store RepresentsSpanRows Second) (has_clean_disk g.S.Store) (is_still_open g.S.Store) c.args.call.now.query c.ask.result c.args.office.now c.ask.new.self c.ask.ensures.call,
)
