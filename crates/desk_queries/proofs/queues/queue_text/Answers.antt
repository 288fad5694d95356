use Rattle.std.proofs.Common.{ap, ◌∙◌}
use Rattle.desk_queries.proofs.Common.{has_float}
use Rattle.desk_queries.proofs.QueueTold.{queue_whole}
use Rattle.desk_queries.proofs.queues.queue_text.Goals as goal

pub text_of-requires : goal.text_of-requires
text_of-requires c = record { no_float = ap has_float c.in_ok-value.ensures ∙ queue_whole c.args.container c.args.queue.now }
