use Rattle.std.proofs.Common.{ap, ◌∙◌}
use Rattle.serde_json.specs.Written.{has_float}
use Rattle.replies.proofs.ReplyWhole.{reply_whole}
use Rattle.replies.proofs.reply_values.json_of.Goals as goal

pub text_of-requires : goal.text_of-requires
text_of-requires c = record { no_float = ap has_float c.in_ok-value.ensures ∙ reply_whole c.args.reply.now }
