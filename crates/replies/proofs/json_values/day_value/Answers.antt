use Rattle.replies.proofs.DayTexts.{day_is_utf8, is_ok}
use Rattle.replies.proofs.json_values.day_value.Goals as goal

pub unwrap-text-requires : goal.unwrap-text-requires
unwrap-text-requires c = is_ok _ _ _ c.from_utf8.result c.from_utf8.ensures.cases (rw c.text-date.ensures.text (day_is_utf8 c.args.day c.text-date.ensures.reads_back))
