use Rattle.std.proofs.Common.{◌≡◌, take, map}
use Rattle.serde_json.specs.View.{view}
use Rattle.office_core.specs.Json.{remark_json}
use Rattle.replies.proofs.reply_values.remarks_value.Given as goal

abbrev pub invariant-loop-remark : goal.invariant-loop-remark
invariant-loop-remark l = map view l.values.items ≡ map remark_json (take l.remark-index l.remarks)
