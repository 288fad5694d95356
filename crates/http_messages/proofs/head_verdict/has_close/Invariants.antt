use Rattle.std.proofs.Common.{◌≡◌, length}
use Rattle.http_messages.proofs.Common.{is_close, list_any, list_items}
use Rattle.http_messages.proofs.head_verdict.has_close.Given as goal

abbrev pub invariant-loop-i : goal.invariant-loop-i
invariant-loop-i l = list_any is_close (list_items l.value) ≡ list_any is_close (list_items l.rest)

abbrev pub decreases-loop-i : goal.decreases-loop-i
decreases-loop-i l = length l.rest
