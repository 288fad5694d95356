use Rattle.std.proofs.Common.{◌≡◌, take, drop}
use Rattle.http_messages.proofs.Common.{list_items}
use Rattle.http_messages.proofs.Options.{prepend}
use Rattle.http_messages.proofs.head_verdict.first_comma.Given as goal

abbrev pub invariant-loop-i : goal.invariant-loop-i
invariant-loop-i l = list_items l.bytes ≡ prepend (take l.i l.bytes) (list_items (drop l.i l.bytes))
