use Rattle.std.proofs.Common.{◌≡◌, take}
use Rattle.public_queries.proofs.Common.{head_identifiers}
use Rattle.public_queries.proofs.path_heads.identifiers.Given as goal

abbrev pub invariant-loop-head : goal.invariant-loop-head
invariant-loop-head l = l.ids.items ≡ head_identifiers (take l.head-index l.way)
