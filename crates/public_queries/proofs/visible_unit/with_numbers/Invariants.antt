use Rattle.std.proofs.Common.{◌≡◌, map}
use Rattle.public_queries.proofs.visible_unit.with_numbers.Given as goal

abbrev pub invariant-loop-number : goal.invariant-loop-number
invariant-loop-number l = l.numbered ≡ map (λ housed. (housed.0.now, housed.1.now.name)) l.yielded
