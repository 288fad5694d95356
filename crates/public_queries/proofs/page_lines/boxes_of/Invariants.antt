use Rattle.std.proofs.Common.{◌≡◌, map}
use Rattle.std.specs.Option.{option_copied}
use Rattle.public_queries.proofs.page_lines.boxes_of.Given as goal

abbrev pub invariant-loop-number : goal.invariant-loop-number
invariant-loop-number l = l.boxes ≡ map (λ housed. (housed.0.now, housed.1.now.name, option_copied l.from)) l.yielded
