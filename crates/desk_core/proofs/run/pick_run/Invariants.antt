use Rattle.std.proofs.Common.{◌≡◌, map, take}
use Rattle.desk_core.proofs.run.pick_run.Given as goal

-- the first of the queue are copied
abbrev pub invariant-loop-candidate : goal.invariant-loop-candidate
invariant-loop-candidate l = l.run.items ≡ map (λ c. c.now) (take l.candidate-index l.candidate-items)
