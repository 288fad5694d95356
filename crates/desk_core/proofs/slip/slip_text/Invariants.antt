use Rattle.std.proofs.Common.{◌≡◌, ◌++◌, take, Bor}
use Rattle.desk_core.proofs.Common.{Candidate, flat_map, slip_line}
use Rattle.desk_core.proofs.slip.slip_text.Given as goal

-- the head, and a line for each of the first
abbrev pub invariant-loop-candidate : goal.invariant-loop-candidate
invariant-loop-candidate l =
    l.slip.items ≡ l.initial.slip.items ++ flat_map (λ (b : Bor Candidate). slip_line b.now) (take l.candidate-index l.candidate-items)
