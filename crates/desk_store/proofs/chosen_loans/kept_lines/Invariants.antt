use Rattle.std.proofs.Common.{◌≡◌, filter, take}
use Rattle.desk_store.proofs.Common.{HoldingLine, is_one_of}
use Rattle.desk_store.proofs.chosen_loans.kept_lines.Given as goal

abbrev pub invariant-loop-line : goal.invariant-loop-line
invariant-loop-line l = l.kept.items ≡ filter (λ (line : HoldingLine). is_one_of line.container l.ascending) (take l.line-index l.lines)
