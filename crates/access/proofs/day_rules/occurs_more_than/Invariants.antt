use Rattle.std.proofs.Common.{◌≡◌, ◌-◌, drop}
use Rattle.access.proofs.Standing.{stands_again}
use Rattle.access.proofs.day_rules.occurs_more_than.Given as goal

abbrev pub invariant-loop-i : goal.invariant-loop-i
invariant-loop-i l = stands_again l.most (drop (l.i - l.most) l.numbers) ≡ stands_again l.most l.numbers
