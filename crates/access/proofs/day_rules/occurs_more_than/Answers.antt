use Rattle.std.proofs.Common.{◌≡◌, ◌-◌, ap, arith, drop}
use Rattle.access.proofs.Standing.{found_again, never_again, not_yet, stands_again}
use Rattle.access.proofs.day_rules.occurs_more_than.Goals as goal

pub loop-i-init : goal.loop-i-init
loop-i-init c =
    let none : c.args.most - c.args.most ≡ 0 = omega arith in
    ap (λ n. stands_again c.args.most (drop n c.args.numbers.now)) none

pub returns-then-numbers-i : goal.returns-then-numbers-i
returns-then-numbers-i c = λ up. found_again c.args.most c.loop-i.i c.args.numbers.now (omega arith) c.loop-i-test.true c.loop-i.invariant c.if-numbers-i.true up

pub loop-i-preserved : goal.loop-i-preserved
loop-i-preserved c = not_yet c.args.most c.loop-i.i c.args.numbers.now (omega arith) c.loop-i-test.true c.loop-i.invariant c.if-numbers-i.false

pub returns : goal.returns
returns c = λ up. never_again c.args.most c.loop-i.i c.args.numbers.now (omega arith) (omega (arith, c.loop-i-test.false)) c.loop-i.invariant up
