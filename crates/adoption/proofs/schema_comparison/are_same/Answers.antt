use Rattle.std.proofs.Common.{ℕ, arith, refl, subst}
use Rattle.adoption.proofs.Alike.{AreAlikeTo, alike_all, alike_next}
use Rattle.adoption.proofs.schema_comparison.are_same.Goals as goal

pub loop-at-init : goal.loop-at-init
loop-at-init g c j low = absurd (omega (arith, low))

pub loop-at-preserved : goal.loop-at-preserved
loop-at-preserved g c =
    let these = c.args.these.now in
    let plain = c.args.plain.now in
    let same = c.is_same.ensures.same.0 c.if-not-is_same.false in
    subst (λ (n : ℕ). AreAlikeTo n these plain) (omega arith)
    (alike_next c.loop-at.at these plain c.index-these-at.result c.index-plain-at.result (omega (arith, c.if-these-plain.false, c.loop-at-test.true)) c.loop-at-test.true c.index-these-at.is c.index-plain-at.is same c.loop-at.invariant)

pub returns : goal.returns
returns g c = record { same = (λ _. alike_all c.args.these.now c.args.plain.now c.if-these-plain.false (λ j low. c.loop-at.invariant j (omega (arith, low, c.loop-at-test.false))), λ _. refl) }
