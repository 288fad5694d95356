use Rattle.std.proofs.Common.{arith}
use Rattle.desk_core.proofs.SortedKeys.{met_over, met_none, met_all}
use Rattle.desk_core.proofs.consistency.key_counts.runs_over.Goals as goal

pub returns-then-i-first : goal.returns-then-i-first
returns-then-i-first g c = λ up. met_over g.K.Ord.cmp c.args.most g.met.K.Ord.total c.args.keys.now c.loop-i.i c.loop-i.first c.first_alike-first.result c.loop-i-test.true c.loop-i.invariant.before c.first_alike-first.ensures.alike c.loop-i.invariant.rest (omega (arith, c.if-i-first.true)) up

pub loop-i-preserved : goal.loop-i-preserved
loop-i-preserved g c = record {
  before = omega (arith, c.first_alike-first.ensures.before);
  rest = λ d. met_none g.K.Ord.cmp c.args.most c.args.keys.now c.loop-i.i c.loop-i.first c.first_alike-first.result d c.loop-i-test.true c.loop-i.invariant.before (c.first_alike-first.ensures.alike d) (c.loop-i.invariant.rest d) (omega (arith, c.if-i-first.false));
}

pub returns : goal.returns
returns g c = λ up. met_all g.K.Ord.cmp c.args.most g.met.K.Ord.total c.args.keys.now c.loop-i.i c.loop-i.first (omega (arith, c.loop-i-test.false)) c.loop-i.invariant.rest up
