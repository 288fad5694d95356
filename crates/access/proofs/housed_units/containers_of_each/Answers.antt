use Rattle.std.proofs.Common.{◌≡◌, ℕ, List, ◌++◌, get_or, ap, ◌∙◌, arith}
use Rattle.access.proofs.Common.{get_or_default, is_one_of, list_any, looks_full, looks_then, says_so, take_all}
use Rattle.access.proofs.Learned.{learned_look, learned_nothing, learned_so, learned_then, look_ends_so, look_fault}
use Rattle.access.proofs.NearRows.{one_more}
use Rattle.access.proofs.housed_units.containers_of_each.Goals as goal

pub loop-unit-init : goal.loop-unit-init
loop-unit-init g c = learned_nothing (λ _ xs n. ap (is_one_of n) c.new-all.ensures.items)

pub returns-in_err-named : goal.returns-in_err-named
returns-in_err-named g c = look_fault c.from_residual.ensures c.loop-unit.invariant.looks c.in_err-named.ensures

pub returns-in_err-extend_from_slice : goal.returns-in_err-extend_from_slice
returns-in_err-extend_from_slice g c = looks_full c.from_residual-in_err-extend_from_slice.ensures (looks_then c.loop-unit.invariant.looks c.in_ok-named.ensures.reads.looks)

pub loop-unit-preserved : goal.loop-unit-preserved
loop-unit-preserved g c =
    let units = c.args.units.now in
    let i = c.loop-unit.unit-index in
    let is : c.unit-item.result ≡ get_or units i 0 = c.unit-item.is ∙ get_or_default units i c.unit-item.result 0 c.loop-unit-test.true in
    learned_so (learned_then c.loop-unit.invariant (learned_look (rw is at c.in_ok-named.ensures))) (λ _ xs so n.
    ap (is_one_of n) (c.in_ok-extend_from_slice.ensures.items ∙ ap (λ (l : List ℕ). c.loop-unit.all.items ++ l) c.deref.ensures.value)
    ∙ one_more xs n i units c.loop-unit.all.items c.in_ok-named.named.items c.loop-unit-test.true (so.before n) (so.now n))

pub returns : goal.returns
returns g c =
    look_ends_so c.loop-unit.invariant
    (λ xs so n. so n ∙ ap (list_any (λ unit. list_any (says_so n unit) xs))
    (take_all c.loop-unit.unit-index c.args.units.now (omega (arith, c.loop-unit-test.false))))
