use Rattle.std.proofs.Common.{◌≡◌, ℕ, Bool, true, get_or, ap, subst, sym, ◌∙◌, arith}
use Rattle.sqlite_trees.proofs.ListLemmas.{all-get_or}
use Rattle.access.proofs.Common.{allows, get_or_default, has_unit, is_clean_for}
use Rattle.access.proofs.AllPass.{all_more, all_of, not_all}
use Rattle.access.proofs.clean_units.are_units_open.Goals as goal

pub loop-unit-preserved : goal.loop-unit-preserved
loop-unit-preserved c = λ f knows there.
    let units = c.args.units.now in
    let i = c.loop-unit.unit-index in
    let low = c.loop-unit-test.true in
    let is : c.unit-item.result ≡ get_or units i 0 = c.unit-item.is ∙ get_or_default units i c.unit-item.result 0 low in
    let p : ℕ → Bool = is_clean_for (allows c.args.today c.args.permits.now) c.args.today f in
    let here = subst (λ u. has_unit f u ≡ true) (sym is) (all-get_or (λ u. has_unit f u ≡ true) units i 0 there low) in
    all_more p units i low (c.loop-unit.invariant f knows there)
    (ap p (sym is) ∙ sym (c.in_ok-is_unit_open.ensures f knows here) ∙ c.if-not-branch.false)

pub returns-then-not-branch : goal.returns-then-not-branch
returns-then-not-branch c = λ f knows there.
    let units = c.args.units.now in
    let i = c.loop-unit.unit-index in
    let low = c.loop-unit-test.true in
    let is : c.unit-item.result ≡ get_or units i 0 = c.unit-item.is ∙ get_or_default units i c.unit-item.result 0 low in
    let p : ℕ → Bool = is_clean_for (allows c.args.today c.args.permits.now) c.args.today f in
    let here = subst (λ u. has_unit f u ≡ true) (sym is) (all-get_or (λ u. has_unit f u ≡ true) units i 0 there low) in
    not_all p units i low (ap p (sym is) ∙ sym (c.in_ok-is_unit_open.ensures f knows here) ∙ c.if-not-branch.true)

pub returns : goal.returns
returns c = λ f knows there.
    all_of (is_clean_for (allows c.args.today c.args.permits.now) c.args.today f) c.args.units.now c.loop-unit.unit-index
    (omega (arith, c.loop-unit-test.false)) (c.loop-unit.invariant f knows there)
