use Rattle.std.proofs.Common.{◌≡◌, ◌∙◌, true, refl, sym}
use Rattle.catalogue_store.proofs.Common.{AreWhole, Goes, IsKept, MayDescribe, Represents, Unit, described_trees}
use Rattle.catalogue_store.proofs.Common.{each_each, early, false≢true, has, has_id, makes_not, on_ok_then, same_fault}
use Rattle.catalogue_store.proofs.Common.{state, with_values}
use Rattle.catalogue_store.proofs.Accepted.{makes_after, makes_refused}
use Rattle.catalogue_store.proofs.Entered.{makes_placed}
use Rattle.catalogue_store.proofs.Valued.{same_id, valued}
use Rattle.catalogue_store.proofs.descriptions.replace_values.Goals as goal

pub returns-in_err-is_unit-clause-updates : goal.returns-in_err-is_unit-clause-updates
returns-in_err-is_unit-clause-updates g c =
    let e = c.in_err-is_unit.field-0.0 in
    let told = c.in_err-is_unit.ensures.answers in
    makes_not (same_fault c.from_residual.ensures) told.aborts told.spares (λ o k shown may kept clean free. told.faults o k shown tt kept.0 clean free)

pub returns-then-not-branch : goal.returns-then-not-branch
returns-then-not-branch g c =
    let told = c.in_ok-is_unit.ensures.answers in
    record {
      updates = makes_refused g.S.Store (Represents g.P.Places.represents g.P.Versioned.version) (λ k. IsKept k × AreWhole c.args.values.now) (MayDescribe c.args.unit) (with_values c.args.unit c.args.values.now) described_trees c.args.tables.now c.is_unit.new.tables told.looks
          (λ clean o k shown may. false≢true (sym c.if-not-branch.true ∙ told.answers clean o k shown ∙ may.there));
      accepts = λ clean o k shown. tt;
    }

pub returns : goal.returns
returns g c =
    let unit = c.args.unit in
    let values = c.args.values.now in
    let v = g.P.Versioned.version in
    let b = state g.S.Store c.enter_values.new.tables in
    let told = c.in_ok-is_unit.ensures.answers in
    let entered = makes_placed g.S.Store g.P.Places.represents g.met.P.Places.shows_same v (λ k. IsKept k × AreWhole values) (MayDescribe unit) (with_values unit values) described_trees c.is_unit.new.tables c.enter_values.new.tables c.enter_values.result refl
    (λ k. each_each (valued unit values) (λ (u : Unit). u.id) (λ (u : Unit). u.id) (same_id unit values) k.forest) (c.enter_values.ensures.updates v) in
    record {
      updates = makes_after g.S.Store (Represents g.P.Places.represents v) (λ k. IsKept k × AreWhole values) (MayDescribe unit) (with_values unit values) described_trees c.args.tables.now c.is_unit.new.tables told.looks c.enter_values.new.tables c.enter_values.result entered;
      accepts = λ clean o k shown.
          on_ok_then c.enter_values.result (Goes (state g.S.Store c.is_unit.new.tables) b) (has (has_id unit) k.forest ≡ true)
          (λ went. sym (told.answers (early went.on.crash clean) o k shown) ∙ c.if-not-branch.false) entered.goes;
    }
