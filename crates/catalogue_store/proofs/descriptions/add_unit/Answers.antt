use Rattle.std.proofs.Common.{◌≡◌, ◌+◌, ◌∙◌, true, sym}
use Rattle.isad_core.specs.Limits.{IsNumber}
use Rattle.catalogue_store.proofs.Common.{Goes, HasPlaceFor, IsKept, IsNew, RepresentsNumbered, catalogue_trees, early}
use Rattle.catalogue_store.proofs.Common.{false≢true, has_id, has_place, makes_not, on_ok_then, same_fault, state}
use Rattle.catalogue_store.proofs.Common.{unit_of, with_numbered}
use Rattle.catalogue_store.proofs.Accepted.{makes_after, makes_refused}
use Rattle.catalogue_store.proofs.descriptions.add_unit.Goals as goal

pub returns-in_err-is_place-clause-updates : goal.returns-in_err-is_place-clause-updates
returns-in_err-is_place-clause-updates g c =
    let e = c.in_err-is_place.field-0.0 in
    let told = c.in_err-is_place.ensures.answers in
    makes_not (same_fault c.from_residual.ensures) told.aborts told.spares (λ o k shown may kept clean free. told.faults (record o { next_unit = k.next }) k shown tt kept.0 clean free)

pub returns-then-not-branch : goal.returns-then-not-branch
returns-then-not-branch g c =
    let told = c.in_ok-is_place.ensures.answers in
    record {
      updates = makes_refused g.S.Store (RepresentsNumbered g.P.Places.represents g.P.Versioned.version) (λ k. IsKept k × IsNew (unit_of c.args.unit.now) k × IsNumber (c.args.unit.now.id + 1)) (HasPlaceFor c.args.parent) (with_numbered c.args.parent (unit_of c.args.unit.now)) catalogue_trees c.args.tables.now c.is_place.new.tables told.looks
          (λ clean o k shown may. false≢true (sym c.if-not-branch.true ∙ told.answers clean (record o { next_unit = k.next }) k shown ∙ may.place));
      accepts = λ clean o k shown. tt;
    }

pub returns : goal.returns
returns g c =
    let b = state g.S.Store c.add_placed.new.tables in
    let told = c.in_ok-is_place.ensures.answers in
    let added = c.add_placed.ensures.updates in
    record {
      updates = makes_after g.S.Store (RepresentsNumbered g.P.Places.represents g.P.Versioned.version) (λ k. IsKept k × IsNew (unit_of c.args.unit.now) k × IsNumber (c.args.unit.now.id + 1)) (HasPlaceFor c.args.parent) (with_numbered c.args.parent (unit_of c.args.unit.now)) catalogue_trees c.args.tables.now c.is_place.new.tables told.looks c.add_placed.new.tables c.add_placed.result added;
      accepts = λ clean o k shown.
          on_ok_then c.add_placed.result (Goes (state g.S.Store c.is_place.new.tables) b) (has_place has_id c.args.parent k.forest ≡ true)
          (λ went. sym (told.answers (early went.on.crash clean) (record o { next_unit = k.next }) k shown) ∙ c.if-not-branch.false) added.goes;
    }
