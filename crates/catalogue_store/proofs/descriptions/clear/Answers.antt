use Rattle.std.proofs.Common.{[], ◌∷◌, refl, ◌∙◌}
use Rattle.office_tables.specs.RowNumbers.{HoldsNumbered}
use Rattle.office_tables.specs.Schema as tables
use Rattle.catalogue_store.proofs.Common.{AreElements, HasDescriptions, OnlyTouches, descriptions_of_others}
use Rattle.catalogue_store.proofs.Common.{housing_row, leaves_part, on_ok_both, only_wider, state, touched_wider}
use Rattle.catalogue_store.proofs.Common.{untouched, writes_last, writes_not}
use Rattle.catalogue_store.proofs.Telling.{same_elements, same_housed}
use Rattle.catalogue_store.proofs.descriptions.clear.Goals as goal

pub returns-in_err-clear_elements : goal.returns-in_err-clear_elements
returns-in_err-clear_elements g c =
    let a = state g.S.Store c.args.tables.now in
    let b = state g.S.Store c.clear_elements.new.tables in
    let failed = c.in_err-clear_elements.ensures in
    writes_not c.in_err-clear_elements.field-0.0 c.from_residual.ensures failed.leaves.aborts (λ clean. untouched (tables.element.tree ∷ tables.housing.tree ∷ []) a b _ (failed.leaves.spares clean))
    (λ told at _. failed.faults)

pub returns : goal.returns
returns g c =
    let a = state g.S.Store c.args.tables.now in
    let b = state g.S.Store c.clear_elements.new.tables in
    let d = state g.S.Store c.clear_housings.new.tables in
    let gone = tables.element.tree ∷ tables.housing.tree ∷ [] in
    let r = c.clear_housings.result in
    let first = c.in_ok-clear_elements.ensures in
    let last = c.clear_housings.ensures in
    writes_last first.leaves.goes (λ before. touched_wider (tables.element.tree ∷ []) gone a.now b.now refl (first.only before)) (leaves_part gone b d r last.leaves)
    (λ clean. only_wider (tables.housing.tree ∷ []) gone b.now d.now r refl (last.only clean))
    (λ before clean told at.
    let left = descriptions_of_others c.args.unit told in
    let there : AreElements b.now.trees left.elements = record { rows = first.rows before told.elements at.texts.rows } in
    let kept = first.only before in
    let here = same_housed a.now.trees b.now.trees told.housed.boxes told.housed.rows (kept tables.container.tree refl refl) (kept tables.housing.tree refl refl) at.housings in
    on_ok_both r (HoldsNumbered tables.housing housing_row d left.housed.rows) (OnlyTouches (tables.housing.tree ∷ []) b.now d.now) (HasDescriptions d.now.trees left)
    (λ rows only. record {
      texts = same_elements b.now.trees d.now.trees left.elements (only tables.element.tree refl refl) there;
      housings = record { containers = only tables.container.tree refl refl ∙ here.containers; apart = here.apart; rows = rows };
    })
    (last.rows clean told.housed.rows here.rows) (last.only clean))
    (λ before told at _. last.faults)
