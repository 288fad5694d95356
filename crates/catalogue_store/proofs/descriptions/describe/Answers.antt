use Rattle.std.proofs.Common.{refl, [], ◌∷◌}
use Rattle.office_tables.specs.Schema as tables
use Rattle.catalogue_store.proofs.Common.{AddsHousings, IsDescribed, OnlyTouches, leaves_wider, numbered_containers}
use Rattle.catalogue_store.proofs.Common.{on_ok_both, only_wider, state, touched_wider, unit_still, wider_spares}
use Rattle.catalogue_store.proofs.Common.{with_boxes, writes_last, writes_not}
use Rattle.catalogue_store.proofs.Telling.{same_elements, same_housed}
use Rattle.catalogue_store.proofs.descriptions.describe.Goals as goal

pub returns-in_err-insert_texts : goal.returns-in_err-insert_texts
returns-in_err-insert_texts g c =
    let a = state g.S.Store c.args.tables.now in
    let b = state g.S.Store c.insert_texts.new.tables in
    let failed = c.in_err-insert_texts.ensures in
    writes_not c.in_err-insert_texts.field-0.0 c.from_residual.ensures failed.leaves.aborts
    (λ clean. wider_spares (tables.element.tree ∷ []) (tables.element.tree ∷ tables.container.tree ∷ tables.housing.tree ∷ []) a b _ refl (failed.leaves.spares clean))
    (λ told at room. failed.faults told.elements at.texts (room.0, room.2, room.1.places))

pub returns : goal.returns
returns g c =
    let a = state g.S.Store c.args.tables.now in
    let b = state g.S.Store c.insert_texts.new.tables in
    let d = state g.S.Store c.insert_housings.new.tables in
    let unit = c.args.unit in
    let values = c.args.values.now in
    let texts = tables.element.tree ∷ [] in
    let housings = tables.container.tree ∷ tables.housing.tree ∷ [] in
    let both = tables.element.tree ∷ tables.container.tree ∷ tables.housing.tree ∷ [] in
    let r = c.insert_housings.result in
    let first = c.in_ok-insert_texts.ensures in
    let last = c.insert_housings.ensures in
    writes_last first.leaves.goes (λ before. touched_wider texts both a.now b.now refl (first.only before)) (leaves_wider housings both b d r refl last.leaves)
    (λ clean. only_wider housings both b.now d.now r refl (last.only clean))
    (λ before clean told at.
    let kept = first.only before in
    let added = first.makes before told.elements at.texts in
    let here = same_housed a.now.trees b.now.trees told.housed.boxes told.housed.rows (kept tables.container.tree refl refl) (kept tables.housing.tree refl refl) at.housings in
    let all = with_boxes told.housed.boxes values.boxes in
    on_ok_both r (AddsHousings unit all (numbered_containers all values) told.housed.rows d.now.trees) (OnlyTouches housings b.now d.now) (IsDescribed unit values told.housed.boxes told.elements told.housed.rows d.now.trees)
    (λ housed still. record {
      elements = added.0;
      texts = same_elements b.now.trees d.now.trees added.0 (still tables.element.tree refl refl) added.1;
      texts_more = added.2;
      housings = housed.0;
      housed = housed.1;
      housed_more = housed.2;
    })
    (last.makes clean told.housed here) (last.only clean))
    (λ before told at room.
    let kept = first.only before in
    let known = unit_still a.now.trees b.now.trees unit (kept tables.unit.tree refl refl) room.0 in
    let here = same_housed a.now.trees b.now.trees told.housed.boxes told.housed.rows (kept tables.container.tree refl refl) (kept tables.housing.tree refl refl) at.housings in
    last.faults told.housed here (known, room.1.once, room.3))
