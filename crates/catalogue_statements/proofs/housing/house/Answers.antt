use Rattle.std.proofs.Common.{◌≡◌, ℤ, [], ◌∷◌, false, nat_eq, ◌&&◌, refl, sym, subst}
use Rattle.office_tables.specs.Schema as tables
use Rattle.catalogue_statements.proofs.Common.{AddsHousings, HousingRow, OnlyTouches, PutsRow, box_number, housing_row}
use Rattle.catalogue_statements.proofs.Common.{leaves_part, list_any, next_rowid, on_ok_then, state, still_numbered}
use Rattle.catalogue_statements.proofs.Common.{touched_wider, untouched, with_boxes}
use Rattle.catalogue_statements.proofs.HousingLemmas.{housed}
use Rattle.catalogue_statements.proofs.Untold.{unit_still}
use Rattle.catalogue_statements.proofs.WritingCalls.{writes_last, writes_not}
use Rattle.catalogue_statements.proofs.housing.house.Goals as goal

pub returns-in_err-number : goal.returns-in_err-number
returns-in_err-number g c =
    let a = state g.S.Store c.args.tables.now in
    let b = state g.S.Store c.number_of.new.tables in
    let failed = c.in_err-number.ensures in
    writes_not c.in_err-number.field-0.0 c.from_residual.ensures failed.leaves.aborts (λ clean. untouched (tables.container.tree ∷ tables.housing.tree ∷ []) a b _ (failed.leaves.spares clean))
    (λ held at room. failed.faults held.boxes at.containers tt)

pub returns : goal.returns
returns g c =
    let a = state g.S.Store c.args.tables.now in
    let b = state g.S.Store c.number_of.new.tables in
    let d = state g.S.Store c.insert_housing.new.tables in
    let unit = c.args.unit in
    let key = c.args.key.now in
    let touched = tables.container.tree ∷ tables.housing.tree ∷ [] in
    let number = c.in_ok-number.ensures in
    let r = c.insert_housing.result in
    let last = c.insert_housing.ensures in
    let row : ℤ × HousingRow = (next_rowid (b.now.trees tables.housing.tree), record { unit = unit; ord = c.args.place; container = c.in_ok-number.number }) in
    let puts = PutsRow tables.housing.tree (housing_row row) b.now d.now in
    writes_last number.leaves.goes (λ before. touched_wider (tables.container.tree ∷ []) touched a.now b.now refl (number.only before)) (leaves_part touched b d r last.leaves)
    (λ clean. on_ok_then r puts (OnlyTouches touched b.now d.now) (λ put. touched_wider (tables.housing.tree ∷ []) touched b.now d.now refl put.only) (last.puts clean))
    (λ before clean held at.
    let all = with_boxes held.boxes (key ∷ []) in
    on_ok_then r puts (AddsHousings unit all ((c.args.place, box_number all key) ∷ []) held.rows d.now.trees)
    (λ put. housed a.now b.now d.now unit c.args.place c.in_ok-number.number key held.boxes held.rows at (number.makes before held.boxes at.containers at.apart) (number.only before) put)
    (last.puts clean))
    (λ before held at room.
    let is = number.makes before held.boxes at.containers at.apart in
    let kept = number.only before in
    let here = unit_still a.now.trees b.now.trees unit (kept tables.unit.tree refl refl) room.0 in
    let none = subst (λ n. list_any (λ (h : HousingRow). nat_eq unit h.unit && nat_eq n h.container) held.rows ≡ false) (sym is.0) room.2 in
    last.faults held.rows (still_numbered housing_row (a.now.trees tables.housing.tree) (b.now.trees tables.housing.tree) held.rows (kept tables.housing.tree refl refl) at.rows) (here, room.1, none))
