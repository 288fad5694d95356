use Rattle.std.proofs.Common.{append-nil, refl, false, nat_eq, ◌&&◌, ◌≡◌, ◌<◌, ◌+◌, ◌∙◌, List, [], ◌∷◌, ◌++◌, length}
use Rattle.std.proofs.Common.{get_or, take, ap, sym, subst, arith}
use Rattle.std.proofs.lemmas.List.{length-take-le}
use Rattle.office_tables.specs.Schema as tables
use Rattle.catalogue_statements.proofs.Common.{AddsHousings, AreHoused, BoxKey, HousingRow, IsPermutation-refl}
use Rattle.catalogue_statements.proofs.Common.{WithHousings, box_number, distinct, early, goes_nowhere, goes_then}
use Rattle.catalogue_statements.proofs.Common.{housing_cell, list_any, nothing_touched, state, take_all, take_more}
use Rattle.catalogue_statements.proofs.Common.{touched_again, with_boxes}
use Rattle.catalogue_statements.proofs.Parts.{cells_then}
use Rattle.catalogue_statements.proofs.HousingLemmas.{boxes_more, cells_in, housing_more}
use Rattle.catalogue_statements.proofs.Untold.{housing_number, housing_place, not_seen, unit_still}
use Rattle.catalogue_statements.proofs.WritingCalls.{writes_cut, writes_unknown, writes_well}
use Rattle.catalogue_statements.proofs.housing.insert_housings.Goals as goal

pub loop-key-preserved : goal.loop-key-preserved
loop-key-preserved g c =
    let a = state g.S.Store c.args.tables.now in
    let b = state g.S.Store c.loop-key.tables in
    let d = state g.S.Store c.house.new.tables in
    let unit = c.args.unit in
    let told = c.args.values.now.boxes in
    let i = c.loop-key.key-index in
    let key = c.key-item.result in
    let seen = take i told in
    let invariant = c.loop-key.invariant in
    let did = rw c.in_ok-place.ensures.same at c.in_ok-house.ensures in
    let last = did.leaves.goes in
    let low : i < length told = subst (λ (l : List BoxKey). i < length l) c.as_slice-key-items.ensures c.loop-key-test.true in
    let taken : take (i + 1) told ≡ seen ++ key ∷ [] =
    take_more told i key low ∙ ap (λ b. seen ++ b ∷ []) (sym (c.key-item.is ∙ ap (λ (l : List BoxKey). get_or l i key) c.as_slice-key-items.ensures)) in
    let place : c.loop-key.place ≡ length seen = invariant.0 ∙ sym (length-take-le i told (omega (arith, low))) in (
      c.in_ok-place.ensures.same ∙ ap (λ n. n + 1) invariant.0,
      (
        goes_then invariant.1.0 last,
        (
          λ clean. touched_again (tables.container.tree ∷ tables.housing.tree ∷ []) a.now b.now d.now (invariant.1.1.0 (early last.on.crash clean)) (did.only clean),
          λ clean boxes xs at.
              let before = invariant.1.1.1 (early last.on.crash clean) boxes xs at in
              let now = with_boxes boxes seen in
              let one = did.makes clean (record { boxes = now; rows = before.0 }) before.1 in
              let ys = one.0 in
              let cells = cells_in now seen ++ (c.loop-key.place + 1, box_number (with_boxes now (key ∷ [])) key) ∷ [] in
              let more : WithHousings unit cells xs ys = cells_then (λ (h : HousingRow). h.unit) housing_cell unit (cells_in now seen) ((c.loop-key.place + 1, box_number (with_boxes now (key ∷ [])) key) ∷ []) xs before.0 ys before.2 one.2 in
              subst (λ l. (ys : List HousingRow) × AreHoused d.now.trees (with_boxes boxes l) ys × WithHousings unit (cells_in (with_boxes boxes l) l) xs ys) (sym taken)
              (ys, subst (λ cs. AreHoused d.now.trees cs ys) (boxes_more boxes seen key at.apart) one.1, subst (λ l. WithHousings unit l xs ys) (housing_more boxes seen key c.loop-key.place at.apart place) more),
        ),
      ),
    )

pub loop-key-init : goal.loop-key-init
loop-key-init g c =
    let a = state g.S.Store c.args.tables.now in (
      c.from-place.ensures,
      (
        goes_nowhere,
        (
          λ clean. nothing_touched (tables.container.tree ∷ tables.housing.tree ∷ []) a.now,
          λ clean boxes xs at.
              let same : with_boxes boxes [] ≡ boxes = ap distinct (append-nil boxes) ∙ at.apart in
              (xs, subst (λ cs. AreHoused a.now.trees cs xs) (sym same) at, record { more = []; are = IsPermutation-refl xs; tell = IsPermutation-refl []; theirs = tt }),
        ),
      ),
    )

pub returns-in_err-house : goal.returns-in_err-house
returns-in_err-house g c =
    let b = state g.S.Store c.loop-key.tables in
    let unit = c.args.unit in
    let told = c.args.values.now.boxes in
    let i = c.loop-key.key-index in
    let key = c.key-item.result in
    let seen = take i told in
    let invariant = c.loop-key.invariant in
    let so_far = invariant.1 in
    let failed = rw c.in_ok-place.ensures.same at c.in_err-house.ensures in
    writes_cut c.in_err-house.field-0.0 c.from_residual-in_err-house.ensures so_far.0 so_far.1.0 failed.leaves.aborts failed.leaves.spares
    (λ before held at room.
    let none = room.2 in
    let housed = so_far.1.1 before held.boxes held.rows at in
    let here = unit_still (state g.S.Store c.args.tables.now).now.trees b.now.trees unit ((so_far.1.0 before) tables.unit.tree refl refl) room.0 in
    let low : i < length told = subst (λ (l : List BoxKey). i < length l) c.as_slice-key-items.ensures c.loop-key-test.true in
    let is : key ≡ get_or told i key = c.key-item.is ∙ ap (λ (l : List BoxKey). get_or l i key) c.as_slice-key-items.ensures in
    let now = with_boxes held.boxes seen in
    let place_free = subst (λ n. list_any (λ (h : HousingRow). nat_eq unit h.unit && nat_eq (n + 1) h.ord) housed.0 ≡ false) (sym invariant.0) (housing_place unit i held.boxes told key held.rows housed.0 at.apart low housed.2 none) in
    let number_free = housing_number unit i held.boxes told key held.rows housed.0 at.apart low housed.2 none (not_seen told i key low is room.1) in
    failed.faults (record { boxes = now; rows = housed.0 }) housed.1 (here, place_free, number_free))

pub returns-in_err-place : goal.returns-in_err-place
returns-in_err-place g c =
    let so_far = c.loop-key.invariant.1 in
    let failed = c.in_err-place.ensures in
    writes_unknown c.in_err-place.field-0.0 c.from_residual.ensures failed.fair so_far.0 so_far.1.0
    (λ clean held at room. let great = failed.great in omega (arith, great, c.loop-key.invariant.0, c.as_slice-key-items.type_inv, c.loop-key-test.true))

pub returns : goal.returns
returns g c =
    let d = state g.S.Store c.loop-key.tables in
    let told = c.args.values.now.boxes in
    let i = c.loop-key.key-index in
    let so_far = c.loop-key.invariant.1 in
    writes_well so_far.0 so_far.1.0
    (λ clean held at.
    let all : take i told ≡ told = take_all i told (omega (arith, c.loop-key-test.false, ap length c.as_slice-key-items.ensures)) in
    subst (λ l. AddsHousings c.args.unit (with_boxes held.boxes l) (cells_in (with_boxes held.boxes l) l) held.rows d.now.trees) all (so_far.1.1 clean held.boxes held.rows at))
