use Rattle.std.proofs.Common.{map, take, arith, refl, false, nat_eq, ◌&&◌, Option, length, get_or, ◌≡◌, ◌<◌, ◌+◌, ◌∙◌}
use Rattle.std.proofs.Common.{List, [], ◌∷◌, ◌++◌, ap, sym, subst, option_copied}
use Rattle.office_tables.specs.Schema as tables
use Rattle.catalogue_statements.proofs.Common.{Bytes, ElementRow, WithTexts, cell_of, early, element_number, goes_then}
use Rattle.catalogue_statements.proofs.Common.{list_any, state, take_all, text_cells, texts_from, touched_again}
use Rattle.catalogue_statements.proofs.Common.{untouched}
use Rattle.catalogue_statements.proofs.Parts.{cells_then}
use Rattle.catalogue_statements.proofs.TextLemmas.{first_cells, cells_step}
use Rattle.catalogue_statements.proofs.Untold.{text_free, unit_still}
use Rattle.catalogue_statements.proofs.WritingCalls.{writes_cut, writes_known, writes_well}
use Rattle.catalogue_statements.proofs.elements.insert_texts.Goals as goal

pub loop-text-preserved : goal.loop-text-preserved
loop-text-preserved g c =
    let a = state g.S.Store c.args.tables.now in
    let b = state g.S.Store c.loop-text.tables in
    let d = state g.S.Store c.insert_text.new.tables in
    let unit = c.args.unit in
    let texts = c.args.values.now.texts in
    let i = c.loop-text.text-index in
    let text = option_copied c.as_ref.result in
    let invariant = c.loop-text.invariant in
    let last = c.in_ok-insert_text.ensures.leaves.goes in
    let cells : (first_cells i texts ++ text_cells c.loop-text.place text) ≡ first_cells (i + 1) texts =
    cells_step texts i c.loop-text.place text invariant.0 (subst (λ (l : List (Option Bytes)). i < length l) c.as_slice-text-items.ensures c.loop-text-test.true)
    (c.as_ref.ensures.value ∙ c.text-item.is ∙ ap (λ (l : List (Option Bytes)). get_or l i c.text-item.result) c.as_slice-text-items.ensures ∙ ap (get_or texts i) (sym c.as_ref.ensures.value)) in (
      ap (λ n. n + 1) invariant.0,
      (
        goes_then invariant.1.0 last,
        (
          λ clean. touched_again (tables.element.tree ∷ []) a.now b.now d.now (invariant.1.1.0 (early last.on.crash clean)) (c.in_ok-insert_text.ensures.only clean),
          λ clean xs at.
              let before = invariant.1.1.1 (early last.on.crash clean) xs at in
              let one = c.in_ok-insert_text.ensures.makes clean before.0 before.1 in
              (one.0, one.1, subst (λ cells. WithTexts unit cells xs one.0) cells (cells_then (λ (e : ElementRow). e.unit) cell_of unit (first_cells i texts) (text_cells c.loop-text.place text) xs before.0 one.0 before.2 one.2)),
        ),
      ),
    )

pub returns-in_err-insert_text : goal.returns-in_err-insert_text
returns-in_err-insert_text g c =
    let b = state g.S.Store c.loop-text.tables in
    let d = state g.S.Store c.insert_text.new.tables in
    let unit = c.args.unit in
    let texts = c.args.values.now.texts in
    let i = c.loop-text.text-index in
    let invariant = c.loop-text.invariant in
    let so_far = invariant.1 in
    let failed = c.in_err-insert_text.ensures in
    writes_cut c.in_err-insert_text.field-0.0 c.from_residual.ensures so_far.0 so_far.1.0 failed.leaves.aborts (λ clean. untouched (tables.element.tree ∷ []) b d _ (failed.leaves.spares clean))
    (λ before xs at room.
    let told = so_far.1.1 before xs at in
    let here = unit_still (state g.S.Store c.args.tables.now).now.trees b.now.trees unit ((so_far.1.0 before) tables.unit.tree refl refl) room.0 in
    let low : i < length texts = subst (λ (l : List (Option Bytes)). i < length l) c.as_slice-text-items.ensures c.loop-text-test.true in
    let next = text_free unit i texts xs told.0 (omega (arith, low)) told.2 room.1 in
    let none_yet = subst (λ k. list_any (λ (e : ElementRow). nat_eq unit e.unit && nat_eq (element_number k) e.k) told.0 ≡ false) (sym invariant.0) next in
    failed.faults told.0 told.1 (here, none_yet))

pub returns-then-place-ge25 : goal.returns-then-place-ge25
returns-then-place-ge25 g c =
    let so_far = c.loop-text.invariant.1 in
    writes_known so_far.0 so_far.1.0
    (λ clean xs at room. let long = room.2 in omega (arith, c.if-place-ge25.true, c.loop-text-test.true, c.loop-text.invariant.0, ap length c.as_slice-text-items.ensures, long))

pub returns : goal.returns
returns g c =
    let texts = c.args.values.now.texts in
    let i = c.loop-text.text-index in
    let so_far = c.loop-text.invariant.1 in
    writes_well so_far.0 so_far.1.0
    (λ clean xs at.
    let got = so_far.1.1 clean xs at in
    let all : take i texts ≡ texts = take_all i texts (omega (arith, c.loop-text-test.false, ap length c.as_slice-text-items.ensures)) in
    (got.0, got.1, subst (λ l. WithTexts c.args.unit (map (λ t. (element_number t.0, t.1)) (texts_from 0 l)) xs got.0) all got.2))
