use Rattle.std.proofs.Common.{◌≡◌, ℤ, None, [], ◌∷◌, ap, sym, subst, option_copied, false, nat_eq, ◌&&◌}
use Rattle.office_tables.specs.Schema as tables
use Rattle.catalogue_statements.proofs.Common.{AddsTexts, ElementRow, IsPermutation-refl, OnlyTouches, PutsRow}
use Rattle.catalogue_statements.proofs.Common.{WithTexts, element_number, element_row, goes_nowhere, list_any}
use Rattle.catalogue_statements.proofs.Common.{next_rowid, nothing_touched, on_ok_then, state, text_cells}
use Rattle.catalogue_statements.proofs.TextLemmas.{one_element}
use Rattle.catalogue_statements.proofs.WritingCalls.{writes_well}
use Rattle.catalogue_statements.proofs.elements.insert_text.Goals as goal

pub returns-in-None : goal.returns-in-None
returns-in-None g c =
    writes_well goes_nowhere (λ clean. nothing_touched (tables.element.tree ∷ []) (state g.S.Store c.args.tables.now).now)
    (λ clean xs at.
    let none : WithTexts c.args.unit (text_cells c.args.place None) xs xs = record { more = []; are = IsPermutation-refl xs; tell = IsPermutation-refl []; theirs = tt } in
    (xs, at, subst (λ t. WithTexts c.args.unit (text_cells c.args.place (option_copied t)) xs xs) (sym c.in-None.is) none))

pub returns-in-Some : goal.returns-in-Some
returns-in-Some g c =
    let a = state g.S.Store c.args.tables.now in
    let b = state g.S.Store c.insert_element.new.tables in
    let value = c.in-Some.text.now in
    let unit = c.args.unit in
    let inserted = c.insert_element.ensures in
    let row : ℤ × ElementRow = (next_rowid (a.now.trees tables.element.tree), record { unit = unit; k = c.element_number.result; value = value }) in
    let puts = PutsRow tables.element.tree (element_row row) a.now b.now in
    let e : text_cells c.args.place (option_copied c.args.text) ≡ (element_number c.args.place, value) ∷ [] = ap (λ t. text_cells c.args.place (option_copied t)) c.in-Some.is in
    record {
      leaves = inserted.leaves;
      only = λ clean. on_ok_then c.insert_element.result puts (OnlyTouches (tables.element.tree ∷ []) a.now b.now) (λ it. it.only) (inserted.puts clean);
      makes = λ clean xs at. on_ok_then c.insert_element.result puts (AddsTexts unit (text_cells c.args.place (option_copied c.args.text)) xs b.now.trees)
          (λ put.
          let it = one_element a.now b.now unit c.element_number.result value xs at put in
          (it.0, it.1, subst (λ cells. WithTexts unit cells xs it.0) (sym e) (subst (λ k. WithTexts unit ((k, value) ∷ []) xs it.0) c.element_number.ensures it.2)))
          (inserted.puts clean);
      faults = λ xs at room clean free.
          let none_yet = subst (λ k. list_any (λ (e : ElementRow). nat_eq unit e.unit && nat_eq k e.k) xs ≡ false) (sym c.element_number.ensures) room.1 in
          inserted.faults xs at.rows (room.0, none_yet) clean free;
    }
