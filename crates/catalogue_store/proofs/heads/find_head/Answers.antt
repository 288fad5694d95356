use Rattle.std.proofs.Common.{ℕ, List, [], filter, map, nat_eq, refl, sym, ap, subst, ◌∙◌, arith}
use Rattle.std.specs.Prelude.{find, option_map}
use Rattle.office_tables.proofs.Reading.{first_shown}
use Rattle.office_tables.specs.Schema as tables
use Rattle.catalogue_statements.proofs.FirstTexts.{text_among_first}
use Rattle.catalogue_statements.proofs.FoundUnits.{one_told}
use Rattle.catalogue_statements.specs.Standings.{standing_of}
use Rattle.catalogue_statements.specs.declared.row_types.Element.{Element}
use Rattle.catalogue_store.specs.Heads.{head_of}
use Rattle.catalogue_store.proofs.Common.{Database, IsPermutation, IsPermutation-refl, Unit, all_has, cut_after, early}
use Rattle.catalogue_store.proofs.Common.{element_row, elements_of, has_id, legible_units, looks_then, nodes}
use Rattle.catalogue_store.proofs.Common.{none_found, numbered_texts, same_fault, spares_full, state, still_numbered}
use Rattle.catalogue_store.proofs.Common.{tells_cut, tells_not, tells_well, unwrap_or}
use Rattle.catalogue_store.proofs.HeadForests.{head_told}
use Rattle.catalogue_store.proofs.ValueCauses.{legible_elements}
use Rattle.catalogue_store.proofs.heads.find_head.Goals as goal

pub returns-in_err-standing : goal.returns-in_err-standing
returns-in_err-standing g c =
    let a = state g.S.Store c.args.tables.now in
    let e = c.in_err-standing.field-0.0 in
    record { answers = tells_not (same_fault c.from_residual.ensures) c.in_err-standing.ensures.reads.aborts c.in_err-standing.ensures.reads.spares (λ o k it may kept clean free. let at = it.catalogue.units in c.in_err-standing.ensures.faults at.units at.rows (legible_units a.now.trees k at kept) clean free) }

pub returns-in_default : goal.returns-in_default
returns-in_default g c =
    record {
      answers = tells_well c.in_ok-standing.ensures.reads.looks (λ clean o k it.
          let at = it.catalogue.units in
          let rows = filter (has_id c.args.unit) at.units in
          let got = c.in_ok-standing.ensures.answers clean at.units at.rows at.rise in
          let told = first_shown standing_of (has_id c.args.unit) at.units (map standing_of rows) refl ∙ (sym got ∙ c.in_default.is) in
          sym (ap (option_map head_of) (none_found (state g.S.Store c.args.tables.now).now.trees k.forest at c.args.unit rows (IsPermutation-refl rows) standing_of told)));
    }

pub returns-in_err-elements : goal.returns-in_err-elements
returns-in_err-elements g c =
    let a = state g.S.Store c.args.tables.now in
    let e = c.in_err-elements.field-0.0 in
    let looked = c.in_ok-standing.ensures.reads.looks in
    record {
      answers = tells_cut (same_fault c.from_residual-in_err-elements.ensures) looked c.in_err-elements.ensures.reads.aborts c.in_err-elements.ensures.reads.spares (λ o k it may kept at_b clean free.
          let at = it.catalogue.elements in
          c.in_err-elements.ensures.faults at.elements (still_numbered element_row _ _ at.elements (ap (λ (db : Database). db.trees tables.element.tree) (looked.same at_b)) at.rows) (legible_elements a.now.trees k.forest at kept.units) clean free);
    }

pub returns-in_err-identifier : goal.returns-in_err-identifier
returns-in_err-identifier g c =
    let looked = looks_then c.in_ok-standing.ensures.reads.looks c.in_ok-elements.ensures.reads.looks in
    record { answers = tells_not (same_fault c.from_residual-in_err-identifier.ensures) (cut_after looked.goes.on) (spares_full looked) (λ o k it may kept clean free. tt) }

pub returns-in_err-title : goal.returns-in_err-title
returns-in_err-title g c =
    let looked = looks_then c.in_ok-standing.ensures.reads.looks c.in_ok-elements.ensures.reads.looks in
    record { answers = tells_not (same_fault c.from_residual-in_err-title.ensures) (cut_after looked.goes.on) (spares_full looked) (λ o k it may kept clean free. tt) }

pub returns : goal.returns
returns g c =
    let looked = c.in_ok-standing.ensures.reads.looks in
    let among = λ (n : ℕ) (elements : List Element). unwrap_or (option_map (λ (e : Element). e.value) (find (λ (e : Element). nat_eq e.k n) elements)) [] in
    record {
      answers = tells_well (looks_then looked c.in_ok-elements.ensures.reads.looks) (λ clean o k it.
          let at = it.catalogue.units in
          let texts = it.catalogue.elements in
          let at_b = early c.in_ok-elements.ensures.reads.looks.goes.on.crash clean in
          let rows = filter (has_id c.args.unit) at.units in
          let got = c.in_ok-standing.ensures.answers at_b at.units at.rows at.rise in
          let first = first_shown standing_of (has_id c.args.unit) at.units (map standing_of rows) refl ∙ (sym got ∙ c.in-Some.is) in
          let found = one_told (state g.S.Store c.args.tables.now).now.trees k.forest at c.args.unit rows (IsPermutation-refl rows) standing_of c.in-Some.standing first in
          let u = found.0 in
          let told = subst (λ n. IsPermutation (numbered_texts u.values) (elements_of n texts.elements)) (sym found.2)
          (all_has (λ (u : Unit). IsPermutation (numbered_texts u.values) (elements_of u.id texts.elements)) (nodes k.forest) u texts.are found.1) in
          let read = (rw c.from.ensures at c.in_ok-elements.ensures).answers clean texts.elements (still_numbered element_row _ _ texts.elements (ap (λ (db : Database). db.trees tables.element.tree) (looked.same at_b)) texts.rows) tt in
          let identifier = c.in_ok-identifier.ensures ∙ ap (among 1) (c.deref.ensures.value ∙ read.2) ∙ ap (λ t. unwrap_or t []) (text_among_first c.args.unit 0 2 u.values texts.elements read.0 (omega arith) told read.1.0) in
          let title = c.in_ok-title.ensures ∙ ap (among 2) (c.deref-2.ensures.value ∙ read.2) ∙ ap (λ t. unwrap_or t []) (text_among_first c.args.unit 1 2 u.values texts.elements read.0 (omega arith) told read.1.0) in
          head_told k.forest c.args.unit u c.in-Some.standing c.in_ok-identifier.identifier c.in_ok-title.title found.2 found.3 found.4 identifier title);
    }
