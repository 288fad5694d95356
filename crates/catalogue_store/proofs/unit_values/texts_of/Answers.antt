use Rattle.std.proofs.Common.{◌≡◌, List, map, ap, ◌∙◌, sym, subst}
use Rattle.isad_core.specs.declared.values.Values.{«Values» as Description}
use Rattle.catalogue_statements.proofs.CellReads.{cells_read, elements_in_order}
use Rattle.catalogue_statements.proofs.TextReads.{cell_of as told_of}
use Rattle.catalogue_statements.specs.DescriptionRows.{cell_of}
use Rattle.catalogue_statements.specs.declared.row_types.Element.{Element}
use Rattle.catalogue_store.proofs.Common.{ElementRow, HasCause, HasCleanDisk, IsSame, Spares, TellsTexts, cut_looks}
use Rattle.catalogue_store.proofs.Common.{if_err_then, map-map, numbered_texts, on_ok_from, same_fault, spares_known}
use Rattle.catalogue_store.proofs.Common.{state, tells_not}
use Rattle.catalogue_store.proofs.ValueCauses.{never_fails}
use Rattle.catalogue_store.proofs.unit_values.texts_of.Goals as goal

pub returns-in_err-found : goal.returns-in_err-found
returns-in_err-found g c = record { answers = tells_not (same_fault c.from_residual.ensures) c.in_err-found.ensures.reads.aborts c.in_err-found.ensures.reads.spares (λ values xs it may legible clean free. c.in_err-found.ensures.faults xs it.rows legible clean free) }

pub returns : goal.returns
returns g c =
    let old = state g.S.Store c.args.tables.now in
    let new = state g.S.Store c.elements_of.new.tables in
    let looked = c.in_ok-found.ensures.reads.looks in
    let read = λ (e : ElementRow). (let x : Element = record { k = e.k; value = e.value } in x) in
    let told = map told_of c.in_ok-found.found.items in
    let are : HasCleanDisk new → (values : Description) (xs : List ElementRow) → TellsTexts c.args.unit old.now values xs → told ≡ numbered_texts values =
    λ clean values xs it.
    let got = c.in_ok-found.ensures.answers clean xs it.rows tt in
    let cells = cells_read (λ (e : ElementRow). e.unit) cell_of c.args.unit (numbered_texts values) xs got.0 (elements_in_order values) it.are got.1.0 got.1.1 in
    ap (map told_of) got.2 ∙ map-map told_of read got.0 ∙ cells in
    record {
      answers = record {
        call = record {
          answers = λ clean values xs it. c.texts_by_element.ensures.value values it.places (are clean values xs it);
          looks = on_ok_from c.texts_by_element.result _ looked;
          aborts = cut_looks c.texts_by_element.result old new looked;
          faults = λ values xs it may legible clean free. never_fails c.texts_by_element.result (HasCause old new) (c.texts_by_element.ensures.places values it.places (are clean values xs it));
        };
        spares = λ clean. if_err_then c.texts_by_element.result _ (Spares IsSame old new) (λ e is. subst (Spares IsSame old new) (sym is) (spares_known looked clean)) c.texts_by_element.ensures.fair;
      };
    }
