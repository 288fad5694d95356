use Rattle.std.proofs.Common.{ℕ, List, [], nat_eq, sym, ap, subst, ◌∙◌, arith}
use Rattle.std.specs.Prelude.{find}
use Rattle.office_tables.specs.Schema as tables
use Rattle.catalogue_statements.proofs.FirstTexts.{text_among_first}
use Rattle.catalogue_statements.specs.declared.row_types.Element.{Element}
use Rattle.catalogue_store.proofs.HeadForests.{head_told}
use Rattle.catalogue_store.proofs.ValueCauses.{legible_elements}
use Rattle.public_queries.proofs.Common.{Database, IsPermutation, Unit, all_has, early, element_row, elements_of}
use Rattle.public_queries.proofs.Common.{has_id, looks_then, nodes, numbered_texts, option_map, state, still_numbered}
use Rattle.public_queries.proofs.Common.{tells_full, tells_passed_later, tells_well, unwrap_or}
use Rattle.public_queries.proofs.OwnRows.{published}
use Rattle.public_queries.proofs.PublicHeads.{found_there, no_head, same_public}
use Rattle.public_queries.proofs.public_heads.find_public_head.Goals as goal

pub returns-in_default : goal.returns-in_default
returns-in_default g c =
    let told = c.in_ok-standing.ensures.answers in
    record { answers = tells_well told.looks (λ clean o k it. no_head _ (sym c.in_default.is ∙ told.answers clean o k it)) }

pub returns-in_err-elements : goal.returns-in_err-elements
returns-in_err-elements g c =
    let read = c.in_err-elements.ensures in
    record {
      answers = tells_passed_later _ c.from_residual-in_err-elements.ensures c.in_ok-standing.ensures.answers.looks read.reads.aborts (λ o k it may kept.
          let at = it.catalogue.elements in
          read.faults at.elements at.rows (legible_elements (state g.S.Store c.find_published.new.tables).now.trees k.forest at kept.units));
    }

pub returns-in_err-identifier : goal.returns-in_err-identifier
returns-in_err-identifier g c = record { answers = tells_full c.from_residual-in_err-identifier.ensures (looks_then c.in_ok-standing.ensures.answers.looks c.in_ok-elements.ensures.reads.looks) }

pub returns-in_err-title : goal.returns-in_err-title
returns-in_err-title g c = record { answers = tells_full c.from_residual-in_err-title.ensures (looks_then c.in_ok-standing.ensures.answers.looks c.in_ok-elements.ensures.reads.looks) }

pub returns : goal.returns
returns g c =
    let first = c.in_ok-standing.ensures.answers in
    let among = λ (n : ℕ) (elements : List Element). unwrap_or (option_map (λ (e : Element). e.value) (find (λ (e : Element). nat_eq e.k n) elements)) [] in
    record {
      answers = tells_well (looks_then first.looks c.in_ok-elements.ensures.reads.looks) (λ clean o k it.
          let texts = it.catalogue.elements in
          let at_b = early c.in_ok-elements.ensures.reads.looks.goes.on.crash clean in
          let found = find (has_id c.args.unit) (nodes k.forest) in
          let own = published found c.in-Some.standing (sym c.in-Some.is ∙ first.answers at_b o k it) in
          let u = own.unit in
          let there = found_there c.args.unit (nodes k.forest) u own.is in
          let told = subst (λ n. IsPermutation (numbered_texts u.values) (elements_of n texts.elements)) (sym there.1)
          (all_has (λ (u : Unit). IsPermutation (numbered_texts u.values) (elements_of u.id texts.elements)) (nodes k.forest) u texts.are there.0) in
          let read = (rw c.from.ensures at c.in_ok-elements.ensures).answers clean texts.elements (still_numbered element_row _ _ texts.elements (ap (λ (db : Database). db.trees tables.element.tree) (first.looks.same at_b)) texts.rows) tt in
          let identifier = c.in_ok-identifier.ensures ∙ ap (among 1) (c.deref.ensures.value ∙ read.2) ∙ ap (λ t. unwrap_or t []) (text_among_first c.args.unit 0 2 u.values texts.elements read.0 (omega arith) told read.1.0) in
          let title = c.in_ok-title.ensures ∙ ap (among 2) (c.deref-2.ensures.value ∙ read.2) ∙ ap (λ t. unwrap_or t []) (text_among_first c.args.unit 1 2 u.values texts.elements read.0 (omega arith) told read.1.0) in
          head_told k.forest c.args.unit u c.in-Some.standing c.in_ok-identifier.identifier c.in_ok-title.title there.1 own.is own.told identifier title
          ∙ same_public found c.in-Some.standing own);
    }
