use Rattle.std.proofs.Common.{List, map, refl, ap, ◌∙◌}
use Rattle.desk_store.specs.declared.container_orders.ContainerOrder.{ContainerOrder}
use Rattle.office_core.specs.declared.query.Query.TheVariants as query
use Rattle.desk_queries.proofs.Common.{Json, answers_by, compact_text, desk_answers_passed, list, loan_data, no_float}
use Rattle.desk_queries.proofs.Common.{state, tables}
use Rattle.desk_queries.proofs.IssuedTold.{issued_told}
use Rattle.desk_queries.proofs.loans.issued_now.Goals as goal

pub returns-in_err-loans : goal.returns-in_err-loans
returns-in_err-loans g c = let told = c.in_err-loans.ensures.answers in desk_answers_passed _ c.from_residual.ensures told.aborts told.faults

pub list_text-requires : goal.list_text-requires
list_text-requires g c = record { whole = no_float loan_data (λ loan. refl) c.deref.result.now }

pub returns : goal.returns
returns g c =
    let v = g.P.Versioned.version in
    let b = state g.S.Store c.issued.new.tables in
    let told = c.in_ok-loans.ensures.answers in
    answers_by g.P.Places.represents v query.IssuedNow (state g.S.Store c.args.tables.now) b (Json c.in_ok-text.text) told.looks
    (λ clean s sound it.
    ap Json c.in_ok-text.ensures
    ∙ ap (λ (l : List ContainerOrder). Json (compact_text (list (map loan_data l)))) (c.deref.ensures.value ∙ told.answers clean tt (tables v s).desk it.desk)
    ∙ ap (λ l. Json (compact_text (list l))) (issued_told s v))
