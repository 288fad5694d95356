use Rattle.std.proofs.Common.{List, map, refl, sym, ap, ◌∙◌}
use Rattle.office_tables.proofs.Calls.{early, looks_then}
use Rattle.desk_store.specs.declared.reader_permits.Permit.{Permit}
use Rattle.office_core.specs.declared.query.Query.TheVariants as query
use Rattle.state_encoding.proofs.LegibleRows.{desk_legible}
use Rattle.refinement.proofs.CardsShown.{known_ticket}
use Rattle.desk_queries.proofs.Common.{Json, Unknown, UnknownTicket, answers_by, answers_passed_later, compact_text}
use Rattle.desk_queries.proofs.Common.{desk_answers_passed, list, no_float, permit_data, state, still_shown, tables}
use Rattle.desk_queries.proofs.PermitsTold.{has_ticket, no_ticket, permits_told}
use Rattle.desk_queries.proofs.permits.reader_permits.Goals as goal

pub returns-in_err-known : goal.returns-in_err-known
returns-in_err-known g c = let told = c.in_err-known.ensures.answers in desk_answers_passed _ c.from_residual.ensures told.aborts told.faults

pub returns-then-not-known : goal.returns-then-not-known
returns-then-not-known g c =
    let v = g.P.Versioned.version in
    let b = state g.S.Store c.is_registered.new.tables in
    let told = c.in_ok-known.ensures.answers in
    answers_by g.P.Places.represents v (query.ReaderPermits c.args.ticket) (state g.S.Store c.args.tables.now) b (Unknown UnknownTicket) told.looks
    (λ clean s sound it.
    no_ticket v s sound c.args.ticket (sym (known_ticket v s sound c.args.ticket) ∙ sym (told.answers clean tt (tables v s).desk it.desk) ∙ c.if-not-known.true))

pub returns-in_err-granted : goal.returns-in_err-granted
returns-in_err-granted g c =
    let v = g.P.Versioned.version in
    let told = c.in_err-granted.ensures.answers in
    answers_passed_later _ c.from_residual-in_err-granted.ensures c.in_ok-known.ensures.answers.looks told.aborts
    (λ s sound it. told.faults tt (tables v s).desk it.desk tt (desk_legible v s sound))

pub list_text-requires : goal.list_text-requires
list_text-requires g c = record { whole = no_float permit_data (λ permit. refl) c.deref.result.now }

pub returns : goal.returns
returns g c =
    let v = g.P.Versioned.version in
    let a = state g.S.Store c.args.tables.now in
    let first = c.in_ok-known.ensures.answers in
    let told = c.in_ok-granted.ensures.answers in
    let t = c.args.ticket in
    answers_by g.P.Places.represents v (query.ReaderPermits t) a (state g.S.Store c.permits.new.tables) (Json c.in_ok-text.text) (looks_then first.looks told.looks)
    (λ clean s sound it.
    let at_b = early told.looks.goes.on.crash clean in
    let at = still_shown g.P.Places.represents v a (state g.S.Store c.is_registered.new.tables) first.looks at_b s it in
    ap Json c.in_ok-text.ensures
    ∙ ap (λ (l : List Permit). Json (compact_text (list (map permit_data l)))) c.deref.ensures.value
    ∙ ap (λ l. Json (compact_text (list l))) (permits_told v s sound t c.in_ok-granted.granted.items (told.answers clean tt (tables v s).desk at.desk))
    ∙ has_ticket v s sound t (sym (known_ticket v s sound t) ∙ sym (first.answers at_b tt (tables v s).desk it.desk) ∙ c.if-not-known.false))
