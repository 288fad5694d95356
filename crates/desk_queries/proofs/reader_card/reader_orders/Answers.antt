use Rattle.std.proofs.Common.{Option, sym, ap, ◌∙◌}
use Rattle.desk_store.specs.declared.reader_summary.ReaderCard.{ReaderCard}
use Rattle.office_core.specs.declared.query.Query.TheVariants as query
use Rattle.desk_queries.proofs.Common.{Json, Unknown, UnknownTicket, answers_by, card_data, desk_answers_passed}
use Rattle.desk_queries.proofs.Common.{known_json, option_map, state, tables}
use Rattle.desk_queries.proofs.CardTold.{card_answer}
use Rattle.desk_queries.proofs.reader_card.reader_orders.Goals as goal

pub returns-in_err-card : goal.returns-in_err-card
returns-in_err-card g c = let told = c.in_err-card.ensures.answers in desk_answers_passed _ c.from_residual.ensures told.aborts told.faults

pub returns-in_default : goal.returns-in_default
returns-in_default g c =
    let v = g.P.Versioned.version in
    let b = state g.S.Store c.reader.new.tables in
    let told = c.in_ok-card.ensures.answers in
    answers_by g.P.Places.represents v (query.ReaderOrders c.args.ticket) (state g.S.Store c.args.tables.now) b (Unknown UnknownTicket) told.looks
    (λ clean s sound it.
    ap (λ (card : Option ReaderCard). known_json UnknownTicket (option_map card_data card)) (sym c.in_default.is)
    ∙ card_answer v s sound c.args.ticket c.args.today c.in_ok-card.field-0 (told.answers clean tt (tables v s).desk it.desk))

pub returns : goal.returns
returns g c =
    let v = g.P.Versioned.version in
    let b = state g.S.Store c.reader.new.tables in
    let told = c.in_ok-card.ensures.answers in
    answers_by g.P.Places.represents v (query.ReaderOrders c.args.ticket) (state g.S.Store c.args.tables.now) b (Json c.in_ok-text.text) told.looks
    (λ clean s sound it.
    ap Json c.in_ok-text.ensures
    ∙ ap (λ (card : Option ReaderCard). known_json UnknownTicket (option_map card_data card)) (sym c.in-Some.is)
    ∙ card_answer v s sound c.args.ticket c.args.today c.in_ok-card.field-0 (told.answers clean tt (tables v s).desk it.desk))
