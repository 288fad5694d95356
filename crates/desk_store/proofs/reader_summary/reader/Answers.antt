use Rattle.std.proofs.Common.{None, refl, ap, sym, ◌∙◌}
use Rattle.desk_store.proofs.Common.{RepresentsDeskAlone, early, looks_then, option_map, same_fault}
use Rattle.desk_store.proofs.CardCalls.{seat_told, card_with, card_told}
use Rattle.desk_store.proofs.reader_summary.reader.Goals as goal
use Rattle.desk_store.proofs.ToldCalls.{shown_on}
use Rattle.desk_store.proofs.TellingCalls.{ends_not, ends_well}

pub returns-in_default : goal.returns-in_default
returns-in_default g c =
    record {
      answers = ends_well c.in_ok-name.ensures.reads.looks None (λ clean d shown.
          sym (ap (option_map (card_with c.args.ticket c.args.today d)) c.in_default.is) ∙ card_told c.args.ticket c.args.today d _ (c.in_ok-name.ensures.answers clean d.readers shown.readers shown.tickets));
    }

pub returns-in_err-taken : goal.returns-in_err-taken
returns-in_err-taken g c = record { answers = ends_not c.in_ok-name.ensures.reads.looks c.in_err-taken.ensures.reads.aborts c.in_err-taken.ensures.reads.spares (λ d shown may kept. c.in_err-taken.ensures.faults d.seats shown.seats kept.seats) (same_fault c.from_residual-in_err-taken.ensures) }

pub returns-in_err-told : goal.returns-in_err-told
returns-in_err-told g c = record { answers = ends_not (looks_then c.in_ok-name.ensures.reads.looks c.in_ok-taken.ensures.reads.looks) c.in_err-told.ensures.answers.aborts c.in_err-told.ensures.answers.spares (λ d shown may kept. c.in_err-told.ensures.answers.faults tt d shown tt kept) (same_fault c.from_residual-in_err-told.ensures) }

pub returns : goal.returns
returns g c =
    record {
      answers = let first = c.in_ok-name.ensures.reads.looks in
          let two = looks_then first c.in_ok-taken.ensures.reads.looks in
          ends_well (looks_then two c.in_ok-told.ensures.answers.looks) _ (λ clean d shown.
          let at_s = early c.in_ok-told.ensures.answers.looks.goes.on.crash clean in
          let at_b = early c.in_ok-taken.ensures.reads.crash at_s in
          let shown_b = shown_on RepresentsDeskAlone first at_b d shown in
          let card = sym (ap (option_map (card_with c.args.ticket c.args.today d)) c.in-Some.is) ∙ card_told c.args.ticket c.args.today d _ (c.in_ok-name.ensures.answers at_b d.readers shown.readers shown.tickets) in
          let seat = c.seat_in.ensures ∙ seat_told c.args.ticket d _ (c.in_ok-taken.ensures.answers at_s d.seats shown_b.seats shown_b.seats_rise) in
          let told = c.in_ok-told.ensures.answers.answers clean tt d (shown_on RepresentsDeskAlone two at_s d shown) in
          (rw (c.get.ensures.same, seat, told) refl) ∙ card);
    }
