use Rattle.std.proofs.Common.{◌<◌, ◌^◌, length, List, None, refl, ap, sym, subst, ◌∙◌, nat_eq}
use Rattle.desk_store.proofs.Common.{OrderLine, RepresentsDeskAlone, count_by, early, looks_then, option_map}
use Rattle.desk_store.proofs.Common.{same_fault}
use Rattle.desk_store.proofs.CardCalls.{out_of_those, few_lines, seat_told, holder_with, holder_told}
use Rattle.desk_store.proofs.CardRows.{in_state}
use Rattle.desk_store.proofs.ticket_holders.ticket_holder.Goals as goal
use Rattle.desk_store.proofs.ToldCalls.{shown_on}
use Rattle.desk_store.proofs.TellingCalls.{ends_not, ends_well}

pub returns-in_default : goal.returns-in_default
returns-in_default g c =
    record {
      answers = ends_well c.in_ok-row.ensures.reads.looks None (λ clean d shown.
          sym (ap (option_map (holder_with c.args.ticket d)) c.in_default.is) ∙ holder_told c.args.ticket d _ (c.in_ok-row.ensures.answers clean d.readers shown.readers shown.tickets));
    }

pub returns-in_err-taken : goal.returns-in_err-taken
returns-in_err-taken g c = record { answers = ends_not c.in_ok-row.ensures.reads.looks c.in_err-taken.ensures.reads.aborts c.in_err-taken.ensures.reads.spares (λ d shown may kept. c.in_err-taken.ensures.faults d.seats shown.seats kept.seats) (same_fault c.from_residual-in_err-taken.ensures) }

pub returns-in_err-lines : goal.returns-in_err-lines
returns-in_err-lines g c = record { answers = ends_not (looks_then c.in_ok-row.ensures.reads.looks c.in_ok-taken.ensures.reads.looks) c.in_err-lines.ensures.reads.aborts c.in_err-lines.ensures.reads.spares (λ d shown may kept. c.in_err-lines.ensures.faults d.orders shown.orders tt) (same_fault c.from_residual-in_err-lines.ensures) }

pub returns : goal.returns
returns g c =
    record {
      answers = let t = c.args.ticket in
          let first = c.in_ok-row.ensures.reads.looks in
          let two = looks_then first c.in_ok-taken.ensures.reads.looks in
          ends_well (looks_then two c.in_ok-lines.ensures.reads.looks) _ (λ clean d shown.
          let at_s = early c.in_ok-lines.ensures.reads.crash clean in
          let at_b = early c.in_ok-taken.ensures.reads.crash at_s in
          let shown_b = shown_on RepresentsDeskAlone first at_b d shown in
          let shown_s = shown_on RepresentsDeskAlone two at_s d shown in
          let holder = sym (ap (option_map (holder_with t d)) c.in-Some.is) ∙ holder_told t d _ (c.in_ok-row.ensures.answers at_b d.readers shown.readers shown.tickets) in
          let seat = c.seat_in.ensures ∙ seat_told t d _ (c.in_ok-taken.ensures.answers at_s d.seats shown_b.seats shown_b.seats_rise) in
          let lines = c.deref.ensures.value ∙ c.in_ok-lines.ensures.answers clean d.orders shown_s.orders shown_s.order_numbers in
          let few = subst (λ (l : List OrderLine). length l < 2 ^ 32) (sym lines) (few_lines (in_state t 2) d shown.few_orders) in
          let held = c.count_out.ensures few ∙ ap (count_by (λ (l : OrderLine). nat_eq l.state 2)) lines ∙ out_of_those t d.orders in
          (rw (c.get.ensures.same, seat, held) refl) ∙ holder);
    }
