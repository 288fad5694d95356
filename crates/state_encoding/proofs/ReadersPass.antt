-- The rows of readers, seats and permits of a sound state are good.
use Rattle.std.proofs.Common.{◌≡◌, ℕ, suc, ◌+◌, ◌<◌, ◌≤◌, true, List, [], ◌∷◌, length, Option, Some, None, refl, sym}
use Rattle.std.proofs.Common.{ap, ◌∙◌, subst, inl, inr, arith}
use Rattle.std.specs.Prelude.{map, nat_eq}
use Rattle.catalogue_core.specs.Sources.{is_between}
use Rattle.state_encoding.proofs.Common.{IsDayNumber, IsSound, Permit, PermitRow, ReaderRow, SeatRow, StandsIn, State}
use Rattle.state_encoding.proofs.Common.{Version, and_from, are_good_readers, are_numbered_from, around, cases_Bool}
use Rattle.state_encoding.proofs.Common.{count_by, filter, has_unit, is_day_number, is_day_number-true, is_good_permit}
use Rattle.state_encoding.proofs.Common.{is_good_reader, is_good_seat, is_name, is_registered, is_seat_of, is_ticket}
use Rattle.state_encoding.proofs.Common.{is_unit_there, le-leb, length-filter, length-map, list_all, most_permits}
use Rattle.state_encoding.proofs.Common.{most_tickets, nat_le, numbers_to, permit_row, permit_rows, reader_row}
use Rattle.state_encoding.proofs.Common.{reader_rows, same_number, seat_rows, seat_rows_from, tables}
use Rattle.state_encoding.proofs.ReadBack.{permits_back}
use Rattle.state_encoding.proofs.Members.{all_in, any_of_in, tests_of_in, in_flat_map, in_map}
use Rattle.state_encoding.proofs.NumberedRows.{rows_are_numbered, length-rows, in_rows, numbered_in}
use Rattle.state_encoding.proofs.DeskLookups.{registered, unit_there, between}

-- a seat row is that of a taken seat
pub in_seats : (n : ℕ) (seats : List (Option ℕ)) (r : SeatRow) → StandsIn r (seat_rows_from n seats)
    → (n ≤ r.seat) × (r.seat < n + length seats) × StandsIn (Some r.ticket) seats
in_seats n [] r k = absurd k
in_seats n (None ∷ seats) r k =
    let i = in_seats (suc n) seats r k in
    let a = i.0 in
    let b = i.1 in
    (omega (arith, a), omega (arith, b), inr i.2)
in_seats n (Some t ∷ seats) r k =
    elim k [
      | inl e ↦ (let a = ap (λ (row : SeatRow). row.seat) e in (omega (arith, a), omega (arith, a), inl (ap (λ (row : SeatRow). Some row.ticket) e)))
      | inr l ↦
          let i = in_seats (suc n) seats r l in
          let a = i.0 in
          let b = i.1 in
          (omega (arith, a), omega (arith, b), inr i.2)
    ]

module _ (version : Version) (s : State) (g : IsSound s) where
  readers_numbered : are_numbered_from (λ (row : ReaderRow). row.ticket) 1 (reader_rows s) ≡ true
  readers_numbered = rows_are_numbered reader_row (λ row. row.ticket) (λ n x. refl) 1 s.readers

  good_reader : (r : ReaderRow) → StandsIn r (reader_rows s) → is_good_reader r ≡ true
  good_reader r k =
      let i = in_rows reader_row s.readers r k in
      ap is_good_reader i.3
      ∙ and_from (is_name i.1.name) (is_day_number i.1.until) (g.desk.readers.names i.0 i.1 i.2)
      (is_day_number-true i.1.until (all_in (λ reader. IsDayNumber reader.until) s.readers i.1 g.days.readers (numbered_in s.readers i.0 i.1 i.2)))

  good_seat : (r : SeatRow) → StandsIn r (seat_rows s)
      → is_good_seat (around (tables version s)) (tables version s).desk r ≡ true
  good_seat r k =
      let i = in_seats 1 s.seats r k in
      let low = i.0 in
      let high = i.1 in
      let count = g.desk.seats.count in
      and_from (is_between 1 s.settings.seats r.seat) (is_registered (tables version s).desk r.ticket) (between 1 s.settings.seats r.seat low (omega (arith, high, count)))
      (registered version s r.ticket ∙ g.desk.seats.known r.ticket (any_of_in (is_seat_of r.ticket) s.seats (Some r.ticket) i.2 (same_number r.ticket)))

  -- who has a permit is registered
  has_ticket : (ticket : ℕ) (p : Permit) → StandsIn p (s.permits ticket) → is_ticket s ticket ≡ true
  has_ticket ticket p k =
      elim (cases_Bool (is_ticket s ticket)) [
        | inl e ↦ e
        | inr e ↦ absurd (subst (StandsIn p) (g.desk.permits.known ticket e) k)
      ]

  permits_count : (ticket : ℕ)
      → count_by (λ (other : PermitRow). nat_eq other.ticket ticket) (permit_rows s) ≡ length (s.permits ticket)
  permits_count ticket =
      let mine = filter (λ (other : PermitRow). nat_eq other.ticket ticket) (permit_rows s) in
      sym (length-filter (λ (other : PermitRow). nat_eq other.ticket ticket) (permit_rows s))
      ∙ (sym (length-map mine (λ (row : PermitRow). (let p : Permit = record { unit = row.unit; until = row.until } in p)))
      ∙ ap (λ permits. length (permits ticket)) (permits_back s g.desk.permits))

  good_permit_of : (ticket : ℕ) (p : Permit) → StandsIn p (s.permits ticket)
      → is_good_permit (around (tables version s)) (tables version s).desk (permit_row ticket p) ≡ true
  good_permit_of ticket p k =
      let t = tables version s in
      let few = g.desk.permits.few ticket in
      let count = permits_count ticket in
      and_from (is_registered t.desk ticket) _ (registered version s ticket ∙ has_ticket ticket p k)
      (and_from (is_unit_there t p.unit) _ (unit_there version s p.unit ∙ all_in (λ permit. has_unit s.catalogue.forest permit.unit ≡ true) (s.permits ticket) p (g.permits ticket) k)
      (and_from (is_day_number p.until) _ (is_day_number-true p.until (all_in (λ permit. IsDayNumber permit.until) (s.permits ticket) p (g.days.permits ticket) k))
      (le-leb (count_by (λ (other : PermitRow). nat_eq other.ticket ticket) t.desk.permits) most_permits (omega (arith, count, few)))))

  good_permit : (r : PermitRow) → StandsIn r (permit_rows s)
      → is_good_permit (around (tables version s)) (tables version s).desk r ≡ true
  good_permit r k =
      let i = in_flat_map (λ t. map (permit_row t) (s.permits t)) (numbers_to (length s.readers)) r k in
      let j = in_map (permit_row i.0) (s.permits i.0) r i.2 in
      ap (is_good_permit (around (tables version s)) (tables version s).desk) j.2 ∙ good_permit_of i.0 j.0 j.1

  pub readers_pass : are_good_readers (around (tables version s)) (tables version s).desk ≡ true
  readers_pass =
      let t = tables version s in
      let few = g.desk.readers.few in
      let count = length-rows reader_row 1 s.readers in
      and_from (are_numbered_from (λ (row : ReaderRow). row.ticket) 1 t.desk.readers) _ readers_numbered
      (and_from (nat_le (length t.desk.readers) most_tickets) _ (le-leb (length t.desk.readers) most_tickets (omega (arith, few, count)))
      (and_from (list_all is_good_reader t.desk.readers) _ (tests_of_in is_good_reader t.desk.readers good_reader)
      (and_from (list_all (is_good_seat (around t) t.desk) t.desk.seats) _ (tests_of_in (is_good_seat (around t) t.desk) t.desk.seats good_seat) (tests_of_in (is_good_permit (around t) t.desk) t.desk.permits good_permit))))
