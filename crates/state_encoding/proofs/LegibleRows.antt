-- The rows of a sound office's desk can be read back.
use Rattle.std.proofs.Common.{◌≡◌, ℕ, zero, suc, ◌<◌, ◌≤◌, ◌^◌, true, false, ◌&&◌, ◌||◌, List, [], ◌∷◌, length, Option}
use Rattle.std.proofs.Common.{Some, None, inl, inr, arith}
use Rattle.std.specs.Prelude.{nat_eq, IsUtf8}
use Rattle.desk_core.specs.DeskRows.{Desk}
use Rattle.desk_core.specs.LegibleDesks.{IsKnownPlace, IsLegible, IsLegibleHolding, IsLegibleOrder, IsLegibleReader}
use Rattle.state_encoding.proofs.Common.{AllByRecursion, Around, IsDayNumber, IsSoundOffice, PassesAtTheDesk, PermitRow}
use Rattle.state_encoding.proofs.Common.{Reader, RunRow, SeatRow, StandsIn, State, Version, and_parts}
use Rattle.state_encoding.proofs.Common.{are_good_holdings, are_good_orders, are_good_readers, are_good_runs, around}
use Rattle.state_encoding.proofs.Common.{eqb-true, false≢true, is_day_number, is_day_number-true, is_good_holding}
use Rattle.state_encoding.proofs.Common.{is_good_order, is_good_permit, is_good_reader, is_good_run, is_good_seat}
use Rattle.state_encoding.proofs.Common.{is_none, is_out_order, list_all, list_any, most_seats, numbers_to, or_cases}
use Rattle.state_encoding.proofs.Common.{reader_row, rows_from, tables}
use Rattle.state_encoding.proofs.DeskLookups.{is_between_so}
use Rattle.state_encoding.proofs.DeskParts.{not_bad}
use Rattle.state_encoding.proofs.DeskPasses.{desk_passes}
use Rattle.state_encoding.proofs.DeskKeys.{in_holdings}
use Rattle.state_encoding.proofs.Members.{all_of_in, test_in}

-- ---- readers

legible_readers : (n : ℕ) (readers : List Reader) → AllByRecursion (λ (r : Reader). IsUtf8 r.name) readers
    → AllByRecursion (λ (r : Reader). IsDayNumber r.until) readers
    → AllByRecursion IsLegibleReader (rows_from reader_row n readers)
legible_readers n [] h d = tt
legible_readers n (r ∷ readers) h d =
    (record { name = h.0; until = is_day_number-true r.until d.0 }, legible_readers (suc n) readers h.1 d.1)

-- ---- what the clerk's tests say

small_place : (place : ℕ) (held : Option ℕ) (d : Desk) (c : ℕ)
    → ((nat_eq place 1 && is_none held) || (nat_eq place 2 && Rattle.isad_core.specs.Words.some_and (λ o. list_any (is_out_order o c) d.orders) held)) ≡ true
    → IsKnownPlace place held
small_place place None d c e =
    elim (or_cases (nat_eq place 1 && true) (nat_eq place 2 && false) e) [
      | inl desk ↦ eqb-true place 1 (and_parts (nat_eq place 1) true desk).0
      | inr out ↦ absurd (false≢true (and_parts (nat_eq place 2) false out).1)
    ]
small_place place (Some o) d c e =
    elim (or_cases (nat_eq place 1 && false) (nat_eq place 2 && list_any (is_out_order o c) d.orders) e) [
      | inl desk ↦ absurd (false≢true (and_parts (nat_eq place 1) false desk).1)
      | inr out ↦ inr (eqb-true place 2 (and_parts (nat_eq place 2) (list_any (is_out_order o c) d.orders) out).0)
    ]

up_to : (n m : ℕ) → StandsIn m (numbers_to n) → m ≤ n
up_to zero m k = absurd k
up_to (suc n) m k =
    elim (Rattle.state_encoding.proofs.Members.in_append (numbers_to n) (suc n ∷ []) m k) [
      | inl lower ↦ (let l = up_to n m lower in omega (arith, l))
      | inr last ↦ elim last [ inl same ↦ omega (arith, same) | inr none ↦ absurd none ]
    ]

module _ (version : Version) (s : State) (g : IsSoundOffice s) where
  passes : PassesAtTheDesk (tables version s)
  passes = desk_passes version s g.sound

  abbrev d : Desk
  d = (tables version s).desk

  abbrev a : Around
  a = around (tables version s)

  seats_legible : AllByRecursion (λ (r : SeatRow). r.seat < 2 ^ 32) d.seats
  seats_legible =
      let good = not_bad (are_good_readers a d) passes.causes.readers in
      let one = (and_parts _ _ (and_parts _ _ good).1).1 in
      let seats = (and_parts _ _ (and_parts (list_all is_good_reader d.readers) (list_all (is_good_seat a d) d.seats && list_all (is_good_permit a d) d.permits) one).1).0 in
      all_of_in (λ (r : SeatRow). r.seat < 2 ^ 32) d.seats (λ r k.
      let it = (is_between_so 1 s.settings.seats r.seat (and_parts _ _ (test_in (is_good_seat a d) d.seats r seats k)).0).1 in
      let most = (is_between_so 1 most_seats s.settings.seats g.sound.settings.seats).1 in
      omega (arith, it, most))

  permits_legible : AllByRecursion (λ (r : PermitRow). is_day_number r.until ≡ true) d.permits
  permits_legible =
      let good = not_bad (are_good_readers a d) passes.causes.readers in
      let one = (and_parts _ _ (and_parts _ _ good).1).1 in
      let permits = (and_parts _ _ (and_parts (list_all is_good_reader d.readers) (list_all (is_good_seat a d) d.seats && list_all (is_good_permit a d) d.permits) one).1).1 in
      all_of_in (λ (r : PermitRow). is_day_number r.until ≡ true) d.permits (λ r k.
      (and_parts _ _ (and_parts _ _ (and_parts _ _ (test_in (is_good_permit a d) d.permits r permits k)).1).1).0)

  orders_legible : AllByRecursion IsLegibleOrder d.orders
  orders_legible =
      let good = not_bad (are_good_orders a d) passes.causes.orders in
      let orders = (and_parts _ _ (and_parts _ _ good).1).1 in
      all_of_in IsLegibleOrder d.orders (λ r k.
      let it = (and_parts _ _ (and_parts _ _ (test_in (is_good_order a d) d.orders r orders k)).1).1 in
      let state = is_between_so 1 4 r.state (and_parts _ _ it).0 in
      record { day = (and_parts _ _ (and_parts _ _ it).1).0; some_state = state.0; state = state.1 })

  holdings_legible : AllByRecursion IsLegibleHolding d.holdings
  holdings_legible =
      let good = not_bad (are_good_holdings a d) passes.causes.holdings in
      let holdings = (and_parts _ _ good).0 in
      all_of_in IsLegibleHolding d.holdings (λ r k.
      let it = (and_parts _ _ (test_in (is_good_holding a d) d.holdings r holdings k)).1 in
      let low = up_to (length s.catalogue.containers) r.container (in_holdings s.place (numbers_to (length s.catalogue.containers)) r k).0 in
      let few = g.sound.containers.few in
      record { number = omega (arith, low, few); place = small_place r.place r.held_by d r.container it })

  runs_legible : AllByRecursion (λ (r : RunRow). is_day_number r.day ≡ true) d.runs
  runs_legible =
      let good = not_bad (are_good_runs a d) passes.causes.runs in
      let runs = (and_parts _ _ (and_parts _ _ (and_parts _ _ good).1).1).0 in
      all_of_in (λ (r : RunRow). is_day_number r.day ≡ true) d.runs (λ r k. (and_parts _ _ (test_in (is_good_run a d) d.runs r runs k)).0)

  pub desk_legible : IsLegible d
  desk_legible = record {
    readers = legible_readers 1 s.readers g.texts.readers g.sound.days.readers;
    seats = seats_legible;
    orders = orders_legible;
    holdings = holdings_legible;
    runs = runs_legible;
    permits = permits_legible;
  }
