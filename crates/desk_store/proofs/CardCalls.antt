-- A reader's card, and the holder of a ticket: the parts are read one after another, and nothing is changed between them.
use Rattle.std.proofs.Common.{◌≡◌, ℕ, ℤ, suc, ◌<◌, ◌≤◌, ◌^◌, ◌&&◌, ◌||◌, true, false, Bool, cond, nat_eq, List, [], ◌∷◌, map}
use Rattle.std.proofs.Common.{filter, length, find, Option, Some, None, refl, sym, ap, subst, ◌∙◌, arith}
use Rattle.std.proofs.lemmas.List.Sums.{length-filter, count_by-le-length}
use Rattle.desk_core.proofs.Counts.{count_map}
use Rattle.desk_core.specs.declared.reader.Reader.{Reader}
use Rattle.desk_store.specs.declared.reader_summary.ReaderCard.{ReaderCard}
use Rattle.desk_store.specs.declared.readers.NamedReader.{NamedReader}
use Rattle.desk_store.specs.declared.taken_seats.TakenSeat.{TakenSeat}
use Rattle.office_tables.proofs.Rows.{filters, same_test}
use Rattle.desk_store.proofs.Common.{Desk, OrderLine, OrderRow, SeatRow, card_of, count_by, has_not_ended, held_with}
use Rattle.desk_store.proofs.Common.{is_some, length-map, most_orders, option_map, orders_not_ended}
use Rattle.desk_store.proofs.Common.{placed_on, reader_with, seat_of_ticket, ticket_holder}
use Rattle.desk_store.proofs.CardRows.{in_state, line_of}
use Rattle.desk_store.proofs.ReaderRows.{named}
use Rattle.desk_store.proofs.SeatRows.{taken}

-- ---- a number that was given

pub some_mapped : {X Y : Type 0} (f : X → Y) (o : Option X) → is_some (option_map f o) ≡ is_some o
some_mapped f None = refl
some_mapped f (Some x) = refl

-- ---- how many of the orders that have not ended are out

abbrev out_among : List OrderRow → List OrderRow
out_among = filter (λ (o : OrderRow). nat_eq o.state 2)

-- one order more; an order that is out has not ended
one_more : (mine : Bool) (o : OrderRow) (live out : List OrderRow) → length (out_among live) ≡ length out
    → length (out_among (cond (mine && has_not_ended o) (o ∷ live) live)) ≡ length (cond (mine && nat_eq o.state 2) (o ∷ out) out)
one_more false o live out same = same
one_more true o live out same = by (nat_eq o.state 1) (nat_eq o.state 2) refl
  where
    by : (x y : Bool) → nat_eq o.state 2 ≡ y → length (out_among (cond (x || y) (o ∷ live) live)) ≡ length (cond (nat_eq o.state 2) (o ∷ out) out)
    by true true k = rw k (ap suc same)
    by true false k = rw k same
    by false true k = rw k (ap suc same)
    by false false k = rw k same

same_out : (t : ℕ) (xs : List OrderRow)
    → length (out_among (filter (λ (o : OrderRow). nat_eq t o.ticket && has_not_ended o) xs)) ≡ length (filter (λ (o : OrderRow). nat_eq t o.ticket && nat_eq o.state 2) xs)
same_out t [] = refl
same_out t (o ∷ xs) =
    one_more (nat_eq t o.ticket) o (filter (λ (o : OrderRow). nat_eq t o.ticket && has_not_ended o) xs) (filter (λ (o : OrderRow). nat_eq t o.ticket && nat_eq o.state 2) xs) (same_out t xs)

pub out_of_lines : (t : ℕ) (xs : List OrderRow)
    → count_by (λ (l : OrderLine). nat_eq l.state 2) (map line_of (filter (λ (o : OrderRow). nat_eq t o.ticket && has_not_ended o) xs)) ≡ count_by (λ (o : OrderRow). nat_eq t o.ticket && nat_eq o.state 2) xs
out_of_lines t xs =
    let kept = filter (λ (o : OrderRow). nat_eq t o.ticket && has_not_ended o) xs in
    count_map (λ (l : OrderLine). nat_eq l.state 2) line_of kept ∙ sym (length-filter (λ (o : OrderRow). nat_eq o.state 2) kept)
    ∙ same_out t xs ∙ length-filter (λ (o : OrderRow). nat_eq t o.ticket && nat_eq o.state 2) xs

-- or of those that are out alone
out_twice : (mine out : Bool) → ((mine && out) && out) ≡ (mine && out)
out_twice true true = refl
out_twice true false = refl
out_twice false out = refl

pub out_of_those : (t : ℕ) (xs : List OrderRow)
    → count_by (λ (l : OrderLine). nat_eq l.state 2) (map line_of (filter (in_state t 2) xs)) ≡ count_by (in_state t 2) xs
out_of_those t xs =
    let kept = filter (in_state t 2) xs in
    count_map (λ (l : OrderLine). nat_eq l.state 2) line_of kept ∙ sym (length-filter (λ (o : OrderRow). nat_eq o.state 2) kept)
    ∙ ap length (filters (in_state t 2) (λ (o : OrderRow). nat_eq o.state 2) xs ∙ same_test _ _ (λ (o : OrderRow). out_twice (nat_eq t o.ticket) (nat_eq o.state 2)) xs)
    ∙ length-filter (in_state t 2) xs

-- a ticket has fewer orders than can be told
few_kept : (p : OrderRow → Bool) (xs : List OrderRow) → length (filter p xs) ≤ length xs
few_kept p xs = subst (λ n. n ≤ length xs) (sym (length-filter p xs)) (count_by-le-length p xs)

pub few_lines : (p : OrderRow → Bool) (d : Desk) → length d.orders ≤ most_orders → length (map line_of (filter p d.orders)) < 2 ^ 32
few_lines p d few =
    let same = length-map (filter p d.orders) line_of in
    let fewer = few_kept p d.orders in
    omega (arith, same, fewer, few)

-- ---- the card

mapped_twice : {A B C : Type 0} (f : A → B) (h : B → C) (o : Option A)
    → option_map h (option_map f o) ≡ option_map (λ x. h (f x)) o
mapped_twice f h None = refl
mapped_twice f h (Some x) = refl

pub seat_told : (t : ℕ) (d : Desk) (seat : Option TakenSeat)
    → seat ≡ option_map taken (find (λ (s : SeatRow). nat_eq t s.ticket) d.seats)
    → option_map (λ (s : TakenSeat). s.seat) seat ≡ seat_of_ticket t d
seat_told t d seat is =
    ap (option_map (λ (s : TakenSeat). s.seat)) is
    ∙ mapped_twice taken (λ (s : TakenSeat). s.seat) (find (λ (s : SeatRow). nat_eq t s.ticket) d.seats)

-- the card that the ticket's row makes
abbrev pub card_with : ℕ → ℤ → Desk → NamedReader → ReaderCard
card_with t today d x = record {
  reader = record { ticket = t; until = x.until; seat = seat_of_ticket t d; held = held_with t d };
  name = x.name;
  live = orders_not_ended t d;
  placed = placed_on t today d;
  orders = length d.orders;
}

pub card_told : (t : ℕ) (today : ℤ) (d : Desk) (row : Option NamedReader) → row ≡ option_map named (reader_with t d)
    → option_map (card_with t today d) row ≡ card_of t today d
card_told t today d row is =
    ap (option_map (card_with t today d)) is ∙ mapped_twice named (card_with t today d) (reader_with t d)

-- ---- the holder

-- the holder that the ticket's row makes
abbrev pub holder_with : ℕ → Desk → NamedReader → Reader
holder_with t d x = record { ticket = t; until = x.until; seat = seat_of_ticket t d; held = held_with t d }

pub holder_told : (t : ℕ) (d : Desk) (row : Option NamedReader) → row ≡ option_map named (reader_with t d)
    → option_map (holder_with t d) row ≡ ticket_holder t d
holder_told t d row is = ap (option_map (holder_with t d)) is ∙ mapped_twice named (holder_with t d) (reader_with t d)
