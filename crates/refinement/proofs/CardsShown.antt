-- What a reader's card tells of an office: his seat, what he holds, and how much he ordered.
use Rattle.std.proofs.Common.{◌≡◌, ℕ, ℤ, nat_eq, ◌&&◌, length, Option, Some, None, refl, ap, ◌∙◌}
use Rattle.std.specs.Ordering.{int_eq}
use Rattle.desk_core.specs.declared.reader.Reader.{Reader as Sitter}
use Rattle.desk_store.specs.Readers as store
use Rattle.desk_store.specs.declared.reader_summary.ReaderCard.{ReaderCard}
use Rattle.office_core.specs.State.{State}
use Rattle.state_encoding.proofs.OrdersPass.{count_rows}
use Rattle.refinement.specs.Sitters.{sitter, sitter_of}
use Rattle.refinement.proofs.Common.{IsSoundOffice, OrderRow, Reader, ReaderRow, Version, card_of, flipped, held_with}
use Rattle.refinement.proofs.Common.{is_some, is_some-map, is_ticket, length-rows, nth, option_map, order_row}
use Rattle.refinement.proofs.Common.{orders_not_ended, orders_placed, placed_on, reader_row, reader_with, tables}
use Rattle.refinement.proofs.Common.{ticket_holder}
use Rattle.refinement.proofs.HeldShown.{held_shown}
use Rattle.refinement.proofs.RowsOfLists.{found_row}
use Rattle.refinement.proofs.SeatsShown.{seat_is}

module _ (version : Version) (s : State) (sound : IsSoundOffice s) (t : ℕ) where
  pub placed_shown : (day : ℤ) → placed_on t day (tables version s).desk ≡ orders_placed s t day
  placed_shown day =
      count_rows (order_row s) (λ (row : OrderRow). nat_eq t row.ticket && int_eq row.day day) (λ order. nat_eq order.ticket t && int_eq order.day day)
      (λ n order. ap (λ b. b && int_eq order.day day) (flipped t order.ticket)) 1 s.orders

  abbrev pub card : ℤ → Reader → ReaderCard
  card day reader = record {
    reader = sitter_of s t reader;
    name = reader.name;
    live = orders_not_ended t (tables version s).desk;
    placed = orders_placed s t day;
    orders = length s.orders;
  }

  card_at : (day : ℤ) (o : Option Reader) → option_map (λ (r : ReaderRow). (let c : ReaderCard = record {
    reader = record { ticket = t; until = r.until; seat = store.seat_of_ticket t (tables version s).desk; held = held_with t (tables version s).desk };
    name = r.name;
    live = orders_not_ended t (tables version s).desk;
    placed = placed_on t day (tables version s).desk;
    orders = length (tables version s).desk.orders;
  } in c)) (option_map (reader_row t) o) ≡ option_map (card day) o
  card_at day None = refl
  card_at day (Some reader) =
      rw (seat_is t s.seats, held_shown s sound t version, placed_shown day, length-rows (order_row s) 1 s.orders) refl

  pub card_shown : (day : ℤ) → card_of t day (tables version s).desk ≡ option_map (card day) (nth s.readers t)
  card_shown day =
      ap (option_map (λ (r : ReaderRow). (let c : ReaderCard = record {
        reader = record { ticket = t; until = r.until; seat = store.seat_of_ticket t (tables version s).desk; held = held_with t (tables version s).desk };
        name = r.name;
        live = orders_not_ended t (tables version s).desk;
        placed = placed_on t day (tables version s).desk;
        orders = length (tables version s).desk.orders;
      } in c))) (found_row reader_row (λ (r : ReaderRow). r.ticket) (λ n x. refl) t s.readers)
      ∙ card_at day (nth s.readers t)

  -- who has a card has a ticket
  pub has_card : (day : ℤ) → is_some (card_of t day (tables version s).desk) ≡ is_ticket s t
  has_card day = ap is_some (card_shown day) ∙ is_some-map (card day) (nth s.readers t)

  -- the tables tell which tickets were given
  pub known_ticket : is_some (reader_with t (tables version s).desk) ≡ is_ticket s t
  known_ticket =
      ap is_some (found_row reader_row (λ (r : ReaderRow). r.ticket) (λ n x. refl) t s.readers)
      ∙ is_some-map (reader_row t) (nth s.readers t)

  -- the tables tell who has a ticket
  abbrev holder_of_row : ReaderRow → Sitter
  holder_of_row r = record { ticket = t; until = r.until; seat = store.seat_of_ticket t (tables version s).desk; held = held_with t (tables version s).desk }

  holder_at : (o : Option Reader)
      → option_map holder_of_row (option_map (reader_row t) o) ≡ option_map (sitter_of s t) o
  holder_at None = refl
  holder_at (Some reader) = rw (seat_is t s.seats, held_shown s sound t version) refl

  pub holder_shown : ticket_holder t (tables version s).desk ≡ sitter s t
  holder_shown =
      ap (option_map holder_of_row) (found_row reader_row (λ (r : ReaderRow). r.ticket) (λ n x. refl) t s.readers)
      ∙ holder_at (nth s.readers t)
