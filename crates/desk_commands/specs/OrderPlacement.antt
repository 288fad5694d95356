-- Who may order a container.
use Rattle.std.specs.Prelude.{◌≡◌, ℕ, ℤ, Bool, suc, length, nat_eq, Some, None}
use Rattle.std.specs.List.{list_any}
use Rattle.desk_core.specs.declared.order.Ask.{Ask}
use Rattle.desk_store.specs.Readers.{card_of}
use Rattle.desk_store.specs.declared.reader_summary.LiveOrder.{LiveOrder}
use Rattle.desk_store.specs.declared.reader_summary.ReaderCard.{ReaderCard}
use Rattle.office_core.specs.Rules.{refusal}
use Rattle.office_core.specs.State.{State}
use Rattle.office_core.specs.declared.command.Command.TheVariants as command
use Rattle.state_encoding.specs.OfficeRows.{tables}
use Rattle.office_tables.specs.Versions.{Version}

-- the ticket's card today
abbrev pub IsCardOf : Version → State → ℕ → ReaderCard → Type 0
IsCardOf version s ticket card = card_of ticket s.day (tables version s).desk ≡ Some card

-- the facts that decide on an order for the container, besides the reader
abbrev pub ask_of : ReaderCard → ℕ → Bool → Ask
ask_of card container is_open = record {
  is_open = is_open;
  already = list_any (λ (live : LiveOrder). nat_eq container live.container) card.live;
  placed = card.placed;
  orders = card.orders;
}

-- no rule forbids the ticket to order the container today, and this is the order's number
pub record MayPlaceOrder (s : State) (ticket container order : ℕ) (today : ℤ) : Type 0 where
  pub allowed : refusal s (command.Order ticket container) ≡ None
  pub day : today ≡ s.day
  pub number : order ≡ suc (length s.orders)
