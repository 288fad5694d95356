-- An order that is placed, in the rows of the desk.
use Rattle.std.proofs.Common.{◌≡◌, ℕ, ℤ, suc, ◌+◌, ◌<◌, Bool, true, false, List, [], ◌∷◌, ◌++◌, length, Option, Some}
use Rattle.std.proofs.Common.{None, Ok, refl, sym, ap, subst, ◌∙◌, arith}
use Rattle.desk_core.specs.declared.order.Ask.{Ask}
use Rattle.office_tables.specs.Schema as schema
use Rattle.desk_store.specs.declared.reader_summary.ReaderCard.{ReaderCard}
use Rattle.office_core.specs.declared.command.Command.TheVariants as command
use Rattle.office_core.specs.declared.done.Done.TheVariants as done
use Rattle.refinement.proofs.OrdersShown.{ordered_shown}
use Rattle.desk_commands.specs.OrderPlacement.{IsCardOf, MayPlaceOrder, ask_of}
use Rattle.desk_commands.proofs.Common.{CarriesOutStep, Database, Forest, IsNextOrder, IsSoundOffice, Limits}
use Rattle.desk_commands.proofs.Common.{OnlyTouches, Order, OrderRow, Reader, Refusal, RepresentsDesk, RepresentsState}
use Rattle.desk_commands.proofs.Common.{State, Trees, UnknownTicket, Version, Waiting, accepts, after, card, card_shown}
use Rattle.desk_commands.proofs.Common.{checks, container_of, first_that_holds, goes_same, has_ordered, int_lt}
use Rattle.desk_commands.proofs.Common.{is_ordered, is_out_for, is_some, is_ticket, leb-false, length-rows, limits_of}
use Rattle.desk_commands.proofs.Common.{most_orders, nth, only_orders, opens, option_map, order_checks, order_facts}
use Rattle.desk_commands.proofs.Common.{order_row, order_rows, ordered, orders_placed, passed_order, passes, refusal}
use Rattle.desk_commands.proofs.Common.{rows_from, some_and, standing, stands, stands_waiting, state_number, tables}
use Rattle.desk_commands.proofs.Common.{with_order}
use Rattle.desk_commands.proofs.Registered.{rows_end}

pub not_known : (s : State) (t c : ℕ) → is_ticket s t ≡ false → refusal s (command.Order t c) ≡ Some UnknownTicket
not_known s t c unknown = rw unknown refl

module _ (version : Version) (s : State) (sound : IsSoundOffice s) (t c : ℕ) where
  -- ---- the checks, of the card

  order_at : (mine : ReaderCard) (o : Option Reader) → option_map (card version s sound t s.day) o ≡ Some mine
      → first_that_holds (order_checks (order_facts (Some mine.reader) s.day (ask_of mine c (opens s t c)) (limits_of s)))
      ≡ first_that_holds (order_checks (record { known = is_some o; expired = some_and (λ reader. int_lt reader.until s.day) o; available = opens s t c; ordered = has_ordered s t c; placed = orders_placed s t s.day; daily = s.settings.daily; orders = length s.orders }))
  order_at mine None e = absurd (cc)
  order_at mine (Some reader) e =
      let same : card version s sound t s.day reader ≡ mine = cc in
      subst (λ (k : ReaderCard). first_that_holds (order_checks (order_facts (Some k.reader) s.day (ask_of k c (opens s t c)) (limits_of s)))
      ≡ first_that_holds (order_checks (record { known = true; expired = int_lt reader.until s.day; available = opens s t c; ordered = has_ordered s t c; placed = orders_placed s t s.day; daily = s.settings.daily; orders = length s.orders }))) same
      (ap (λ has. first_that_holds (order_checks (record { known = true; expired = int_lt reader.until s.day; available = opens s t c; ordered = has; placed = orders_placed s t s.day; daily = s.settings.daily; orders = length s.orders }))) (ordered_shown version s sound t c))

  known_card : (mine : ReaderCard) → IsCardOf version s t mine
      → option_map (card version s sound t s.day) (nth s.readers t) ≡ Some mine
  known_card mine is = sym (card_shown version s sound t s.day) ∙ is

  pub order_checked : (mine : ReaderCard) (today : ℤ) (limits : Limits) (is_open : Bool) → IsCardOf version s t mine
      → today ≡ s.day → limits ≡ limits_of s → is_open ≡ opens s t c
      → first_that_holds (order_checks (order_facts (Some mine.reader) today (ask_of mine c is_open) limits)) ≡ refusal s (command.Order t c)
  order_checked mine today limits is_open is day allowed seen =
      ap (λ d. first_that_holds (order_checks (order_facts (Some mine.reader) d (ask_of mine c is_open) limits))) day
      ∙ ap (λ l. first_that_holds (order_checks (order_facts (Some mine.reader) s.day (ask_of mine c is_open) l))) allowed
      ∙ ap (λ b. first_that_holds (order_checks (order_facts (Some mine.reader) s.day (ask_of mine c b) (limits_of s)))) seen
      ∙ order_at mine (nth s.readers t) (known_card mine is)

  -- the card has the number of all orders
  orders_at : (mine : ReaderCard) (o : Option Reader) → option_map (card version s sound t s.day) o ≡ Some mine
      → mine.orders ≡ length s.orders
  orders_at mine None e = absurd (cc)
  orders_at mine (Some reader) e = let same : card version s sound t s.day reader ≡ mine = cc in sym (ap (λ (k : ReaderCard). k.orders) same)

  pub card_orders : (mine : ReaderCard) → IsCardOf version s t mine → mine.orders ≡ length s.orders
  card_orders mine is = orders_at mine (nth s.readers t) (known_card mine is)

  module _ (mine : ReaderCard) (today : ℤ) (limits : Limits) (is_open : Bool) (is : IsCardOf version s t mine) (day : today ≡ s.day) (allowed : limits ≡ limits_of s) (seen : is_open ≡ opens s t c)
      (asked : Ask) (asks : asked ≡ ask_of mine c is_open) where
    checked : first_that_holds (order_checks (order_facts (Some mine.reader) today asked limits)) ≡ refusal s (command.Order t c)
    checked =
        ap (λ a. first_that_holds (order_checks (order_facts (Some mine.reader) today a limits))) asks
        ∙ order_checked mine today limits is_open is day allowed seen

    pub may_order : (order : ℕ) → order ≡ mine.orders + 1
        → None ≡ first_that_holds (order_checks (order_facts (Some mine.reader) today asked limits))
        → MayPlaceOrder s t c order today
    may_order order number free = record {
      allowed = sym checked ∙ sym free;
      day = day;
      number = (let e : mine.orders + 1 ≡ suc mine.orders = omega arith in number ∙ e ∙ ap suc (card_orders mine is));
    }

    pub must_not : (why : Refusal)
        → Some why ≡ first_that_holds (order_checks (order_facts (Some mine.reader) today asked limits))
        → refusal s (command.Order t c) ≡ Some why
    must_not why holds = sym checked ∙ sym holds

  -- ---- the rows

  abbrev next : State
  next = ordered s t c

  abbrev new : Order
  new = record { ticket = t; container = c; day = s.day }

  stood : (k : ℕ) → k < 1 + length s.orders → standing next k ≡ standing s k
  stood k within =
      let ne : k ≡ suc (length s.orders) → ⊥ = λ e. omega (arith, within, e) in
      let only = only_orders s t c in
      goes_same s next k (only.orders k ne) (only.queues k ne) (only.places k ne) (only.past k ne)

  rows_stay : (n : ℕ) (xs : List Order) → ((k : ℕ) → k < n + length xs → standing next k ≡ standing s k)
      → rows_from (order_row next) n xs ≡ rows_from (order_row s) n xs
  rows_stay n [] same = refl
  rows_stay n (x ∷ xs) same =
      let here = same n (omega arith) in
      ap (λ st. (let row : OrderRow = record { id = n; ticket = x.ticket; container = x.container; day = x.day; state = state_number st } in row) ∷ rows_from (order_row next) (suc n) xs) here
      ∙ ap (λ rows. order_row s n x ∷ rows) (rows_stay (suc n) xs (λ k less. same k (omega (arith, less))))

  it_waits : standing next (suc (length s.orders)) ≡ Some Waiting
  it_waits =
      let n = suc (length s.orders) in
      let is = is_ordered s t c sound.sound.desk.filed in
      stands_waiting (container_of next n) (λ k. stands n (next.queue k)) (λ k. is_out_for n (next.place k)) (next.past n) c is.for_it is.in_queue

  rows_after : order_rows next ≡ order_rows s ++ record { id = suc (length (order_rows s)); ticket = t; container = c; day = s.day; state = 1 } ∷ []
  rows_after =
      rows_end (order_row next) s.orders new
      ∙ ap (λ rows. rows ++ order_row next (suc (length s.orders)) new ∷ []) (rows_stay 1 s.orders stood)
      ∙ ap (λ st. order_rows s ++ (let row : OrderRow = record { id = suc (length s.orders); ticket = t; container = c; day = s.day; state = state_number st } in row) ∷ []) it_waits
      ∙ ap (λ n. order_rows s ++ (let row : OrderRow = record { id = suc n; ticket = t; container = c; day = s.day; state = 1 } in row) ∷ []) (sym (length-rows (order_row s) 1 s.orders))

  -- there is room for one more, and this is its number
  pub may_append : (order : ℕ) (today : ℤ) → MayPlaceOrder s t c order today → IsNextOrder order (tables version s).desk
  may_append order today may =
      let ok = passed_order s t c (passes (checks s (command.Order t c)) may.allowed) in
      let few = leb-false most_orders (length s.orders) ok.room in
      let many = length-rows (order_row s) 1 s.orders in
      let number = may.number in
      (omega (arith, few, many), number ∙ ap suc (sym many))

  pub orders : (places : Trees → Forest ℕ → Type 0)
      → ((old new : Trees) (f : Forest ℕ) → new schema.link.tree ≡ old schema.link.tree → places old f → places new f)
      → (before now : Database) → RepresentsState places version before s → now.schema ≡ before.schema
      → OnlyTouches (schema.orders.tree ∷ []) before now
      → (order : ℕ) (today : ℤ) → MayPlaceOrder s t c order today
      → RepresentsDesk now.trees (with_order t c today (tables version s).desk)
      → CarriesOutStep places version s (command.Order t c) (Ok (done.Order order)) now
  orders places same before now it schema_is only order today may shown =
      accepts places version s (command.Order t c) same before now (schema.orders.tree ∷ []) refl may.allowed tt it schema_is only
      (after s (command.Order t c)) refl refl refl (with_order t c s.day (tables version s).desk) (subst (λ d. RepresentsDesk now.trees (with_order t c d (tables version s).desk)) may.day shown)
      (ap (λ (rows : List OrderRow). record (tables version s).desk { orders = rows }) rows_after)
      (done.Order order) (ap done.Order (sym may.number))
