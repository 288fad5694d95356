-- What is told of a reader is what the rules tell of him.
use Rattle.std.proofs.Common.{◌≡◌, ℕ, ℤ, suc, Bool, true, false, cond, ◌&&◌, ◌||◌, nat_eq, List, [], ◌∷◌, length, map}
use Rattle.std.proofs.Common.{filter, Option, Some, None, inl, inr, refl, sym, ap, subst, ◌∙◌}
use Rattle.std.proofs.lemmas.Bool.{and_parts}
use Rattle.isad_core.specs.Texts.{Bytes}
use Rattle.desk_core.specs.Decisions.{order_out}
use Rattle.catalogue_core.specs.Members.{StandsIn}
use Rattle.desk_store.specs.Readers.{card_of, has_not_ended}
use Rattle.desk_store.specs.Readers as store
use Rattle.desk_store.specs.declared.reader_summary.LiveOrder.{LiveOrder}
use Rattle.desk_store.specs.declared.reader_summary.ReaderCard.{ReaderCard}
use Rattle.office_core.specs.Laws.{Waiting, WithItsReader, Ended, numbers_from, standing, stands_as}
use Rattle.office_core.specs.declared.query.Query.TheVariants as query
use Rattle.state_encoding.proofs.DeskLookups.{flipped}
use Rattle.state_encoding.proofs.Members.{in_filter, to_from}
use Rattle.state_encoding.proofs.NumberedRows.{in_rows}
use Rattle.refinement.proofs.CardsShown.{card, card_shown}
use Rattle.refinement.proofs.QueuesShown.{told_rows}
use Rattle.desk_queries.proofs.Common.{Cancelled, Data, Done, End, ExactlyOne, IsFiled, IsSoundOffice, Order, OrderRow}
use Rattle.desk_queries.proofs.Common.{Reader, State, UnknownTicket, Version, answer, card_data, codes, container_of}
use Rattle.desk_queries.proofs.Common.{count, date, fields, filter_map, has_float, is_by, is_out_for, is_out_now}
use Rattle.desk_queries.proofs.Common.{is_some, known_json, list, live_data, live_orders, map-map, no_float}
use Rattle.desk_queries.proofs.Common.{nth, option_map, or_null, order_from, order_json, order_row, order_rows}
use Rattle.desk_queries.proofs.Common.{reader_json, rows_from, seat_of, some_and, stands, state_number, string, tables}
use Rattle.desk_queries.proofs.Common.{waits}

-- ---- none of it is a number with a fraction

pub card_whole : (c : ReaderCard) → has_float (card_data c) ≡ false
card_whole c = at c.reader.seat
  where
    live : has_float (list (map live_data c.live)) ≡ false
    live = no_float live_data (λ l. refl) c.live

    at : (seat : Option ℕ) → has_float (card_data (record c { reader = record c.reader { seat = seat } })) ≡ false
    at None = rw live refl
    at (Some n) = rw live refl

-- ---- an order that has not ended waits or is out

abbrev lives : ℕ → Bool
lives n = nat_eq n 1 || nat_eq n 2

live_is : (w h : Bool) (past : Option End) → ExactlyOne w h (is_some past)
    → lives (state_number (cond w (Some Waiting) (cond h (Some WithItsReader) (option_map Ended past)))) ≡ (w || h)
live_is true h past one = refl
live_is false true past one = refl
live_is false false None one = absurd one
live_is false false (Some Done) one = refl
live_is false false (Some Cancelled) one = refl

named : (out waiting : Bytes) (w h : Bool) (past : Option End) → (w || h) ≡ true
    → cond w waiting out ≡ cond (nat_eq (state_number (cond w (Some Waiting) (cond h (Some WithItsReader) (option_map Ended past)))) 2) out waiting
named out waiting true h past some = refl
named out waiting false true past some = refl
named out waiting false false past some = absurd (cc)

-- ---- lists of rows

ids : {X : Type 0} (row : ℕ → X → OrderRow) → ((n : ℕ) (x : X) → (row n x).id ≡ n) → (n : ℕ) (xs : List X)
    → map (λ (r : OrderRow). r.id) (rows_from row n xs) ≡ numbers_from n (length xs)
ids row same n [] = refl
ids row same n (x ∷ xs) =
    ap (λ k. k ∷ map (λ (r : OrderRow). r.id) (rows_from row (suc n) xs)) (same n x)
    ∙ ap (λ l. n ∷ l) (ids row same (suc n) xs)

filtered : (p : ℕ → Bool) (rows : List OrderRow)
    → filter p (map (λ (r : OrderRow). r.id) rows) ≡ map (λ (r : OrderRow). r.id) (filter (λ (r : OrderRow). p r.id) rows)
filtered p [] = refl
filtered p (r ∷ rows) = at (p r.id) (filtered p rows)
  where
    at : (b : Bool)
        → filter p (map (λ (r : OrderRow). r.id) rows) ≡ map (λ (r : OrderRow). r.id) (filter (λ (r : OrderRow). p r.id) rows)
        → cond b (r.id ∷ filter p (map (λ (r : OrderRow). r.id) rows)) (filter p (map (λ (r : OrderRow). r.id) rows)) ≡ map (λ (r : OrderRow). r.id) (cond b (r ∷ filter (λ (r : OrderRow). p r.id) rows) (filter (λ (r : OrderRow). p r.id) rows))
    at true e = ap (λ l. r.id ∷ l) e
    at false e = e

kept_same : {R Y : Type 0} (p q : R → Bool) (f g : R → Y) (rows : List R) → ((r : R) → StandsIn r rows → p r ≡ q r)
    → ((r : R) → StandsIn r rows → q r ≡ true → f r ≡ g r)
    → map f (filter p rows) ≡ map g (filter q rows)
kept_same p q f g [] tests answers = refl
kept_same {R} p q f g (r ∷ rows) tests answers =
    ap (λ b. map f (cond b (r ∷ filter p rows) (filter p rows))) (tests r (inl refl))
    ∙ at (q r) refl (kept_same p q f g rows (λ x k. tests x (inr k)) (λ x k. answers x (inr k)))
  where
    at : (b : Bool) → q r ≡ b → map f (filter p rows) ≡ map g (filter q rows)
        → map f (cond b (r ∷ filter p rows) (filter p rows)) ≡ map g (cond b (r ∷ filter q rows) (filter q rows))
    at true e rest = ap (λ y. y ∷ map f (filter p rows)) (answers r (inl refl) e) ∙ ap (λ l. g r ∷ l) rest
    at false e rest = rest

-- ---- the orders of a ticket that wait or are out

module _ (version : Version) (s : State) (sound : IsSoundOffice s) (t : ℕ) where
  -- what the rules tell of an order
  abbrev told : ℕ → Order → Data
  told o order =
      fields
      ((codes "container", count order.container)
      ∷ (codes "order", count o)
      ∷ (codes "state", string (cond (waits s o) (codes "waiting") (codes "out")))
      ∷ [])

  abbrev live_of : OrderRow → LiveOrder
  live_of o = record { order = o.id; container = o.container; is_out = nat_eq o.state 2 }

  abbrev is_theirs : ℕ → Bool
  is_theirs o = is_by s t o && (waits s o || is_out_now s o)

  abbrev is_kept : OrderRow → Bool
  is_kept row = nat_eq t row.ticket && has_not_ended row

  module _ (m : ℕ) (x : Order) (is : nth s.orders m ≡ Some x) where
    for_it : container_of s m ≡ Some x.container
    for_it = ap (option_map (λ (order : Order). order.container)) is

    one : ExactlyOne (stands m (s.queue x.container)) (is_out_for m (s.place x.container)) (is_some (s.past m))
    one = (subst (λ k. IsFiled k (λ c. stands m (s.queue c)) (λ c. is_out_for m (s.place c)) (s.past m)) for_it (sound.sound.desk.filed.each m)).0

    live : lives (state_number (standing s m)) ≡ (waits s m || is_out_now s m)
    live =
        subst (λ k. lives (state_number (stands_as k (λ c. stands m (s.queue c)) (λ c. is_out_for m (s.place c)) (s.past m)))
        ≡ (some_and (λ c. stands m (s.queue c)) k || some_and (λ c. some_and (nat_eq m) (order_out (s.place c))) k))
        (sym for_it) (live_is (stands m (s.queue x.container)) (is_out_for m (s.place x.container)) (s.past m) one)

    test_at : is_theirs m ≡ is_kept (order_row s m x)
    test_at =
        ap (λ b. b && (waits s m || is_out_now s m)) (ap (some_and (λ (order : Order). nat_eq order.ticket t)) is ∙ flipped x.ticket t)
        ∙ ap (λ b. nat_eq t x.ticket && b) (sym live)

    name_at : (waits s m || is_out_now s m) ≡ true
        → cond (waits s m) (codes "waiting") (codes "out") ≡ cond (nat_eq (state_number (standing s m)) 2) (codes "out") (codes "waiting")
    name_at =
        subst (λ k. (some_and (λ c. stands m (s.queue c)) k || some_and (λ c. some_and (nat_eq m) (order_out (s.place c))) k) ≡ true
        → cond (some_and (λ c. stands m (s.queue c)) k) (codes "waiting") (codes "out") ≡ cond (nat_eq (state_number (stands_as k (λ c. stands m (s.queue c)) (λ c. is_out_for m (s.place c)) (s.past m))) 2) (codes "out") (codes "waiting"))
        (sym for_it) (named (codes "out") (codes "waiting") (stands m (s.queue x.container)) (is_out_for m (s.place x.container)) (s.past m))

    tell_at : is_kept (order_row s m x) ≡ true → told m x ≡ live_data (live_of (order_row s m x))
    tell_at kept =
        ap (λ (name : Bytes). fields ((codes "container", count x.container) ∷ (codes "order", count m) ∷ (codes "state", string name) ∷ []))
        (name_at (sym live ∙ (and_parts (nat_eq t x.ticket) (lives (state_number (standing s m))) kept).1))

  tests : (row : OrderRow) → StandsIn row (order_rows s) → is_theirs row.id ≡ is_kept row
  tests row k =
      let i = in_rows (order_row s) s.orders row k in
      subst (λ (r : OrderRow). is_theirs r.id ≡ is_kept r) (sym i.3) (test_at i.0 i.1 i.2)

  answers : (row : OrderRow) → StandsIn row (order_rows s) → is_kept row ≡ true
      → told row.id (order_from row) ≡ live_data (live_of row)
  answers row k =
      let i = in_rows (order_row s) s.orders row k in
      subst (λ (r : OrderRow). is_kept r ≡ true → told r.id (order_from r) ≡ live_data (live_of r)) (sym i.3) (tell_at i.0 i.1 i.2)

  live_told : map live_data (store.orders_not_ended t (tables version s).desk) ≡ filter_map (order_json s) (live_orders s t)
  live_told = sym
      (ap (λ ns. filter_map (order_json s) (filter is_theirs ns)) (to_from (length s.orders) ∙ sym (ids (order_row s) (λ n x. refl) 1 s.orders))
      ∙ ap (filter_map (order_json s)) (filtered is_theirs (order_rows s))
      ∙ told_rows s told (filter (λ (r : OrderRow). is_theirs r.id) (order_rows s)) (λ row k. (in_filter (λ (r : OrderRow). is_theirs r.id) (order_rows s) row k).0)
      ∙ kept_same (λ (r : OrderRow). is_theirs r.id) is_kept (λ (r : OrderRow). told r.id (order_from r)) (λ (r : OrderRow). live_data (live_of r)) (order_rows s) tests answers
      ∙ sym (map-map live_data live_of (filter is_kept (order_rows s))))

  -- ---- the reader

  card_told : (day : ℤ)
      → option_map card_data (card_of t day (tables version s).desk) ≡ option_map (reader_json s t) (nth s.readers t)
  card_told day = ap (option_map card_data) (card_shown version s sound t day) ∙ at (nth s.readers t)
    where
      at : (reader : Option Reader)
          → option_map card_data (option_map (card version s sound t day) reader) ≡ option_map (reader_json s t) reader
      at None = refl
      at (Some reader) =
          ap
          (λ (l : List Data). Some (fields
          ((codes "name", string reader.name)
          ∷ (codes "orders", list l)
          ∷ (codes "seat", or_null (option_map count (seat_of s t)))
          ∷ (codes "ticket", count t)
          ∷ (codes "until", date reader.until)
          ∷ [])))
          live_told

  pub card_answer : (day : ℤ) (found : Option ReaderCard) → found ≡ card_of t day (tables version s).desk
      → known_json UnknownTicket (option_map card_data found) ≡ answer s (query.ReaderOrders t)
  card_answer day found is =
      ap (λ (c : Option ReaderCard). known_json UnknownTicket (option_map card_data c)) is
      ∙ ap (known_json UnknownTicket) (card_told day)
