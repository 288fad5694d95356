-- A ticket's live orders on its card say whether it has ordered a container.
use Rattle.std.proofs.Common.{◌≡◌, ℕ, Bool, true, false, cond, ◌&&◌, ◌||◌, nat_eq, List, [], ◌∷◌, filter, Option, Some}
use Rattle.std.proofs.Common.{None, inl, inr, refl, sym, ap, subst, ◌∙◌}
use Rattle.std.specs.Cmp.{both_ways}
use Rattle.tree_core.proofs.Lists.{list_any-map}
use Rattle.desk_store.specs.declared.reader_summary.LiveOrder.{LiveOrder}
use Rattle.office_core.proofs.Filed.{out_with, waiting}
use Rattle.office_core.proofs.OrderLaws.{stands_out, stands_waiting}
use Rattle.office_core.proofs.Orders.{is_by_its_ticket, out_is}
use Rattle.office_core.specs.State.{Done, State}
use Rattle.state_encoding.proofs.Grouped.{any_filter}
use Rattle.refinement.proofs.Common.{Cancelled, End, Ended, ExactlyOne, IsFiled, IsSoundOffice, Order, OrderRow}
use Rattle.refinement.proofs.Common.{Version, Waiting, WithItsReader, and_from, and_parts, any_of_in, container_of}
use Rattle.refinement.proofs.Common.{eqb-true, false≢true, flipped, has_not_ended, has_ordered, in_rows, is_by}
use Rattle.refinement.proofs.Common.{is_out_for, is_out_with, is_some, list_any, nth, option_map, or_cases}
use Rattle.refinement.proofs.Common.{order_out, order_row, order_rows, order_there, orders_not_ended, same_number}
use Rattle.refinement.proofs.Common.{some_and, some_in, some_is, standing, stands, stands_as, state_number, tables}

-- an order of that ticket for that container, which waits or is out
abbrev is_theirs : ℕ → ℕ → OrderRow → Bool
is_theirs t c row = nat_eq c row.container && (nat_eq t row.ticket && has_not_ended row)

any_from : (p : ℕ → Bool) (m : ℕ) (ns : List ℕ) → stands m ns ≡ true → p m ≡ true → list_any p ns ≡ true
any_from p m [] h passes = absurd (false≢true h)
any_from p m (n ∷ ns) h passes = elim (or_cases (nat_eq m n) (stands m ns) h) [
  | inl same ↦ ap (λ b. b || list_any p ns) (subst (λ k. p k ≡ true) (eqb-true m n same) passes)
  | inr rest ↦ or_second (p n) (list_any p ns) (any_from p m ns rest passes)
]
  where
    or_second : (a b : Bool) → b ≡ true → (a || b) ≡ true
    or_second true b e = refl
    or_second false b e = e

-- the numbers of the states of orders that wait or are out
abbrev lives : ℕ → Bool
lives n = nat_eq n 1 || nat_eq n 2

-- a live order waits or is out
live_is : (w h : Bool) (past : Option End) → ExactlyOne w h (is_some past)
    → lives (state_number (cond w (Some Waiting) (cond h (Some WithItsReader) (option_map Ended past)))) ≡ true
    → (w || h) ≡ true
live_is true h past one live = refl
live_is false true past one live = refl
live_is false false None one live = absurd one
live_is false false (Some Done) one live = absurd (false≢true live)
live_is false false (Some Cancelled) one live = absurd (false≢true live)

module _ (version : Version) (s : State) (sound : IsSoundOffice s) (t c : ℕ) where
  row_ordered : (m : ℕ) (order : Order) → nth s.orders m ≡ Some order → is_theirs t c (order_row s m order) ≡ true
      → has_ordered s t c ≡ true
  row_ordered m order is passes =
      let one = and_parts (nat_eq c order.container) (nat_eq t order.ticket && has_not_ended (order_row s m order)) passes in
      let two = and_parts (nat_eq t order.ticket) (has_not_ended (order_row s m order)) one.1 in
      let for_it : container_of s m ≡ Some c =
      ap (option_map (λ (order : Order). order.container)) is ∙ ap Some (sym (eqb-true c order.container one.0)) in
      let mine : is_by s t m ≡ true =
      subst (λ k. is_by s k m ≡ true) (sym (eqb-true t order.ticket two.0)) (is_by_its_ticket s m order is) in
      let filed = subst (λ k. IsFiled k (λ k. stands m (s.queue k)) (λ k. is_out_for m (s.place k)) (s.past m)) for_it (sound.sound.desk.filed.each m) in
      let live : lives (state_number (cond (stands m (s.queue c)) (Some Waiting) (cond (is_out_for m (s.place c)) (Some WithItsReader) (option_map Ended (s.past m))))) ≡ true =
      subst (λ k. lives (state_number (stands_as k (λ k. stands m (s.queue k)) (λ k. is_out_for m (s.place k)) (s.past m))) ≡ true) for_it two.1 in
      elim (or_cases (stands m (s.queue c)) (is_out_for m (s.place c)) (live_is (stands m (s.queue c)) (is_out_for m (s.place c)) (s.past m) filed.0 live)) [
        | inl waits ↦ ap (λ b. b || is_out_with s t c) (any_from (is_by s t) m (s.queue c) waits mine)
        | inr out ↦ or_last (list_any (is_by s t) (s.queue c)) (is_out_with s t c) (ap (some_and (is_by s t)) (out_is m (s.place c) out) ∙ mine)
      ]
    where
      or_last : (a b : Bool) → b ≡ true → (a || b) ≡ true
      or_last true b e = refl
      or_last false b e = e

  rows_ordered : list_any (is_theirs t c) (order_rows s) ≡ true → has_ordered s t c ≡ true
  rows_ordered some =
      let found = some_in (is_theirs t c) (order_rows s) some in
      let i = in_rows (order_row s) s.orders found.0 found.1 in
      row_ordered i.0 i.1 i.2 (ap (is_theirs t c) (sym i.3) ∙ found.2)

  -- an order that waits for it or is out with it, and is the ticket's, has its row
  has_row : (o : ℕ) → is_by s t o ≡ true → container_of s o ≡ Some c → lives (state_number (standing s o)) ≡ true
      → list_any (is_theirs t c) (order_rows s) ≡ true
  has_row o mine for_it live =
      let known = some_is (nth s.orders o) (by_some (nth s.orders o) mine) in
      let order = known.0 in
      let box : Some order.container ≡ Some c =
      sym (ap (option_map (λ (order : Order). order.container)) known.1) ∙ for_it in
      let same : order.container ≡ c = cc in
      let ticket : nat_eq order.ticket t ≡ true =
      sym (ap (some_and (λ (order : Order). nat_eq order.ticket t)) known.1) ∙ mine in
      let passes : is_theirs t c (order_row s o order) ≡ true =
      and_from (nat_eq c order.container) (nat_eq t order.ticket && has_not_ended (order_row s o order)) (ap (nat_eq c) same ∙ same_number c)
      (and_from (nat_eq t order.ticket) (has_not_ended (order_row s o order)) (flipped t order.ticket ∙ ticket) live) in
      let there : list_any (λ (row : OrderRow). nat_eq row.id o && is_theirs t c row) (order_rows s) ≡ true =
      order_there version s (is_theirs t c) o ∙ ap (some_and (λ (order : Order). is_theirs t c (order_row s o order))) known.1 ∙ passes in
      let found = some_in (λ (row : OrderRow). nat_eq row.id o && is_theirs t c row) (order_rows s) there in
      any_of_in (is_theirs t c) (order_rows s) found.0 found.1 (and_parts (nat_eq found.0.id o) (is_theirs t c found.0) found.2).1
    where
      by_some : (r : Option Order) → some_and (λ (order : Order). nat_eq order.ticket t) r ≡ true → is_some r ≡ true
      by_some None h = absurd (false≢true h)
      by_some (Some order) h = refl

  of_queue : list_any (is_by s t) (s.queue c) ≡ true → list_any (is_theirs t c) (order_rows s) ≡ true
  of_queue some =
      let found = some_in (is_by s t) (s.queue c) some in
      let o = found.0 in
      let waits : stands o (s.queue c) ≡ true = any_of_in (nat_eq o) (s.queue c) o found.1 (same_number o) in
      let is = waiting (container_of s o) (λ k. stands o (s.queue k)) (λ k. is_out_for o (s.place k)) (s.past o) c (sound.sound.desk.filed.each o) waits in
      let stood = stands_waiting (container_of s o) (λ k. stands o (s.queue k)) (λ k. is_out_for o (s.place k)) (s.past o) c is.for_it waits in
      has_row o found.2 is.for_it (ap (λ st. lives (state_number st)) stood)

  of_place : (o : Option ℕ) → order_out (s.place c) ≡ o → some_and (is_by s t) o ≡ true
      → list_any (is_theirs t c) (order_rows s) ≡ true
  of_place None e mine = absurd (false≢true mine)
  of_place (Some o) e mine =
      let out : is_out_for o (s.place c) ≡ true = ap (some_and (nat_eq o)) e ∙ same_number o in
      let is = out_with (container_of s o) (λ k. stands o (s.queue k)) (λ k. is_out_for o (s.place k)) (s.past o) c (sound.sound.desk.filed.each o) out in
      let stood = stands_out (container_of s o) (λ k. stands o (s.queue k)) (λ k. is_out_for o (s.place k)) (s.past o) c is in
      has_row o mine is.for_it (ap (λ st. lives (state_number st)) stood)

  ordered_rows : has_ordered s t c ≡ true → list_any (is_theirs t c) (order_rows s) ≡ true
  ordered_rows has = elim (or_cases (list_any (is_by s t) (s.queue c)) (is_out_with s t c) has) [
    | inl waits ↦ of_queue waits
    | inr out ↦ of_place (order_out (s.place c)) refl out
  ]

  -- the ticket has ordered the container, where a live order on its card is for it
  pub ordered_shown : list_any (λ (l : LiveOrder). nat_eq c l.container) (orders_not_ended t (tables version s).desk) ≡ has_ordered s t c
  ordered_shown =
      list_any-map (λ (l : LiveOrder). nat_eq c l.container) (λ (o : OrderRow). (let l : LiveOrder = record { order = o.id; container = o.container; is_out = nat_eq o.state 2 } in l)) (filter (λ (o : OrderRow). nat_eq t o.ticket && has_not_ended o) (order_rows s))
      ∙ any_filter (λ (o : OrderRow). nat_eq c o.container) (λ (o : OrderRow). nat_eq t o.ticket && has_not_ended o) (order_rows s)
      ∙ both_ways (list_any (is_theirs t c) (order_rows s)) (has_ordered s t c) rows_ordered ordered_rows
