-- A container that is given to a reader, in the rows of the desk; and when it may be.
use Rattle.std.proofs.Common.{◌≡◌, ℕ, Bool, true, false, cond, nat_eq, List, [], ◌∷◌, Option, Some, None, Ok, inl, inr}
use Rattle.std.proofs.Common.{refl, sym, ap, subst, ◌∙◌}
use Rattle.std.specs.Prelude.{ℤ}
use Rattle.desk_core.specs.Decisions as decided
use Rattle.desk_core.specs.declared.reader.Place.TheVariants.{Desk}
use Rattle.desk_core.specs.declared.reader.Reader.{Reader as Sitter}
use Rattle.office_tables.specs.Schema as schema
use Rattle.desk_store.specs.declared.orders.OrderState.TheVariants as states
use Rattle.office_core.specs.declared.command.Command.TheVariants as command
use Rattle.office_core.specs.declared.done.Done.TheVariants as done
use Rattle.refinement.proofs.SeatsShown.{some_placed}
use Rattle.refinement.specs.Sitters.{sitter, sitter_of}
use Rattle.desk_commands.specs.Issuance.{IsQueuedFor, asked_for, first_waiting}
use Rattle.desk_commands.proofs.Common.{CarriesOutStep, Command, Database, Forest, HoldingRow, IsSoundOffice}
use Rattle.desk_commands.proofs.Common.{IssueFacts, Limits, NotAtDesk, NotFirst, OnlyTouches, Order, OrderRow, Out}
use Rattle.desk_commands.proofs.Common.{Place, Reader, Refusal, RepresentsDesk, RepresentsState, Shelf, Standing, State}
use Rattle.desk_commands.proofs.Common.{Trees, UnknownContainer, Version, WaitingOrder, accepts, cases_Bool, checks}
use Rattle.desk_commands.proofs.Common.{container_of, eqb-true, false≢true, first, first_that_holds, handed_over}
use Rattle.desk_commands.proofs.Common.{held_count, holder_shown, int_lt, is_by, is_container, is_desk, is_expired}
use Rattle.desk_commands.proofs.Common.{is_issued, is_out_for, is_seat_of, is_seated, is_some, is_ticket, issue_checks}
use Rattle.desk_commands.proofs.Common.{issue_facts, issued, limits_of, nth, only_issues, opens, option_and_then}
use Rattle.desk_commands.proofs.Common.{option_map, order_rows, passed_issue, passes, place_after, refusal, rows_moved}
use Rattle.desk_commands.proofs.Common.{seat_of, some_and, stands, stands_out, state_number, tables, ticket_holder}
use Rattle.desk_commands.proofs.Common.{unwrap_or, with_state}
use Rattle.desk_commands.proofs.HeadTold.{waiter}

-- ---- who may have it

abbrev facts_with : (expired seated : Bool) (held_count hands : ℕ) (known at_desk first available : Bool) → IssueFacts
facts_with expired seated held_count hands known at_desk first available =
    record { known = known; at_desk = at_desk; first = first; expired = expired; seated = seated; held = held_count; hands = hands; available = available }

not_first : (expired seated : Bool) (held_count hands : ℕ) (at_desk available : Bool)
    → first_that_holds (issue_checks (facts_with expired seated held_count hands true at_desk false available)) ≡ cond at_desk (Some NotFirst) (Some NotAtDesk)
not_first expired seated held_count hands true available = refl
not_first expired seated held_count hands false available = refl

desk_alike : (p : Place) → decided.is_desk p ≡ is_desk p
desk_alike Shelf = refl
desk_alike Desk = refl
desk_alike (Out o) = refl

module _ (s : State) (c t : ℕ) where
  -- the first order is the ticket's
  heads : (k : Option ℕ)
      → decided.is_ticket_of_head t (option_map (λ (w : WaitingOrder). w.ticket) (option_and_then (λ o. option_map (λ (order : Order). (let w : WaitingOrder = record { order = o; ticket = order.ticket } in w)) (nth s.orders o)) k)) ≡ some_and (is_by s t) k
  heads None = refl
  heads (Some o) = at (nth s.orders o)
    where
      at : (order : Option Order)
          → decided.is_ticket_of_head t (option_map (λ (w : WaitingOrder). w.ticket) (option_map (λ (order : Order). (let w : WaitingOrder = record { order = o; ticket = order.ticket } in w)) order)) ≡ some_and (λ (order : Order). nat_eq order.ticket t) order
      at None = refl
      at (Some order) = refl

  stranger : IsSoundOffice s → is_ticket s t ≡ false → (k : Option ℕ) → some_and (is_by s t) k ≡ false
  stranger sound unknown None = refl
  stranger sound unknown (Some o) = at (nth s.orders o) refl
    where
      at : (order : Option Order) → nth s.orders o ≡ order
          → some_and (λ (order : Order). nat_eq order.ticket t) order ≡ false
      at None is = refl
      at (Some order) is = elim (cases_Bool (nat_eq order.ticket t)) [
        | inl same ↦ absurd (false≢true (sym unknown ∙ subst (λ n. is_ticket s n ≡ true) (eqb-true order.ticket t same) (sound.sound.desk.orders.each o order is).ticket))
        | inr other ↦ other
      ]

  abbrev decides : Place → Option WaitingOrder → Bool → Option Reader → Option Refusal
  decides place head opened who =
      first_that_holds (issue_checks (issue_facts (Some (asked_for place head opened)) t (option_map (sitter_of s t) who) s.day (limits_of s)))

  abbrev ruled : Bool → Bool → Bool → Bool → Bool → Option Refusal
  ruled known at_desk first expired seated =
      first_that_holds (issue_checks (facts_with expired seated (held_count s t) s.settings.hands known at_desk first (opens s t c)))

  -- what the desk decides by is what the rules look at
  pub agrees : IsSoundOffice s → (place : Place) (head : Option WaitingOrder) (opened : Bool) → place ≡ s.place c
      → head ≡ first_waiting s c → opened ≡ opens s t c → is_container s c ≡ true
      → first_that_holds (issue_checks (issue_facts (Some (asked_for place head opened)) t (sitter s t) s.day (limits_of s))) ≡ refusal s (command.Issue c t)
  agrees sound place head opened is_at is_first is_open known = at (nth s.readers t) refl
    where
      at_desk : decided.is_desk place ≡ is_desk (s.place c)
      at_desk = desk_alike place ∙ ap is_desk is_at

      head_is : decided.is_ticket_of_head t (option_map (λ (w : WaitingOrder). w.ticket) head) ≡ some_and (is_by s t) (first (s.queue c))
      head_is =
          ap (λ (h : Option WaitingOrder). decided.is_ticket_of_head t (option_map (λ (w : WaitingOrder). w.ticket) h)) is_first
          ∙ heads (first (s.queue c))

      at : (who : Option Reader) → nth s.readers t ≡ who
          → decides place head opened (nth s.readers t) ≡ refusal s (command.Issue c t)
      at None is =
          let unknown : is_ticket s t ≡ false = ap is_some is in
          ap (decides place head opened) is
          ∙ not_first false false 0 s.settings.hands (decided.is_desk place) opened
          ∙ ap (λ b. cond b (Some NotFirst) (Some NotAtDesk)) at_desk
          ∙ sym (not_first (is_expired s t) (is_seated s t) (held_count s t) s.settings.hands (is_desk (s.place c)) (opens s t c))
          ∙ ap (λ b. ruled b (is_desk (s.place c)) false (is_expired s t) (is_seated s t)) (sym known)
          ∙ ap (λ b. ruled (is_container s c) (is_desk (s.place c)) b (is_expired s t) (is_seated s t)) (sym (stranger sound unknown (first (s.queue c))))
      at (Some reader) is =
          let expired : int_lt reader.until s.day ≡ is_expired s t =
          ap (some_and (λ (reader : Reader). int_lt reader.until s.day)) (sym is) in
          ap (decides place head opened) is
          ∙ ap (λ a. first_that_holds (issue_checks (facts_with (int_lt reader.until s.day) (is_some (seat_of s t)) (held_count s t) s.settings.hands true (decided.is_desk place) (decided.is_ticket_of_head t (option_map (λ (w : WaitingOrder). w.ticket) head)) a))) is_open
          ∙ ap (λ b. ruled b (decided.is_desk place) (decided.is_ticket_of_head t (option_map (λ (w : WaitingOrder). w.ticket) head)) (int_lt reader.until s.day) (is_some (seat_of s t))) (sym known)
          ∙ ap (λ b. ruled (is_container s c) b (decided.is_ticket_of_head t (option_map (λ (w : WaitingOrder). w.ticket) head)) (int_lt reader.until s.day) (is_some (seat_of s t))) at_desk
          ∙ ap (λ b. ruled (is_container s c) (is_desk (s.place c)) b (int_lt reader.until s.day) (is_some (seat_of s t))) head_is
          ∙ ap (λ b. ruled (is_container s c) (is_desk (s.place c)) (some_and (is_by s t) (first (s.queue c))) b (is_some (seat_of s t))) expired
          ∙ ap (λ b. ruled (is_container s c) (is_desk (s.place c)) (some_and (is_by s t) (first (s.queue c))) (is_expired s t) b) (some_placed (is_seat_of t) s.seats)

-- ---- the first order

module _ (s : State) (c : ℕ) where
  pub first_order : (o : ℕ) → option_map (λ (w : WaitingOrder). w.order) (first_waiting s c) ≡ Some o
      → first (s.queue c) ≡ Some o
  first_order o h = at (first (s.queue c)) h
    where
      of : (k : ℕ) (order : Option Order)
          → option_map (λ (w : WaitingOrder). w.order) (option_map (waiter k) order) ≡ Some o → Some k ≡ Some o
      of k None e = absurd (cc)
      of k (Some order) e = e

      at : (k : Option ℕ)
          → option_map (λ (w : WaitingOrder). w.order) (option_and_then (λ o. option_map (waiter o) (nth s.orders o)) k) ≡ Some o
          → k ≡ Some o
      at None e = absurd (cc)
      at (Some k) e = of k (nth s.orders k) e

-- ---- what it does

module _ (places : Trees → Forest ℕ → Type 0) (version : Version) (s : State) (c t : ℕ) where
  abbrev asked : Command
  asked = command.Issue c t

  pub nothing_to_issue : (why : Refusal) → why ≡ UnknownContainer → is_container s c ≡ false
      → refusal s asked ≡ Some why
  nothing_to_issue why is unknown = let first : refusal s asked ≡ Some UnknownContainer = rw unknown refl in first ∙ ap Some (sym is)

  rows_after : IsSoundOffice s → (o : ℕ) (os : List ℕ) → s.queue c ≡ o ∷ os → is_desk (s.place c) ≡ true
      → order_rows (issued s c (o ∷ os)) ≡ with_state o 2 (order_rows s)
  rows_after sound o os is at_desk =
      let u = issued s c (o ∷ os) in
      rows_moved s u o (only_issues s c o os is at_desk) refl
      ∙ ap (λ (x : Option Standing). with_state o (state_number x) (order_rows s))
      (stands_out (container_of u o) (λ k. stands o (u.queue k)) (λ k. is_out_for o (u.place k)) (u.past o) c (is_issued s c o os is sound.sound.desk.filed))

  pub issues : IsSoundOffice s
      → ((old new : Trees) (f : Forest ℕ) → new schema.link.tree ≡ old schema.link.tree → places old f → places new f)
      → (before now : Database) (o : ℕ) → refusal s asked ≡ None → first (s.queue c) ≡ Some o
      → RepresentsState places version before s → now.schema ≡ before.schema
      → OnlyTouches (schema.orders.tree ∷ schema.holding.tree ∷ []) before now
      → RepresentsDesk now.trees (handed_over c (Out o) o states.Out (tables version s).desk)
      → CarriesOutStep places version s asked (Ok (done.Issue o)) now
  issues sound same before now o why head it schema_is only shown = at (s.queue c) refl head
    where
      at : (q : List ℕ) → s.queue c ≡ q → first q ≡ Some o
          → CarriesOutStep places version s asked (Ok (done.Issue o)) now
      at [] is h = absurd (cc)
      at (p ∷ os) is h =
          let one : p ≡ o = cc in
          let first_is : s.queue c ≡ o ∷ os = is ∙ ap (λ k. k ∷ os) one in
          let ok = passed_issue s c t (passes (checks s asked) why) in
          accepts places version s asked same before now (schema.orders.tree ∷ schema.holding.tree ∷ []) refl why tt it schema_is only
          (issued s c (o ∷ os)) (ap (issued s c) first_is) refl refl
          (handed_over c (Out o) o states.Out (tables version s).desk) shown
          (ap (λ (rows : List OrderRow). record (tables version (issued s c (o ∷ os))).desk { orders = rows }) (rows_after sound o os first_is ok.at_desk)
          ∙ ap (λ (rows : List HoldingRow). record (tables version s).desk { orders = with_state o 2 (order_rows s); holdings = rows }) (place_after s c (Out o) ok.known))
          (done.Issue o) (ap (λ q. done.Issue (unwrap_or (first q) 0)) first_is)

-- ---- the decision on what was read

pub decided_as : (version : Version) (t : ℕ) {s : State} {c : ℕ} {place : Place} {head : Option WaitingOrder} {opened : Bool} {who : Option Sitter} {today : ℤ} {limits : Limits}
    → IsSoundOffice s → today ≡ s.day → limits ≡ limits_of s → IsQueuedFor s c place head → who ≡ ticket_holder t (tables version s).desk
    → opened ≡ opens s t c
    → first_that_holds (issue_checks (issue_facts (Some (asked_for place head opened)) t who today limits)) ≡ refusal s (command.Issue c t)
decided_as version t {s} {c} {place} {head} {opened} {who} {today} {limits} sound day allowed queued told is_open =
    ap (λ (r : Option Sitter). first_that_holds (issue_checks (issue_facts (Some (asked_for place head opened)) t r today limits))) (told ∙ holder_shown version s sound t)
    ∙ ap (λ (n : ℤ). first_that_holds (issue_checks (issue_facts (Some (asked_for place head opened)) t (sitter s t) n limits))) day
    ∙ ap (λ (l : Limits). first_that_holds (issue_checks (issue_facts (Some (asked_for place head opened)) t (sitter s t) s.day l))) allowed
    ∙ agrees s c t sound place head opened queued.is_at queued.is_first is_open queued.known
