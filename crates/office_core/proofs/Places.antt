-- Who has a container sits, has no more than fills the hands, and may see what lies in it.
use Rattle.std.proofs.Common.{◌≡◌, ◌≢◌, ℕ, suc, ◌<◌, ◌≤◌, Bool, true, false, not, cond, List, [], ◌∷◌, length, Option}
use Rattle.std.proofs.Common.{Some, None, Ok, Err, refl, sym, ap, ◌∙◌, subst, inl, inr, arith}
use Rattle.std.specs.Prelude.{ℤ}
use Rattle.desk_core.specs.declared.reader.Place.{Place}
use Rattle.catalogue_core.specs.ContainerContents.{is_open}
use Rattle.office_core.specs.declared.command.Command.TheVariants as command
use Rattle.office_core.proofs.Common.{AreFiled, AreGoodOrders, AreGoodPlaces, BoxKey, Command, Desk, IsGoodHolder, Line}
use Rattle.office_core.proofs.Common.{Order, Out, Permit, Run, Shelf, State, Taken, after, brings, cancelled}
use Rattle.office_core.proofs.Common.{cases_Bool, cases_eq, checks, cons_option, container_of, containers, distinct}
use Rattle.office_core.proofs.Common.{eqb-true, false≢true, fetched, filter_map, first, granted, held_count, idle}
use Rattle.office_core.proofs.Common.{intake_of, is_by, is_container, is_kept_from_holder, is_line_before, is_out}
use Rattle.office_core.proofs.Common.{is_out_for, is_out_with, is_permitted, is_seat_of, is_seated, is_some, issued}
use Rattle.office_core.proofs.Common.{leb-false, line_for, list_any, lowest_withheld, ltb-false, nat_eq, new_run}
use Rattle.office_core.proofs.Common.{not-false, nth, opens, option_map, or_cases, order_out, ordered, orders_of_run}
use Rattle.office_core.proofs.Common.{reshelved, returned, some_and, stands, update_at, with_import}
use Rattle.office_core.proofs.Words.{same_number, put_here, put_there, put_each, numbered_within}
use Rattle.office_core.proofs.LineOrder.{any-in_order}
use Rattle.office_core.proofs.Steps.{passes_gate, Passes}
use Rattle.office_core.proofs.Filed.{out_with, fetched_out, reshelved_out}
use Rattle.office_core.proofs.Extends.{Extends, extends_after}
use Rattle.office_core.proofs.Seats.{sit_keeps, rise_keeps}
use Rattle.office_core.proofs.Opening.{granted_opens}
use Rattle.office_core.proofs.Counts.{count_le, count_one_more, count_further, count_some, none_to, none_that}
use Rattle.office_core.proofs.Counts.{numbered_from_one}
use Rattle.office_core.proofs.PassedChecks.{passed_closure, passed_day, passed_import, passed_issue, passed_leave_seat}
use Rattle.office_core.proofs.PassedChecks.{passed_move, passed_remove, passed_return, passed_revoke, passed_status}

-- the order that a container is out with

pub mapped_some : (r : Option Order) (c : ℕ) → option_map (λ order. order.container) r ≡ Some c
    → (order : Order) × (r ≡ Some order) × (order.container ≡ c)
mapped_some None c e = absurd (cc)
mapped_some (Some order) c e = (order, refl, cc)

pub out_order : (s : State) (c o : ℕ) → AreFiled s → order_out (s.place c) ≡ Some o
    → (order : Order) × (nth s.orders o ≡ Some order) × (order.container ≡ c)
out_order s c o f e =
    let x = out_with (container_of s o) (λ k. stands o (s.queue k)) (λ k. is_out_for o (s.place k)) (s.past o) c (f.each o) (ap (some_and (nat_eq o)) e ∙ same_number o) in
    mapped_some (nth s.orders o) c x.for_it

pub out_known : (s : State) (c o : ℕ) → AreFiled s → AreGoodOrders s → order_out (s.place c) ≡ Some o
    → is_container s c ≡ true
out_known s c o f g e = let x = out_order s c o f e in subst (λ k. is_container s k ≡ true) x.2 (g.each o x.0 x.1).container

by_at : (r : Option Order) (order : Order) (t : ℕ) → r ≡ Some order
    → some_and (λ x. nat_eq x.ticket t) r ≡ nat_eq order.ticket t
by_at r order t e = ap (some_and (λ x. nat_eq x.ticket t)) e

out_with_ticket : (s : State) (c o : ℕ) (order : Order) → order_out (s.place c) ≡ Some o → nth s.orders o ≡ Some order
    → is_out_with s order.ticket c ≡ true
out_with_ticket s c o order e h =
    ap (some_and (is_by s order.ticket)) e ∙ (by_at (nth s.orders o) order order.ticket h ∙ same_number order.ticket)

-- as long as orders stay, whose a container is does not change with the list
same_holder : (s t : State) (u c : ℕ) → Extends s t → AreFiled s → order_out (t.place c) ≡ order_out (s.place c)
    → is_out_with t u c ≡ is_out_with s u c
same_holder s t u c e f p = ap (some_and (is_by t u)) p ∙ at (order_out (s.place c)) refl
  where
    at : (x : Option ℕ) → order_out (s.place c) ≡ x → some_and (is_by t u) x ≡ some_and (is_by s u) x
    at None h = refl
    at (Some o) h =
        let x = out_order s c o f h in
        by_at (nth t.orders o) x.0 u (e.orders o x.0 x.1) ∙ sym (by_at (nth s.orders o) x.0 u x.1)

-- Order

order_held : (s : State) (t c u : ℕ) → Extends s (ordered s t c) → AreFiled s
    → held_count (ordered s t c) u ≤ held_count s u
order_held s t c u e f =
    count_le (is_out_with (ordered s t c) u) (is_out_with s u) (length s.catalogue.containers) (λ k l h. sym (same_holder s (ordered s t c) u k e f refl) ∙ h)

order_holders : (s : State) (t c : ℕ) → Extends s (ordered s t c) → AreFiled s → AreGoodPlaces s
    → (k o : ℕ) (order : Order) → order_out (s.place k) ≡ Some o → nth (ordered s t c).orders o ≡ Some order
    → IsGoodHolder (ordered s t c) k order.ticket
order_holders s t c e f g k o order h n =
    let x = out_order s k o f h in
    let m = e.orders o x.0 x.1 in
    let both : Some x.0 ≡ Some order = sym m ∙ n in
    let same : x.0 ≡ order = cc in
    let y = g.holders k o x.0 h x.1 in
    let l = order_held s t c x.0.ticket e f in
    let few = y.few in
    subst (λ r. IsGoodHolder (ordered s t c) k r.ticket) same (record { seated = y.seated; few = omega (arith, few, l); may_see = y.may_see })

-- OpenDay

none_out : (s : State) → AreFiled s → AreGoodOrders s → list_any (is_out s) (containers s) ≡ false → (c o : ℕ)
    → order_out (s.place c) ≡ Some o → ⊥
none_out s f g h c o e =
    let k = out_known s c o f g e in
    let z = none_to (is_out s) (length s.catalogue.containers) c h (numbered_from_one s.catalogue.containers c k) (numbered_within s.catalogue.containers c k) in
    false≢true (sym z ∙ ap is_some e)

-- LeaveSeat

holds_none : (s : State) (t c o : ℕ) (order : Order) → AreFiled s → AreGoodOrders s → held_count s t ≡ 0
    → order_out (s.place c) ≡ Some o → nth s.orders o ≡ Some order → order.ticket ≢ t
holds_none s t c o order f g z e h same =
    let k = out_known s c o f g e in
    let w = subst (λ u. is_out_with s u c ≡ true) same (out_with_ticket s c o order e h) in
    let p = count_some (is_out_with s t) (length s.catalogue.containers) c (numbered_from_one s.catalogue.containers c k) (numbered_within s.catalogue.containers c k) w in
    omega (arith, p, z)

-- Run and Reshelve

moved_holders : (s : State) (place : ℕ → Place) (runs : List Run)
    → ((c : ℕ) → order_out (place c) ≡ order_out (s.place c)) → AreGoodPlaces s → (c o : ℕ) (order : Order)
    → order_out (place c) ≡ Some o → nth s.orders o ≡ Some order
    → IsGoodHolder (record s { place = place; runs = runs }) c order.ticket
moved_holders s place runs same g c o order e h =
    let y = g.holders c o order (sym (same c) ∙ e) h in
    let few = y.few in
    let l = count_le (is_out_with (record s { place = place; runs = runs }) order.ticket) (is_out_with s order.ticket) (length s.catalogue.containers) (λ k b w. sym (ap (some_and (is_by s order.ticket)) (same k)) ∙ w) in
    record { seated = y.seated; few = omega (arith, few, l); may_see = y.may_see }

brought : (s : State) (c o : ℕ) (r : Option Order) (rest : List Line) → nth s.orders o ≡ r
    → (list_any (λ line. nat_eq line.container c) rest ≡ true → (p : ℕ) × (order : Order) × (nth s.orders p ≡ Some order) × (order.container ≡ c))
    → list_any (λ line. nat_eq line.container c) (cons_option (option_map (λ order. record { container = order.container; order = o; ticket = order.ticket }) r) rest) ≡ true
    → (p : ℕ) × (order : Order) × (nth s.orders p ≡ Some order) × (order.container ≡ c)
brought s c o None rest n ih e = ih e
brought s c o (Some order) rest n ih e =
    elim (or_cases (nat_eq order.container c) (list_any (λ line. nat_eq line.container c) rest) e) [
      | inl same ↦ (o, order, n, eqb-true order.container c same)
      | inr r ↦ ih r
    ]

brings_order : (s : State) (c : ℕ) (os : List ℕ)
    → list_any (λ line. nat_eq line.container c) (filter_map (line_for s) os) ≡ true
    → (p : ℕ) × (order : Order) × (nth s.orders p ≡ Some order) × (order.container ≡ c)
brings_order s c [] e = absurd (false≢true e)
brings_order s c (o ∷ os) e = brought s c o (nth s.orders o) (filter_map (line_for s) os) refl (brings_order s c os) e

fetched_known : (s : State) (c : ℕ) (b : Bool) → brings (new_run s) c ≡ b → AreGoodOrders s → AreGoodPlaces s
    → is_container s c ≡ false → cond b Desk (s.place c) ≡ Shelf
fetched_known s c true e f g h =
    let x = brings_order s c (orders_of_run s) (sym (any-in_order is_line_before (λ line. nat_eq line.container c) (filter_map (line_for s) (orders_of_run s))) ∙ e) in
    absurd (false≢true (sym h ∙ subst (λ k. is_container s k ≡ true) x.3 (f.each x.0 x.1 x.2).container))
fetched_known s c false e f g h = g.known c h

reshelved_known : (s : State) (c : ℕ) (b : Bool) → AreGoodPlaces s → is_container s c ≡ false
    → cond b Shelf (s.place c) ≡ Shelf
reshelved_known s c true g h = refl
reshelved_known s c false g h = g.known c h

-- Issue

module _ (s : State) (c t o : ℕ) (os : List ℕ) (by : is_by s t o ≡ true) where
  still_with : (u k : ℕ) → k ≢ c → some_and (is_by s u) (order_out (update_at s.place c (Out o) k)) ≡ true
      → is_out_with s u k ≡ true
  still_with u k ne w = subst (λ p. some_and (is_by s u) (order_out p) ≡ true) (put_there s.place c (Out o) k ne) w

  held_by_it : held_count (issued s c (o ∷ os)) t ≤ suc (held_count s t)
  held_by_it = count_one_more (is_out_with (issued s c (o ∷ os)) t) (is_out_with s t) c (length s.catalogue.containers) (still_with t)

  ticket_is : (r : Option Order) (u v : ℕ) → some_and (λ x. nat_eq x.ticket u) r ≡ true
      → some_and (λ x. nat_eq x.ticket v) r ≡ true → u ≡ v
  ticket_is None u v a b = absurd (false≢true a)
  ticket_is (Some x) u v a b = sym (eqb-true x.ticket u a) ∙ eqb-true x.ticket v b

  held_by_other : (u : ℕ) → u ≢ t → held_count (issued s c (o ∷ os)) u ≤ held_count s u
  held_by_other u ne =
      count_le (is_out_with (issued s c (o ∷ os)) u) (is_out_with s u) (length s.catalogue.containers)
      (λ k l. put_each (λ k p. some_and (is_by s u) (order_out p) ≡ true → is_out_with s u k ≡ true) s.place c (Out o) (λ w. absurd (ne (ticket_is (nth s.orders o) u t w by))) (λ k ne w. w) k)

  hands_after : (u : ℕ) → held_count s t < s.settings.hands → held_count s u ≤ s.settings.hands
      → held_count (issued s c (o ∷ os)) u ≤ s.settings.hands
  hands_after u l m =
      elim (cases_eq u t) [
        | inl same ↦ let a : held_count (issued s c (o ∷ os)) u ≤ suc (held_count s t) = subst (λ v. held_count (issued s c (o ∷ os)) v ≤ suc (held_count s t)) (sym same) held_by_it in omega (arith, a, l)
        | inr ne ↦ let a = held_by_other u ne in omega (arith, a, m)
      ]

  issue_holders : AreGoodPlaces s → is_seated s t ≡ true → held_count s t < s.settings.hands → opens s t c ≡ true
      → (k p : ℕ) (order : Order) → order_out (update_at s.place c (Out o) k) ≡ Some p → nth s.orders p ≡ Some order
      → IsGoodHolder (issued s c (o ∷ os)) k order.ticket
  issue_holders g sits l may k p order e n =
      elim (cases_eq k c) [
        | inl same ↦
            let x : order_out (Out o) ≡ Some p =
            subst (λ q. order_out q ≡ Some p) (put_here s.place c (Out o)) (subst (λ m. order_out (update_at s.place c (Out o) m) ≡ Some p) same e) in
            let op : o ≡ p = cc in
            let its : order.ticket ≡ t =
            eqb-true order.ticket t (sym (by_at (nth s.orders p) order t n) ∙ subst (λ m. is_by s t m ≡ true) op by) in
            subst (λ u. IsGoodHolder (issued s c (o ∷ os)) k u) (sym its)
            (subst (λ m. IsGoodHolder (issued s c (o ∷ os)) m t) (sym same) (record { seated = sits; few = (let a = held_by_it in omega (arith, a, l)); may_see = may }))
        | inr ne ↦
            let y = g.holders k p order (sym (ap order_out (put_there s.place c (Out o) k ne)) ∙ e) n in
            record { seated = y.seated; few = hands_after order.ticket l y.few; may_see = y.may_see }
      ]

known_at : (s : State) (c k : ℕ) → is_container s c ≡ true → is_container s k ≡ false → k ≢ c
known_at s c k h n e = false≢true (sym n ∙ subst (λ m. is_container s m ≡ true) (sym e) h)

issue_places : (s : State) (c t : ℕ) (q : List ℕ) → some_and (is_by s t) (first q) ≡ true → is_container s c ≡ true
    → is_seated s t ≡ true → held_count s t < s.settings.hands → opens s t c ≡ true → AreGoodPlaces s
    → AreGoodPlaces (issued s c q)
issue_places s c t [] by h sits l may g = g
issue_places s c t (o ∷ os) by h sits l may g =
    record {
      holders = issue_holders s c t o os by g sits l may;
      known = λ k n. put_there s.place c (Out o) k (known_at s c k h n) ∙ g.known k n;
    }

-- Return

back : (s : State) (c u k : ℕ) → some_and (is_by s u) (order_out (update_at s.place c Desk k)) ≡ true
    → is_out_with s u k ≡ true
back s c u = put_each (λ k p. some_and (is_by s u) (order_out p) ≡ true → is_out_with s u k ≡ true) s.place c Desk (λ w. absurd (false≢true w)) (λ k ne w. w)

return_places : (s : State) (c : ℕ) (p : Place) → is_container s c ≡ true → AreGoodPlaces s
    → AreGoodPlaces (returned s c p)
return_places s c Shelf h g = g
return_places s c Desk h g = g
return_places s c (Out o) h g =
    record {
      holders = put_each (λ k q. (p : ℕ) (order : Order) → order_out q ≡ Some p → nth s.orders p ≡ Some order → IsGoodHolder (returned s c (Out o)) k order.ticket) s.place c Desk
          (λ p order e n. absurd (cc))
          (λ k ne p order e n.
          let y = g.holders k p order e n in
          let few = y.few in
          let l = count_le (is_out_with (returned s c (Out o)) order.ticket) (is_out_with s order.ticket) (length s.catalogue.containers) (λ m b w. back s c order.ticket m w) in
          record { seated = y.seated; few = omega (arith, few, l); may_see = y.may_see });
      known = λ k n. put_there s.place c Desk k (known_at s c k h n) ∙ g.known k n;
    }

-- Cancel

cancel_places : (s : State) (o : ℕ) (k : Option ℕ) → AreGoodPlaces s → AreGoodPlaces (cancelled s o k)
cancel_places s o None g = g
cancel_places s o (Some c) g = record { holders = λ k p order e n. (let y = g.holders k p order e n in record { seated = y.seated; few = y.few; may_see = y.may_see }); known = g.known }

-- Permits and the gate

none_kept : (x : Option ℕ) → is_some x ≡ false → x ≡ None
none_kept None e = refl
none_kept (Some c) e = absurd (false≢true (sym e))

-- what passes the gate is open to the reader who has it
pub gate_opens : (s : State) (c o : ℕ) (order : Order) → is_some (lowest_withheld s) ≡ false → is_container s c ≡ true
    → order_out (s.place c) ≡ Some o → nth s.orders o ≡ Some order → opens s order.ticket c ≡ true
gate_opens s c o order h k e n =
    let all = none_that (is_kept_from_holder s) (containers s) (none_kept (lowest_withheld s) h) in
    let z = none_to (is_kept_from_holder s) (length s.catalogue.containers) c all (numbered_from_one s.catalogue.containers c k) (numbered_within s.catalogue.containers c k) in
    not-false (opens s order.ticket c) (sym (ap (some_and (λ p. some_and (λ r. not (opens s r.ticket c)) (nth s.orders p))) e ∙ ap (some_and (λ r. not (opens s r.ticket c))) n) ∙ z)

revoke_places : (s : State) (t u : ℕ) → AreFiled s → AreGoodOrders s
    → is_some (lowest_withheld (after s (command.Revoke t u))) ≡ false → AreGoodPlaces s
    → AreGoodPlaces (after s (command.Revoke t u))
revoke_places s t u f gs ok g =
    record {
      holders = λ c o order e n.
          let y = g.holders c o order e n in
          record { seated = y.seated; few = y.few; may_see = gate_opens (after s (command.Revoke t u)) c o order ok (out_known s c o f gs e) e n };
      known = g.known;
    }

unknown_before : (s t : State) (c : ℕ) → Extends s t → is_container t c ≡ false → is_container s c ≡ false
unknown_before s t c e h = elim (cases_Bool (is_container s c)) [ inl k ↦ absurd (false≢true (sym h ∙ e.containers c k)) | inr k ↦ k ]

changed_places : (s t : State) → Extends s t → AreFiled s → AreGoodOrders s → t.seats ≡ s.seats → t.orders ≡ s.orders
    → t.place ≡ s.place → is_some (lowest_withheld t) ≡ false → AreGoodPlaces s → AreGoodPlaces t
changed_places s t e f gs es eo ep ok g =
    record {
      holders = λ c o order h n.
          let h' : order_out (s.place c) ≡ Some o = subst (λ place. order_out (place c) ≡ Some o) ep h in
          let n' : nth s.orders o ≡ Some order = subst (λ os. nth os o ≡ Some order) eo n in
          let y = g.holders c o order h' n' in
          let few = y.few in
          let l = held_same s t order.ticket eo ep f gs in
          let hands = ap (λ settings. settings.hands) e.settings in
          record {
            seated = subst (λ seats. list_any (is_seat_of order.ticket) seats ≡ true) (sym es) y.seated;
            few = omega (arith, few, l, hands);
            may_see = gate_opens t c o order ok (e.containers c (out_known s c o f gs h')) h n;
          };
      known = λ c n. subst (λ place. place c ≡ Shelf) (sym ep) (g.known c (unknown_before s t c e n));
    }
  where
    within : (s : State) (u k : ℕ) → AreFiled s → AreGoodOrders s → is_out_with s u k ≡ true
        → k ≤ length s.catalogue.containers
    within s u k f gs w = at (order_out (s.place k)) refl w
      where
        at : (x : Option ℕ) → order_out (s.place k) ≡ x → some_and (is_by s u) x ≡ true
            → k ≤ length s.catalogue.containers
        at None h w = absurd (false≢true w)
        at (Some o) h w = numbered_within s.catalogue.containers k (out_known s k o f gs h)

    held_same : (s t : State) (u : ℕ) → t.orders ≡ s.orders → t.place ≡ s.place → AreFiled s → AreGoodOrders s
        → held_count t u ≤ held_count s u
    held_same s t u eo ep f gs =
        let same : (k : ℕ) → is_out_with t u k ≡ is_out_with s u k =
        λ k. ap (λ place. some_and (is_by t u) (order_out (place k))) ep
        ∙ ap (λ os. some_and (λ o. some_and (λ order. nat_eq order.ticket u) (nth os o)) (order_out (s.place k))) eo in
        let a = count_le (is_out_with t u) (is_out_with s u) (length t.catalogue.containers) (λ k l w. sym (same k) ∙ w) in
        let b = count_further (is_out_with s u) (length s.catalogue.containers) (length t.catalogue.containers) (λ k w. within s u k f gs w) in
        omega (arith, a, b)

imported_places : (s : State) (t : Taken) → Extends s (with_import s t) → AreFiled s → AreGoodOrders s
    → is_some (lowest_withheld (with_import s t)) ≡ false → AreGoodPlaces s → AreGoodPlaces (with_import s t)
imported_places s (Err fault) e f gs ok g = g
imported_places s (Ok intake) e f gs ok g = changed_places s (with_import s (Ok intake)) e f gs refl refl refl ok g

opens_with : State → List Permit → ℕ → Bool
opens_with s permits c =
    some_and (λ box. is_open s.catalogue.forest box (is_permitted s.day permits) s.day) (nth s.catalogue.containers c)

granted_opens_box : (s : State) (c u : ℕ) (until : ℤ) (ps : List Permit) → opens_with s ps c ≡ true
    → opens_with s (granted u until ps) c ≡ true
unfolding opens_with
granted_opens_box s c u until ps = at (nth s.catalogue.containers c)
  where
    at : (r : Option BoxKey) → some_and (λ box. is_open s.catalogue.forest box (is_permitted s.day ps) s.day) r ≡ true
        → some_and (λ box. is_open s.catalogue.forest box (is_permitted s.day (granted u until ps)) s.day) r ≡ true
    at None h = h
    at (Some box) h = granted_opens s.catalogue.forest box s.day u until ps h

grant_places : (s : State) (t u : ℕ) (until : ℤ) → AreGoodPlaces s → AreGoodPlaces (after s (command.Permit t u until))
unfolding opens_with
grant_places s t u until g =
    record {
      holders = λ c o order e n.
          let y = g.holders c o order e n in
          record {
            seated = y.seated;
            few = y.few;
            may_see = put_each (λ v ps. opens_with s (s.permits v) c ≡ true → opens_with s ps c ≡ true) s.permits t (granted u until (s.permits t)) (granted_opens_box s c u until (s.permits t)) (λ v ne h. h) order.ticket y.may_see;
          };
      known = g.known;
    }

pub places_after : (s : State) (asked : Command) → distinct s.catalogue.containers ≡ s.catalogue.containers → AreFiled s
    → AreGoodOrders s → AreGoodPlaces s → Passes (checks s asked) → AreGoodPlaces (after s asked)
places_after s (command.OpenDay day) b f gs g ok =
    record { holders = λ c o order e n. absurd (none_out s f gs (passed_day s day ok).all_back c o e); known = g.known }
places_after s (command.Register name until) b f gs g ok = record { holders = λ c o order e n. (let y = g.holders c o order e n in record { seated = y.seated; few = y.few; may_see = y.may_see }); known = g.known }
places_after s (command.Renew t until) b f gs g ok = record { holders = λ c o order e n. (let y = g.holders c o order e n in record { seated = y.seated; few = y.few; may_see = y.may_see }); known = g.known }
places_after s (command.TakeSeat t) b f gs g ok = record { holders = λ c o order e n. (let y = g.holders c o order e n in record { seated = sit_keeps order.ticket t s.seats y.seated; few = y.few; may_see = y.may_see }); known = g.known }
places_after s (command.LeaveSeat t) b f gs g ok =
    record {
      holders = λ c o order e n.
          let y = g.holders c o order e n in
          let none = ltb-false 0 (held_count s t) (passed_leave_seat s t ok).holds_none in
          let z : held_count s t ≡ 0 = omega (arith, none) in
          record { seated = rise_keeps order.ticket t s.seats (holds_none s t c o order f gs z e n) y.seated; few = y.few; may_see = y.may_see };
      known = g.known;
    }
places_after s (command.Order t c) b f gs g ok =
    record { holders = order_holders s t c (extends_after s (command.Order t c) b ok) f g; known = g.known }
places_after s (command.Cancel o) b f gs g ok = cancel_places s o (container_of s o) g
places_after s command.Run b f gs g ok =
    record { holders = moved_holders s (fetched s).place (fetched s).runs (fetched_out s) g; known = λ c h. fetched_known s c (brings (new_run s) c) refl gs g h }
places_after s command.Reshelve b f gs g ok =
    record { holders = moved_holders s (reshelved s).place s.runs (reshelved_out s) g; known = λ c h. reshelved_known s c (stands c (idle s)) g h }
places_after s (command.Issue c t) b f gs g ok =
    issue_places s c t (s.queue c) (passed_issue s c t ok).first_waits (passed_issue s c t ok).known (passed_issue s c t ok).seated
    (leb-false s.settings.hands (held_count s t) (passed_issue s c t ok).hands) (passed_issue s c t ok).is_open g
places_after s (command.Return c) b f gs g ok = return_places s c (s.place c) (passed_return s c ok) g
places_after s (command.Permit t u until) b f gs g ok = grant_places s t u until g
places_after s (command.Revoke t u) b f gs g ok =
    revoke_places s t u f gs (passed_revoke s t u ok).none_withheld g
places_after s (command.Import source file) b f gs g ok =
    imported_places s (intake_of s source file) (extends_after s (command.Import source file) b ok) f gs (passes_gate (after s (command.Import source file)) (passed_import s source file ok).gate_passed) g
places_after s (command.SetStatus u draft whole) b f gs g ok =
    changed_places s (after s (command.SetStatus u draft whole)) (extends_after s (command.SetStatus u draft whole) b ok) f gs refl refl refl (passed_status s u draft whole ok).none_withheld g
places_after s (command.SetClosure u until) b f gs g ok =
    changed_places s (after s (command.SetClosure u until)) (extends_after s (command.SetClosure u until) b ok) f gs refl refl refl (passed_closure s u until ok).none_withheld g
places_after s (command.Move u parent) b f gs g ok =
    changed_places s (after s (command.Move u parent)) (extends_after s (command.Move u parent) b ok) f gs refl refl refl (passed_move s u parent ok).none_withheld g
places_after s (command.Remove u) b f gs g ok =
    changed_places s (after s (command.Remove u)) (extends_after s (command.Remove u) b ok) f gs refl refl refl (passed_remove s u ok).none_withheld g
