-- The orders stay good.
use Rattle.std.proofs.Common.{◌≡◌, ◌≢◌, ℕ, suc, ◌+◌, ◌<◌, ◌≤◌, Bool, true, false, cond, ◌&&◌, ◌||◌, List, [], ◌∷◌, ◌++◌}
use Rattle.std.proofs.Common.{length, Option, Some, None, Ok, Err, refl, sym, ap, ◌∙◌, subst, inl, inr, ◌⊎◌, arith}
use Rattle.std.proofs.Common.{length-append}
use Rattle.std.proofs.lemmas.Bool.Decides.{Decides-int_eq}
use Rattle.std.specs.Ordering.{int_eq}
use Rattle.std.specs.Prelude.{ℤ}
use Rattle.desk_core.specs.declared.reader.Place.{Place}
use Rattle.catalogue_core.specs.ContainerContents.{is_open}
use Rattle.office_core.specs.State.{Done}
use Rattle.office_core.specs.declared.command.Command.TheVariants as command
use Rattle.office_core.proofs.Common.{AreFiled, AreGoodOrders, BoxKey, Cancelled, Command, Desk, End, ExactlyOne}
use Rattle.office_core.proofs.Common.{IsFiled, IsGoodOrder, Order, Out, Shelf, State, Taken, after, and_parts}
use Rattle.office_core.proofs.Common.{cancelled, cases_eq, checks, container_of, count_by, distinct, eqb-true}
use Rattle.office_core.proofs.Common.{false≢true, has_ordered, intake_of, is_by, is_container, is_out_for, is_out_with}
use Rattle.office_core.proofs.Common.{is_permitted, is_some, is_ticket, issued, leb-false, list_any, most_orders}
use Rattle.office_core.proofs.Common.{nat_eq, nth, opens, option_map, or_cases, or_right, order_out, ordered}
use Rattle.office_core.proofs.Common.{orders_placed, returned, some_and, stands, sum_by_push, with_import, ◌≤ℤ◌}
use Rattle.office_core.proofs.Words.{same_number, put_each, numbered-push, numbered-push_last}
use Rattle.office_core.proofs.Steps.{Passes}
use Rattle.office_core.proofs.Extends.{Extends, extends_after, same_day, no_later_than}
use Rattle.office_core.proofs.PassedChecks.{passed_order}

pub good_order : (s t : State) (order : Order) → Extends s t → IsGoodOrder s order → IsGoodOrder t order
good_order s t order e g =
    let a = g.day in
    let b = e.day in
    record { ticket = e.tickets order.ticket g.ticket; container = e.containers order.container g.container; day = no_later_than order.day s.day t.day a b }

orders_same : (s t : State) → Extends s t → t.orders ≡ s.orders → ((o : ℕ) → t.past o ≡ None → s.past o ≡ None)
    → AreGoodOrders s → AreGoodOrders t
orders_same s t e eo ep g =
    let there : (o : ℕ) (order : Order) → nth t.orders o ≡ Some order → nth s.orders o ≡ Some order =
    λ o order h. subst (λ os. nth os o ≡ Some order) eo h in
    record {
      each = λ o order h. good_order s t order e (g.each o order (there o order h));
      daily = λ u day.
          let P : List Order → Type 0 =
          λ os. count_by (λ order. nat_eq order.ticket u && int_eq order.day day) os ≤ t.settings.daily in
          subst P (sym eo) (subst (λ settings. orders_placed s u day ≤ settings.daily) (sym e.settings) (g.daily u day));
      once = λ o p order other ho hp lo lp. g.once o p order other (there o order ho) (there p other hp) (ep o lo) (ep p lp);
      few = subst (λ os. length os ≤ most_orders) (sym eo) g.few;
    }

-- a live order shows in what the ticket has ordered

any_from_stands : (test : ℕ → Bool) (n : ℕ) (ns : List ℕ) → stands n ns ≡ true → test n ≡ true → list_any test ns ≡ true
any_from_stands test n [] e h = absurd (false≢true e)
any_from_stands test n (m ∷ ms) e h =
    elim (or_cases (nat_eq n m) (stands n ms) e) [
      | inl same ↦ let q : test m ≡ true = subst (λ k. test k ≡ true) (eqb-true n m same) h in ap (λ b. b || list_any test ms) q
      | inr r ↦ at (test m) (any_from_stands test n ms r h)
    ]
  where
    at : (b : Bool) → list_any test ms ≡ true → (b || list_any test ms) ≡ true
    at true k = refl
    at false k = k

live_cases : (a b : Bool) (p : Option End) → p ≡ None → ExactlyOne a b (is_some p) → (a ≡ true) ⊎ (b ≡ true)
live_cases true b p e x = inl refl
live_cases false true p e x = inr refl
live_cases false false None e x = absurd x
live_cases false false (Some h) e x = absurd (cc)

live_at : (k : Option ℕ) (w h : ℕ → Bool) (p : Option End) (c : ℕ) → k ≡ Some c → p ≡ None → IsFiled k w h p
    → (w c ≡ true) ⊎ (h c ≡ true)
live_at k w h p c e l f = let g = subst (λ k. IsFiled k w h p) e f in live_cases (w c) (h c) p l g.0

pub out_is : (o : ℕ) (p : Place) → is_out_for o p ≡ true → order_out p ≡ Some o
out_is o Shelf e = absurd (false≢true e)
out_is o Desk e = absurd (false≢true e)
out_is o (Out p) e = ap Some (sym (eqb-true o p e))

or_first : (a b : Bool) → a ≡ true → (a || b) ≡ true
or_first true b e = refl
or_first false b e = absurd (false≢true e)

pub is_by_its_ticket : (s : State) (p : ℕ) (order : Order) → nth s.orders p ≡ Some order → is_by s order.ticket p ≡ true
is_by_its_ticket s p order e = ap (some_and (λ r. nat_eq r.ticket order.ticket)) e ∙ same_number order.ticket

live_ordered : (s : State) (p : ℕ) (other : Order) → AreFiled s → nth s.orders p ≡ Some other → s.past p ≡ None
    → has_ordered s other.ticket other.container ≡ true
live_ordered s p other f e l =
    let c = other.container in
    let t = other.ticket in
    let by = is_by_its_ticket s p other e in
    elim (live_at (container_of s p) (λ k. stands p (s.queue k)) (λ k. is_out_for p (s.place k)) (s.past p) c (ap (option_map (λ r. r.container)) e) l (f.each p)) [
      | inl w ↦ or_first (list_any (is_by s t) (s.queue c)) (is_out_with s t c) (any_from_stands (is_by s t) p (s.queue c) w by)
      | inr h ↦ or_right (list_any (is_by s t) (s.queue c)) (is_out_with s t c) (ap (some_and (is_by s t)) (out_is p (s.place c) h) ∙ by)
    ]

-- what is open is known
pub opens_known : (s : State) (t c : ℕ) → opens s t c ≡ true → is_container s c ≡ true
opens_known s t c e = at (nth s.catalogue.containers c) e
  where
    at : (r : Option BoxKey)
        → some_and (λ box. is_open s.catalogue.forest box (is_permitted s.day (s.permits t)) s.day) r ≡ true
        → is_some r ≡ true
    at None h = absurd (false≢true h)
    at (Some box) h = refl

same_z : (d e : ℤ) → int_eq d e ≡ true → d ≡ e
same_z d e h = grind (arith, Decides-int_eq d e)

-- Order

module _ (s : State) (t c : ℕ) (f : AreFiled s) (g : AreGoodOrders s) where
  n : ℕ
  n = suc (length s.orders)

  old_one : (o : ℕ) (order : Order) → o ≢ n
      → nth (s.orders ++ record { ticket = t; container = c; day = s.day } ∷ []) o ≡ Some order
      → nth s.orders o ≡ Some order
  unfolding n
  old_one o order ne h = sym (numbered-push s.orders (record { ticket = t; container = c; day = s.day }) o ne) ∙ h

  new_one : (o : ℕ) (order : Order) → o ≡ n
      → nth (s.orders ++ record { ticket = t; container = c; day = s.day } ∷ []) o ≡ Some order
      → (order.ticket ≡ t) × (order.container ≡ c) × (order.day ≡ s.day)
  unfolding n
  new_one o order e h =
      let x : Order = record { ticket = t; container = c; day = s.day } in
      let k : Some x ≡ Some order =
      sym (subst (λ m. nth (s.orders ++ x ∷ []) m ≡ Some x) (sym e) (numbered-push_last s.orders x)) ∙ h in
      let same : x ≡ order = cc in
      (ap (λ r. r.ticket) (sym same), ap (λ r. r.container) (sym same), ap (λ r. r.day) (sym same))

  each_after : is_ticket s t ≡ true → is_container s c ≡ true → (o : ℕ) (order : Order)
      → nth (ordered s t c).orders o ≡ Some order → IsGoodOrder (ordered s t c) order
  each_after it ic o order h =
      elim (cases_eq o n) [
        | inl e ↦
            let x = new_one o order e h in
            let d = x.2 in
            record { ticket = subst (λ k. is_ticket s k ≡ true) (sym x.0) it; container = subst (λ k. is_container s k ≡ true) (sym x.1) ic; day = subst (λ x. x ≤ℤ s.day) (sym d) (same_day s.day) }
        | inr ne ↦ let x = g.each o order (old_one o order ne h) in record { ticket = x.ticket; container = x.container; day = x.day }
      ]

  daily_at : (u : ℕ) (day : ℤ) (b : Bool) → (nat_eq t u && int_eq s.day day) ≡ b
      → orders_placed s t s.day < s.settings.daily → orders_placed s u day + cond b 1 0 ≤ s.settings.daily
  daily_at u day true e l =
      let p = and_parts (nat_eq t u) (int_eq s.day day) e in
      let h : orders_placed s u day < s.settings.daily =
      subst (λ k. orders_placed s k day < s.settings.daily) (eqb-true t u p.0) (subst (λ k. orders_placed s t k < s.settings.daily) (same_z s.day day p.1) l) in
      omega (arith, h)
  daily_at u day false e l = let h = g.daily u day in omega (arith, h)

  daily_after : orders_placed s t s.day < s.settings.daily → (u : ℕ) (day : ℤ)
      → orders_placed (ordered s t c) u day ≤ s.settings.daily
  daily_after l u day =
      let e : orders_placed (ordered s t c) u day ≡ orders_placed s u day + cond (nat_eq t u && int_eq s.day day) 1 0 =
      sum_by_push (λ order. cond (nat_eq order.ticket u && int_eq order.day day) 1 0) s.orders (record { ticket = t; container = c; day = s.day }) in
      let h = daily_at u day (nat_eq t u && int_eq s.day day) refl l in
      omega (arith, e, h)

  not_twice : has_ordered s t c ≡ false → (p : ℕ) (other : Order) → nth s.orders p ≡ Some other → s.past p ≡ None
      → other.ticket ≡ t → other.container ≡ c → ⊥
  not_twice none p other h l et ec =
      false≢true (sym none ∙ subst (λ k. has_ordered s t k ≡ true) ec (subst (λ k. has_ordered s k other.container ≡ true) et (live_ordered s p other f h l)))

  once_after : has_ordered s t c ≡ false → (o p : ℕ) (order other : Order) → nth (ordered s t c).orders o ≡ Some order
      → nth (ordered s t c).orders p ≡ Some other → s.past o ≡ None → s.past p ≡ None → order.ticket ≡ other.ticket
      → order.container ≡ other.container → o ≡ p
  once_after none o p order other ho hp lo lp et ec =
      elim (cases_eq o n) [
        | inl eo ↦ elim (cases_eq p n) [
          | inl ep ↦ eo ∙ sym ep
          | inr np ↦ let x = new_one o order eo ho in absurd (not_twice none p other (old_one p other np hp) lp (sym et ∙ x.0) (sym ec ∙ x.1))
        ]
        | inr nn ↦ elim (cases_eq p n) [
          | inl ep ↦ let x = new_one p other ep hp in absurd (not_twice none o order (old_one o order nn ho) lo (et ∙ x.0) (ec ∙ x.1))
          | inr np ↦ g.once o p order other (old_one o order nn ho) (old_one p other np hp) lo lp et ec
        ]
      ]

few_after : (s : State) (t c : ℕ) → length s.orders < most_orders → length (ordered s t c).orders ≤ most_orders
few_after s t c l =
    let e = length-append s.orders (record { ticket = t; container = c; day = s.day } ∷ []) in
    omega (arith, e, l)

pub order_good : (s : State) (t c : ℕ) → AreFiled s → AreGoodOrders s → Passes (checks s (command.Order t c))
    → AreGoodOrders (ordered s t c)
order_good s t c f g ok =
    record {
      each = each_after s t c f g (passed_order s t c ok).known (opens_known s t c (passed_order s t c ok).is_open);
      daily = daily_after s t c f g (leb-false s.settings.daily (orders_placed s t s.day) (passed_order s t c ok).daily);
      once = once_after s t c f g (passed_order s t c ok).new;
      few = few_after s t c (leb-false most_orders (length s.orders) (passed_order s t c ok).room);
    }

-- the others

cancelled_good : (s : State) (o : ℕ) (k : Option ℕ) → Extends s (cancelled s o k) → AreGoodOrders s
    → AreGoodOrders (cancelled s o k)
cancelled_good s o None e g = g
cancelled_good s o (Some c) e g =
    orders_same s (cancelled s o (Some c)) e refl (put_each (λ p x. x ≡ None → s.past p ≡ None) s.past o (Some Cancelled) (λ h. absurd (cc)) (λ p ne h. h)) g

issued_good : (s : State) (c : ℕ) (q : List ℕ) → Extends s (issued s c q) → AreGoodOrders s
    → AreGoodOrders (issued s c q)
issued_good s c [] e g = g
issued_good s c (o ∷ os) e g = orders_same s (issued s c (o ∷ os)) e refl (λ p h. h) g

returned_good : (s : State) (c : ℕ) (p : Place) → Extends s (returned s c p) → AreGoodOrders s
    → AreGoodOrders (returned s c p)
returned_good s c Shelf e g = g
returned_good s c Desk e g = g
returned_good s c (Out o) e g =
    orders_same s (returned s c (Out o)) e refl (put_each (λ p x. x ≡ None → s.past p ≡ None) s.past o (Some Done) (λ h. absurd (cc)) (λ p ne h. h)) g

imported_good : (s : State) (t : Taken) → Extends s (with_import s t) → AreGoodOrders s → AreGoodOrders (with_import s t)
imported_good s (Err fault) e g = g
imported_good s (Ok intake) e g = orders_same s (with_import s (Ok intake)) e refl (λ p h. h) g

pub orders_after : (s : State) (asked : Command) → distinct s.catalogue.containers ≡ s.catalogue.containers → AreFiled s
    → AreGoodOrders s → Passes (checks s asked) → AreGoodOrders (after s asked)
orders_after s (command.OpenDay day) b f g ok =
    orders_same s (after s (command.OpenDay day)) (extends_after s (command.OpenDay day) b ok) refl (λ o h. h) g
orders_after s (command.Register name until) b f g ok =
    orders_same s (after s (command.Register name until)) (extends_after s (command.Register name until) b ok) refl (λ o h. h) g
orders_after s (command.Renew t until) b f g ok =
    orders_same s (after s (command.Renew t until)) (extends_after s (command.Renew t until) b ok) refl (λ o h. h) g
orders_after s (command.TakeSeat t) b f g ok =
    orders_same s (after s (command.TakeSeat t)) (extends_after s (command.TakeSeat t) b ok) refl (λ o h. h) g
orders_after s (command.LeaveSeat t) b f g ok =
    orders_same s (after s (command.LeaveSeat t)) (extends_after s (command.LeaveSeat t) b ok) refl (λ o h. h) g
orders_after s (command.Order t c) b f g ok = order_good s t c f g ok
orders_after s (command.Cancel o) b f g ok =
    cancelled_good s o (container_of s o) (extends_after s (command.Cancel o) b ok) g
orders_after s command.Run b f g ok =
    orders_same s (after s command.Run) (extends_after s command.Run b ok) refl (λ o h. h) g
orders_after s command.Reshelve b f g ok =
    orders_same s (after s command.Reshelve) (extends_after s command.Reshelve b ok) refl (λ o h. h) g
orders_after s (command.Issue c t) b f g ok = issued_good s c (s.queue c) (extends_after s (command.Issue c t) b ok) g
orders_after s (command.Return c) b f g ok = returned_good s c (s.place c) (extends_after s (command.Return c) b ok) g
orders_after s (command.Permit t u until) b f g ok =
    orders_same s (after s (command.Permit t u until)) (extends_after s (command.Permit t u until) b ok) refl (λ o h. h) g
orders_after s (command.Revoke t u) b f g ok =
    orders_same s (after s (command.Revoke t u)) (extends_after s (command.Revoke t u) b ok) refl (λ o h. h) g
orders_after s (command.Import source file) b f g ok =
    imported_good s (intake_of s source file) (extends_after s (command.Import source file) b ok) g
orders_after s (command.SetStatus u draft whole) b f g ok =
    orders_same s (after s (command.SetStatus u draft whole)) (extends_after s (command.SetStatus u draft whole) b ok) refl (λ o h. h) g
orders_after s (command.SetClosure u until) b f g ok =
    orders_same s (after s (command.SetClosure u until)) (extends_after s (command.SetClosure u until) b ok) refl (λ o h. h) g
orders_after s (command.Move u parent) b f g ok =
    orders_same s (after s (command.Move u parent)) (extends_after s (command.Move u parent) b ok) refl (λ o h. h) g
orders_after s (command.Remove u) b f g ok =
    orders_same s (after s (command.Remove u)) (extends_after s (command.Remove u) b ok) refl (λ o h. h) g
