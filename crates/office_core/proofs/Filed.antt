-- Each order stays in exactly one of its container's queue, its container's place and the past.
use Rattle.std.proofs.Common.{◌≡◌, ◌≢◌, ℕ, zero, suc, ◌<◌, ◌≤◌, Bool, true, false, cond, ◌&&◌, ◌||◌, List, [], ◌∷◌}
use Rattle.std.proofs.Common.{◌++◌, length, Option, Some, None, Ok, Err, refl, sym, ap, ◌∙◌, subst, inl, inr, arith}
use Rattle.std.proofs.Math.Path.{fun_ext}
use Rattle.std.specs.Prelude.{take}
use Rattle.desk_core.specs.declared.reader.Place.{Place}
use Rattle.office_core.specs.State.{Done}
use Rattle.office_core.specs.declared.command.Command.TheVariants as command
use Rattle.office_core.proofs.Common.{AllByRecursion, AreFiled, Cancelled, Command, Desk, End, ExactlyOne, IsAscending}
use Rattle.office_core.proofs.Common.{IsFiled, Line, Order, Out, Run, Shelf, State, Taken, after, and_parts, brings}
use Rattle.office_core.proofs.Common.{cancelled, cases_eq, checks, cons_option, container_of, containers, eqb-true}
use Rattle.office_core.proofs.Common.{false≢true, fetched, filter, filter_map, first, idle, intake_of, is_desk, is_due}
use Rattle.office_core.proofs.Common.{is_empty, is_idle, is_line_before, is_out_for, is_shelf, is_some, issued}
use Rattle.office_core.proofs.Common.{line_for, list_any, nat_eq, new_run, nth, numbers_to, opens, option_map, or_cases}
use Rattle.office_core.proofs.Common.{or_right, order_out, ordered, orders_of_run, reshelved, returned, some_and}
use Rattle.office_core.proofs.Common.{stands, with_import, without}
use Rattle.office_core.proofs.Words.{same_number, other_number, put_here, put_there, put_each, stands-push}
use Rattle.office_core.proofs.Words.{stands-without_other, stands-without_same, below_none, ascending-without}
use Rattle.office_core.proofs.Words.{ascending-push, all_from_stands, numbered_within, numbered-push}
use Rattle.office_core.proofs.Words.{numbered-push_last, numbered_past}
use Rattle.office_core.proofs.LineOrder.{any-in_order}
use Rattle.office_core.proofs.Steps.{Passes}
use Rattle.office_core.proofs.PassedChecks.{passed_cancel, passed_issue}

-- One order, by where it stands

exactly_waiting : (a b : Bool) (p : Option End) → a ≡ true → ExactlyOne a b (is_some p) → (b ≡ false) × (p ≡ None)
exactly_waiting true false None e x = (refl, refl)
exactly_waiting true false (Some p) e x = absurd x
exactly_waiting true true None e x = absurd x
exactly_waiting true true (Some p) e x = absurd x
exactly_waiting false b p e x = absurd (false≢true e)

exactly_out : (a b : Bool) (p : Option End) → b ≡ true → ExactlyOne a b (is_some p) → (a ≡ false) × (p ≡ None)
exactly_out false true None e x = (refl, refl)
exactly_out false true (Some p) e x = absurd x
exactly_out true true None e x = absurd x
exactly_out true true (Some p) e x = absurd x
exactly_out a false p e x = absurd (false≢true e)

pub record IsWaitingFor (container : Option ℕ) (w h : ℕ → Bool) (past : Option End) (c : ℕ) : Type 0 where
  pub for_it : container ≡ Some c
  pub in_queue : w c ≡ true
  pub in_no_other : (k : ℕ) → k ≢ c → w k ≡ false
  pub in_no_place : (k : ℕ) → h k ≡ false
  pub not_past : past ≡ None

pub record IsOutWith (container : Option ℕ) (w h : ℕ → Bool) (past : Option End) (c : ℕ) : Type 0 where
  pub for_it : container ≡ Some c
  pub in_place : h c ≡ true
  pub in_no_other : (k : ℕ) → k ≢ c → h k ≡ false
  pub in_no_queue : (k : ℕ) → w k ≡ false
  pub not_past : past ≡ None

pub record IsPast (container : Option ℕ) (w h : ℕ → Bool) (past : Option End) (c : ℕ) (how : End) : Type 0 where
  pub for_it : container ≡ Some c
  pub in_no_queue : (k : ℕ) → w k ≡ false
  pub in_no_place : (k : ℕ) → h k ≡ false
  pub is_past : past ≡ Some how

none_but : (w : ℕ → Bool) (c : ℕ) → w c ≡ false → ((k : ℕ) → k ≢ c → w k ≡ false) → (k : ℕ) → w k ≡ false
none_but w c here there k = elim (cases_eq k c) [ inl e ↦ subst (λ m. w m ≡ false) (sym e) here | inr h ↦ there k h ]

pub waiting : (container : Option ℕ) (w h : ℕ → Bool) (past : Option End) (c : ℕ) → IsFiled container w h past
    → w c ≡ true → IsWaitingFor container w h past c
waiting None w h past c f e = absurd (false≢true (sym (f.0 c) ∙ e))
waiting (Some k) w h past c f e =
    elim (cases_eq c k) [
      | inl same ↦
          let x = exactly_waiting (w k) (h k) past (subst (λ m. w m ≡ true) same e) f.0 in
          record { for_it = ap Some (sym same); in_queue = e; in_no_other = λ m ne. f.1 m (λ q. ne (q ∙ sym same)); in_no_place = none_but h k x.0 f.2; not_past = x.1 }
      | inr ne ↦ absurd (false≢true (sym (f.1 c ne) ∙ e))
    ]

pub out_with : (container : Option ℕ) (w h : ℕ → Bool) (past : Option End) (c : ℕ) → IsFiled container w h past
    → h c ≡ true → IsOutWith container w h past c
out_with None w h past c f e = absurd (false≢true (sym (f.1 c) ∙ e))
out_with (Some k) w h past c f e =
    elim (cases_eq c k) [
      | inl same ↦
          let x = exactly_out (w k) (h k) past (subst (λ m. h m ≡ true) same e) f.0 in
          record { for_it = ap Some (sym same); in_place = e; in_no_other = λ m ne. f.2 m (λ q. ne (q ∙ sym same)); in_no_queue = none_but w k x.0 f.1; not_past = x.1 }
      | inr ne ↦ absurd (false≢true (sym (f.2 c ne) ∙ e))
    ]

pub no_order : (container : Option ℕ) (w h : ℕ → Bool) (past : Option End) → container ≡ None
    → IsFiled container w h past → IsFiled None w h past
no_order container w h past e f = subst (λ k. IsFiled k w h past) e f

one_waiting : (a b : Bool) (p : Option End) → a ≡ true → b ≡ false → p ≡ None → ExactlyOne a b (is_some p)
one_waiting a b p ea eb ep =
    subst (λ x. ExactlyOne x b (is_some p)) (sym ea) (subst (λ x. ExactlyOne true x (is_some p)) (sym eb) (subst (λ x. ExactlyOne true false (is_some x)) (sym ep) tt))

one_out : (a b : Bool) (p : Option End) → a ≡ false → b ≡ true → p ≡ None → ExactlyOne a b (is_some p)
one_out a b p ea eb ep =
    subst (λ x. ExactlyOne x b (is_some p)) (sym ea) (subst (λ x. ExactlyOne false x (is_some p)) (sym eb) (subst (λ x. ExactlyOne false true (is_some x)) (sym ep) tt))

one_past : (a b : Bool) (p : Option End) (how : End) → a ≡ false → b ≡ false → p ≡ Some how → ExactlyOne a b (is_some p)
one_past a b p how ea eb ep =
    subst (λ x. ExactlyOne x b (is_some p)) (sym ea) (subst (λ x. ExactlyOne false x (is_some p)) (sym eb) (subst (λ x. ExactlyOne false false (is_some x)) (sym ep) tt))

pub filed_waiting : (container : Option ℕ) (w h : ℕ → Bool) (past : Option End) (c : ℕ)
    → IsWaitingFor container w h past c → IsFiled container w h past
filed_waiting container w h past c x =
    subst (λ k. IsFiled k w h past) (sym x.for_it) (one_waiting (w c) (h c) past x.in_queue (x.in_no_place c) x.not_past, x.in_no_other, λ k ne. x.in_no_place k)

pub filed_out : (container : Option ℕ) (w h : ℕ → Bool) (past : Option End) (c : ℕ) → IsOutWith container w h past c
    → IsFiled container w h past
filed_out container w h past c x =
    subst (λ k. IsFiled k w h past) (sym x.for_it) (one_out (w c) (h c) past (x.in_no_queue c) x.in_place x.not_past, (λ k ne. x.in_no_queue k), x.in_no_other)

pub filed_past : (container : Option ℕ) (w h : ℕ → Bool) (past : Option End) (c : ℕ) (how : End)
    → IsPast container w h past c how → IsFiled container w h past
filed_past container w h past c how x =
    subst (λ k. IsFiled k w h past) (sym x.for_it) (one_past (w c) (h c) past how (x.in_no_queue c) (x.in_no_place c) x.is_past, (λ k ne. x.in_no_queue k), (λ k ne. x.in_no_place k))

-- One order moves

-- the other orders stand where they stood
pub record OnlyMoves (s t : State) (o : ℕ) : Type 0 where
  pub orders : (p : ℕ) → p ≢ o → container_of t p ≡ container_of s p
  pub queues : (p : ℕ) → p ≢ o → (c : ℕ) → stands p (t.queue c) ≡ stands p (s.queue c)
  pub places : (p : ℕ) → p ≢ o → (c : ℕ) → is_out_for p (t.place c) ≡ is_out_for p (s.place c)
  pub past : (p : ℕ) → p ≢ o → t.past p ≡ s.past p

filed_same : (k k' : Option ℕ) (w w' h h' : ℕ → Bool) (p p' : Option End) → k' ≡ k → ((c : ℕ) → w' c ≡ w c)
    → ((c : ℕ) → h' c ≡ h c) → p' ≡ p → IsFiled k w h p → IsFiled k' w' h' p'
filed_same k k' w w' h h' p p' ek ew eh ep f =
    let fw : w ≡ w' = fun_ext (λ c. sym (ew c)) in
    let fh : h ≡ h' = fun_ext (λ c. sym (eh c)) in
    subst (λ x. IsFiled x w' h' p') (sym ek) (subst (λ x. IsFiled k w' h' x) (sym ep) (subst (λ x. IsFiled k w' x p) fh (subst (λ x. IsFiled k x h p) fw f)))

pub moved : (s t : State) (o : ℕ) → OnlyMoves s t o
    → IsFiled (container_of t o) (λ c. stands o (t.queue c)) (λ c. is_out_for o (t.place c)) (t.past o)
    → ((c : ℕ) → IsAscending (t.queue c)) → AreFiled s → AreFiled t
moved s t o m here asc f =
    record {
      each = λ p. elim (cases_eq p o) [
        | inl e ↦ subst (λ q. IsFiled (container_of t q) (λ c. stands q (t.queue c)) (λ c. is_out_for q (t.place c)) (t.past q)) (sym e) here
        | inr ne ↦ filed_same (container_of s p) (container_of t p) (λ c. stands p (s.queue c)) (λ c. stands p (t.queue c)) (λ c. is_out_for p (s.place c)) (λ c. is_out_for p (t.place c)) (s.past p) (t.past p) (m.orders p ne) (m.queues p ne) (m.places p ne) (m.past p ne) (f.each p)
      ];
      queues = asc;
    }

-- Cancel

pub only_cancels : (s : State) (o c : ℕ) → OnlyMoves s (cancelled s o (Some c)) o
only_cancels s o c =
    record {
      orders = λ p ne. refl;
      queues = λ p ne. put_each (λ k q. stands p q ≡ stands p (s.queue k)) s.queue c (without o (s.queue c)) (stands-without_other p o (s.queue c) ne) (λ k h. refl);
      places = λ p ne k. refl;
      past = λ p ne. put_there s.past o (Some Cancelled) p ne;
    }

pub is_cancelled : (s : State) (o c : ℕ) → AreFiled s → container_of s o ≡ Some c → stands o (s.queue c) ≡ true → let t = cancelled s o (Some c) in IsPast (container_of t o) (λ k. stands o (t.queue k)) (λ k. is_out_for o (t.place k)) (t.past o) c Cancelled
is_cancelled s o c f e w =
    let x = waiting (container_of s o) (λ k. stands o (s.queue k)) (λ k. is_out_for o (s.place k)) (s.past o) c (f.each o) w in
    record {
      for_it = e;
      in_no_queue = put_each (λ k q. stands o q ≡ false) s.queue c (without o (s.queue c)) (stands-without_same o (s.queue c)) x.in_no_other;
      in_no_place = x.in_no_place;
      is_past = put_here s.past o (Some Cancelled);
    }

cancel_filed : (s : State) (o : ℕ) (k : Option ℕ) → container_of s o ≡ k → some_and (λ c. stands o (s.queue c)) k ≡ true
    → AreFiled s → AreFiled (cancelled s o k)
cancel_filed s o None e w f = f
cancel_filed s o (Some c) e w f =
    let t = cancelled s o (Some c) in
    moved s t o (only_cancels s o c) (filed_past (container_of t o) (λ k. stands o (t.queue k)) (λ k. is_out_for o (t.place k)) (t.past o) c Cancelled (is_cancelled s o c f e w))
    (put_each (λ k q. IsAscending q) s.queue c (without o (s.queue c)) (ascending-without o (s.queue c) (f.queues c)) (λ k h. f.queues k)) f

-- Order

container-push : (s : State) (order : Order) (p : ℕ) → p ≢ suc (length s.orders)
    → option_map (λ r. r.container) (nth (s.orders ++ order ∷ []) p) ≡ container_of s p
container-push s order p ne = ap (option_map (λ r. r.container)) (numbered-push s.orders order p ne)

pub next_is_none : (s : State) → container_of s (suc (length s.orders)) ≡ None
next_is_none s = ap (option_map (λ r. r.container)) (numbered_past s.orders (suc (length s.orders)) (omega arith))

or_not : (a b : Bool) → b ≡ false → (a || b) ≡ a
or_not true b e = refl
or_not false b e = e

pub only_orders : (s : State) (t c : ℕ) → OnlyMoves s (ordered s t c) (suc (length s.orders))
only_orders s t c =
    let n = suc (length s.orders) in
    record {
      orders = λ p ne. container-push s (record { ticket = t; container = c; day = s.day }) p ne;
      queues = λ p ne. put_each (λ k q. stands p q ≡ stands p (s.queue k)) s.queue c (s.queue c ++ n ∷ []) (stands-push p n (s.queue c) ∙ or_not (stands p (s.queue c)) (nat_eq p n) (other_number p n ne)) (λ k h. refl);
      places = λ p ne k. refl;
      past = λ p ne. refl;
    }

pub is_ordered : (s : State) (t c : ℕ) → AreFiled s → let n = suc (length s.orders) in let u = ordered s t c in IsWaitingFor (container_of u n) (λ k. stands n (u.queue k)) (λ k. is_out_for n (u.place k)) (u.past n) c
is_ordered s t c f =
    let n = suc (length s.orders) in
    let x = no_order (container_of s n) (λ k. stands n (s.queue k)) (λ k. is_out_for n (s.place k)) (s.past n) (next_is_none s) (f.each n) in
    record {
      for_it = ap (option_map (λ r. r.container)) (numbered-push_last s.orders (record { ticket = t; container = c; day = s.day }));
      in_queue = subst (λ q. stands n q ≡ true) (sym (put_here s.queue c (s.queue c ++ n ∷ []))) (stands-push n n (s.queue c) ∙ or_right (stands n (s.queue c)) (nat_eq n n) (same_number n));
      in_no_other = λ k ne. subst (λ q. stands n q ≡ false) (sym (put_there s.queue c (s.queue c ++ n ∷ []) k ne)) (x.0 k);
      in_no_place = x.1;
      not_past = x.2;
    }

some_if_mapped : {X Y : Type 0} (f : X → Y) (o : Option X) (y : Y) → option_map f o ≡ Some y → is_some o ≡ true
some_if_mapped f None y e = absurd (cc)
some_if_mapped f (Some x) y e = refl

-- what waits is an order
pub waits_within : (s : State) (c o : ℕ) → AreFiled s → stands o (s.queue c) ≡ true → o ≤ length s.orders
waits_within s c o f w =
    let x = waiting (container_of s o) (λ k. stands o (s.queue k)) (λ k. is_out_for o (s.place k)) (s.past o) c (f.each o) w in
    numbered_within s.orders o (some_if_mapped (λ r. r.container) (nth s.orders o) c x.for_it)

order_filed : (s : State) (t c : ℕ) → AreFiled s → AreFiled (ordered s t c)
order_filed s t c f =
    let n = suc (length s.orders) in
    let u = ordered s t c in
    moved s u n (only_orders s t c) (filed_waiting (container_of u n) (λ k. stands n (u.queue k)) (λ k. is_out_for n (u.place k)) (u.past n) c (is_ordered s t c f))
    (put_each (λ k q. IsAscending q) s.queue c (s.queue c ++ n ∷ [])
    (ascending-push (s.queue c) n (f.queues c) (all_from_stands (λ m. m < n) (s.queue c) (λ m w. let e = waits_within s c m f w in omega (arith, e))))
    (λ k h. f.queues k))
    f

-- Issue

not_out_at_desk : (p : Place) (o : ℕ) → is_desk p ≡ true → is_out_for o p ≡ false
not_out_at_desk Shelf o e = refl
not_out_at_desk Desk o e = refl
not_out_at_desk (Out k) o e = absurd (false≢true e)

pub only_issues : (s : State) (c o : ℕ) (os : List ℕ) → s.queue c ≡ o ∷ os → is_desk (s.place c) ≡ true
    → OnlyMoves s (issued s c (o ∷ os)) o
only_issues s c o os e d =
    record {
      orders = λ p ne. refl;
      queues = λ p ne. put_each (λ k q. stands p q ≡ stands p (s.queue k)) s.queue c os (sym (ap (stands p) e ∙ ap (λ b. b || stands p os) (other_number p o ne))) (λ k h. refl);
      places = λ p ne. put_each (λ k q. is_out_for p q ≡ is_out_for p (s.place k)) s.place c (Out o) (other_number p o ne ∙ sym (not_out_at_desk (s.place c) p d)) (λ k h. refl);
      past = λ p ne. refl;
    }

pub is_issued : (s : State) (c o : ℕ) (os : List ℕ) → s.queue c ≡ o ∷ os → AreFiled s → let t = issued s c (o ∷ os) in IsOutWith (container_of t o) (λ k. stands o (t.queue k)) (λ k. is_out_for o (t.place k)) (t.past o) c
is_issued s c o os e f =
    let w : stands o (s.queue c) ≡ true = ap (stands o) e ∙ ap (λ b. b || stands o os) (same_number o) in
    let x = waiting (container_of s o) (λ k. stands o (s.queue k)) (λ k. is_out_for o (s.place k)) (s.past o) c (f.each o) w in
    let a = subst IsAscending e (f.queues c) in
    record {
      for_it = x.for_it;
      in_place = subst (λ q. is_out_for o q ≡ true) (sym (put_here s.place c (Out o))) (same_number o);
      in_no_other = λ k ne. subst (λ q. is_out_for o q ≡ false) (sym (put_there s.place c (Out o) k ne)) (x.in_no_place k);
      in_no_queue = put_each (λ k q. stands o q ≡ false) s.queue c os (below_none o os a.0) x.in_no_other;
      not_past = x.not_past;
    }

issue_filed : (s : State) (c : ℕ) (q : List ℕ) → s.queue c ≡ q → is_desk (s.place c) ≡ true → AreFiled s
    → AreFiled (issued s c q)
issue_filed s c [] e d f = f
issue_filed s c (o ∷ os) e d f =
    let t = issued s c (o ∷ os) in
    moved s t o (only_issues s c o os e d) (filed_out (container_of t o) (λ k. stands o (t.queue k)) (λ k. is_out_for o (t.place k)) (t.past o) c (is_issued s c o os e f))
    (put_each (λ k q. IsAscending q) s.queue c os (subst IsAscending e (f.queues c)).1 (λ k h. f.queues k)) f

-- Return

pub only_returns : (s : State) (c o : ℕ) → s.place c ≡ Out o → OnlyMoves s (returned s c (Out o)) o
only_returns s c o e =
    record {
      orders = λ p ne. refl;
      queues = λ p ne k. refl;
      places = λ p ne. put_each (λ k q. is_out_for p q ≡ is_out_for p (s.place k)) s.place c Desk (sym (ap (is_out_for p) e ∙ other_number p o ne)) (λ k h. refl);
      past = λ p ne. put_there s.past o (Some Done) p ne;
    }

pub is_returned : (s : State) (c o : ℕ) → s.place c ≡ Out o → AreFiled s → let t = returned s c (Out o) in IsPast (container_of t o) (λ k. stands o (t.queue k)) (λ k. is_out_for o (t.place k)) (t.past o) c Done
is_returned s c o e f =
    let x = out_with (container_of s o) (λ k. stands o (s.queue k)) (λ k. is_out_for o (s.place k)) (s.past o) c (f.each o) (ap (is_out_for o) e ∙ same_number o) in
    record {
      for_it = x.for_it;
      in_no_queue = x.in_no_queue;
      in_no_place = put_each (λ k q. is_out_for o q ≡ false) s.place c Desk refl x.in_no_other;
      is_past = put_here s.past o (Some Done);
    }

return_filed : (s : State) (c : ℕ) (p : Place) → s.place c ≡ p → AreFiled s → AreFiled (returned s c p)
return_filed s c Shelf e f = f
return_filed s c Desk e f = f
return_filed s c (Out o) e f =
    let t = returned s c (Out o) in
    moved s t o (only_returns s c o e) (filed_past (container_of t o) (λ k. stands o (t.queue k)) (λ k. is_out_for o (t.place k)) (t.past o) c Done (is_returned s c o e f)) f.queues f

-- Run and Reshelve: nothing that is out goes, and nothing goes out

filter_at : (test : ℕ → Bool) (n m : ℕ) (rest : List ℕ) (b : Bool) → test m ≡ b → (stands n rest ≡ true → test n ≡ true)
    → stands n (cond b (m ∷ rest) rest) ≡ true → test n ≡ true
filter_at test n m rest true h ih k =
    elim (or_cases (nat_eq n m) (stands n rest) k) [ inl same ↦ subst (λ i. test i ≡ true) (sym (eqb-true n m same)) h | inr r ↦ ih r ]
filter_at test n m rest false h ih k = ih k

pub stands-filter : (test : ℕ → Bool) (n : ℕ) (ns : List ℕ) → stands n (filter test ns) ≡ true → test n ≡ true
stands-filter test n [] e = absurd (false≢true e)
stands-filter test n (m ∷ ms) e = filter_at test n m (filter test ms) (test m) refl (stands-filter test n ms) e

all_passing : (test : ℕ → Bool) (m : ℕ) (rest : List ℕ) (b : Bool) → test m ≡ b
    → AllByRecursion (λ n. test n ≡ true) rest → AllByRecursion (λ n. test n ≡ true) (cond b (m ∷ rest) rest)
all_passing test m rest true e h = (e, h)
all_passing test m rest false e h = h

pub all_filtered : (test : ℕ → Bool) (ns : List ℕ) → AllByRecursion (λ n. test n ≡ true) (filter test ns)
all_filtered test [] = tt
all_filtered test (m ∷ ms) = all_passing test m (filter test ms) (test m) refl (all_filtered test ms)

pub all_taken : (P : ℕ → Type 0) (k : ℕ) (ns : List ℕ) → AllByRecursion P ns → AllByRecursion P (take k ns)
all_taken P zero ns h = tt
all_taken P (suc k) [] h = tt
all_taken P (suc k) (n ∷ ns) h = (h.0, all_taken P k ns h.1)

pub picked_due : (s : State) → AllByRecursion (λ o. is_due s o ≡ true) (orders_of_run s)
picked_due s = all_taken (λ o. is_due s o ≡ true) s.settings.run_size (filter (is_due s) (numbers_to (length s.orders))) (all_filtered (is_due s) (numbers_to (length s.orders)))

shelf_at : (s : State) (c o : ℕ) (r : Option Order) (rest : List Line)
    → some_and (λ order. some_and (nat_eq o) (first (s.queue order.container)) && (is_shelf (s.place order.container) && opens s order.ticket order.container)) r ≡ true
    → (list_any (λ line. nat_eq line.container c) rest ≡ true → is_shelf (s.place c) ≡ true)
    → list_any (λ line. nat_eq line.container c) (cons_option (option_map (λ order. record { container = order.container; order = o; ticket = order.ticket }) r) rest) ≡ true
    → is_shelf (s.place c) ≡ true
shelf_at s c o None rest due ih e = absurd (false≢true due)
shelf_at s c o (Some order) rest due ih e =
    elim (or_cases (nat_eq order.container c) (list_any (λ line. nat_eq line.container c) rest) e) [
      | inl same ↦
          let d = (and_parts (some_and (nat_eq o) (first (s.queue order.container))) (is_shelf (s.place order.container) && opens s order.ticket order.container) due).1 in
          subst (λ k. is_shelf (s.place k) ≡ true) (eqb-true order.container c same) (and_parts (is_shelf (s.place order.container)) (opens s order.ticket order.container) d).0
      | inr r ↦ ih r
    ]

brings_from_shelf : (s : State) (c : ℕ) (os : List ℕ) → AllByRecursion (λ o. is_due s o ≡ true) os
    → list_any (λ line. nat_eq line.container c) (filter_map (line_for s) os) ≡ true → is_shelf (s.place c) ≡ true
brings_from_shelf s c [] h e = absurd (false≢true e)
brings_from_shelf s c (o ∷ os) h e =
    shelf_at s c o (nth s.orders o) (filter_map (line_for s) os) h.0 (brings_from_shelf s c os h.1) e

in_house : (b : Bool) (p q : Place) → order_out q ≡ None → (b ≡ true → order_out p ≡ None)
    → order_out (cond b q p) ≡ order_out p
in_house true p q e h = e ∙ sym (h refl)
in_house false p q e h = refl

shelf_in_house : (p : Place) → is_shelf p ≡ true → order_out p ≡ None
shelf_in_house Shelf e = refl
shelf_in_house Desk e = absurd (false≢true e)
shelf_in_house (Out o) e = absurd (false≢true e)

desk_in_house : (p : Place) → is_desk p ≡ true → order_out p ≡ None
desk_in_house Shelf e = absurd (false≢true e)
desk_in_house Desk e = refl
desk_in_house (Out o) e = absurd (false≢true e)

pub fetched_out : (s : State) (c : ℕ) → order_out ((fetched s).place c) ≡ order_out (s.place c)
fetched_out s c = in_house (brings (new_run s) c) (s.place c) Desk refl (λ b. shelf_in_house (s.place c) (brings_from_shelf s c (orders_of_run s) (picked_due s) (sym (any-in_order is_line_before (λ line. nat_eq line.container c) (filter_map (line_for s) (orders_of_run s))) ∙ b)))

pub reshelved_out : (s : State) (c : ℕ) → order_out ((reshelved s).place c) ≡ order_out (s.place c)
reshelved_out s c =
    in_house (stands c (idle s)) (s.place c) Shelf refl
    (λ b. desk_in_house (s.place c) (and_parts (is_desk (s.place c)) (is_empty (s.queue c)) (stands-filter (is_idle s) c (containers s) b)).0)

-- places change, and nothing that is out
same_out : (s : State) (place : ℕ → Place) (runs : List Run) → ((c : ℕ) → order_out (place c) ≡ order_out (s.place c))
    → AreFiled s → AreFiled (record s { place = place; runs = runs })
same_out s place runs e f =
    record {
      each = λ o. filed_same (container_of s o) (container_of s o) (λ c. stands o (s.queue c)) (λ c. stands o (s.queue c)) (λ c. is_out_for o (s.place c)) (λ c. is_out_for o (place c)) (s.past o) (s.past o) refl (λ c. refl) (λ c. ap (some_and (nat_eq o)) (e c)) refl (f.each o);
      queues = f.queues;
    }

-- an import changes neither orders nor queues nor places nor the past
imported_filed : (s : State) (t : Taken) → AreFiled s → AreFiled (with_import s t)
imported_filed s (Ok intake) f = record { each = f.each; queues = f.queues }
imported_filed s (Err fault) f = f

pub filed_after : (s : State) (asked : Command) → AreFiled s → Passes (checks s asked) → AreFiled (after s asked)
filed_after s (command.OpenDay day) f ok = record { each = f.each; queues = f.queues }
filed_after s (command.Register name until) f ok = record { each = f.each; queues = f.queues }
filed_after s (command.Renew t until) f ok = record { each = f.each; queues = f.queues }
filed_after s (command.TakeSeat t) f ok = record { each = f.each; queues = f.queues }
filed_after s (command.LeaveSeat t) f ok = record { each = f.each; queues = f.queues }
filed_after s (command.Order t c) f ok = order_filed s t c f
filed_after s (command.Cancel o) f ok = cancel_filed s o (container_of s o) refl (passed_cancel s o ok) f
filed_after s command.Run f ok = same_out s (fetched s).place (fetched s).runs (fetched_out s) f
filed_after s command.Reshelve f ok = same_out s (reshelved s).place s.runs (reshelved_out s) f
filed_after s (command.Issue c t) f ok = issue_filed s c (s.queue c) refl (passed_issue s c t ok).at_desk f
filed_after s (command.Return c) f ok = return_filed s c (s.place c) refl f
filed_after s (command.Permit t u until) f ok = record { each = f.each; queues = f.queues }
filed_after s (command.Revoke t u) f ok = record { each = f.each; queues = f.queues }
filed_after s (command.Import source file) f ok = imported_filed s (intake_of s source file) f
filed_after s (command.SetStatus u draft whole) f ok = record { each = f.each; queues = f.queues }
filed_after s (command.SetClosure u until) f ok = record { each = f.each; queues = f.queues }
filed_after s (command.Move u parent) f ok = record { each = f.each; queues = f.queues }
filed_after s (command.Remove u) f ok = record { each = f.each; queues = f.queues }

-- Two orders that are out have different containers
