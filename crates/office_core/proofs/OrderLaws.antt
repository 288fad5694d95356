-- The laws on orders.
use Rattle.std.proofs.Common.{◌≡◌, ℕ, suc, ◌<◌, ◌≤◌, Bool, true, false, cond, ◌||◌, List, [], ◌∷◌, length, Option, Some}
use Rattle.std.proofs.Common.{None, Ok, Err, refl, sym, ap, ◌∙◌, subst, inl, inr, arith}
use Rattle.std.proofs.Math.Path.{fun_ext}
use Rattle.desk_core.specs.declared.reader.Place.{Place}
use Rattle.office_core.specs.State.{Done}
use Rattle.office_core.specs.declared.command.Command.TheVariants as command
use Rattle.office_core.specs.declared.done.Done.TheVariants as done
use Rattle.office_core.proofs.Common.{AllByRecursion, AreFiled, Cancelled, Command, Desk, End, Ended, IsAscending}
use Rattle.office_core.proofs.Common.{IsFirstWaiting, IssuesTheFirst, OrderGoes, OrdersGoOn, Out, OutApart, Reply}
use Rattle.office_core.proofs.Common.{Shelf, Standing, State, Taken, Waiting, WithItsReader, after, cancelled, cases_eq}
use Rattle.office_core.proofs.Common.{checks, container_of, eqb-true, false≢true, fetched, first, intake_of, is_by}
use Rattle.office_core.proofs.Common.{is_desk, is_out_for, issued, nat_eq, option_map, or_cases, order_out, ordered}
use Rattle.office_core.proofs.Common.{reshelved, returned, some_and, standing, stands, stands_as, step, unwrap_or}
use Rattle.office_core.proofs.Common.{waits, with_import}
use Rattle.office_core.proofs.Words.{same_number}
use Rattle.office_core.proofs.Steps.{Passes, step_at}
use Rattle.office_core.proofs.Filed.{IsOutWith, IsPast, OnlyMoves, waiting, out_with, next_is_none, only_cancels}
use Rattle.office_core.proofs.Filed.{is_cancelled, only_orders, is_ordered, only_issues, is_issued, only_returns}
use Rattle.office_core.proofs.Filed.{is_returned, fetched_out, reshelved_out}
use Rattle.office_core.proofs.Orders.{out_is}
use Rattle.office_core.proofs.PassedChecks.{passed_cancel, passed_issue}

-- What an order's standing says

at_waiting : (w h : Bool) (p : Option End)
    → cond w (Some Waiting) (cond h (Some WithItsReader) (option_map Ended p)) ≡ Some Waiting → w ≡ true
at_waiting true h p e = refl
at_waiting false true p e = absurd (cc)
at_waiting false false None e = absurd (cc)
at_waiting false false (Some x) e = absurd (cc)

at_out : (w h : Bool) (p : Option End)
    → cond w (Some Waiting) (cond h (Some WithItsReader) (option_map Ended p)) ≡ Some WithItsReader → h ≡ true
at_out true h p e = absurd (cc)
at_out false true p e = refl
at_out false false None e = absurd (cc)
at_out false false (Some x) e = absurd (cc)

pub waiting_stands : (k : Option ℕ) (w h : ℕ → Bool) (p : Option End) → stands_as k w h p ≡ Some Waiting
    → (c : ℕ) × (k ≡ Some c) × (w c ≡ true)
waiting_stands None w h p e = absurd (cc)
waiting_stands (Some c) w h p e = (c, refl, at_waiting (w c) (h c) p e)

pub out_stands : (k : Option ℕ) (w h : ℕ → Bool) (p : Option End) → stands_as k w h p ≡ Some WithItsReader
    → (c : ℕ) × (k ≡ Some c) × (h c ≡ true)
out_stands None w h p e = absurd (cc)
out_stands (Some c) w h p e = (c, refl, at_out (w c) (h c) p e)

pub stands_waiting : (k : Option ℕ) (w h : ℕ → Bool) (p : Option End) (c : ℕ) → k ≡ Some c → w c ≡ true
    → stands_as k w h p ≡ Some Waiting
stands_waiting k w h p c e x =
    ap (λ k. stands_as k w h p) e
    ∙ ap (λ b. cond b (Some Waiting) (cond (h c) (Some WithItsReader) (option_map Ended p))) x

pub stands_out : (k : Option ℕ) (w h : ℕ → Bool) (p : Option End) (c : ℕ) → IsOutWith k w h p c
    → stands_as k w h p ≡ Some WithItsReader
stands_out k w h p c x =
    ap (λ k. stands_as k w h p) x.for_it
    ∙ ap (λ b. cond b (Some Waiting) (cond (h c) (Some WithItsReader) (option_map Ended p))) (x.in_no_queue c)
    ∙ ap (λ b. cond b (Some WithItsReader) (option_map Ended p)) x.in_place

pub stands_past : (k : Option ℕ) (w h : ℕ → Bool) (p : Option End) (c : ℕ) (how : End) → IsPast k w h p c how
    → stands_as k w h p ≡ Some (Ended how)
stands_past k w h p c how x =
    ap (λ k. stands_as k w h p) x.for_it
    ∙ ap (λ b. cond b (Some Waiting) (cond (h c) (Some WithItsReader) (option_map Ended p))) (x.in_no_queue c)
    ∙ ap (λ b. cond b (Some WithItsReader) (option_map Ended p)) (x.in_no_place c)
    ∙ ap (option_map Ended) x.is_past

-- (2)

pub out_apart : (s : State) → OutApart s
out_apart s o p ne eo ep same =
    let a = out_stands (container_of s o) (λ c. stands o (s.queue c)) (λ c. is_out_for o (s.place c)) (s.past o) eo in
    let b = out_stands (container_of s p) (λ c. stands p (s.queue c)) (λ c. is_out_for p (s.place c)) (s.past p) ep in
    let e1 = out_is o (s.place a.0) a.2 in
    let e2 = out_is p (s.place b.0) b.2 in
    let ka = a.1 in
    let kb = b.1 in
    let c : a.0 ≡ b.0 = cc in
    let e3 : order_out (s.place a.0) ≡ Some p = subst (λ k. order_out (s.place k) ≡ Some p) (sym c) e2 in
    ne (cc)

-- (3)

pub goes_same : (s t : State) (o : ℕ) → container_of t o ≡ container_of s o
    → ((c : ℕ) → stands o (t.queue c) ≡ stands o (s.queue c))
    → ((c : ℕ) → is_out_for o (t.place c) ≡ is_out_for o (s.place c)) → t.past o ≡ s.past o
    → standing t o ≡ standing s o
goes_same s t o ek ew eh ep =
    ap (λ k. stands_as k (λ c. stands o (t.queue c)) (λ c. is_out_for o (t.place c)) (t.past o)) ek
    ∙ ap (λ w. stands_as (container_of s o) w (λ c. is_out_for o (t.place c)) (t.past o)) (fun_ext ew)
    ∙ ap (λ h. stands_as (container_of s o) (λ c. stands o (s.queue c)) h (t.past o)) (fun_ext eh)
    ∙ ap (λ p. stands_as (container_of s o) (λ c. stands o (s.queue c)) (λ c. is_out_for o (s.place c)) p) ep

goes_at : (s t : State) (o : ℕ) (a b : Option Standing) → OnlyMoves s t o → standing s o ≡ a → standing t o ≡ b
    → OrderGoes a b → OrdersGoOn s t
goes_at s t o a b m ea eb g p =
    elim (cases_eq p o) [
      | inl e ↦ inr (subst (λ q. OrderGoes (standing s q) (standing t q)) (sym e) (subst (λ x. OrderGoes x (standing t o)) (sym ea) (subst (λ x. OrderGoes a x) (sym eb) g)))
      | inr ne ↦ inl (goes_same s t p (m.orders p ne) (m.queues p ne) (m.places p ne) (m.past p ne))
    ]

stays : (s t : State) → ((o : ℕ) → standing t o ≡ standing s o) → OrdersGoOn s t
stays s t e o = inl (e o)

order_goes : (s : State) (t c : ℕ) → AreFiled s → OrdersGoOn s (ordered s t c)
order_goes s t c f =
    let n = suc (length s.orders) in
    let u = ordered s t c in
    let x = is_ordered s t c f in
    goes_at s u n None (Some Waiting) (only_orders s t c)
    (ap (λ k. stands_as k (λ c. stands n (s.queue c)) (λ c. is_out_for n (s.place c)) (s.past n)) (next_is_none s))
    (stands_waiting (container_of u n) (λ k. stands n (u.queue k)) (λ k. is_out_for n (u.place k)) (u.past n) c x.for_it x.in_queue) tt

cancel_goes : (s : State) (o : ℕ) (k : Option ℕ) → container_of s o ≡ k → some_and (λ c. stands o (s.queue c)) k ≡ true
    → AreFiled s → OrdersGoOn s (cancelled s o k)
cancel_goes s o None e w f = stays s s (λ p. refl)
cancel_goes s o (Some c) e w f =
    let t = cancelled s o (Some c) in
    goes_at s t o (Some Waiting) (Some (Ended Cancelled)) (only_cancels s o c)
    (stands_waiting (container_of s o) (λ k. stands o (s.queue k)) (λ k. is_out_for o (s.place k)) (s.past o) c e w)
    (stands_past (container_of t o) (λ k. stands o (t.queue k)) (λ k. is_out_for o (t.place k)) (t.past o) c Cancelled (is_cancelled s o c f e w)) tt

head_waits : (s : State) (c o : ℕ) (os : List ℕ) → s.queue c ≡ o ∷ os → stands o (s.queue c) ≡ true
head_waits s c o os e = ap (stands o) e ∙ ap (λ b. b || stands o os) (same_number o)

issue_goes : (s : State) (c : ℕ) (q : List ℕ) → s.queue c ≡ q → is_desk (s.place c) ≡ true → AreFiled s
    → OrdersGoOn s (issued s c q)
issue_goes s c [] e d f = stays s s (λ p. refl)
issue_goes s c (o ∷ os) e d f =
    let t = issued s c (o ∷ os) in
    let w = head_waits s c o os e in
    let x = waiting (container_of s o) (λ k. stands o (s.queue k)) (λ k. is_out_for o (s.place k)) (s.past o) c (f.each o) w in
    goes_at s t o (Some Waiting) (Some WithItsReader) (only_issues s c o os e d)
    (stands_waiting (container_of s o) (λ k. stands o (s.queue k)) (λ k. is_out_for o (s.place k)) (s.past o) c x.for_it w)
    (stands_out (container_of t o) (λ k. stands o (t.queue k)) (λ k. is_out_for o (t.place k)) (t.past o) c (is_issued s c o os e f)) tt

return_goes : (s : State) (c : ℕ) (p : Place) → s.place c ≡ p → AreFiled s → OrdersGoOn s (returned s c p)
return_goes s c Shelf e f = stays s s (λ p. refl)
return_goes s c Desk e f = stays s s (λ p. refl)
return_goes s c (Out o) e f =
    let t = returned s c (Out o) in
    let x = out_with (container_of s o) (λ k. stands o (s.queue k)) (λ k. is_out_for o (s.place k)) (s.past o) c (f.each o) (ap (is_out_for o) e ∙ same_number o) in
    goes_at s t o (Some WithItsReader) (Some (Ended Done)) (only_returns s c o e)
    (stands_out (container_of s o) (λ k. stands o (s.queue k)) (λ k. is_out_for o (s.place k)) (s.past o) c x)
    (stands_past (container_of t o) (λ k. stands o (t.queue k)) (λ k. is_out_for o (t.place k)) (t.past o) c Done (is_returned s c o e f)) tt

places_go : (s t : State) → ((o : ℕ) → container_of t o ≡ container_of s o) → ((c : ℕ) → t.queue c ≡ s.queue c)
    → ((c : ℕ) → order_out (t.place c) ≡ order_out (s.place c)) → ((o : ℕ) → t.past o ≡ s.past o) → OrdersGoOn s t
places_go s t ek eq eh ep =
    stays s t (λ o. goes_same s t o (ek o) (λ c. ap (stands o) (eq c)) (λ c. ap (some_and (nat_eq o)) (eh c)) (ep o))

imported_goes : (s : State) (t : Taken) → OrdersGoOn s (with_import s t)
imported_goes s (Err fault) = stays s s (λ o. refl)
imported_goes s (Ok intake) = stays s (with_import s (Ok intake)) (λ o. refl)

pub goes_after : (s : State) (asked : Command) → AreFiled s → Passes (checks s asked) → OrdersGoOn s (after s asked)
goes_after s (command.OpenDay day) f ok = stays s (after s (command.OpenDay day)) (λ o. refl)
goes_after s (command.Register name until) f ok = stays s (after s (command.Register name until)) (λ o. refl)
goes_after s (command.Renew t until) f ok = stays s (after s (command.Renew t until)) (λ o. refl)
goes_after s (command.TakeSeat t) f ok = stays s (after s (command.TakeSeat t)) (λ o. refl)
goes_after s (command.LeaveSeat t) f ok = stays s (after s (command.LeaveSeat t)) (λ o. refl)
goes_after s (command.Order t c) f ok = order_goes s t c f
goes_after s (command.Cancel o) f ok = cancel_goes s o (container_of s o) refl (passed_cancel s o ok) f
goes_after s command.Run f ok = places_go s (fetched s) (λ o. refl) (λ c. refl) (fetched_out s) (λ o. refl)
goes_after s command.Reshelve f ok = places_go s (reshelved s) (λ o. refl) (λ c. refl) (reshelved_out s) (λ o. refl)
goes_after s (command.Issue c t) f ok = issue_goes s c (s.queue c) refl (passed_issue s c t ok).at_desk f
goes_after s (command.Return c) f ok = return_goes s c (s.place c) refl f
goes_after s (command.Permit t u until) f ok = stays s (after s (command.Permit t u until)) (λ o. refl)
goes_after s (command.Revoke t u) f ok = stays s (after s (command.Revoke t u)) (λ o. refl)
goes_after s (command.Import source file) f ok = imported_goes s (intake_of s source file)
goes_after s (command.SetStatus u draft whole) f ok = stays s (after s (command.SetStatus u draft whole)) (λ o. refl)
goes_after s (command.SetClosure u until) f ok = stays s (after s (command.SetClosure u until)) (λ o. refl)
goes_after s (command.Move u parent) f ok = stays s (after s (command.Move u parent)) (λ o. refl)
goes_after s (command.Remove u) f ok = stays s (after s (command.Remove u)) (λ o. refl)

pub goes_on : (s : State) (asked : Command) → AreFiled s → OrdersGoOn s (step s asked).0
goes_on s asked f = step_at (λ t reply. OrdersGoOn s t) s asked (λ why. stays s s (λ o. refl)) (λ ok. goes_after s asked f ok)

-- (4)

least_of : (o : ℕ) (os : List ℕ) (p : ℕ) → IsAscending (o ∷ os) → stands p (o ∷ os) ≡ true → o ≤ p
least_of o os p a e =
    elim (or_cases (nat_eq p o) (stands p os) e) [
      | inl same ↦ let q = eqb-true p o same in omega (arith, q)
      | inr r ↦ at os a.0 r
    ]
  where
    at : (ms : List ℕ) → AllByRecursion (λ m. o < m) ms → stands p ms ≡ true → o ≤ p
    at [] h r = absurd (false≢true r)
    at (m ∷ ms) h r =
        elim (or_cases (nat_eq p m) (stands p ms) r) [
          | inl same ↦ let q = eqb-true p m same in let l = h.0 in omega (arith, q, l)
          | inr k ↦ at ms h.1 k
        ]

first_is_least : (s : State) (c o : ℕ) (os : List ℕ) → s.queue c ≡ o ∷ os → AreFiled s → IsFirstWaiting s c o
first_is_least s c o os e f =
    let w = head_waits s c o os e in
    let x = waiting (container_of s o) (λ k. stands o (s.queue k)) (λ k. is_out_for o (s.place k)) (s.past o) c (f.each o) w in
    record {
      waits = stands_waiting (container_of s o) (λ k. stands o (s.queue k)) (λ k. is_out_for o (s.place k)) (s.past o) c x.for_it w;
      for_it = x.for_it;
      least = λ p wp kp.
          let a = waiting_stands (container_of s p) (λ k. stands p (s.queue k)) (λ k. is_out_for p (s.place k)) (s.past p) wp in
          let ka = a.1 in
          let same : a.0 ≡ c = cc in
          least_of o os p (subst IsAscending e (f.queues c)) (subst (λ q. stands p q ≡ true) e (subst (λ k. stands p (s.queue k) ≡ true) same a.2));
    }

abbrev reply_of : ℕ → Reply
reply_of o = Ok (done.Issue o)

issue_first : (s : State) (c t o : ℕ) (q : List ℕ) → s.queue c ≡ q → is_desk (s.place c) ≡ true
    → some_and (is_by s t) (first q) ≡ true → AreFiled s → Ok (done.Issue (unwrap_or (first q) 0)) ≡ reply_of o
    → IsFirstWaiting s c o × (is_by s t o ≡ true) × (standing (issued s c q) o ≡ Some WithItsReader)
issue_first s c t o [] e d b f r = absurd (false≢true b)
issue_first s c t o (p ∷ os) e d b f r =
    let same : p ≡ o = cc in
    let u = issued s c (p ∷ os) in
    let l = stands_out (container_of u p) (λ k. stands p (u.queue k)) (λ k. is_out_for p (u.place k)) (u.past p) c (is_issued s c p os e f) in
    subst (λ n. IsFirstWaiting s c n × (is_by s t n ≡ true) × (standing u n ≡ Some WithItsReader)) same (first_is_least s c p os e f, b, l)

pub issues_the_first : (s : State) → AreFiled s → IssuesTheFirst s
issues_the_first s f c t o =
    step_at (λ u reply. reply ≡ Ok (done.Issue o) → IsFirstWaiting s c o × (is_by s t o ≡ true) × (standing u o ≡ Some WithItsReader)) s (command.Issue c t)
    (λ why r. absurd (cc))
    (λ ok r. issue_first s c t o (s.queue c) refl (passed_issue s c t ok).at_desk (passed_issue s c t ok).first_waits f r)
