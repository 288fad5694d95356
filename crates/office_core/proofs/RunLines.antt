-- The runs stay good.
use Rattle.std.proofs.Common.{◌≡◌, ◌≢◌, ℕ, zero, suc, ◌<◌, ◌≤◌, Bool, true, false, cond, ◌&&◌, List, [], ◌∷◌, ◌++◌}
use Rattle.std.proofs.Common.{length, take, Option, Some, None, Ok, Err, refl, sym, ap, ◌∙◌, subst, inl, inr, arith}
use Rattle.std.proofs.Common.{length-append, length-take}
use Rattle.desk_core.specs.declared.reader.Place.{Place}
use Rattle.office_core.specs.declared.command.Command.TheVariants as command
use Rattle.office_core.proofs.Common.{AllByRecursion, AreGoodRuns, Command, Desk, IsAscending, IsGoodLine, IsGoodRun}
use Rattle.office_core.proofs.Common.{Line, Order, Out, Run, Shelf, State, Taken, after, all_so, and_parts, cancelled}
use Rattle.office_core.proofs.Common.{cases_eq, checks, cons_option, container_of, distinct, eqb-true, false≢true}
use Rattle.office_core.proofs.Common.{fetched, filter, filter_map, first, intake_of, is_due, is_empty, is_line_before}
use Rattle.office_core.proofs.Common.{is_shelf, issued, leb-false, line_for, most_runs, nat_eq, new_run, nth}
use Rattle.office_core.proofs.Common.{numbers_to, opens, option_map, orders_of_run, returned, some_and, with_import}
use Rattle.office_core.proofs.LineOrder.{AreApart, all-in_order, length-in_order, by_container-in_order}
use Rattle.office_core.proofs.Words.{same_number, all-push, ascending-push, numbered-push, numbered-push_last}
use Rattle.office_core.proofs.Words.{ascending_at}
use Rattle.office_core.proofs.Steps.{Passes}
use Rattle.office_core.proofs.Filed.{all_taken, picked_due}
use Rattle.office_core.proofs.Extends.{Extends, extends_after, same_day, no_later_than}
use Rattle.office_core.proofs.Places.{mapped_some}
use Rattle.office_core.proofs.PassedChecks.{passed_run}

-- the numbers of a run ascend

all_to : (n : ℕ) → AllByRecursion (λ m. m < suc n) (numbers_to n)
all_to zero = tt
all_to (suc n) = all-push (λ m. m < suc (suc n)) (numbers_to n) (suc n) (all_so (λ m. m < suc n) (λ m. m < suc (suc n)) (λ m h. omega (arith, h)) (numbers_to n) (all_to n)) (omega arith)

ascending_to : (n : ℕ) → IsAscending (numbers_to n)
ascending_to zero = tt
ascending_to (suc n) = ascending-push (numbers_to n) (suc n) (ascending_to n) (all_to n)

all_filter_at : (P : ℕ → Type 0) (m : ℕ) (ms : List ℕ) (b : Bool) → P m → AllByRecursion P ms
    → AllByRecursion P (cond b (m ∷ ms) ms)
all_filter_at P m ms true p h = (p, h)
all_filter_at P m ms false p h = h

all_filter : (P : ℕ → Type 0) (test : ℕ → Bool) (ms : List ℕ) → AllByRecursion P ms → AllByRecursion P (filter test ms)
all_filter P test [] h = tt
all_filter P test (m ∷ ms) h = all_filter_at P m (filter test ms) (test m) h.0 (all_filter P test ms h.1)

ascending_filter : (test : ℕ → Bool) (ms : List ℕ) → IsAscending ms → IsAscending (filter test ms)
ascending_filter test [] h = tt
ascending_filter test (m ∷ ms) h =
    ascending_at m (filter test ms) (test m) (all_filter (λ k. m < k) test ms h.0) (ascending_filter test ms h.1)

ascending_take : (k : ℕ) (ms : List ℕ) → IsAscending ms → IsAscending (take k ms)
ascending_take zero ms h = tt
ascending_take (suc k) [] h = tt
ascending_take (suc k) (m ∷ ms) h = (all_taken (λ n. m < n) k ms h.0, ascending_take k ms h.1)

ascending_picked : (s : State) → IsAscending (orders_of_run s)
ascending_picked s = ascending_take s.settings.run_size (filter (is_due s) (numbers_to (length s.orders))) (ascending_filter (is_due s) (numbers_to (length s.orders)) (ascending_to (length s.orders)))

-- an order that is due

record IsDue (s : State) (o : ℕ) (order : Order) : Type 0 where
  there : nth s.orders o ≡ Some order
  head : some_and (nat_eq o) (first (s.queue order.container)) ≡ true

due_at : (s : State) (o : ℕ) (r : Option Order) → nth s.orders o ≡ r
    → some_and (λ order. some_and (nat_eq o) (first (s.queue order.container)) && (is_shelf (s.place order.container) && opens s order.ticket order.container)) r ≡ true
    → (order : Order) × IsDue s o order
due_at s o None e h = absurd (false≢true h)
due_at s o (Some order) e h =
    (order, record { there = e; head = (and_parts (some_and (nat_eq o) (first (s.queue order.container))) (is_shelf (s.place order.container) && opens s order.ticket order.container) h).0 })

due : (s : State) (o : ℕ) → is_due s o ≡ true → (order : Order) × IsDue s o order
due s o h = due_at s o (nth s.orders o) refl h

-- the lines of orders that are due, one by one
lines_cons : (P : List Line → Type 0) (s : State) (o : ℕ) (order : Order) (rest : List Line)
    → nth s.orders o ≡ Some order → P (record { container = order.container; order = o; ticket = order.ticket } ∷ rest)
    → P (cons_option (line_for s o) rest)
lines_cons P s o order rest e p =
    subst (λ r. P (cons_option (option_map (λ order. record { container = order.container; order = o; ticket = order.ticket }) r) rest)) (sym e) p

good_lines : (s : State) (os : List ℕ) → AllByRecursion (λ o. is_due s o ≡ true) os
    → AllByRecursion (IsGoodLine s) (filter_map (line_for s) os)
good_lines s [] h = tt
good_lines s (o ∷ os) h =
    let d = due s o h.0 in
    lines_cons (AllByRecursion (IsGoodLine s)) s o d.0 (filter_map (line_for s) os) d.1.there
    (record { order = ap (option_map (λ r. r.container)) d.1.there; ticket = ap (some_and (λ r. nat_eq r.ticket d.0.ticket)) d.1.there ∙ same_number d.0.ticket }, good_lines s os h.1)

count_lines : (s : State) (os : List ℕ) → AllByRecursion (λ o. is_due s o ≡ true) os
    → length (filter_map (line_for s) os) ≡ length os
count_lines s [] h = refl
count_lines s (o ∷ os) h =
    let d = due s o h.0 in
    lines_cons (λ lines. length lines ≡ suc (length os)) s o d.0 (filter_map (line_for s) os) d.1.there (ap suc (count_lines s os h.1))

one_head : (x : Option ℕ) (o p : ℕ) → some_and (nat_eq o) x ≡ true → some_and (nat_eq p) x ≡ true → o ≡ p
one_head None o p a b = absurd (false≢true a)
one_head (Some n) o p a b = eqb-true o n a ∙ sym (eqb-true p n b)

apart_from : (s : State) (o : ℕ) (order : Order) (ps : List ℕ) → IsDue s o order
    → AllByRecursion (λ p. is_due s p ≡ true) ps → AllByRecursion (λ p. o < p) ps
    → AllByRecursion (λ other. order.container ≢ other.container) (filter_map (line_for s) ps)
apart_from s o order [] d h l = tt
apart_from s o order (p ∷ ps) d h l =
    let q = due s p h.0 in
    let less = l.0 in
    lines_cons (AllByRecursion (λ other. order.container ≢ other.container)) s p q.0 (filter_map (line_for s) ps) q.1.there
    ((λ same. let e = one_head (first (s.queue q.0.container)) o p (subst (λ c. some_and (nat_eq o) (first (s.queue c)) ≡ true) same d.head) q.1.head in omega (arith, e, less)), apart_from s o order ps d h.1 l.1)

apart_lines : (s : State) (os : List ℕ) → AllByRecursion (λ o. is_due s o ≡ true) os → IsAscending os
    → AreApart (filter_map (line_for s) os)
apart_lines s [] h a = tt
apart_lines s (o ∷ os) h a =
    let d = due s o h.0 in
    lines_cons AreApart s o d.0 (filter_map (line_for s) os) d.1.there (apart_from s o d.0 os d.1 h.1 a.0, apart_lines s os h.1 a.1)

not_empty : (ns : List ℕ) → is_empty ns ≡ false → 1 ≤ length ns
not_empty [] e = absurd (false≢true (sym e))
not_empty (n ∷ ns) e = omega arith

-- runs as the state goes on

good_line : (s t : State) (l : Line) → Extends s t → IsGoodLine s l → IsGoodLine t l
good_line s t l e g =
    let x = mapped_some (nth s.orders l.order) l.container g.order in
    let n = e.orders l.order x.0 x.1 in
    record { order = ap (option_map (λ r. r.container)) n ∙ ap Some x.2; ticket = ap (some_and (λ r. nat_eq r.ticket l.ticket)) n ∙ (sym (ap (some_and (λ r. nat_eq r.ticket l.ticket)) x.1) ∙ g.ticket) }

good_run : (s t : State) (run : Run) → Extends s t → IsGoodRun s run → IsGoodRun t run
good_run s t run e g =
    let a = g.day in
    let b = e.day in
    record {
      day = no_later_than run.day s.day t.day a b;
      some = g.some;
      few = subst (λ settings. length run.lines ≤ settings.run_size) (sym e.settings) g.few;
      by_container = g.by_container;
      lines = all_so (IsGoodLine s) (IsGoodLine t) (λ l h. good_line s t l e h) run.lines g.lines;
    }

runs_same : (s t : State) → Extends s t → t.runs ≡ s.runs → AreGoodRuns s → AreGoodRuns t
runs_same s t e er g =
    record {
      each = λ n run h. good_run s t run e (g.each n run (subst (λ rs. nth rs n ≡ Some run) er h));
      few = subst (λ rs. length rs ≤ most_runs) (sym er) g.few;
    }

run_good : (s : State) → is_empty (orders_of_run s) ≡ false → IsGoodRun (fetched s) (new_run s)
run_good s some =
    let all = picked_due s in
    let lines = filter_map (line_for s) (orders_of_run s) in
    let n = length-in_order is_line_before lines ∙ count_lines s (orders_of_run s) all in
    let one = not_empty (orders_of_run s) some in
    let most = length-take s.settings.run_size (filter (is_due s) (numbers_to (length s.orders))) in
    record {
      day = same_day s.day;
      some = omega (arith, n, one);
      few = omega (arith, n, most);
      by_container = by_container-in_order lines (apart_lines s (orders_of_run s) all (ascending_picked s));
      lines = all_so (IsGoodLine s) (IsGoodLine (fetched s)) (λ l h. record { order = h.order; ticket = h.ticket }) (new_run s).lines (all-in_order is_line_before (IsGoodLine s) lines (good_lines s (orders_of_run s) all));
    }

fetched_runs : (s : State) → Extends s (fetched s) → is_empty (orders_of_run s) ≡ false → length s.runs < most_runs
    → AreGoodRuns s → AreGoodRuns (fetched s)
fetched_runs s e some l g =
    let more = length-append s.runs (new_run s ∷ []) in
    record {
      each = λ n run h. elim (cases_eq n (suc (length s.runs))) [
        | inl same ↦
            let k : Some (new_run s) ≡ Some run =
            sym (subst (λ m. nth (s.runs ++ new_run s ∷ []) m ≡ Some (new_run s)) (sym same) (numbered-push_last s.runs (new_run s)))
            ∙ h in
            let it : new_run s ≡ run = cc in
            subst (IsGoodRun (fetched s)) it (run_good s some)
        | inr ne ↦ good_run s (fetched s) run e (g.each n run (sym (numbered-push s.runs (new_run s) n ne) ∙ h))
      ];
      few = omega (arith, more, l);
    }

cancelled_runs : (s : State) (o : ℕ) (k : Option ℕ) → (cancelled s o k).runs ≡ s.runs
cancelled_runs s o None = refl
cancelled_runs s o (Some c) = refl

issued_runs : (s : State) (c : ℕ) (q : List ℕ) → (issued s c q).runs ≡ s.runs
issued_runs s c [] = refl
issued_runs s c (o ∷ os) = refl

returned_runs : (s : State) (c : ℕ) (p : Place) → (returned s c p).runs ≡ s.runs
returned_runs s c Shelf = refl
returned_runs s c Desk = refl
returned_runs s c (Out o) = refl

imported_runs : (s : State) (t : Taken) → (with_import s t).runs ≡ s.runs
imported_runs s (Err fault) = refl
imported_runs s (Ok intake) = refl

pub runs_after : (s : State) (asked : Command) → distinct s.catalogue.containers ≡ s.catalogue.containers
    → AreGoodRuns s → Passes (checks s asked) → AreGoodRuns (after s asked)
runs_after s (command.OpenDay day) b g ok =
    runs_same s (after s (command.OpenDay day)) (extends_after s (command.OpenDay day) b ok) refl g
runs_after s (command.Register name until) b g ok =
    runs_same s (after s (command.Register name until)) (extends_after s (command.Register name until) b ok) refl g
runs_after s (command.Renew t until) b g ok =
    runs_same s (after s (command.Renew t until)) (extends_after s (command.Renew t until) b ok) refl g
runs_after s (command.TakeSeat t) b g ok =
    runs_same s (after s (command.TakeSeat t)) (extends_after s (command.TakeSeat t) b ok) refl g
runs_after s (command.LeaveSeat t) b g ok =
    runs_same s (after s (command.LeaveSeat t)) (extends_after s (command.LeaveSeat t) b ok) refl g
runs_after s (command.Order t c) b g ok =
    runs_same s (after s (command.Order t c)) (extends_after s (command.Order t c) b ok) refl g
runs_after s (command.Cancel o) b g ok =
    runs_same s (after s (command.Cancel o)) (extends_after s (command.Cancel o) b ok) (cancelled_runs s o (container_of s o)) g
runs_after s command.Run b g ok =
    fetched_runs s (extends_after s command.Run b ok) (passed_run s ok).due (leb-false most_runs (length s.runs) (passed_run s ok).room) g
runs_after s command.Reshelve b g ok =
    runs_same s (after s command.Reshelve) (extends_after s command.Reshelve b ok) refl g
runs_after s (command.Issue c t) b g ok =
    runs_same s (after s (command.Issue c t)) (extends_after s (command.Issue c t) b ok) (issued_runs s c (s.queue c)) g
runs_after s (command.Return c) b g ok =
    runs_same s (after s (command.Return c)) (extends_after s (command.Return c) b ok) (returned_runs s c (s.place c)) g
runs_after s (command.Permit t u until) b g ok =
    runs_same s (after s (command.Permit t u until)) (extends_after s (command.Permit t u until) b ok) refl g
runs_after s (command.Revoke t u) b g ok =
    runs_same s (after s (command.Revoke t u)) (extends_after s (command.Revoke t u) b ok) refl g
runs_after s (command.Import source file) b g ok =
    runs_same s (after s (command.Import source file)) (extends_after s (command.Import source file) b ok) (imported_runs s (intake_of s source file)) g
runs_after s (command.SetStatus u draft whole) b g ok =
    runs_same s (after s (command.SetStatus u draft whole)) (extends_after s (command.SetStatus u draft whole) b ok) refl g
runs_after s (command.SetClosure u until) b g ok =
    runs_same s (after s (command.SetClosure u until)) (extends_after s (command.SetClosure u until) b ok) refl g
runs_after s (command.Move u parent) b g ok =
    runs_same s (after s (command.Move u parent)) (extends_after s (command.Move u parent) b ok) refl g
runs_after s (command.Remove u) b g ok =
    runs_same s (after s (command.Remove u)) (extends_after s (command.Remove u) b ok) refl g
