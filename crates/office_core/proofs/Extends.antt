-- What only grows: tickets, containers, orders and the day.
use Rattle.std.proofs.Common.{◌≡◌, ◌≢◌, ℕ, zero, suc, true, List, [], ◌∷◌, ◌++◌, length, Option, Some, None, Ok, Err}
use Rattle.std.proofs.Common.{refl, sym, ◌∙◌, subst, arith}
use Rattle.std.specs.Prelude.{ℤ, int_lt}
use Rattle.desk_core.specs.declared.reader.Place.{Place}
use Rattle.office_core.specs.declared.command.Command.TheVariants as command
use Rattle.office_core.proofs.Common.{Bytes, Command, Desk, Order, Out, Reader, Shelf, State, Taken, after, boxes_after}
use Rattle.office_core.proofs.Common.{cancelled, checks, container_of, distinct, false≢true, intake_of, ints}
use Rattle.office_core.proofs.Common.{is_container, is_some, is_ticket, issued, new_boxes, nth, renewed, returned}
use Rattle.office_core.proofs.Common.{with_import, ◌≤ℤ◌}
use Rattle.office_core.proofs.Words.{numbered_within, numbered-push}
use Rattle.office_core.proofs.Steps.{Passes}
use Rattle.office_core.proofs.PassedChecks.{passed_day}

pub some_is : {X : Type 0} (o : Option X) (x : X) → o ≡ Some x → is_some o ≡ true
some_is None x e = absurd (cc)
some_is (Some y) x e = refl

pub numbered_kept : {X : Type 0} (xs : List X) (y x : X) (n : ℕ) → nth xs n ≡ Some x → nth (xs ++ y ∷ []) n ≡ Some x
numbered_kept xs y x n e =
    let l = numbered_within xs n (some_is (nth xs n) x e) in
    let ne : n ≢ suc (length xs) = omega (arith, l) in
    numbered-push xs y n ne ∙ e

pub some_kept : {X : Type 0} (xs ys : List X) (n : ℕ) → is_some (nth xs n) ≡ true → is_some (nth (xs ++ ys) n) ≡ true
some_kept xs ys zero e = absurd (false≢true e)
some_kept [] ys (suc n) e = absurd (false≢true e)
some_kept (x ∷ xs) ys (suc zero) e = refl
some_kept (x ∷ xs) ys (suc (suc n)) e = some_kept xs ys (suc n) e

pub some-renewed : (until : ℤ) (rs : List Reader) (t n : ℕ) → is_some (nth rs n) ≡ true
    → is_some (nth (renewed until rs t) n) ≡ true
some-renewed until rs zero n e = e
some-renewed until [] (suc t) n e = e
some-renewed until (r ∷ rs) (suc zero) zero e = e
some-renewed until (r ∷ rs) (suc zero) (suc zero) e = refl
some-renewed until (r ∷ rs) (suc zero) (suc (suc n)) e = e
some-renewed until (r ∷ rs) (suc (suc t)) zero e = e
some-renewed until (r ∷ rs) (suc (suc t)) (suc zero) e = refl
some-renewed until (r ∷ rs) (suc (suc t)) (suc (suc n)) e = some-renewed until rs (suc t) (suc n) e

pub record Extends (s t : State) : Type 0 where
  pub settings : t.settings ≡ s.settings
  pub day : s.day ≤ℤ t.day
  pub tickets : (n : ℕ) → is_ticket s n ≡ true → is_ticket t n ≡ true
  pub containers : (n : ℕ) → is_container s n ≡ true → is_container t n ≡ true
  pub orders : (o : ℕ) (order : Order) → nth s.orders o ≡ Some order → nth t.orders o ≡ Some order

pub same_day : (d : ℤ) → d ≤ℤ d
same_day d = omega (arith, ints)

no_later : (s t : State) → t.day ≡ s.day → s.day ≤ℤ t.day
no_later s t e = subst (λ d. s.day ≤ℤ d) (sym e) (same_day s.day)

pub no_later_than : (a b c : ℤ) → a ≤ℤ b → b ≤ℤ c → a ≤ℤ c
no_later_than a b c h k = omega (arith, ints)

pub after_today : (d e : ℤ) → int_lt d e ≡ true → d ≤ℤ e
after_today d e h = grind (arith, ints)

same_lists : (s t : State) → t.settings ≡ s.settings → t.day ≡ s.day → t.readers ≡ s.readers
    → t.catalogue.containers ≡ s.catalogue.containers → t.orders ≡ s.orders → Extends s t
same_lists s t es ed er eb eo =
    record {
      settings = es;
      day = no_later s t ed;
      tickets = λ n. subst (λ rs. is_some (nth s.readers n) ≡ true → is_some (nth rs n) ≡ true) (sym er) (λ h. h);
      containers = λ n. subst (λ bs. is_some (nth s.catalogue.containers n) ≡ true → is_some (nth bs n) ≡ true) (sym eb) (λ h. h);
      orders = λ o order. subst (λ os. nth s.orders o ≡ Some order → nth os o ≡ Some order) (sym eo) (λ h. h);
    }

cancelled_extends : (s : State) (o : ℕ) (k : Option ℕ) → Extends s (cancelled s o k)
cancelled_extends s o None = same_lists s s refl refl refl refl refl
cancelled_extends s o (Some c) = same_lists s (cancelled s o (Some c)) refl refl refl refl refl

issued_extends : (s : State) (c : ℕ) (q : List ℕ) → Extends s (issued s c q)
issued_extends s c [] = same_lists s s refl refl refl refl refl
issued_extends s c (o ∷ os) = same_lists s (issued s c (o ∷ os)) refl refl refl refl refl

returned_extends : (s : State) (c : ℕ) (p : Place) → Extends s (returned s c p)
returned_extends s c Shelf = same_lists s s refl refl refl refl refl
returned_extends s c Desk = same_lists s s refl refl refl refl refl
returned_extends s c (Out o) = same_lists s (returned s c (Out o)) refl refl refl refl refl

pub imported_extends : (s : State) (source file : Bytes) (t : Taken) → intake_of s source file ≡ t
    → distinct s.catalogue.containers ≡ s.catalogue.containers → Extends s (with_import s t)
imported_extends s source file (Err fault) e b = same_lists s s refl refl refl refl refl
imported_extends s source file (Ok intake) e b =
    let x = boxes_after s.catalogue source file intake e b in
    record {
      settings = refl;
      day = same_day s.day;
      tickets = λ n h. h;
      containers = λ n h. subst (λ bs. is_some (nth bs n) ≡ true) (sym x) (some_kept s.catalogue.containers (new_boxes s.catalogue.containers intake.file.rows) n h);
      orders = λ o order h. h;
    }

pub extends_after : (s : State) (asked : Command) → distinct s.catalogue.containers ≡ s.catalogue.containers
    → Passes (checks s asked) → Extends s (after s asked)
extends_after s (command.OpenDay day) b ok = record { settings = refl; day = after_today s.day day (passed_day s day ok).later; tickets = λ n h. h; containers = λ n h. h; orders = λ o order h. h }
extends_after s (command.Register name until) b ok = record { settings = refl; day = same_day s.day; tickets = λ n. some_kept s.readers _ n; containers = λ n h. h; orders = λ o order h. h }
extends_after s (command.Renew t until) b ok = record { settings = refl; day = same_day s.day; tickets = λ n. some-renewed until s.readers t n; containers = λ n h. h; orders = λ o order h. h }
extends_after s (command.TakeSeat t) b ok = same_lists s (after s (command.TakeSeat t)) refl refl refl refl refl
extends_after s (command.LeaveSeat t) b ok = same_lists s (after s (command.LeaveSeat t)) refl refl refl refl refl
extends_after s (command.Order t c) b ok = record { settings = refl; day = same_day s.day; tickets = λ n h. h; containers = λ n h. h; orders = λ o order. numbered_kept s.orders _ order o }
extends_after s (command.Cancel o) b ok = cancelled_extends s o (container_of s o)
extends_after s command.Run b ok = same_lists s (after s command.Run) refl refl refl refl refl
extends_after s command.Reshelve b ok = same_lists s (after s command.Reshelve) refl refl refl refl refl
extends_after s (command.Issue c t) b ok = issued_extends s c (s.queue c)
extends_after s (command.Return c) b ok = returned_extends s c (s.place c)
extends_after s (command.Permit t u until) b ok =
    same_lists s (after s (command.Permit t u until)) refl refl refl refl refl
extends_after s (command.Revoke t u) b ok = same_lists s (after s (command.Revoke t u)) refl refl refl refl refl
extends_after s (command.Import source file) b ok = imported_extends s source file (intake_of s source file) refl b
extends_after s (command.SetStatus u draft whole) b ok =
    same_lists s (after s (command.SetStatus u draft whole)) refl refl refl refl refl
extends_after s (command.SetClosure u until) b ok =
    same_lists s (after s (command.SetClosure u until)) refl refl refl refl refl
extends_after s (command.Move u parent) b ok = same_lists s (after s (command.Move u parent)) refl refl refl refl refl
extends_after s (command.Remove u) b ok = same_lists s (after s (command.Remove u)) refl refl refl refl refl
