-- The seats stay good.
use Rattle.std.proofs.Common.{◌≡◌, ◌≢◌, ℕ, zero, suc, Bool, true, false, cond, ◌||◌, List, [], ◌∷◌, length, replicate}
use Rattle.std.proofs.Common.{Option, Some, None, Ok, Err, refl, sym, ap, ◌∙◌, subst, inl, inr, ◌⊎◌}
use Rattle.desk_core.specs.declared.reader.Place.{Place}
use Rattle.office_core.specs.declared.command.Command.TheVariants as command
use Rattle.office_core.proofs.Common.{AreGoodSeats, Command, Desk, Out, Shelf, SitOnce, State, Taken, after, cancelled}
use Rattle.office_core.proofs.Common.{cases_Bool, checks, container_of, distinct, eqb-true, false≢true, intake_of}
use Rattle.office_core.proofs.Common.{is_seat_of, is_ticket, issued, length-map, length-replicate, list_any, nat_eq}
use Rattle.office_core.proofs.Common.{or_cases, or_parts, or_right, returned, rise, sit, with_import}
use Rattle.office_core.proofs.Words.{same_number, other_number}
use Rattle.office_core.proofs.Steps.{Passes}
use Rattle.office_core.proofs.Extends.{Extends, extends_after}
use Rattle.office_core.proofs.PassedChecks.{passed_take_seat}

or_both : (a b c : Bool) → (a || b) ≡ true → (b ≡ true → c ≡ true) → (a || c) ≡ true
or_both true b c e h = refl
or_both false b c e h = h e

pub length-sit : (t : ℕ) (seats : List (Option ℕ)) → length (sit t seats) ≡ length seats
length-sit t [] = refl
length-sit t (None ∷ seats) = refl
length-sit t (Some u ∷ seats) = ap suc (length-sit t seats)

pub sit_keeps : (u t : ℕ) (seats : List (Option ℕ)) → list_any (is_seat_of u) seats ≡ true
    → list_any (is_seat_of u) (sit t seats) ≡ true
sit_keeps u t [] e = e
sit_keeps u t (None ∷ seats) e = or_right (nat_eq u t) (list_any (is_seat_of u) seats) e
sit_keeps u t (Some v ∷ seats) e =
    or_both (nat_eq u v) (list_any (is_seat_of u) seats) (list_any (is_seat_of u) (sit t seats)) e (sit_keeps u t seats)

sit_only : (u t : ℕ) (seats : List (Option ℕ)) → list_any (is_seat_of u) (sit t seats) ≡ true
    → (u ≡ t) ⊎ (list_any (is_seat_of u) seats ≡ true)
sit_only u t [] e = absurd (false≢true e)
sit_only u t (None ∷ seats) e = elim (or_cases (nat_eq u t) (list_any (is_seat_of u) seats) e) [ inl same ↦ inl (eqb-true u t same) | inr r ↦ inr r ]
sit_only u t (Some v ∷ seats) e =
    elim (or_cases (nat_eq u v) (list_any (is_seat_of u) (sit t seats)) e) [
      | inl same ↦ inr (ap (λ b. b || list_any (is_seat_of u) seats) same)
      | inr r ↦ elim (sit_only u t seats r) [ inl same ↦ inl same | inr k ↦ inr (or_right (nat_eq u v) (list_any (is_seat_of u) seats) k) ]
    ]

not_sat : (u t : ℕ) (seats : List (Option ℕ)) → u ≢ t → list_any (is_seat_of u) seats ≡ false
    → list_any (is_seat_of u) (sit t seats) ≡ false
not_sat u t seats ne e =
    elim (cases_Bool (list_any (is_seat_of u) (sit t seats))) [
      | inl h ↦ elim (sit_only u t seats h) [ inl same ↦ absurd (ne same) | inr k ↦ absurd (false≢true (sym e ∙ k)) ]
      | inr h ↦ h
    ]

sit_once : (t : ℕ) (seats : List (Option ℕ)) → list_any (is_seat_of t) seats ≡ false → SitOnce seats
    → SitOnce (sit t seats)
sit_once t [] e h = tt
sit_once t (None ∷ seats) e h = (e, h)
sit_once t (Some v ∷ seats) e h =
    let p = or_parts (nat_eq t v) (list_any (is_seat_of t) seats) e in
    (not_sat v t seats (λ same. false≢true (sym p.0 ∙ (ap (nat_eq t) same ∙ same_number t))) h.0, sit_once t seats p.1 h.1)

-- a seat that is left

left_not : (u t : ℕ) (seat : Option ℕ) → u ≢ t → is_seat_of u seat ≡ true
    → is_seat_of u (cond (is_seat_of t seat) None seat) ≡ true
left_not u t None ne e = absurd (false≢true e)
left_not u t (Some v) ne e =
    let same = eqb-true u v e in
    ap (λ b. is_seat_of u (cond b None (Some v))) (other_number t v (λ k. ne (same ∙ sym k))) ∙ e

or_map : (a b c d : Bool) → (a || b) ≡ true → (a ≡ true → c ≡ true) → (b ≡ true → d ≡ true) → (c || d) ≡ true
or_map a b true d e f g = refl
or_map true b false d e f g = absurd (false≢true (f refl))
or_map false b false d e f g = g e

pub rise_keeps : (u t : ℕ) (seats : List (Option ℕ)) → u ≢ t → list_any (is_seat_of u) seats ≡ true
    → list_any (is_seat_of u) (rise t seats) ≡ true
rise_keeps u t [] ne e = e
rise_keeps u t (seat ∷ seats) ne e =
    or_map (is_seat_of u seat) (list_any (is_seat_of u) seats) (is_seat_of u (cond (is_seat_of t seat) None seat)) (list_any (is_seat_of u) (rise t seats)) e (left_not u t seat ne) (rise_keeps u t seats ne)

still : (u : ℕ) (b : Bool) (seat : Option ℕ) → is_seat_of u (cond b None seat) ≡ true → is_seat_of u seat ≡ true
still u true seat e = absurd (false≢true e)
still u false seat e = e

rise_only : (u t : ℕ) (seats : List (Option ℕ)) → list_any (is_seat_of u) (rise t seats) ≡ true
    → list_any (is_seat_of u) seats ≡ true
rise_only u t [] e = e
rise_only u t (seat ∷ seats) e =
    or_map (is_seat_of u (cond (is_seat_of t seat) None seat)) (list_any (is_seat_of u) (rise t seats)) (is_seat_of u seat) (list_any (is_seat_of u) seats) e (still u (is_seat_of t seat) seat) (rise_only u t seats)

not_risen : (u t : ℕ) (seats : List (Option ℕ)) → list_any (is_seat_of u) seats ≡ false
    → list_any (is_seat_of u) (rise t seats) ≡ false
not_risen u t seats e =
    elim (cases_Bool (list_any (is_seat_of u) (rise t seats))) [ inl h ↦ absurd (false≢true (sym e ∙ rise_only u t seats h)) | inr h ↦ h ]

left_once : (v : ℕ) (b : Bool) (seats : List (Option ℕ)) → list_any (is_seat_of v) seats ≡ false → SitOnce seats
    → SitOnce (cond b None (Some v) ∷ seats)
left_once v true seats e h = h
left_once v false seats e h = (e, h)

rise_once : (t : ℕ) (seats : List (Option ℕ)) → SitOnce seats → SitOnce (rise t seats)
rise_once t [] h = tt
rise_once t (None ∷ seats) h = rise_once t seats h
rise_once t (Some v ∷ seats) h =
    left_once v (nat_eq t v) (rise t seats) (not_risen v t seats h.0) (rise_once t seats h.1)

-- the seats of a new day

pub none_sits : (u n : ℕ) → list_any (is_seat_of u) (replicate n None) ≡ false
none_sits u zero = refl
none_sits u (suc n) = none_sits u n

pub free_once : (n : ℕ) → SitOnce (replicate n None)
free_once zero = tt
free_once (suc n) = free_once n

-- the seats are as they were

seats_same : (s t : State) → Extends s t → t.seats ≡ s.seats → AreGoodSeats s → AreGoodSeats t
seats_same s t e es g =
    record {
      count = ap length es ∙ (g.count ∙ ap (λ settings. settings.seats) (sym e.settings));
      known = λ u h. e.tickets u (g.known u (subst (λ seats. list_any (is_seat_of u) seats ≡ true) es h));
      once = subst SitOnce (sym es) g.once;
    }

cancelled_seats : (s : State) (o : ℕ) (k : Option ℕ) → (cancelled s o k).seats ≡ s.seats
cancelled_seats s o None = refl
cancelled_seats s o (Some c) = refl

issued_seats : (s : State) (c : ℕ) (q : List ℕ) → (issued s c q).seats ≡ s.seats
issued_seats s c [] = refl
issued_seats s c (o ∷ os) = refl

returned_seats : (s : State) (c : ℕ) (p : Place) → (returned s c p).seats ≡ s.seats
returned_seats s c Shelf = refl
returned_seats s c Desk = refl
returned_seats s c (Out o) = refl

imported_seats : (s : State) (t : Taken) → (with_import s t).seats ≡ s.seats
imported_seats s (Err fault) = refl
imported_seats s (Ok intake) = refl

sit_known : (s : State) (t u : ℕ) → AreGoodSeats s → is_ticket s t ≡ true
    → list_any (is_seat_of u) (sit t s.seats) ≡ true → is_ticket s u ≡ true
sit_known s t u g it h = elim (sit_only u t s.seats h) [ inl same ↦ subst (λ k. is_ticket s k ≡ true) (sym same) it | inr k ↦ g.known u k ]

pub seats_after : (s : State) (asked : Command) → distinct s.catalogue.containers ≡ s.catalogue.containers
    → AreGoodSeats s → Passes (checks s asked) → AreGoodSeats (after s asked)
seats_after s (command.OpenDay day) b g ok =
    record { count = length-replicate s.settings.seats None; known = λ u h. absurd (false≢true (sym (none_sits u s.settings.seats) ∙ h)); once = free_once s.settings.seats }
seats_after s (command.Register name until) b g ok =
    seats_same s (after s (command.Register name until)) (extends_after s (command.Register name until) b ok) refl g
seats_after s (command.Renew t until) b g ok =
    seats_same s (after s (command.Renew t until)) (extends_after s (command.Renew t until) b ok) refl g
seats_after s (command.TakeSeat t) b g ok =
    record {
      count = length-sit t s.seats ∙ g.count;
      known = λ u h. sit_known s t u g (passed_take_seat s t ok).known h;
      once = sit_once t s.seats (passed_take_seat s t ok).stands g.once;
    }
seats_after s (command.LeaveSeat t) b g ok =
    record {
      count = length-map s.seats (λ seat. cond (is_seat_of t seat) None seat) ∙ g.count;
      known = λ u h. g.known u (rise_only u t s.seats h);
      once = rise_once t s.seats g.once;
    }
seats_after s (command.Order t c) b g ok =
    seats_same s (after s (command.Order t c)) (extends_after s (command.Order t c) b ok) refl g
seats_after s (command.Cancel o) b g ok =
    seats_same s (after s (command.Cancel o)) (extends_after s (command.Cancel o) b ok) (cancelled_seats s o (container_of s o)) g
seats_after s command.Run b g ok = seats_same s (after s command.Run) (extends_after s command.Run b ok) refl g
seats_after s command.Reshelve b g ok =
    seats_same s (after s command.Reshelve) (extends_after s command.Reshelve b ok) refl g
seats_after s (command.Issue c t) b g ok =
    seats_same s (after s (command.Issue c t)) (extends_after s (command.Issue c t) b ok) (issued_seats s c (s.queue c)) g
seats_after s (command.Return c) b g ok =
    seats_same s (after s (command.Return c)) (extends_after s (command.Return c) b ok) (returned_seats s c (s.place c)) g
seats_after s (command.Permit t u until) b g ok =
    seats_same s (after s (command.Permit t u until)) (extends_after s (command.Permit t u until) b ok) refl g
seats_after s (command.Revoke t u) b g ok =
    seats_same s (after s (command.Revoke t u)) (extends_after s (command.Revoke t u) b ok) refl g
seats_after s (command.Import source file) b g ok =
    seats_same s (after s (command.Import source file)) (extends_after s (command.Import source file) b ok) (imported_seats s (intake_of s source file)) g
seats_after s (command.SetStatus u draft whole) b g ok =
    seats_same s (after s (command.SetStatus u draft whole)) (extends_after s (command.SetStatus u draft whole) b ok) refl g
seats_after s (command.SetClosure u until) b g ok =
    seats_same s (after s (command.SetClosure u until)) (extends_after s (command.SetClosure u until) b ok) refl g
seats_after s (command.Move u parent) b g ok =
    seats_same s (after s (command.Move u parent)) (extends_after s (command.Move u parent) b ok) refl g
seats_after s (command.Remove u) b g ok =
    seats_same s (after s (command.Remove u)) (extends_after s (command.Remove u) b ok) refl g
