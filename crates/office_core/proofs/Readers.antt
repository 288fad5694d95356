-- The readers and their permits stay good.
use Rattle.std.proofs.Common.{◌≡◌, ℕ, zero, suc, ◌<◌, ◌≤◌, Bool, true, false, not, cond, ◌&&◌, ◌||◌, List, [], ◌∷◌}
use Rattle.std.proofs.Common.{◌++◌, length, Option, Some, None, Ok, Err, refl, sym, ap, ◌∙◌, subst, inl, inr, arith}
use Rattle.std.proofs.Common.{length-append}
use Rattle.std.specs.Prelude.{ℤ, nat_lt, int_lt, nat_le}
use Rattle.desk_core.specs.declared.reader.Place.{Place}
use Rattle.office_core.specs.Rules.{is_name}
use Rattle.office_core.specs.declared.command.Command.TheVariants as command
use Rattle.office_core.proofs.Common.{AllByRecursion, AreGoodPermits, AreGoodReaders, ByUnit, Command, Desk, Out}
use Rattle.office_core.proofs.Common.{Permit, Reader, Shelf, State, Taken, after, and_cases, cancelled, cases_Bool}
use Rattle.office_core.proofs.Common.{cases_eq, checks, container_of, cut, distinct, eqb-false, eqb-true, false≢true}
use Rattle.office_core.proofs.Common.{filter, granted, has_id, has_permit, has_unit, intake_of, is_ticket, issued}
use Rattle.office_core.proofs.Common.{leb-false, list_any, ltb-false, ltb-true, most_permits, most_tickets, nat_eq}
use Rattle.office_core.proofs.Common.{not-false, nth, removed, renewed, returned, revoked, with_import}
use Rattle.office_core.proofs.Words.{put_each, numbered-push, numbered-push_last, other_number}
use Rattle.office_core.proofs.Steps.{Passes}
use Rattle.office_core.proofs.Extends.{Extends, extends_after}
use Rattle.office_core.proofs.PassedChecks.{passed_permit, passed_register, passed_revoke}

-- readers

renewed_name : (until : ℤ) (rs : List Reader) (t n : ℕ) (reader : Reader) → nth (renewed until rs t) n ≡ Some reader
    → (old : Reader) × (nth rs n ≡ Some old) × (old.name ≡ reader.name)
renewed_name until rs zero n reader e = (reader, e, refl)
renewed_name until [] (suc t) n reader e = (reader, e, refl)
renewed_name until (r ∷ rs) (suc zero) zero reader e = absurd (cc)
renewed_name until (r ∷ rs) (suc zero) (suc zero) reader e =
    let it : record r { until = until } ≡ reader = cc in
    (r, refl, ap (λ x. x.name) it)
renewed_name until (r ∷ rs) (suc zero) (suc (suc n)) reader e = (reader, e, refl)
renewed_name until (r ∷ rs) (suc (suc t)) zero reader e = absurd (cc)
renewed_name until (r ∷ rs) (suc (suc t)) (suc zero) reader e = (reader, e, refl)
renewed_name until (r ∷ rs) (suc (suc t)) (suc (suc n)) reader e = renewed_name until rs (suc t) (suc n) reader e

pub length-renewed : (until : ℤ) (rs : List Reader) (t : ℕ) → length (renewed until rs t) ≡ length rs
length-renewed until rs zero = refl
length-renewed until [] (suc n) = refl
length-renewed until (r ∷ rs) (suc zero) = refl
length-renewed until (r ∷ rs) (suc (suc n)) = ap suc (length-renewed until rs (suc n))

readers_same : (s t : State) → t.readers ≡ s.readers → AreGoodReaders s → AreGoodReaders t
readers_same s t e g = record { names = λ n reader h. g.names n reader (subst (λ rs. nth rs n ≡ Some reader) e h); few = subst (λ rs. length rs ≤ most_tickets) (sym e) g.few }

register_readers : (s : State) (name : List ℕ) (until : ℤ) → is_name name ≡ true → length s.readers < most_tickets
    → AreGoodReaders s → AreGoodReaders (after s (command.Register name until))
register_readers s name until ok l g =
    let x : Reader = record { name = name; until = until } in
    let more = length-append s.readers (x ∷ []) in
    record {
      names = λ n reader h. elim (cases_eq n (suc (length s.readers))) [
        | inl same ↦
            let k : Some x ≡ Some reader =
            sym (subst (λ m. nth (s.readers ++ x ∷ []) m ≡ Some x) (sym same) (numbered-push_last s.readers x)) ∙ h in
            let it : x ≡ reader = cc in
            subst (λ r. is_name r.name ≡ true) it ok
        | inr ne ↦ g.names n reader (sym (numbered-push s.readers x n ne) ∙ h)
      ];
      few = omega (arith, more, l);
    }

renew_readers : (s : State) (t : ℕ) (until : ℤ) → AreGoodReaders s → AreGoodReaders (after s (command.Renew t until))
renew_readers s t until g =
    let e = length-renewed until s.readers t in
    let few = g.few in
    record {
      names = λ n reader h. let x = renewed_name until s.readers t n reader h in subst (λ name. is_name name ≡ true) x.2 (g.names n x.0 x.1);
      few = omega (arith, e, few);
    }

-- permits

pub all_granted : (P : ℕ → Type 0) (u : ℕ) (day : ℤ) (ps : List Permit) → P u → AllByRecursion (λ p. P p.unit) ps
    → AllByRecursion (λ p. P p.unit) (granted u day ps)
all_granted P u day [] x h = (x, tt)
all_granted P u day (p ∷ ps) x h = at (nat_eq p.unit u) (nat_lt u p.unit) (all_granted P u day ps x h.1)
  where
    at : (same before : Bool) → AllByRecursion (λ q. P q.unit) (granted u day ps)
        → AllByRecursion (λ q. P q.unit) (cond same (record { unit = u; until = cond (int_lt p.until day) day p.until } ∷ ps) (cond before (record { unit = u; until = day } ∷ (p ∷ ps)) (p ∷ granted u day ps)))
    at true before ih = (x, h.1)
    at false true ih = (x, h)
    at false false ih = (h.0, ih)

all_above : (P Q : ℕ → Type 0) → ((n : ℕ) → P n → Q n) → (ps : List Permit) → AllByRecursion (λ p. P p.unit) ps
    → AllByRecursion (λ p. Q p.unit) ps
all_above P Q f [] h = tt
all_above P Q f (p ∷ ps) h = (f p.unit h.0, all_above P Q f ps h.1)

by_unit_granted : (u : ℕ) (day : ℤ) (ps : List Permit) → ByUnit ps → ByUnit (granted u day ps)
by_unit_granted u day [] h = (tt, tt)
by_unit_granted u day (p ∷ ps) h = at (nat_eq p.unit u) (nat_lt u p.unit) refl refl (by_unit_granted u day ps h.1)
  where
    at : (same before : Bool) → nat_eq p.unit u ≡ same → nat_lt u p.unit ≡ before → ByUnit (granted u day ps)
        → ByUnit (cond same (record { unit = u; until = cond (int_lt p.until day) day p.until } ∷ ps) (cond before (record { unit = u; until = day } ∷ (p ∷ ps)) (p ∷ granted u day ps)))
    at true before e b ih = let k = eqb-true p.unit u e in (all_above (λ n. p.unit < n) (λ n. u < n) (λ n l. omega (arith, l, k)) ps h.0, h.1)
    at false true e b ih = let l = ltb-true u p.unit b in ((l, all_above (λ n. p.unit < n) (λ n. u < n) (λ n k. omega (arith, l, k)) ps h.0), h)
    at false false e b ih =
        let l = ltb-false u p.unit b in
        let ne = eqb-false p.unit u e in
        (all_granted (λ n. p.unit < n) u day ps (omega (arith, l, ne)) h.0, ih)

not_above : (u : ℕ) (ps : List Permit) → AllByRecursion (λ p. u < p.unit) ps
    → list_any (λ p. nat_eq p.unit u) ps ≡ false
not_above u [] h = refl
not_above u (p ∷ ps) h = let l = h.0 in ap (λ b. b || list_any (λ p. nat_eq p.unit u) ps) (other_number p.unit u (λ e. omega (arith, l, e))) ∙ not_above u ps h.1

-- a permit that is there is replaced
granted_few : (u : ℕ) (day : ℤ) (ps : List Permit) → length (granted u day ps) ≤ suc (length ps)
granted_few u day [] = omega arith
granted_few u day (p ∷ ps) = at (nat_eq p.unit u) (nat_lt u p.unit) (granted_few u day ps)
  where
    at : (same before : Bool) → length (granted u day ps) ≤ suc (length ps)
        → length (cond same (record { unit = u; until = cond (int_lt p.until day) day p.until } ∷ ps) (cond before (record { unit = u; until = day } ∷ (p ∷ ps)) (p ∷ granted u day ps))) ≤ suc (suc (length ps))
    at true before ih = omega arith
    at false true ih = omega arith
    at false false ih = omega (arith, ih)

granted_same : (u : ℕ) (day : ℤ) (ps : List Permit) → ByUnit ps → list_any (λ p. nat_eq p.unit u) ps ≡ true
    → length (granted u day ps) ≡ length ps
granted_same u day [] h k = absurd (false≢true k)
granted_same u day (p ∷ ps) h k = at (nat_eq p.unit u) (nat_lt u p.unit) refl refl k (granted_same u day ps h.1)
  where
    at : (same before : Bool) → nat_eq p.unit u ≡ same → nat_lt u p.unit ≡ before
        → (same || list_any (λ p. nat_eq p.unit u) ps) ≡ true
        → (list_any (λ p. nat_eq p.unit u) ps ≡ true → length (granted u day ps) ≡ length ps)
        → length (cond same (record { unit = u; until = cond (int_lt p.until day) day p.until } ∷ ps) (cond before (record { unit = u; until = day } ∷ (p ∷ ps)) (p ∷ granted u day ps))) ≡ suc (length ps)
    at true before e b r ih = refl
    at false true e b r ih = let l = ltb-true u p.unit b in absurd (false≢true (sym (not_above u ps (all_above (λ n. p.unit < n) (λ n. u < n) (λ n m. omega (arith, l, m)) ps h.0)) ∙ r))
    at false false e b r ih = ap suc (ih r)

filter_at : (P : Permit → Type 0) (p : Permit) (ps : List Permit) (b : Bool) → P p → AllByRecursion P ps
    → AllByRecursion P (cond b (p ∷ ps) ps)
filter_at P p ps true x h = (x, h)
filter_at P p ps false x h = h

all_filter : (P : Permit → Type 0) (test : Permit → Bool) (ps : List Permit) → AllByRecursion P ps
    → AllByRecursion P (filter test ps)
all_filter P test [] h = tt
all_filter P test (p ∷ ps) h = filter_at P p (filter test ps) (test p) h.0 (all_filter P test ps h.1)

by_unit_at : (p : Permit) (ps : List Permit) (b : Bool) → AllByRecursion (λ q. p.unit < q.unit) ps → ByUnit ps
    → ByUnit (cond b (p ∷ ps) ps)
by_unit_at p ps true x h = (x, h)
by_unit_at p ps false x h = h

by_unit_filter : (test : Permit → Bool) (ps : List Permit) → ByUnit ps → ByUnit (filter test ps)
by_unit_filter test [] h = tt
by_unit_filter test (p ∷ ps) h =
    by_unit_at p (filter test ps) (test p) (all_filter (λ q. p.unit < q.unit) test ps h.0) (by_unit_filter test ps h.1)

few_at : (p : Permit) (ps : List Permit) (n : ℕ) (b : Bool) → length ps ≤ n → length (cond b (p ∷ ps) ps) ≤ suc n
few_at p ps n true h = omega (arith, h)
few_at p ps n false h = omega (arith, h)

filter_few : (test : Permit → Bool) (ps : List Permit) → length (filter test ps) ≤ length ps
filter_few test [] = omega arith
filter_few test (p ∷ ps) = few_at p (filter test ps) (length ps) (test p) (filter_few test ps)

passing_at : (test : Permit → Bool) (p : Permit) (ps : List Permit) (b : Bool) → test p ≡ b
    → AllByRecursion (λ q. test q ≡ true) ps → AllByRecursion (λ q. test q ≡ true) (cond b (p ∷ ps) ps)
passing_at test p ps true e h = (e, h)
passing_at test p ps false e h = h

pub all_passing : (test : Permit → Bool) (ps : List Permit) → AllByRecursion (λ q. test q ≡ true) (filter test ps)
all_passing test [] = tt
all_passing test (p ∷ ps) = passing_at test p (filter test ps) (test p) refl (all_passing test ps)

permits_same : (s t : State) → Extends s t → t.permits ≡ s.permits → AreGoodPermits s → AreGoodPermits t
permits_same s t e ep g =
    record {
      known = λ u h. subst (λ ps. ps u ≡ []) (sym ep) (g.known u (elim (cases_Bool (is_ticket s u)) [ inl k ↦ absurd (false≢true (sym h ∙ e.tickets u k)) | inr k ↦ k ]));
      by_unit = λ u. subst (λ ps. ByUnit (ps u)) (sym ep) (g.by_unit u);
      few = λ u. subst (λ ps. length (ps u) ≤ most_permits) (sym ep) (g.few u);
    }

grant_few : (s : State) (t u : ℕ) (until : ℤ) → AreGoodPermits s
    → (not (has_permit s t u) && nat_le most_permits (length (s.permits t))) ≡ false
    → length (granted u until (s.permits t)) ≤ most_permits
grant_few s t u until g ok =
    elim (and_cases (not (has_permit s t u)) (nat_le most_permits (length (s.permits t))) ok) [
      | inl has ↦ let e = granted_same u until (s.permits t) (g.by_unit t) (not-false (has_permit s t u) has) in let l = g.few t in omega (arith, e, l)
      | inr room ↦ let l = leb-false most_permits (length (s.permits t)) room in let m = granted_few u until (s.permits t) in omega (arith, l, m)
    ]

grant_permits : (s : State) (t u : ℕ) (until : ℤ) → is_ticket s t ≡ true
    → (not (has_permit s t u) && nat_le most_permits (length (s.permits t))) ≡ false → AreGoodPermits s
    → AreGoodPermits (after s (command.Permit t u until))
grant_permits s t u until it ok g =
    record {
      known = put_each (λ v ps. is_ticket s v ≡ false → ps ≡ []) s.permits t (granted u until (s.permits t)) (λ h. absurd (false≢true (sym h ∙ it))) (λ v ne h. g.known v h);
      by_unit = put_each (λ v ps. ByUnit ps) s.permits t (granted u until (s.permits t)) (by_unit_granted u until (s.permits t) (g.by_unit t)) (λ v ne. g.by_unit v);
      few = put_each (λ v ps. length ps ≤ most_permits) s.permits t (granted u until (s.permits t)) (grant_few s t u until g ok) (λ v ne. g.few v);
    }

revoke_permits : (s : State) (t u : ℕ) → is_ticket s t ≡ true → AreGoodPermits s
    → AreGoodPermits (after s (command.Revoke t u))
revoke_permits s t u it g =
    let l = g.few t in
    let m = filter_few (λ permit. not (nat_eq permit.unit u)) (s.permits t) in
    record {
      known = put_each (λ v ps. is_ticket s v ≡ false → ps ≡ []) s.permits t (revoked u (s.permits t)) (λ h. absurd (false≢true (sym h ∙ it))) (λ v ne h. g.known v h);
      by_unit = put_each (λ v ps. ByUnit ps) s.permits t (revoked u (s.permits t)) (by_unit_filter (λ permit. not (nat_eq permit.unit u)) (s.permits t) (g.by_unit t)) (λ v ne. g.by_unit v);
      few = put_each (λ v ps. length ps ≤ most_permits) s.permits t (revoked u (s.permits t)) (omega (arith, l, m)) (λ v ne. g.few v);
    }

remove_permits : (s : State) (u : ℕ) → AreGoodPermits s → AreGoodPermits (removed s u)
remove_permits s u g =
    record {
      known = λ t h. ap (filter (λ permit. has_unit (cut (has_id u) s.catalogue.forest) permit.unit)) (g.known t h);
      by_unit = λ t. by_unit_filter (λ permit. has_unit (cut (has_id u) s.catalogue.forest) permit.unit) (s.permits t) (g.by_unit t);
      few = λ t. (let l = g.few t in let m = filter_few (λ permit. has_unit (cut (has_id u) s.catalogue.forest) permit.unit) (s.permits t) in omega (arith, l, m));
    }

cancelled_same : (s : State) (o : ℕ) (k : Option ℕ)
    → ((cancelled s o k).readers ≡ s.readers) × ((cancelled s o k).permits ≡ s.permits)
cancelled_same s o None = (refl, refl)
cancelled_same s o (Some c) = (refl, refl)

issued_same : (s : State) (c : ℕ) (q : List ℕ)
    → ((issued s c q).readers ≡ s.readers) × ((issued s c q).permits ≡ s.permits)
issued_same s c [] = (refl, refl)
issued_same s c (o ∷ os) = (refl, refl)

returned_same : (s : State) (c : ℕ) (p : Place)
    → ((returned s c p).readers ≡ s.readers) × ((returned s c p).permits ≡ s.permits)
returned_same s c Shelf = (refl, refl)
returned_same s c Desk = (refl, refl)
returned_same s c (Out o) = (refl, refl)

imported_readers : (s : State) (t : Taken) → ((with_import s t).readers ≡ s.readers) × ((with_import s t).permits ≡ s.permits)
imported_readers s (Err fault) = (refl, refl)
imported_readers s (Ok intake) = (refl, refl)

pub readers_after : (s : State) (asked : Command) → AreGoodReaders s → Passes (checks s asked)
    → AreGoodReaders (after s asked)
readers_after s (command.Register name until) g ok =
    register_readers s name until (passed_register s name until ok).named (leb-false most_tickets (length s.readers) (passed_register s name until ok).room) g
readers_after s (command.Renew t until) g ok = renew_readers s t until g
readers_after s (command.OpenDay day) g ok = readers_same s (after s (command.OpenDay day)) refl g
readers_after s (command.TakeSeat t) g ok = readers_same s (after s (command.TakeSeat t)) refl g
readers_after s (command.LeaveSeat t) g ok = readers_same s (after s (command.LeaveSeat t)) refl g
readers_after s (command.Order t c) g ok = readers_same s (after s (command.Order t c)) refl g
readers_after s (command.Cancel o) g ok =
    readers_same s (after s (command.Cancel o)) (cancelled_same s o (container_of s o)).0 g
readers_after s command.Run g ok = readers_same s (after s command.Run) refl g
readers_after s command.Reshelve g ok = readers_same s (after s command.Reshelve) refl g
readers_after s (command.Issue c t) g ok =
    readers_same s (after s (command.Issue c t)) (issued_same s c (s.queue c)).0 g
readers_after s (command.Return c) g ok =
    readers_same s (after s (command.Return c)) (returned_same s c (s.place c)).0 g
readers_after s (command.Permit t u until) g ok = readers_same s (after s (command.Permit t u until)) refl g
readers_after s (command.Revoke t u) g ok = readers_same s (after s (command.Revoke t u)) refl g
readers_after s (command.Import source file) g ok =
    readers_same s (after s (command.Import source file)) (imported_readers s (intake_of s source file)).0 g
readers_after s (command.SetStatus u draft whole) g ok =
    readers_same s (after s (command.SetStatus u draft whole)) refl g
readers_after s (command.SetClosure u until) g ok = readers_same s (after s (command.SetClosure u until)) refl g
readers_after s (command.Move u parent) g ok = readers_same s (after s (command.Move u parent)) refl g
readers_after s (command.Remove u) g ok = readers_same s (after s (command.Remove u)) refl g

pub permits_after : (s : State) (asked : Command) → distinct s.catalogue.containers ≡ s.catalogue.containers
    → AreGoodPermits s → Passes (checks s asked) → AreGoodPermits (after s asked)
permits_after s (command.Register name until) b g ok =
    permits_same s (after s (command.Register name until)) (extends_after s (command.Register name until) b ok) refl g
permits_after s (command.Renew t until) b g ok =
    permits_same s (after s (command.Renew t until)) (extends_after s (command.Renew t until) b ok) refl g
permits_after s (command.OpenDay day) b g ok =
    permits_same s (after s (command.OpenDay day)) (extends_after s (command.OpenDay day) b ok) refl g
permits_after s (command.TakeSeat t) b g ok =
    permits_same s (after s (command.TakeSeat t)) (extends_after s (command.TakeSeat t) b ok) refl g
permits_after s (command.LeaveSeat t) b g ok =
    permits_same s (after s (command.LeaveSeat t)) (extends_after s (command.LeaveSeat t) b ok) refl g
permits_after s (command.Order t c) b g ok =
    permits_same s (after s (command.Order t c)) (extends_after s (command.Order t c) b ok) refl g
permits_after s (command.Cancel o) b g ok = let e = cancelled_same s o (container_of s o) in permits_same s (after s (command.Cancel o)) (extends_after s (command.Cancel o) b ok) e.1 g
permits_after s command.Run b g ok = permits_same s (after s command.Run) (extends_after s command.Run b ok) refl g
permits_after s command.Reshelve b g ok =
    permits_same s (after s command.Reshelve) (extends_after s command.Reshelve b ok) refl g
permits_after s (command.Issue c t) b g ok = let e = issued_same s c (s.queue c) in permits_same s (after s (command.Issue c t)) (extends_after s (command.Issue c t) b ok) e.1 g
permits_after s (command.Return c) b g ok = let e = returned_same s c (s.place c) in permits_same s (after s (command.Return c)) (extends_after s (command.Return c) b ok) e.1 g
permits_after s (command.Permit t u until) b g ok =
    grant_permits s t u until (passed_permit s t u until ok).known (passed_permit s t u until ok).room g
permits_after s (command.Revoke t u) b g ok = revoke_permits s t u (passed_revoke s t u ok).known g
permits_after s (command.Import source file) b g ok =
    permits_same s (after s (command.Import source file)) (extends_after s (command.Import source file) b ok) (imported_readers s (intake_of s source file)).1 g
permits_after s (command.SetStatus u draft whole) b g ok =
    permits_same s (after s (command.SetStatus u draft whole)) (extends_after s (command.SetStatus u draft whole) b ok) refl g
permits_after s (command.SetClosure u until) b g ok =
    permits_same s (after s (command.SetClosure u until)) (extends_after s (command.SetClosure u until) b ok) refl g
permits_after s (command.Move u parent) b g ok =
    permits_same s (after s (command.Move u parent)) (extends_after s (command.Move u parent) b ok) refl g
permits_after s (command.Remove u) b g ok = remove_permits s u g
