-- A change is refused for a reader exactly where it would withhold what is out.
use Rattle.std.proofs.Common.{◌≡◌, ℕ, zero, suc, ◌≤◌, Bool, true, false, not, cond, List, [], ◌∷◌, ◌++◌, length, Option}
use Rattle.std.proofs.Common.{Some, None, Ok, Err, refl, sym, ap, ◌∙◌, subst, inl, inr, ◌⊎◌, arith}
use Rattle.std.specs.Prelude.{nat_lt}
use Rattle.desk_core.specs.declared.refusal.Refusal.TheVariants as refusal
use Rattle.office_core.specs.AccessRestrictions.{WouldBeWithheld, IsLowestWithheld, may_withhold, AsksForReaders}
use Rattle.office_core.specs.AccessRestrictions.{AsksForNone, MayBeDone, AsksForReadersAlone}
use Rattle.office_core.specs.Rules.{refusal as refusal_of}
use Rattle.office_core.specs.declared.command.Command.TheVariants as command
use Rattle.office_core.specs.declared.done.Done.{Done}
use Rattle.office_core.proofs.Common.{AllByRecursion, Check, Command, Intake, IsSoundDesk, Order, Refusal, State, Taken}
use Rattle.office_core.proofs.Common.{WithReader, after, bad_file, cases_lt, checks, decide, depth_after, false≢true}
use Rattle.office_core.proofs.Common.{first_that, first_that_holds, gate, has_id, has_permit, has_place, has_unit}
use Rattle.office_core.proofs.Common.{intake_of, is_container, is_full, is_into_itself, is_kept_from_holder, is_source}
use Rattle.office_core.proofs.Common.{is_ticket, le-ltb, lowest_withheld, most_deep, nth, numbers_to, opens, option_map}
use Rattle.office_core.proofs.Common.{order_out, result_of, same_Some, some_and, too_much, unless, when, with_import}
use Rattle.office_core.proofs.Counts.{none_to, none_that, numbered_from_one}
use Rattle.office_core.proofs.Extends.{imported_extends}
use Rattle.office_core.proofs.Places.{out_known, places_after}
use Rattle.office_core.proofs.Steps.{passes}
use Rattle.office_core.proofs.Words.{numbered_within}

-- ---- which check tells it

abbrev is_for_reader : Refusal → Bool
is_for_reader (WithReader c) = true
is_for_reader _ = false

abbrev Other : ℕ → Check → Type 0
Other c check = check ≡ Some (WithReader c) → ⊥

for_another : (why : Refusal) (c : ℕ) → is_for_reader why ≡ false → Other c (Some why)
for_another why c h e = false≢true (sym h ∙ ap is_for_reader (same_Some why (WithReader c) e))

none_other : (c : ℕ) → Other c None
none_other c e = absurd (cc)

unless_other : (b : Bool) (why : Refusal) (c : ℕ) → is_for_reader why ≡ false → Other c (unless b why)
unless_other true why c h = none_other c
unless_other false why c h = for_another why c h

when_other : (b : Bool) (why : Refusal) (c : ℕ) → is_for_reader why ≡ false → Other c (when b why)
when_other true why c h = for_another why c h
when_other false why c h = none_other c

bad_file_other : (r : Taken) (c : ℕ) → Other c (bad_file r)
bad_file_other (Ok intake) c = none_other c
bad_file_other (Err (row, cause)) c = for_another (refusal.BadFile row cause) c refl

too_much_other : (r : Taken) (c : ℕ) → Other c (too_much r)
too_much_other (Ok intake) c = when_other _ refusal.Full c refl
too_much_other (Err fault) c = none_other c

told_by_last : (c : ℕ) (cs : List Check) (g : Check) → AllByRecursion (Other c) cs
    → first_that_holds (cs ++ g ∷ []) ≡ Some (WithReader c) → g ≡ Some (WithReader c)
told_by_last c [] None h e = absurd (cc)
told_by_last c [] (Some why) h e = e
told_by_last c (None ∷ cs) g h e = told_by_last c cs g h.1 e
told_by_last c (Some why ∷ cs) g h e = absurd (h.0 e)

told_by_none : (c : ℕ) (cs : List Check) → AllByRecursion (Other c) cs → first_that_holds cs ≡ Some (WithReader c) → ⊥
told_by_none c [] h e = absurd (cc)
told_by_none c (None ∷ cs) h e = told_by_none c cs h.1 e
told_by_none c (Some why ∷ cs) h e = h.0 e

refused_so : (r : Option Refusal) (s t : State) (d : Done) (why : Refusal) → (decide r s t d).1 ≡ Err why → r ≡ Some why
refused_so None s t d why e = absurd (cc)
refused_so (Some w) s t d why e = let k : w ≡ why = cc in ap Some k

accepted_so : (r : Option Refusal) (s t : State) (d done : Done) → (decide r s t d).1 ≡ Ok done → r ≡ None
accepted_so None s t d done e = refl
accepted_so (Some w) s t d done e = absurd (cc)

kept_so : (x : Option ℕ) (c : ℕ) → option_map WithReader x ≡ Some (WithReader c) → x ≡ Some c
kept_so None c e = absurd (cc)
kept_so (Some d) c e = cc

-- where a command that may withhold is refused for a reader, the gate keeps that container
gate_keeps : (s : State) (asked : Command) (c : ℕ) → may_withhold asked ≡ true
    → refusal_of s asked ≡ Some (WithReader c) → lowest_withheld (after s asked) ≡ Some c
gate_keeps s (command.Import source file) c m e =
    let name : Bool = is_source source in
    kept_so _ c (told_by_last c (unless name refusal.BadName ∷ bad_file (intake_of s source file) ∷ too_much (intake_of s source file) ∷ []) (gate (after s (command.Import source file)))
    (unless_other name refusal.BadName c refl, (bad_file_other (intake_of s source file) c, (too_much_other (intake_of s source file) c, tt))) e)
gate_keeps s (command.SetStatus u draft whole) c m e =
    let known : Bool = has_unit s.catalogue.forest u in
    kept_so _ c (told_by_last c (unless known refusal.UnknownUnit ∷ []) (gate (after s (command.SetStatus u draft whole))) (unless_other known refusal.UnknownUnit c refl, tt) e)
gate_keeps s (command.SetClosure u until) c m e =
    let known : Bool = has_unit s.catalogue.forest u in
    kept_so _ c (told_by_last c (unless known refusal.UnknownUnit ∷ []) (gate (after s (command.SetClosure u until))) (unless_other known refusal.UnknownUnit c refl, tt) e)
gate_keeps s (command.Move u parent) c m e =
    let known : Bool = has_unit s.catalogue.forest u in
    let place : Bool = has_place has_id parent s.catalogue.forest in
    let inside : Bool = is_into_itself u parent s.catalogue.forest in
    let deep : Bool = nat_lt most_deep (depth_after u parent s.catalogue.forest) in
    kept_so _ c (told_by_last c (unless known refusal.UnknownUnit ∷ unless place refusal.UnknownUnit ∷ when inside refusal.IntoItself ∷ when deep refusal.TooDeep ∷ []) (gate (after s (command.Move u parent)))
    (unless_other known refusal.UnknownUnit c refl, (unless_other place refusal.UnknownUnit c refl, (when_other inside refusal.IntoItself c refl, (when_other deep refusal.TooDeep c refl, tt)))) e)
gate_keeps s (command.Remove u) c m e =
    let known : Bool = has_unit s.catalogue.forest u in
    kept_so _ c (told_by_last c (unless known refusal.UnknownUnit ∷ []) (gate (after s (command.Remove u))) (unless_other known refusal.UnknownUnit c refl, tt) e)
gate_keeps s (command.Revoke t u) c m e =
    let ticket : Bool = is_ticket s t in
    let known : Bool = has_unit s.catalogue.forest u in
    let permit : Bool = has_permit s t u in
    kept_so _ c (told_by_last c (unless ticket refusal.UnknownTicket ∷ unless known refusal.UnknownUnit ∷ unless permit refusal.NoPermit ∷ []) (gate (after s (command.Revoke t u)))
    (unless_other ticket refusal.UnknownTicket c refl, (unless_other known refusal.UnknownUnit c refl, (unless_other permit refusal.NoPermit c refl, tt))) e)
gate_keeps s (command.OpenDay day) c m e = absurd (false≢true m)
gate_keeps s (command.Register name until) c m e = absurd (false≢true m)
gate_keeps s (command.Renew t until) c m e = absurd (false≢true m)
gate_keeps s (command.TakeSeat t) c m e = absurd (false≢true m)
gate_keeps s (command.LeaveSeat t) c m e = absurd (false≢true m)
gate_keeps s (command.Order t k) c m e = absurd (false≢true m)
gate_keeps s (command.Cancel o) c m e = absurd (false≢true m)
gate_keeps s command.Run c m e = absurd (false≢true m)
gate_keeps s command.Reshelve c m e = absurd (false≢true m)
gate_keeps s (command.Issue k t) c m e = absurd (false≢true m)
gate_keeps s (command.Return k) c m e = absurd (false≢true m)
gate_keeps s (command.Permit t u until) c m e = absurd (false≢true m)

-- ---- the lowest that passes

first_of : (p : ℕ → Bool) (xs ys : List ℕ) (c : ℕ) → first_that p (xs ++ ys) ≡ Some c
    → (first_that p xs ≡ Some c) ⊎ ((first_that p xs ≡ None) × (first_that p ys ≡ Some c))
first_of p [] ys c e = inr (refl, e)
first_of p (x ∷ xs) ys c e = at (p x) (first_of p xs ys c) e
  where
    at : (b : Bool)
        → (first_that p (xs ++ ys) ≡ Some c → (first_that p xs ≡ Some c) ⊎ ((first_that p xs ≡ None) × (first_that p ys ≡ Some c)))
        → cond b (Some x) (first_that p (xs ++ ys)) ≡ Some c
        → (cond b (Some x) (first_that p xs) ≡ Some c) ⊎ ((cond b (Some x) (first_that p xs) ≡ None) × (first_that p ys ≡ Some c))
    at true rest k = inl k
    at false rest k = rest k

only_one : (p : ℕ → Bool) (n c : ℕ) → first_that p (n ∷ []) ≡ Some c → (n ≡ c) × (p n ≡ true)
only_one p n c e = at (p n) refl e
  where
    at : (b : Bool) → p n ≡ b → cond b (Some n) None ≡ Some c → (n ≡ c) × (p n ≡ true)
    at true h k = (same_Some n c k, h)
    at false h k = absurd (cc)

lowest_of : (p : ℕ → Bool) (n c : ℕ) → first_that p (numbers_to n) ≡ Some c
    → (p c ≡ true) × ((d : ℕ) → 1 ≤ d → d ≤ n → p d ≡ true → c ≤ d)
lowest_of p zero c e = absurd (cc)
lowest_of p (suc n) c e = elim (first_of p (numbers_to n) (suc n ∷ []) c e) [
  | inl h ↦ let it = lowest_of p n c h in (it.0, λ d l u k. at it.1 h d l u k)
  | inr h ↦
      let one = only_one p (suc n) c h.1 in
      let same = one.0 in (
        subst (λ m. p m ≡ true) same one.1,
        λ d l u k. elim (cases_lt d (suc n)) [
          | inl less ↦ absurd (false≢true (sym (none_to p n d (none_that p (numbers_to n) h.0) l (omega (arith, less))) ∙ k))
          | inr more ↦ omega (arith, more, same)
        ],
      )
]
  where
    within : (m k : ℕ) → first_that p (numbers_to m) ≡ Some k → k ≤ m
    within zero k e = absurd (cc)
    within (suc m) k e = elim (first_of p (numbers_to m) (suc m ∷ []) k e) [
      | inl h ↦ let r = within m k h in omega (arith, r)
      | inr h ↦ let r = (only_one p (suc m) k h.1).0 in omega (arith, r)
    ]

    at : ((d : ℕ) → 1 ≤ d → d ≤ n → p d ≡ true → c ≤ d) → first_that p (numbers_to n) ≡ Some c → (d : ℕ) → 1 ≤ d
        → d ≤ suc n → p d ≡ true → c ≤ d
    at low h d l u k = elim (cases_lt d (suc n)) [
      | inl less ↦ low d l (omega (arith, less)) k
      | inr more ↦ let r = within n c h in omega (arith, r, more)
    ]

-- ---- what is kept from its holder would be withheld

module _ (s t : State) (places : t.place ≡ s.place) (orders : t.orders ≡ s.orders) where
  held_with : (c o : ℕ) (r : Option Order) → order_out (s.place c) ≡ Some o → nth t.orders o ≡ r
      → some_and (λ (order : Order). not (opens t order.ticket c)) r ≡ true → WouldBeWithheld s t c
  held_with c o None out n h = absurd (false≢true h)
  held_with c o (Some order) out n h =
      record { number = o; order = order; out = out; placed = ap (λ l. nth l o) (sym orders) ∙ n; shut = not_so (opens t order.ticket c) h }
    where
      not_so : (b : Bool) → not b ≡ true → b ≡ false
      not_so true e = absurd (false≢true e)
      not_so false e = refl

  kept_would : (c : ℕ) (x : Option ℕ) → order_out (t.place c) ≡ x
      → some_and (λ o. some_and (λ (order : Order). not (opens t order.ticket c)) (nth t.orders o)) x ≡ true
      → WouldBeWithheld s t c
  kept_would c None e h = absurd (false≢true h)
  kept_would c (Some o) e h = held_with c o (nth t.orders o) (ap (λ place. order_out (place c)) (sym places) ∙ e) refl h

  would_kept : (c : ℕ) → WouldBeWithheld s t c → is_kept_from_holder t c ≡ true
  would_kept c w =
      ap (some_and (λ o. some_and (λ (order : Order). not (opens t order.ticket c)) (nth t.orders o))) (ap (λ place. order_out (place c)) places ∙ w.out)
      ∙ ap (some_and (λ (order : Order). not (opens t order.ticket c))) (ap (λ l. nth l w.number) orders ∙ w.placed)
      ∙ ap not w.shut

  lowest_would : ((c : ℕ) → is_container s c ≡ true → is_container t c ≡ true) → IsSoundDesk s → (c : ℕ)
      → lowest_withheld t ≡ Some c → IsLowestWithheld s t c
  lowest_would known g c e =
      let it = lowest_of (is_kept_from_holder t) (length t.catalogue.containers) c e in
      record {
        withheld = kept_would c (order_out (t.place c)) refl it.0;
        lowest = λ d w.
            let k = known d (out_known s d w.number g.filed g.orders w.out) in
            it.1 d (numbered_from_one t.catalogue.containers d k) (numbered_within t.catalogue.containers d k) (would_kept d w);
      }

imported_place : (s : State) (r : Taken) → (with_import s r).place ≡ s.place
imported_place s (Ok intake) = refl
imported_place s (Err fault) = refl

imported_orders : (s : State) (r : Taken) → (with_import s r).orders ≡ s.orders
imported_orders s (Ok intake) = refl
imported_orders s (Err fault) = refl

same_place : (s : State) (asked : Command) → may_withhold asked ≡ true → (after s asked).place ≡ s.place
same_place s (command.Import source file) m = imported_place s (intake_of s source file)
same_place s (command.SetStatus u draft whole) m = refl
same_place s (command.SetClosure u until) m = refl
same_place s (command.Move u parent) m = refl
same_place s (command.Remove u) m = refl
same_place s (command.Revoke t u) m = refl
same_place s (command.OpenDay day) m = absurd (false≢true m)
same_place s (command.Register name until) m = absurd (false≢true m)
same_place s (command.Renew t until) m = absurd (false≢true m)
same_place s (command.TakeSeat t) m = absurd (false≢true m)
same_place s (command.LeaveSeat t) m = absurd (false≢true m)
same_place s (command.Order t k) m = absurd (false≢true m)
same_place s (command.Cancel o) m = absurd (false≢true m)
same_place s command.Run m = absurd (false≢true m)
same_place s command.Reshelve m = absurd (false≢true m)
same_place s (command.Issue k t) m = absurd (false≢true m)
same_place s (command.Return k) m = absurd (false≢true m)
same_place s (command.Permit t u until) m = absurd (false≢true m)

same_orders : (s : State) (asked : Command) → may_withhold asked ≡ true → (after s asked).orders ≡ s.orders
same_orders s (command.Import source file) m = imported_orders s (intake_of s source file)
same_orders s (command.SetStatus u draft whole) m = refl
same_orders s (command.SetClosure u until) m = refl
same_orders s (command.Move u parent) m = refl
same_orders s (command.Remove u) m = refl
same_orders s (command.Revoke t u) m = refl
same_orders s (command.OpenDay day) m = absurd (false≢true m)
same_orders s (command.Register name until) m = absurd (false≢true m)
same_orders s (command.Renew t until) m = absurd (false≢true m)
same_orders s (command.TakeSeat t) m = absurd (false≢true m)
same_orders s (command.LeaveSeat t) m = absurd (false≢true m)
same_orders s (command.Order t k) m = absurd (false≢true m)
same_orders s (command.Cancel o) m = absurd (false≢true m)
same_orders s command.Run m = absurd (false≢true m)
same_orders s command.Reshelve m = absurd (false≢true m)
same_orders s (command.Issue k t) m = absurd (false≢true m)
same_orders s (command.Return k) m = absurd (false≢true m)
same_orders s (command.Permit t u until) m = absurd (false≢true m)

still_known : (s : State) (asked : Command) → may_withhold asked ≡ true → IsSoundDesk s → (c : ℕ)
    → is_container s c ≡ true → is_container (after s asked) c ≡ true
still_known s (command.Import source file) m g c h =
    (imported_extends s source file (intake_of s source file) refl g.boxes).containers c h
still_known s (command.SetStatus u draft whole) m g c h = h
still_known s (command.SetClosure u until) m g c h = h
still_known s (command.Move u parent) m g c h = h
still_known s (command.Remove u) m g c h = h
still_known s (command.Revoke t u) m g c h = h
still_known s (command.OpenDay day) m g c h = absurd (false≢true m)
still_known s (command.Register name until) m g c h = absurd (false≢true m)
still_known s (command.Renew t until) m g c h = absurd (false≢true m)
still_known s (command.TakeSeat t) m g c h = absurd (false≢true m)
still_known s (command.LeaveSeat t) m g c h = absurd (false≢true m)
still_known s (command.Order t k) m g c h = absurd (false≢true m)
still_known s (command.Cancel o) m g c h = absurd (false≢true m)
still_known s command.Run m g c h = absurd (false≢true m)
still_known s command.Reshelve m g c h = absurd (false≢true m)
still_known s (command.Issue k t) m g c h = absurd (false≢true m)
still_known s (command.Return k) m g c h = absurd (false≢true m)
still_known s (command.Permit t u until) m g c h = absurd (false≢true m)

-- ---- the law

nothing_withheld : (s : State) (asked : Command) → may_withhold asked ≡ true → IsSoundDesk s → refusal_of s asked ≡ None
    → (c : ℕ) → WouldBeWithheld s (after s asked) c → ⊥
nothing_withheld s asked m g r c w =
    let p = places_after s asked g.boxes g.filed g.orders g.places (passes (checks s asked) r) in
    let out : order_out ((after s asked).place c) ≡ Some w.number =
    ap (λ place. order_out (place c)) (same_place s asked m) ∙ w.out in
    let placed : nth (after s asked).orders w.number ≡ Some w.order =
    ap (λ l. nth l w.number) (same_orders s asked m) ∙ w.placed in
    false≢true (sym w.shut ∙ (p.holders c w.number w.order out placed).may_see)

after_accepted : (r : Option Refusal) (s t : State) (d : Done) → r ≡ None → (decide r s t d).0 ≡ t
after_accepted None s t d e = refl
after_accepted (Some why) s t d e = absurd (cc)

pub asks_for_readers : (s : State) (asked : Command) → IsSoundDesk s → may_withhold asked ≡ true
    → AsksForReaders s asked
asks_for_readers s asked g m =
    record {
      refused = λ c e. lowest_would s (after s asked) (same_place s asked m) (same_orders s asked m) (still_known s asked m g) g c
          (gate_keeps s asked c m (refused_so (refusal_of s asked) s (after s asked) (result_of s asked) (WithReader c) e));
      accepted = λ done e c w.
          let r = accepted_so (refusal_of s asked) s (after s asked) (result_of s asked) done e in
          nothing_withheld s asked m g r c (subst (λ t. WouldBeWithheld s t c) (after_accepted (refusal_of s asked) s (after s asked) (result_of s asked) r) w);
    }

-- ---- where nothing else refuses it

abbrev Passes : Check → Type 0
Passes check = check ≡ None

unless_passes : (b : Bool) (why : Refusal) → b ≡ true → Passes (unless b why)
unless_passes true why h = refl
unless_passes false why h = absurd (false≢true h)

when_passes : (b : Bool) (why : Refusal) → b ≡ false → Passes (when b why)
when_passes true why h = absurd (false≢true (sym h))
when_passes false why h = refl

bad_file_passes : (r : Taken) (intake : Intake) → r ≡ Ok intake → Passes (bad_file r)
bad_file_passes r intake e = ap bad_file e

too_much_passes : (r : Taken) (intake : Intake) → r ≡ Ok intake → is_full intake.catalogue ≡ false → Passes (too_much r)
too_much_passes r intake e room = ap too_much e ∙ when_passes (is_full intake.catalogue) refusal.Full room

to_last : (cs : List Check) (g : Check) → AllByRecursion Passes cs → first_that_holds (cs ++ g ∷ []) ≡ g
to_last [] None h = refl
to_last [] (Some why) h = refl
to_last (None ∷ cs) g h = to_last cs g h.1
to_last (Some why ∷ cs) g h = absurd (let e : Some why ≡ None = h.0 in cc)

-- what may be done is asked the gate alone
gate_alone : (s : State) (asked : Command) → MayBeDone s asked → refusal_of s asked ≡ gate (after s asked)
gate_alone s (command.Import source file) h =
    to_last (unless (is_source source) refusal.BadName ∷ bad_file (intake_of s source file) ∷ too_much (intake_of s source file) ∷ []) (gate (after s (command.Import source file)))
    (unless_passes (is_source source) refusal.BadName h.name, (bad_file_passes (intake_of s source file) h.intake h.read, (too_much_passes (intake_of s source file) h.intake h.read h.room, tt)))
gate_alone s (command.SetStatus u draft whole) h =
    to_last (unless (has_unit s.catalogue.forest u) refusal.UnknownUnit ∷ []) (gate (after s (command.SetStatus u draft whole)))
    (unless_passes (has_unit s.catalogue.forest u) refusal.UnknownUnit h, tt)
gate_alone s (command.SetClosure u until) h =
    to_last (unless (has_unit s.catalogue.forest u) refusal.UnknownUnit ∷ []) (gate (after s (command.SetClosure u until)))
    (unless_passes (has_unit s.catalogue.forest u) refusal.UnknownUnit h, tt)
gate_alone s (command.Move u parent) h =
    let place : Bool = has_place has_id parent s.catalogue.forest in
    let inside : Bool = is_into_itself u parent s.catalogue.forest in
    let deep : Bool = nat_lt most_deep (depth_after u parent s.catalogue.forest) in
    to_last (unless (has_unit s.catalogue.forest u) refusal.UnknownUnit ∷ unless place refusal.UnknownUnit ∷ when inside refusal.IntoItself ∷ when deep refusal.TooDeep ∷ []) (gate (after s (command.Move u parent)))
    (unless_passes (has_unit s.catalogue.forest u) refusal.UnknownUnit h.unit, (unless_passes place refusal.UnknownUnit h.place, (when_passes inside refusal.IntoItself h.apart, (when_passes deep refusal.TooDeep (le-ltb most_deep (depth_after u parent s.catalogue.forest) h.depth), tt))))
gate_alone s (command.Remove u) h =
    to_last (unless (has_unit s.catalogue.forest u) refusal.UnknownUnit ∷ []) (gate (after s (command.Remove u)))
    (unless_passes (has_unit s.catalogue.forest u) refusal.UnknownUnit h, tt)
gate_alone s (command.Revoke t u) h =
    to_last (unless (is_ticket s t) refusal.UnknownTicket ∷ unless (has_unit s.catalogue.forest u) refusal.UnknownUnit ∷ unless (has_permit s t u) refusal.NoPermit ∷ []) (gate (after s (command.Revoke t u)))
    (unless_passes (is_ticket s t) refusal.UnknownTicket h.ticket, (unless_passes (has_unit s.catalogue.forest u) refusal.UnknownUnit h.unit, (unless_passes (has_permit s t u) refusal.NoPermit h.permit, tt)))
gate_alone s (command.OpenDay day) h = absurd h
gate_alone s (command.Register name until) h = absurd h
gate_alone s (command.Renew t until) h = absurd h
gate_alone s (command.TakeSeat t) h = absurd h
gate_alone s (command.LeaveSeat t) h = absurd h
gate_alone s (command.Order t k) h = absurd h
gate_alone s (command.Cancel o) h = absurd h
gate_alone s command.Run h = absurd h
gate_alone s command.Reshelve h = absurd h
gate_alone s (command.Issue k t) h = absurd h
gate_alone s (command.Return k) h = absurd h
gate_alone s (command.Permit t u until) h = absurd h

may_withhold_so : (s : State) (asked : Command) → MayBeDone s asked → may_withhold asked ≡ true
may_withhold_so s (command.Import source file) h = refl
may_withhold_so s (command.SetStatus u draft whole) h = refl
may_withhold_so s (command.SetClosure u until) h = refl
may_withhold_so s (command.Move u parent) h = refl
may_withhold_so s (command.Remove u) h = refl
may_withhold_so s (command.Revoke t u) h = refl
may_withhold_so s (command.OpenDay day) h = absurd h
may_withhold_so s (command.Register name until) h = absurd h
may_withhold_so s (command.Renew t until) h = absurd h
may_withhold_so s (command.TakeSeat t) h = absurd h
may_withhold_so s (command.LeaveSeat t) h = absurd h
may_withhold_so s (command.Order t k) h = absurd h
may_withhold_so s (command.Cancel o) h = absurd h
may_withhold_so s command.Run h = absurd h
may_withhold_so s command.Reshelve h = absurd h
may_withhold_so s (command.Issue k t) h = absurd h
may_withhold_so s (command.Return k) h = absurd h
may_withhold_so s (command.Permit t u until) h = absurd h

module _ (s : State) (asked : Command) (sound : IsSoundDesk s) (m : may_withhold asked ≡ true) where
  kept_lowest : (c : ℕ) → lowest_withheld (after s asked) ≡ Some c → IsLowestWithheld s (after s asked) c
  kept_lowest = lowest_would s (after s asked) (same_place s asked m) (same_orders s asked m) (still_known s asked m sound) sound

  -- what would be withheld is kept by the gate, if nothing lower is
  is_kept : (c : ℕ) → WouldBeWithheld s (after s asked) c → lowest_withheld (after s asked) ≡ None → ⊥
  is_kept c w e =
      let known = still_known s asked m sound c (out_known s c w.number sound.filed sound.orders w.out) in
      let boxes = (after s asked).catalogue.containers in
      let none = none_to (is_kept_from_holder (after s asked)) (length boxes) c (none_that (is_kept_from_holder (after s asked)) (numbers_to (length boxes)) e)
      (numbered_from_one boxes c known) (numbered_within boxes c known) in
      false≢true (sym none ∙ would_kept s (after s asked) (same_place s asked m) (same_orders s asked m) c w)

  lowest_kept : (c : ℕ) → IsLowestWithheld s (after s asked) c → lowest_withheld (after s asked) ≡ Some c
  lowest_kept c low = at (lowest_withheld (after s asked)) refl
    where
      at : (r : Option ℕ) → lowest_withheld (after s asked) ≡ r → r ≡ Some c
      at None e = absurd (is_kept c low.withheld e)
      at (Some d) e =
          let it = kept_lowest d e in
          let up = it.lowest c low.withheld in
          let down = low.lowest d it.withheld in
          let same : d ≡ c = omega (arith, up, down) in
          ap Some same

  none_kept : ((c : ℕ) → WouldBeWithheld s (after s asked) c → ⊥) → lowest_withheld (after s asked) ≡ None
  none_kept none = at (lowest_withheld (after s asked)) refl
    where
      at : (r : Option ℕ) → lowest_withheld (after s asked) ≡ r → r ≡ None
      at None e = refl
      at (Some d) e = absurd (none d (kept_lowest d e).withheld)

decided_by : (r q : Option Refusal) (s t : State) (d : Done) → r ≡ q → decide r s t d ≡ decide q s t d
decided_by r q s t d e = ap (λ x. decide x s t d) e

pub asks_for_readers_alone : (s : State) (asked : Command) → IsSoundDesk s → MayBeDone s asked
    → AsksForReadersAlone s asked
asks_for_readers_alone s asked g h =
    let m = may_withhold_so s asked h in
    record {
      refused = λ c low. decided_by (refusal_of s asked) (Some (WithReader c)) s (after s asked) (result_of s asked)
          (gate_alone s asked h ∙ ap (option_map WithReader) (lowest_kept s asked g m c low));
      done = λ none. decided_by (refusal_of s asked) None s (after s asked) (result_of s asked)
          (gate_alone s asked h ∙ ap (option_map WithReader) (none_kept s asked g m none));
    }

other_refusals : (s : State) (asked : Command) (c : ℕ) → may_withhold asked ≡ false
    → refusal_of s asked ≡ Some (WithReader c) → ⊥
other_refusals s (command.OpenDay day) c m e =
    told_by_none c (checks s (command.OpenDay day)) (unless_other _ refusal.DayNotLater c refl, (when_other _ refusal.StillIssued c refl, tt)) e
other_refusals s (command.Register name until) c m e =
    told_by_none c (checks s (command.Register name until)) (unless_other _ refusal.BadName c refl, (when_other _ refusal.Full c refl, tt)) e
other_refusals s (command.Renew t until) c m e =
    told_by_none c (checks s (command.Renew t until)) (unless_other _ refusal.UnknownTicket c refl, tt) e
other_refusals s (command.TakeSeat t) c m e =
    told_by_none c (checks s (command.TakeSeat t)) (unless_other _ refusal.UnknownTicket c refl, (when_other _ refusal.TicketExpired c refl, (when_other _ refusal.AlreadySeated c refl, (when_other _ refusal.NoSeatFree c refl, tt)))) e
other_refusals s (command.LeaveSeat t) c m e =
    told_by_none c (checks s (command.LeaveSeat t)) (unless_other _ refusal.UnknownTicket c refl, (unless_other _ refusal.NotSeated c refl, (when_other _ refusal.HoldsContainers c refl, tt))) e
other_refusals s (command.Order t k) c m e =
    told_by_none c (checks s (command.Order t k)) (unless_other _ refusal.UnknownTicket c refl, (when_other _ refusal.TicketExpired c refl, (unless_other _ refusal.NotAvailable c refl, (when_other _ refusal.AlreadyOrdered c refl, (when_other _ refusal.DailyLimit c refl, (when_other _ refusal.Full c refl, tt)))))) e
other_refusals s (command.Cancel o) c m e =
    told_by_none c (checks s (command.Cancel o)) (unless_other _ refusal.UnknownOrder c refl, (unless_other _ refusal.OrderNotWaiting c refl, tt)) e
other_refusals s command.Run c m e =
    told_by_none c (checks s command.Run) (when_other _ refusal.NothingToMove c refl, (when_other _ refusal.Full c refl, tt)) e
other_refusals s command.Reshelve c m e =
    told_by_none c (checks s command.Reshelve) (when_other _ refusal.NothingToMove c refl, tt) e
other_refusals s (command.Issue k t) c m e =
    told_by_none c (checks s (command.Issue k t)) (unless_other _ refusal.UnknownContainer c refl, (unless_other _ refusal.NotAtDesk c refl, (unless_other _ refusal.NotFirst c refl, (when_other _ refusal.TicketExpired c refl, (unless_other _ refusal.NotSeated c refl, (when_other _ refusal.HandsFull c refl, (unless_other _ refusal.NotAvailable c refl, tt))))))) e
other_refusals s (command.Return k) c m e =
    told_by_none c (checks s (command.Return k)) (unless_other _ refusal.UnknownContainer c refl, (unless_other _ refusal.NotIssued c refl, tt)) e
other_refusals s (command.Permit t u until) c m e =
    told_by_none c (checks s (command.Permit t u until)) (unless_other _ refusal.UnknownTicket c refl, (unless_other _ refusal.UnknownUnit c refl, (when_other _ refusal.Full c refl, tt))) e
other_refusals s (command.Import source file) c m e = absurd (false≢true (sym m))
other_refusals s (command.SetStatus u draft whole) c m e = absurd (false≢true (sym m))
other_refusals s (command.SetClosure u until) c m e = absurd (false≢true (sym m))
other_refusals s (command.Move u parent) c m e = absurd (false≢true (sym m))
other_refusals s (command.Remove u) c m e = absurd (false≢true (sym m))
other_refusals s (command.Revoke t u) c m e = absurd (false≢true (sym m))

pub asks_for_none : (s : State) (asked : Command) → may_withhold asked ≡ false → AsksForNone s asked
asks_for_none s asked m c e =
    other_refusals s asked c m (refused_so (refusal_of s asked) s (after s asked) (result_of s asked) (WithReader c) e)
