-- A sound state stays sound.
use Rattle.std.proofs.Common.{◌≡◌, ℕ, true, not, List, [], ◌∷◌, Option, Some, None, refl, sym, ap, ◌∙◌, subst}
use Rattle.std.specs.Prelude.{ℤ}
use Rattle.desk_core.specs.declared.reader.Place.{Place}
use Rattle.catalogue_core.proofs.GoodChanges.{KeepsUnits, each_good, cut_good, CanMove, move_same, move_good}
use Rattle.office_core.specs.declared.command.Command.TheVariants as command
use Rattle.office_core.proofs.Common.{AllByRecursion, AreGoodContainers, AreGoodSettings, AreGoodUnits}
use Rattle.office_core.proofs.Common.{ArePermitsOfUnits, Command, Desk, HasGoodCatalogue, IsSound, NamesDays, Out}
use Rattle.office_core.proofs.Common.{Permit, Shelf, State, Unit, after, all_filtered, all_so, cancelled, checks}
use Rattle.office_core.proofs.Common.{chosen, closure_keeps, container_of, cut, depth_after, each, each_units, granted}
use Rattle.office_core.proofs.Common.{has_id, has_unit, issued, list_any-IsPermutation, ltb-false, most_deep, move_last}
use Rattle.office_core.proofs.Common.{nat_eq, nodes, removed, returned, revoked, same_containers, state_after}
use Rattle.office_core.proofs.Common.{status_keeps, update_at}
use Rattle.office_core.proofs.Steps.{Passes, run_keeps_if}
use Rattle.office_core.proofs.Extends.{extends_after}
use Rattle.office_core.proofs.Days.{days_after}
use Rattle.office_core.proofs.Readers.{all_granted, all_passing}
use Rattle.office_core.proofs.Words.{put_each}
use Rattle.office_core.proofs.SoundDesk.{desk_after}
use Rattle.office_core.proofs.ImportedUnits.{import_keeps_units}
use Rattle.office_core.proofs.PassedChecks.{passed_move, passed_permit}

permits_there : (s t : State) → t.permits ≡ s.permits
    → ((v : ℕ) → has_unit s.catalogue.forest v ≡ true → has_unit t.catalogue.forest v ≡ true) → ArePermitsOfUnits s
    → ArePermitsOfUnits t
permits_there s t e f g n =
    all_so (λ permit. has_unit s.catalogue.forest permit.unit ≡ true) (λ permit. has_unit t.catalogue.forest permit.unit ≡ true) (λ permit. f permit.unit) (t.permits n)
    (subst (λ permits. AllByRecursion (λ permit. has_unit s.catalogue.forest permit.unit ≡ true) (permits n)) (sym e) (g n))

good_same : (s t : State) → t.catalogue ≡ s.catalogue → t.permits ≡ s.permits → HasGoodCatalogue s → HasGoodCatalogue t
good_same s t e p g =
    record {
      units = subst AreGoodUnits (sym e) g.units;
      containers = subst AreGoodContainers (sym e) g.containers;
      permits = permits_there s t p (λ v. subst (λ f. has_unit s.catalogue.forest v ≡ true → has_unit f v ≡ true) (sym (ap (λ c. c.forest) e)) (λ h. h)) g.permits;
    }

cancelled_good : (s : State) (o : ℕ) (k : Option ℕ) → HasGoodCatalogue s → HasGoodCatalogue (cancelled s o k)
cancelled_good s o None g = g
cancelled_good s o (Some c) g = good_same s (cancelled s o (Some c)) refl refl g

issued_good : (s : State) (c : ℕ) (q : List ℕ) → HasGoodCatalogue s → HasGoodCatalogue (issued s c q)
issued_good s c [] g = g
issued_good s c (o ∷ os) g = good_same s (issued s c (o ∷ os)) refl refl g

returned_good : (s : State) (c : ℕ) (p : Place) → HasGoodCatalogue s → HasGoodCatalogue (returned s c p)
returned_good s c Shelf g = g
returned_good s c Desk g = g
returned_good s c (Out o) g = good_same s (returned s c (Out o)) refl refl g

changed_good : (s : State) (g : Unit → Unit) → KeepsUnits g → HasGoodCatalogue s
    → HasGoodCatalogue (record s { catalogue = record s.catalogue { forest = each g s.catalogue.forest } })
changed_good s g k h =
    record {
      units = each_good s.catalogue g k h.units;
      containers = same_containers s.catalogue (each g s.catalogue.forest) h.containers;
      permits = permits_there s (record s { catalogue = record s.catalogue { forest = each g s.catalogue.forest } }) refl (λ v e. each_units g s.catalogue.forest v k.id ∙ e) h.permits;
    }

removed_good : (s : State) (u : ℕ) → HasGoodCatalogue s → HasGoodCatalogue (removed s u)
removed_good s u h =
    record {
      units = cut_good s.catalogue (has_id u) h.units;
      containers = same_containers s.catalogue (cut (has_id u) s.catalogue.forest) h.containers;
      permits = λ t. all_passing (λ permit. has_unit (cut (has_id u) s.catalogue.forest) permit.unit) (s.permits t);
    }

can_move : (s : State) (u : ℕ) (p : Option ℕ) → Passes (checks s (command.Move u p)) → CanMove s.catalogue u p
can_move s u p ok =
    record {
      there = (passed_move s u p ok).known;
      place = (passed_move s u p ok).place;
      apart = (passed_move s u p ok).apart;
      deep = ltb-false most_deep (depth_after u p s.catalogue.forest) (passed_move s u p ok).shallow;
    }

moved_good : (s : State) (u : ℕ) (p : Option ℕ) → CanMove s.catalogue u p → HasGoodCatalogue s
    → HasGoodCatalogue (after s (command.Move u p))
moved_good s u p m h =
    let f = move_last has_id u p s.catalogue.forest in
    record {
      units = move_good s.catalogue u p h.units m;
      containers = same_containers s.catalogue f h.containers;
      permits = permits_there s (record s { catalogue = record s.catalogue { forest = f } }) refl (λ v e. sym (list_any-IsPermutation (has_id v) (nodes s.catalogue.forest) (nodes f) (move_same s.catalogue u p h.units m)) ∙ e) h.permits;
    }

-- ---- permits

permits_good : (s : State) (permits : ℕ → List Permit) → ArePermitsOfUnits (record s { permits = permits })
    → HasGoodCatalogue s → HasGoodCatalogue (record s { permits = permits })
permits_good s permits p g =
    record {
      units = g.units;
      containers = g.containers;
      permits = p;
    }

granted_good : (s : State) (t u : ℕ) (until : ℤ) → has_unit s.catalogue.forest u ≡ true → HasGoodCatalogue s
    → HasGoodCatalogue (after s (command.Permit t u until))
granted_good s t u until there g =
    permits_good s (update_at s.permits t (granted u until (s.permits t)))
    (put_each (λ v ps. AllByRecursion (λ permit. has_unit s.catalogue.forest permit.unit ≡ true) ps) s.permits t (granted u until (s.permits t)) (all_granted (λ v. has_unit s.catalogue.forest v ≡ true) u until (s.permits t) there (g.permits t)) (λ v ne. g.permits v)) g

revoked_good : (s : State) (t u : ℕ) → HasGoodCatalogue s → HasGoodCatalogue (after s (command.Revoke t u))
revoked_good s t u g =
    permits_good s (update_at s.permits t (revoked u (s.permits t)))
    (put_each (λ v ps. AllByRecursion (λ permit. has_unit s.catalogue.forest permit.unit ≡ true) ps) s.permits t (revoked u (s.permits t)) (all_filtered (λ permit. has_unit s.catalogue.forest permit.unit ≡ true) (λ permit. not (nat_eq permit.unit u)) (s.permits t) (g.permits t)) (λ v ne. g.permits v)) g

-- ---- each command

its_catalogue : (s : State) → IsSound s → HasGoodCatalogue s
its_catalogue s g = record { units = g.units; containers = g.containers; permits = g.permits }

catalogue_after : (s : State) (asked : Command) → IsSound s → Passes (checks s asked) → HasGoodCatalogue (after s asked)
catalogue_after s (command.OpenDay day) g ok = good_same s (after s (command.OpenDay day)) refl refl (its_catalogue s g)
catalogue_after s (command.Register name until) g ok =
    good_same s (after s (command.Register name until)) refl refl (its_catalogue s g)
catalogue_after s (command.Renew t until) g ok =
    good_same s (after s (command.Renew t until)) refl refl (its_catalogue s g)
catalogue_after s (command.TakeSeat t) g ok = good_same s (after s (command.TakeSeat t)) refl refl (its_catalogue s g)
catalogue_after s (command.LeaveSeat t) g ok = good_same s (after s (command.LeaveSeat t)) refl refl (its_catalogue s g)
catalogue_after s (command.Order t c) g ok = good_same s (after s (command.Order t c)) refl refl (its_catalogue s g)
catalogue_after s command.Run g ok = good_same s (after s command.Run) refl refl (its_catalogue s g)
catalogue_after s command.Reshelve g ok = good_same s (after s command.Reshelve) refl refl (its_catalogue s g)
catalogue_after s (command.Import source file) g ok = import_keeps_units s source file g ok
catalogue_after s (command.SetStatus u draft whole) g ok =
    changed_good s _ (status_keeps (chosen whole u s.catalogue) draft) (its_catalogue s g)
catalogue_after s (command.SetClosure u until) g ok = changed_good s _ (closure_keeps until u) (its_catalogue s g)
catalogue_after s (command.Move u parent) g ok = moved_good s u parent (can_move s u parent ok) (its_catalogue s g)
catalogue_after s (command.Remove u) g ok = removed_good s u (its_catalogue s g)
catalogue_after s (command.Cancel o) g ok = cancelled_good s o (container_of s o) (its_catalogue s g)
catalogue_after s (command.Issue c t) g ok = issued_good s c (s.queue c) (its_catalogue s g)
catalogue_after s (command.Return c) g ok = returned_good s c (s.place c) (its_catalogue s g)
catalogue_after s (command.Permit t u until) g ok =
    granted_good s t u until (passed_permit s t u until ok).unit (its_catalogue s g)
catalogue_after s (command.Revoke t u) g ok = revoked_good s t u (its_catalogue s g)

pub sound_after : (s : State) (asked : Command) → IsSound s → NamesDays asked → Passes (checks s asked)
    → IsSound (after s asked)
sound_after s asked g d ok =
    let k = catalogue_after s asked g ok in
    record {
      settings = subst AreGoodSettings (sym (extends_after s asked g.desk.boxes ok).settings) g.settings;
      days = days_after s asked g.days d ok;
      units = k.units;
      containers = k.containers;
      permits = k.permits;
      desk = desk_after s asked g.desk ok;
    }

pub always_sound : (s : State) (later : List Command) → AllByRecursion NamesDays later → IsSound s
    → IsSound (state_after s later)
always_sound = run_keeps_if IsSound NamesDays sound_after
