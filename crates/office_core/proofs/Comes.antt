-- Units that come have new numbers.
use Rattle.std.proofs.Common.{◌≡◌, ℕ, true, cond, List, [], ◌∷◌, Option, Some, None, Ok, Err, refl, sym, ◌∙◌, subst}
use Rattle.std.proofs.Common.{inl}
use Rattle.desk_core.specs.declared.reader.Place.{Place}
use Rattle.office_core.specs.declared.command.Command.TheVariants as command
use Rattle.office_core.proofs.Common.{Bytes, ComesNew, Command, Desk, OldOrNew, Out, Shelf, State, Taken, Unit, after}
use Rattle.office_core.proofs.Common.{cancelled, chosen, closure_id, container_of, each_units, has_cut, has_id}
use Rattle.office_core.proofs.Common.{has_moved, has_unit, intake_of, is_chosen, issued, merged_forest, merged_units}
use Rattle.office_core.proofs.Common.{new_rows, nodes, numbered_from, of_number, returned, status_id, step, taken_is}
use Rattle.office_core.proofs.Common.{with_import}
use Rattle.office_core.proofs.Steps.{step_at}

imported_units : (s : State) (source file : Bytes) (t : Taken) → intake_of s source file ≡ t → ComesNew s (with_import s t)
imported_units s source file (Err fault) e u h = inl h
imported_units s source file (Ok intake) e u h =
    let x = (taken_is s.catalogue source file intake e).is in
    subst (λ c. has_unit c.forest u ≡ true → OldOrNew s.catalogue.forest s.catalogue.next c.next u) (sym x)
    (λ k. of_number (OldOrNew s.catalogue.forest s.catalogue.next _) (nodes (merged_forest source intake.file.rows (numbered_from s.catalogue.forest source s.catalogue.next [] (new_rows s.catalogue source intake.file.rows)) s.catalogue.forest)) u (merged_units s.catalogue source intake.file.rows) k) h

-- each command

cancelled_units : (s : State) (o : ℕ) (k : Option ℕ) → ComesNew s (cancelled s o k)
cancelled_units s o None u h = inl h
cancelled_units s o (Some c) u h = inl h

issued_units : (s : State) (c : ℕ) (q : List ℕ) → ComesNew s (issued s c q)
issued_units s c [] u h = inl h
issued_units s c (o ∷ os) u h = inl h

returned_units : (s : State) (c : ℕ) (p : Place) → ComesNew s (returned s c p)
returned_units s c Shelf u h = inl h
returned_units s c Desk u h = inl h
returned_units s c (Out o) u h = inl h

pub new_after : (s : State) (asked : Command) → ComesNew s (after s asked)
new_after s (command.Import source file) = imported_units s source file (intake_of s source file) refl
new_after s (command.SetStatus u draft whole) =
    λ v h. inl (sym (each_units (λ (unit : Unit). cond (is_chosen (chosen whole u s.catalogue) unit) (record unit { draft = draft }) unit) s.catalogue.forest v (λ unit. status_id (is_chosen (chosen whole u s.catalogue) unit) draft unit)) ∙ h)
new_after s (command.SetClosure u until) =
    λ v h. inl (sym (each_units (λ (unit : Unit). cond (has_id u unit) (record unit { until = until }) unit) s.catalogue.forest v (λ unit. closure_id (has_id u unit) until unit)) ∙ h)
new_after s (command.Move u parent) = λ v h. inl (has_moved (has_id v) u parent s.catalogue.forest h)
new_after s (command.Remove u) = λ v h. inl (has_cut (has_id v) (has_id u) s.catalogue.forest h)
new_after s (command.Cancel o) = cancelled_units s o (container_of s o)
new_after s (command.Issue c t) = issued_units s c (s.queue c)
new_after s (command.Return c) = returned_units s c (s.place c)
new_after s _ = λ v h. inl h

pub comes_new : (s : State) (asked : Command) → ComesNew s (step s asked).0
comes_new s asked = step_at (λ t reply. ComesNew s t) s asked (λ why u h. inl h) (λ ok. new_after s asked)
