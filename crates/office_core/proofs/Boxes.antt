-- The containers stay distinct.
use Rattle.std.proofs.Common.{◌≡◌, ℕ, List, [], ◌∷◌, Option, Some, None, Ok, Err, refl, sym, ap, subst}
use Rattle.desk_core.specs.declared.reader.Place.{Place}
use Rattle.office_core.specs.declared.command.Command.TheVariants as command
use Rattle.office_core.proofs.Common.{Bytes, Command, Desk, Out, Shelf, State, Taken, after, cancelled, container_of}
use Rattle.office_core.proofs.Common.{distinct, distinct_again, intake_of, issued, returned, step, taken_is}
use Rattle.office_core.proofs.Common.{with_import}
use Rattle.office_core.proofs.Steps.{step_at}

imported_boxes : (s : State) (source file : Bytes) (t : Taken) → intake_of s source file ≡ t
    → distinct s.catalogue.containers ≡ s.catalogue.containers
    → distinct (with_import s t).catalogue.containers ≡ (with_import s t).catalogue.containers
imported_boxes s source file (Err fault) e b = b
imported_boxes s source file (Ok intake) e b =
    let x = ap (λ c. c.containers) (taken_is s.catalogue source file intake e).is in
    subst (λ bs. distinct bs ≡ bs) (sym x) (distinct_again _)

cancelled_boxes : (s : State) (o : ℕ) (k : Option ℕ) → (cancelled s o k).catalogue.containers ≡ s.catalogue.containers
cancelled_boxes s o None = refl
cancelled_boxes s o (Some c) = refl

issued_boxes : (s : State) (c : ℕ) (q : List ℕ) → (issued s c q).catalogue.containers ≡ s.catalogue.containers
issued_boxes s c [] = refl
issued_boxes s c (o ∷ os) = refl

returned_boxes : (s : State) (c : ℕ) (p : Place) → (returned s c p).catalogue.containers ≡ s.catalogue.containers
returned_boxes s c Shelf = refl
returned_boxes s c Desk = refl
returned_boxes s c (Out o) = refl

pub apart_after : (s : State) (asked : Command) → distinct s.catalogue.containers ≡ s.catalogue.containers
    → distinct (after s asked).catalogue.containers ≡ (after s asked).catalogue.containers
apart_after s (command.Import source file) b = imported_boxes s source file (intake_of s source file) refl b
apart_after s (command.Cancel o) b = subst (λ bs. distinct bs ≡ bs) (sym (cancelled_boxes s o (container_of s o))) b
apart_after s (command.Issue c t) b = subst (λ bs. distinct bs ≡ bs) (sym (issued_boxes s c (s.queue c))) b
apart_after s (command.Return c) b = subst (λ bs. distinct bs ≡ bs) (sym (returned_boxes s c (s.place c))) b
apart_after s _ b = b

pub step_apart : (s : State) (asked : Command) → distinct s.catalogue.containers ≡ s.catalogue.containers
    → distinct (step s asked).0.catalogue.containers ≡ (step s asked).0.catalogue.containers
step_apart s asked b = step_at (λ t reply. distinct t.catalogue.containers ≡ t.catalogue.containers) s asked (λ why. b) (λ ok. apart_after s asked b)
