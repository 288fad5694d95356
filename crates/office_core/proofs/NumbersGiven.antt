-- What numbers are given to.
use Rattle.std.proofs.Common.{◌≡◌, ℕ, ◌+◌, ◌<◌, ◌≤◌, true, List, [], ◌∷◌, ◌++◌, length, Option, Some, None, Ok, Err}
use Rattle.std.proofs.Common.{refl, sym, ◌∙◌, subst, inl, inr, arith, map}
use Rattle.desk_core.specs.declared.reader.Place.{Place}
use Rattle.office_core.specs.declared.command.Command.TheVariants as command
use Rattle.office_core.proofs.Common.{AreNumberedFrom, Bytes, Catalogue, Command, Desk, EachIsUnits, IsSound}
use Rattle.office_core.proofs.Common.{NamesWhatCame, New, Out, Refusal, Row, Shelf, State, Taken, Unit, after, all_so}
use Rattle.office_core.proofs.Common.{cancelled, cases_eq, container_of, eq-eqb, has_id, has_unit, intake_of, issued}
use Rattle.office_core.proofs.Common.{list_any, list_any-IsPermutation, list_any-append, merged_forest, merged_nodes}
use Rattle.office_core.proofs.Common.{nat_eq, new_rows, new_unit, nodes, numbered_are, numbered_from, or_left, or_right}
use Rattle.office_core.proofs.Common.{result_of, returned, revised, step, taken_is, with_import}
use Rattle.office_core.proofs.Steps.{step_at}
use Rattle.office_core.proofs.Words.{numbered-push_last}

-- ---- what the reply tells

refused_names : (s t : State) (asked : Command) (why : Refusal) → NamesWhatCame s t asked (Err why)
refused_names s t (command.Register name until) why = tt
refused_names s t (command.Order ticket c) why = tt
refused_names s t command.Run why = tt
refused_names s t _ why = tt

told_names : (s : State) (asked : Command) → NamesWhatCame s (after s asked) asked (Ok (result_of s asked))
told_names s (command.Register name until) = numbered-push_last s.readers _
told_names s (command.Order ticket c) = numbered-push_last s.orders _
told_names s command.Run = numbered-push_last s.runs _
told_names s _ = tt

pub names_what_came : (s : State) (asked : Command) → NamesWhatCame s (step s asked).0 asked (step s asked).1
names_what_came s asked =
    step_at (λ t reply. NamesWhatCame s t asked reply) s asked (λ why. refused_names s s asked why) (λ ok. told_names s asked)

-- ---- the numbers that units get

none_new : (s t : State) → t.catalogue.next ≡ s.catalogue.next → EachIsUnits s t
none_new s t e u l h = absurd (omega (arith, e, l, h))

-- one of the new units has it
has_new : (source : Bytes) (n : ℕ) (new : List New) (u : ℕ) → AreNumberedFrom n new → n ≤ u → u < n + length new
    → list_any (has_id u) (map (new_unit source) new) ≡ true
has_new source n [] u a l h = absurd (omega (arith, l, h))
has_new source n (x ∷ new) u a l h =
    elim (cases_eq u n) [
      | inl e ↦ or_left (nat_eq u x.id) (list_any (has_id u) (map (new_unit source) new)) (eq-eqb u x.id (e ∙ sym a.0))
      | inr d ↦ or_right (nat_eq u x.id) (list_any (has_id u) (map (new_unit source) new)) (has_new source (n + 1) new u a.1 (omega (arith, l, d)) (omega (arith, h)))
    ]

merged_has : (s : State) (source : Bytes) (rows : List Row) → IsSound s → let new = numbered_from s.catalogue.forest source s.catalogue.next [] (new_rows s.catalogue source rows) in (u : ℕ) → s.catalogue.next ≤ u → u < s.catalogue.next + length new → has_unit (merged_forest source rows new s.catalogue.forest) u ≡ true
merged_has s source rows g u l h =
    let news = new_rows s.catalogue source rows in
    let new : List New = numbered_from s.catalogue.forest source s.catalogue.next [] news in
    let old : List Unit = map (revised source rows) (nodes s.catalogue.forest) in
    let p = merged_nodes source rows s.catalogue.next news s.catalogue.forest g.units.ids (all_so (λ (x : Unit). (1 ≤ x.id) × (x.id < s.catalogue.next)) (λ x. x.id < s.catalogue.next) (λ x k. k.1) (nodes s.catalogue.forest) g.units.given) in
    list_any-IsPermutation (has_id u) (nodes (merged_forest source rows new s.catalogue.forest)) (old ++ map (new_unit source) new) p
    ∙ (list_any-append (has_id u) old (map (new_unit source) new)
    ∙ or_right (list_any (has_id u) old) (list_any (has_id u) (map (new_unit source) new)) (has_new source s.catalogue.next new u (numbered_are s.catalogue.forest source s.catalogue.next [] news) l h))

imported_each : (s : State) (source file : Bytes) (t : Taken) → intake_of s source file ≡ t → IsSound s
    → EachIsUnits s (with_import s t)
imported_each s source file (Err fault) e g = none_new s s refl
imported_each s source file (Ok intake) e g =
    subst (λ (c : Catalogue). (u : ℕ) → s.catalogue.next ≤ u → u < c.next → has_unit c.forest u ≡ true) (sym (taken_is s.catalogue source file intake e).is) (merged_has s source intake.file.rows g)

cancelled_none : (s : State) (o : ℕ) (k : Option ℕ) → (cancelled s o k).catalogue.next ≡ s.catalogue.next
cancelled_none s o None = refl
cancelled_none s o (Some c) = refl

issued_none : (s : State) (c : ℕ) (q : List ℕ) → (issued s c q).catalogue.next ≡ s.catalogue.next
issued_none s c [] = refl
issued_none s c (o ∷ os) = refl

returned_none : (s : State) (c : ℕ) (p : Place) → (returned s c p).catalogue.next ≡ s.catalogue.next
returned_none s c Shelf = refl
returned_none s c Desk = refl
returned_none s c (Out o) = refl

each_after : (s : State) (asked : Command) → IsSound s → EachIsUnits s (after s asked)
each_after s (command.Import source file) g = imported_each s source file (intake_of s source file) refl g
each_after s (command.Cancel o) g = none_new s (after s (command.Cancel o)) (cancelled_none s o (container_of s o))
each_after s (command.Issue c t) g = none_new s (after s (command.Issue c t)) (issued_none s c (s.queue c))
each_after s (command.Return c) g = none_new s (after s (command.Return c)) (returned_none s c (s.place c))
each_after s asked g = λ u l h. absurd (omega (arith, l, h))

pub each_is_units : (s : State) (asked : Command) → IsSound s → EachIsUnits s (step s asked).0
each_is_units s asked g =
    step_at (λ t reply. EachIsUnits s t) s asked (λ why. none_new s s refl) (λ ok. each_after s asked g)
