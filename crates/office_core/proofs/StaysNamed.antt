-- What a number names, it goes on to name.
use Rattle.std.proofs.Common.{◌≡◌, ℕ, zero, suc, ◌+◌, ◌<◌, ◌≤◌, Bool, true, false, ◌&&◌, List, [], ◌∷◌, ◌++◌, Option}
use Rattle.std.proofs.Common.{Some, None, Ok, Err, refl, sym, ap, ◌∙◌, subst, inl, inr, arith}
use Rattle.std.specs.Prelude.{ℤ, cond, length, map}
use Rattle.desk_core.specs.declared.reader.Place.{Place}
use Rattle.catalogue_core.proofs.GoodChanges.{KeepsUnits}
use Rattle.office_core.specs.declared.command.Command.TheVariants as command
use Rattle.office_core.proofs.Common.{AllByRecursion, Bytes, Catalogue, Command, Desk, Forest, IsThatUnit, NamesStay}
use Rattle.office_core.proofs.Common.{New, Out, Reader, Row, Shelf, State, StaysNamed, Taken, Unit, after, all_cut}
use Rattle.office_core.proofs.Common.{all_each, all_merged, all_moved, all_so, and_parts, boxes_after, bytes_eq}
use Rattle.office_core.proofs.Common.{cancelled, chosen, closure_keeps, container_of, distinct, each, eq-eqb, eqb-true}
use Rattle.office_core.proofs.Common.{false≢true, find, has, has_id, has_legacy, ids_between, intake_of, is_from}
use Rattle.office_core.proofs.Common.{is_there, issued, list_any, map-append, merged_forest, names, new_boxes, new_rows}
use Rattle.office_core.proofs.Common.{new_unit, next_after, nodes, nth, numbered_from, one_text, option_map, or_cases}
use Rattle.office_core.proofs.Common.{or_left, or_right, renewed, returned, revised, same_text, state_after}
use Rattle.office_core.proofs.Common.{status_keeps, step, taken_is, unwrap_or, with_import}
use Rattle.office_core.proofs.Boxes.{step_apart}
use Rattle.office_core.proofs.Steps.{step_at}

-- ---- lists

kept_behind : {X : Type 0} (xs ys : List X) (n : ℕ) (x : X) → nth xs n ≡ Some x → nth (xs ++ ys) n ≡ Some x
kept_behind xs ys zero x e = absurd (cc)
kept_behind [] ys (suc n) x e = absurd (cc)
kept_behind (y ∷ xs) ys (suc zero) x e = e
kept_behind (y ∷ xs) ys (suc (suc n)) x e = kept_behind xs ys (suc n) x e

abbrev name : Reader → Bytes
name reader = reader.name

names_renewed : (until : ℤ) (rs : List Reader) (t : ℕ) → map name (renewed until rs t) ≡ map name rs
names_renewed until rs zero = refl
names_renewed until [] (suc t) = refl
names_renewed until (r ∷ rs) (suc zero) = refl
names_renewed until (r ∷ rs) (suc (suc t)) = ap (λ l. r.name ∷ l) (names_renewed until rs (suc t))

names_more : (rs : List Reader) (new : Reader) → NamesStay (map name rs) (map name (rs ++ new ∷ []))
names_more rs new n x h =
    subst (λ l. nth l n ≡ Some x) (sym (map-append name rs (new ∷ []))) (kept_behind (map name rs) (new.name ∷ []) n x h)

-- ---- units

abbrev is_unit : Unit → Unit → Bool
is_unit unit other = has_id unit.id other && is_from unit.source unit.legacy other

itself : (unit : Unit) → is_unit unit unit ≡ true
itself unit = rw (eq-eqb unit.id unit.id refl, same_text unit.source, same_text unit.legacy) refl

-- units that are in the list, told one by one
each_itself : (us all : List Unit) → ((p : Unit → Bool) → list_any p us ≡ true → list_any p all ≡ true)
    → AllByRecursion (λ unit. list_any (is_unit unit) all ≡ true) us
each_itself [] all f = tt
each_itself (u ∷ us) all f =
    (f (is_unit u) (or_left (is_unit u u) (list_any (is_unit u) us) (itself u)), each_itself us all (λ p h. f p (or_right (p u) (list_any p us) h)))

there_already : (s : State)
    → AllByRecursion (λ unit. is_there s.catalogue.forest unit ≡ true) (nodes s.catalogue.forest)
there_already s = each_itself (nodes s.catalogue.forest) (nodes s.catalogue.forest) (λ p h. h)

units_stay : (s : State) → AllByRecursion (IsThatUnit s) (nodes s.catalogue.forest)
units_stay s = all_so (λ unit. is_there s.catalogue.forest unit ≡ true) (IsThatUnit s) (λ unit h l. h) (nodes s.catalogue.forest) (there_already s)

-- a unit that was there, of which number, source and number there are kept
kept_there : (f : Forest Unit) (old new : Unit) → new.id ≡ old.id → new.source ≡ old.source → new.legacy ≡ old.legacy
    → is_there f old ≡ true → is_there f new ≡ true
kept_there f old new i s l h =
    subst (λ n. has (λ (other : Unit). has_id n other && is_from new.source new.legacy other) f ≡ true) (sym i)
    (subst (λ t. has (λ (other : Unit). has_id old.id other && is_from t new.legacy other) f ≡ true) (sym s)
    (subst (λ t. has (λ (other : Unit). has_id old.id other && is_from old.source t other) f ≡ true) (sym l) h))

each_stay : (s : State) (g : Unit → Unit) → KeepsUnits g
    → AllByRecursion (IsThatUnit s) (nodes (each g s.catalogue.forest))
each_stay s g k =
    all_each (IsThatUnit s) g s.catalogue.forest
    (all_so (λ unit. is_there s.catalogue.forest unit ≡ true) (λ unit. IsThatUnit s (g unit)) (λ unit h l. kept_there s.catalogue.forest unit (g unit) (k.id unit) (k.source unit) (k.legacy unit) h) (nodes s.catalogue.forest) (there_already s))

revised_keeps : (source : Bytes) (rows : List Row) (u : Unit)
    → ((revised source rows u).id ≡ u.id) × ((revised source rows u).source ≡ u.source) × ((revised source rows u).legacy ≡ u.legacy)
revised_keeps source rows u = at (bytes_eq u.source source)
  where
    at : (b : Bool) → let r = cond b (record u { values = unwrap_or (option_map (λ row. row.values) (find (has_legacy u.legacy) rows)) u.values }) u in (r.id ≡ u.id) × (r.source ≡ u.source) × (r.legacy ≡ u.legacy)
    at true = (refl, refl, refl)
    at false = (refl, refl, refl)

merged_stay : (s : State) (source : Bytes) (rows : List Row)
    → AllByRecursion (IsThatUnit s) (nodes (merged_forest source rows (numbered_from s.catalogue.forest source s.catalogue.next [] (new_rows s.catalogue source rows)) s.catalogue.forest))
merged_stay s source rows =
    let new : List New =
    numbered_from s.catalogue.forest source s.catalogue.next [] (new_rows s.catalogue source rows) in
    all_merged (IsThatUnit s) source rows new s.catalogue.forest
    (all_so (λ x. (s.catalogue.next ≤ x.id) × (x.id < s.catalogue.next + length new)) (λ x. IsThatUnit s (new_unit source x)) (λ x h l. absurd (let a = h.0 in omega (arith, a, l))) new (ids_between s.catalogue.forest source s.catalogue.next [] (new_rows s.catalogue source rows)))
    (all_so (λ unit. is_there s.catalogue.forest unit ≡ true) (λ unit. IsThatUnit s (revised source rows unit)) (λ unit h l. let k = revised_keeps source rows unit in kept_there s.catalogue.forest unit (revised source rows unit) k.0 k.1 k.2 h) (nodes s.catalogue.forest) (there_already s))

-- ---- one command

same_named : (s t : State) → t.readers ≡ s.readers → t.orders ≡ s.orders → t.runs ≡ s.runs → t.catalogue ≡ s.catalogue
    → StaysNamed s t
same_named s t er eo en ec =
    record {
      containers = λ c box. subst (λ (k : Catalogue). nth s.catalogue.containers c ≡ Some box → nth k.containers c ≡ Some box) (sym ec) (λ h. h);
      orders = λ o order. subst (λ os. nth s.orders o ≡ Some order → nth os o ≡ Some order) (sym eo) (λ h. h);
      runs = λ n run. subst (λ rs. nth s.runs n ≡ Some run → nth rs n ≡ Some run) (sym en) (λ h. h);
      readers = λ r name. subst (λ rs. nth (names s) r ≡ Some name → nth (map (λ (reader : Reader). reader.name) rs) r ≡ Some name) (sym er) (λ h. h);
      units = subst (λ (k : Catalogue). AllByRecursion (IsThatUnit s) (nodes k.forest)) (sym ec) (units_stay s);
      next = subst (λ (k : Catalogue). s.catalogue.next ≤ k.next) (sym ec) (omega arith);
    }

pub itself_named : (s : State) → StaysNamed s s
itself_named s = same_named s s refl refl refl refl

forest_named : (s : State) (f : Forest Unit) → AllByRecursion (IsThatUnit s) (nodes f)
    → StaysNamed s (record s { catalogue = record s.catalogue { forest = f } })
forest_named s f u = record { containers = λ c box h. h; orders = λ o order h. h; runs = λ n run h. h; readers = λ r name h. h; units = u; next = omega arith }

cancelled_named : (s : State) (o : ℕ) (k : Option ℕ) → StaysNamed s (cancelled s o k)
cancelled_named s o None = itself_named s
cancelled_named s o (Some c) = same_named s (cancelled s o (Some c)) refl refl refl refl

issued_named : (s : State) (c : ℕ) (q : List ℕ) → StaysNamed s (issued s c q)
issued_named s c [] = itself_named s
issued_named s c (o ∷ os) = same_named s (issued s c (o ∷ os)) refl refl refl refl

returned_named : (s : State) (c : ℕ) (p : Place) → StaysNamed s (returned s c p)
returned_named s c Shelf = itself_named s
returned_named s c Desk = itself_named s
returned_named s c (Out o) = same_named s (returned s c (Out o)) refl refl refl refl

imported_named : (s : State) (source file : Bytes) (t : Taken) → intake_of s source file ≡ t
    → distinct s.catalogue.containers ≡ s.catalogue.containers → StaysNamed s (with_import s t)
imported_named s source file (Err fault) e b = itself_named s
imported_named s source file (Ok intake) e b =
    let boxes = boxes_after s.catalogue source file intake e b in
    record {
      containers = λ c box h. subst (λ bs. nth bs c ≡ Some box) (sym boxes) (kept_behind s.catalogue.containers (new_boxes s.catalogue.containers intake.file.rows) c box h);
      orders = λ o order h. h;
      runs = λ n run h. h;
      readers = λ r name h. h;
      units = subst (λ (k : Catalogue). AllByRecursion (IsThatUnit s) (nodes k.forest)) (sym (taken_is s.catalogue source file intake e).is) (merged_stay s source intake.file.rows);
      next = next_after s.catalogue source file intake e;
    }

named_after : (s : State) (asked : Command) → distinct s.catalogue.containers ≡ s.catalogue.containers
    → StaysNamed s (after s asked)
named_after s (command.Import source file) b = imported_named s source file (intake_of s source file) refl b
named_after s (command.SetStatus u draft whole) b =
    forest_named s _ (each_stay s _ (status_keeps (chosen whole u s.catalogue) draft))
named_after s (command.SetClosure u until) b = forest_named s _ (each_stay s _ (closure_keeps until u))
named_after s (command.Move u parent) b =
    forest_named s _ (all_moved (IsThatUnit s) u parent s.catalogue.forest (units_stay s))
named_after s (command.Remove u) b =
    record {
      containers = λ c box h. h;
      orders = λ o order h. h;
      runs = λ n run h. h;
      readers = λ r name h. h;
      units = all_cut (IsThatUnit s) (has_id u) s.catalogue.forest (units_stay s);
      next = omega arith;
    }
named_after s (command.Register name until) b =
    record {
      containers = λ c box h. h;
      orders = λ o order h. h;
      runs = λ n run h. h;
      readers = names_more s.readers (record { name = name; until = until });
      units = units_stay s;
      next = omega arith;
    }
named_after s (command.Renew t until) b =
    record {
      containers = λ c box h. h;
      orders = λ o order h. h;
      runs = λ n run h. h;
      readers = λ r name h. ap (λ l. nth l r) (names_renewed until s.readers t) ∙ h;
      units = units_stay s;
      next = omega arith;
    }
named_after s (command.Order t c) b =
    record {
      containers = λ c box h. h;
      orders = λ o order h. kept_behind s.orders _ o order h;
      runs = λ n run h. h;
      readers = λ r name h. h;
      units = units_stay s;
      next = omega arith;
    }
named_after s command.Run b =
    record {
      containers = λ c box h. h;
      orders = λ o order h. h;
      runs = λ n run h. kept_behind s.runs _ n run h;
      readers = λ r name h. h;
      units = units_stay s;
      next = omega arith;
    }
named_after s (command.Cancel o) b = cancelled_named s o (container_of s o)
named_after s (command.Issue c t) b = issued_named s c (s.queue c)
named_after s (command.Return c) b = returned_named s c (s.place c)
named_after s (command.OpenDay day) b = same_named s (after s (command.OpenDay day)) refl refl refl refl
named_after s (command.TakeSeat t) b = same_named s (after s (command.TakeSeat t)) refl refl refl refl
named_after s (command.LeaveSeat t) b = same_named s (after s (command.LeaveSeat t)) refl refl refl refl
named_after s command.Reshelve b = same_named s (after s command.Reshelve) refl refl refl refl
named_after s (command.Permit t u until) b = same_named s (after s (command.Permit t u until)) refl refl refl refl
named_after s (command.Revoke t u) b = same_named s (after s (command.Revoke t u)) refl refl refl refl

step_named : (s : State) (asked : Command) → distinct s.catalogue.containers ≡ s.catalogue.containers
    → StaysNamed s (step s asked).0
step_named s asked b = step_at (λ t reply. StaysNamed s t) s asked (λ why. itself_named s) (λ ok. named_after s asked b)

-- ---- one command after another

-- a unit of the last state is that of the first
was_there : (s t : State) (unit : Unit) → s.catalogue.next ≤ t.catalogue.next → unit.id < s.catalogue.next
    → (us : List Unit) → AllByRecursion (IsThatUnit s) us → list_any (is_unit unit) us ≡ true
    → is_there s.catalogue.forest unit ≡ true
was_there s t unit n l [] a h = absurd (false≢true h)
was_there s t unit n l (u ∷ us) a h =
    elim (or_cases (is_unit unit u) (list_any (is_unit unit) us) h) [
      | inl e ↦
          let x = and_parts (has_id unit.id u) (is_from unit.source unit.legacy u) e in
          let y = and_parts (bytes_eq u.source unit.source) (bytes_eq u.legacy unit.legacy) x.1 in
          let i = eqb-true unit.id u.id x.0 in
          kept_there s.catalogue.forest u unit i (sym (one_text u.source unit.source y.0)) (sym (one_text u.legacy unit.legacy y.1)) (a.0 (omega (arith, i, l)))
      | inr r ↦ was_there s t unit n l us a.1 r
    ]

pub named_further : (s t v : State) → StaysNamed s t → StaysNamed t v → StaysNamed s v
named_further s t v x y =
    let n = x.next in
    let m = y.next in
    record {
      containers = λ c box h. y.containers c box (x.containers c box h);
      orders = λ o order h. y.orders o order (x.orders o order h);
      runs = λ k run h. y.runs k run (x.runs k run h);
      readers = λ r name h. y.readers r name (x.readers r name h);
      units = all_so (IsThatUnit t) (IsThatUnit s) (λ unit h l. was_there s t unit n l (nodes t.catalogue.forest) x.units (h (omega (arith, n, l)))) (nodes v.catalogue.forest) y.units;
      next = omega (arith, n, m);
    }

pub stays_named : (s : State) (later : List Command) → distinct s.catalogue.containers ≡ s.catalogue.containers
    → StaysNamed s (state_after s later)
stays_named s [] b = itself_named s
stays_named s (asked ∷ later) b =
    named_further s (step s asked).0 (state_after s (asked ∷ later)) (step_named s asked b) (stays_named (step s asked).0 later (step_apart s asked b))
