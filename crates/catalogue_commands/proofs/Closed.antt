-- A unit that is closed, or whose closure ends, by the rules and in the tables.
use Rattle.std.proofs.Common.{◌≡◌, ℕ, ℤ, Bool, true, false, cond, List, [], ◌∷◌, Option, None, refl, ap}
use Rattle.sqlite.specs.State as store
use Rattle.visibility.specs.declared.marks.Mark.{Mark}
use Rattle.catalogue_core.proofs.ImportedAgain.{all_each}
use Rattle.catalogue_core.proofs.KeptUnits.{closure_keeps}
use Rattle.catalogue_core.proofs.LegibleMerges.{each_legible}
use Rattle.catalogue_core.specs.Statuses.{with_closure}
use Rattle.office_tables.specs.Schema as tables
use Rattle.office_core.specs.declared.command.Command.TheVariants as command
use Rattle.office_core.specs.declared.done.Done.TheVariants as done
use Rattle.access.proofs.OpenedUnits.{OnlyOpens, passes}
use Rattle.catalogue_commands.proofs.Common.{CanBeJudged, Catalogue, Forest, HasCleanDisk, IsChange, IsLegibleCatalogue}
use Rattle.catalogue_commands.proofs.Common.{IsSomeDay, IsSoundOffice, OfficeRow, OnlyTouches, OthersAreOpen}
use Rattle.catalogue_commands.proofs.Common.{Represents, State, TellOf, Trees, Unit, Version, after, all_so, cut, distinct_ids}
use Rattle.catalogue_commands.proofs.Common.{each, each_good, gate, has_id, has_unit, is_later, is_unit_closed}
use Rattle.catalogue_commands.proofs.Common.{judged_with, nodes, none_left, office_of, others_open, shown_with}
use Rattle.catalogue_commands.proofs.Common.{stays_changed, ⊤}

module _ (u : ℕ) (until : Option ℤ) where
  abbrev change : Unit → Unit
  change unit = cond (has_id u unit) (record unit { until = until }) unit

  closure_day : (b : Bool) (unit : Unit) → IsSomeDay until → IsSomeDay unit.until
      → (let new : Unit = cond b (record unit { until = until }) unit in IsSomeDay new.until)
  closure_day true unit new old = new
  closure_day false unit new old = old

  legible_after : (s : State) → IsSoundOffice s
      → IsLegibleCatalogue (record s.catalogue { forest = each change s.catalogue.forest })
  legible_after s sound = each_legible s.catalogue change (closure_keeps until u) sound.texts.catalogue

  judged_after : (s : State) → IsSoundOffice s → IsSomeDay until → CanBeJudged (after s (command.SetClosure u until))
  judged_after s sound day =
      let P : Unit → Type 0 = λ (unit : Unit). IsSomeDay unit.until in
      judged_with s sound (each change s.catalogue.forest) (each_good s.catalogue change (closure_keeps until u) sound.sound.units)
      (all_each P change s.catalogue.forest (all_so P (λ (unit : Unit). P (change unit)) (λ unit old. closure_day (has_id u unit) unit day old) (nodes s.catalogue.forest) sound.sound.days.closures))
      (legible_after s sound)

  pub closes : (places : Trees → Forest ℕ → Type 0) (version : Version) (given : Option (List Mark)) (old new : store.State) (today : ℤ)
      → IsSomeDay until
      → (HasCleanDisk new → (o : OfficeRow) (k : Catalogue) → Represents places version old.now o k → ⊤ → Represents places version new.now o (with_closure u until k))
      → (HasCleanDisk new → OnlyTouches (tables.unit.tree ∷ []) old.now new.now)
      → IsChange places version (λ s. (today ≡ s.day) × (has_unit s.catalogue.forest u ≡ true) × TellOf s.catalogue given) (command.SetClosure u until) today (done.SetClosure u) old new
  closes places version given old new today day updates only = record {
    represents = λ clean s sound so it.
        shown_with s (each change s.catalogue.forest) places version old.now new.now (tables.unit.tree ∷ []) refl (only clean) it (legible_after s sound)
        (updates clean (office_of s) s.catalogue it.catalogue tt);
    judged = λ s sound so. judged_after s sound day;
    day = λ s so. so.0;
    last = λ s so. (let there = so.1 in rw there refl);
    answers = λ clean s so it. refl;
  }

  same_id : (b : Bool) (unit : Unit)
      → (let new : Unit = cond b (record unit { until = until }) unit in new.id) ≡ unit.id
  same_id true unit = refl
  same_id false unit = refl

  same_boxes : (b : Bool) (unit : Unit)
      → (let new : Unit = cond b (record unit { until = until }) unit in new.values.boxes) ≡ unit.values.boxes
  same_boxes true unit = refl
  same_boxes false unit = refl

  -- of what is out only what is near the unit can be withheld by it
  pub closes_near : (s : State) → IsSoundOffice s → IsSomeDay until
      → OthersAreOpen u (after s (command.SetClosure u until))
  closes_near s sound day =
      let f = s.catalogue.forest in
      let judged = judged_after s sound day in
      others_open s sound (each change f) u judged
      (stays_changed change u f (λ unit. same_id (has_id u unit) unit) (λ unit. same_boxes (has_id u unit) unit) (distinct_ids s.catalogue sound.sound.units) judged.units
      (all_so (λ (unit : Unit). has_id u unit ≡ false) (λ (unit : Unit). change unit ≡ unit) (λ unit other. ap (λ b. cond b (record unit { until = until }) unit) other) (nodes (cut (has_id u) f)) (none_left u f)))

-- a closure that does not last beyond the day withholds nothing
ended_opens : (u : ℕ) (until : Option ℤ) (day : ℤ) → is_later day until ≡ false → OnlyOpens day (change u until)
ended_opens u until day past = record {
  ids = λ unit. same_id u until (has_id u unit) unit;
  boxes = λ unit. same_boxes u until (has_id u unit) unit;
  published = λ unit is. published (has_id u unit) unit is;
  unclosed = λ unit is. unclosed (has_id u unit) unit is;
}
  where
    published : (b : Bool) (unit : Unit) → unit.draft ≡ false
        → (let new : Unit = cond b (record unit { until = until }) unit in new.draft) ≡ false
    published true unit is = is
    published false unit is = is

    unclosed : (b : Bool) (unit : Unit) → is_unit_closed day unit ≡ false
        → is_unit_closed day (cond b (record unit { until = until }) unit) ≡ false
    unclosed true unit is = past
    unclosed false unit is = is

pub ends : (u : ℕ) (until : Option ℤ) (s : State) → IsSoundOffice s → is_later s.day until ≡ false
    → gate (after s (command.SetClosure u until)) ≡ None
ends u until s sound past = passes s sound (change u until) (ended_opens u until s.day past)
