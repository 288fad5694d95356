-- Units that become drafts or are published, by the rules and in the tables.
use Rattle.std.proofs.Common.{◌≡◌, ℕ, ℤ, Bool, true, false, cond, List, [], ◌∷◌, length, Option, None, inl, inr, refl, sym, ap}
use Rattle.std.proofs.Common.{◌∙◌, nat_eq}
use Rattle.sqlite.specs.State as store
use Rattle.tree_core.proofs.Lists.{any_agree, eqb_comm}
use Rattle.tree_core.proofs.SpanShifts.{tree_apart}
use Rattle.visibility.specs.declared.marks.Mark.{Mark}
use Rattle.catalogue_core.proofs.ImportedAgain.{all_each}
use Rattle.catalogue_core.proofs.KeptUnits.{status_keeps}
use Rattle.catalogue_core.proofs.LegibleMerges.{each_legible}
use Rattle.catalogue_core.proofs.UnitsAfter.{each_there}
use Rattle.catalogue_core.specs.Statuses.{chosen, chosen_units, is_chosen, with_status}
use Rattle.office_tables.specs.Schema as tables
use Rattle.office_core.specs.declared.command.Command.TheVariants as command
use Rattle.office_core.specs.declared.done.Done.TheVariants as done
use Rattle.access.proofs.OpenedUnits.{OnlyOpens, passes}
use Rattle.catalogue_commands.proofs.Common.{AllByRecursion, CanBeJudged, Catalogue, Forest, HasCleanDisk}
use Rattle.catalogue_commands.proofs.Common.{HasDistinctIds, IsChange, IsLegibleCatalogue, IsSomeDay, IsSoundOffice}
use Rattle.catalogue_commands.proofs.Common.{OfficeRow, OnlyTouches, OthersAreOpen, Represents, State, TellOf, Trees, Unit}
use Rattle.catalogue_commands.proofs.Common.{Version, after, all_so, branch, cases_Bool, cut, cut-each, distinct_ids}
use Rattle.catalogue_commands.proofs.Common.{each, each_good, false≢true, gate, has, has-each, has_id, has_unit}
use Rattle.catalogue_commands.proofs.Common.{is_unit_closed, judged_with, list_any, nodes, none_left, office_of}
use Rattle.catalogue_commands.proofs.Common.{others_open, shown_with, stays_changed, ⊤, ◌||◌}

abbrev id_of : Unit → ℕ
id_of unit = unit.id

-- each unit is there, by its number
all_here : (f : Forest Unit) → AllByRecursion (λ (unit : Unit). has (nat_eq unit.id) (each id_of f) ≡ true) (nodes f)
all_here f = all_so (λ (unit : Unit). has_unit f unit.id ≡ true) (λ (unit : Unit). has (nat_eq unit.id) (each id_of f) ≡ true) (λ unit there. has-each (nat_eq unit.id) id_of f ∙ there) (nodes f) (each_there (nodes f) (nodes f) (λ v h. h))

module _ (u : ℕ) (draft whole : Bool) where
  abbrev change : List ℕ → Unit → Unit
  change ids unit = cond (is_chosen ids unit) (record unit { draft = draft }) unit

  status_day : (b : Bool) (unit : Unit) → IsSomeDay unit.until
      → (let new : Unit = cond b (record unit { draft = draft }) unit in IsSomeDay new.until)
  status_day true unit old = old
  status_day false unit old = old

  legible_after : (s : State) → IsSoundOffice s
      → IsLegibleCatalogue (record s.catalogue { forest = each (change (chosen whole u s.catalogue)) s.catalogue.forest })
  legible_after s sound = each_legible s.catalogue (change (chosen whole u s.catalogue)) (status_keeps (chosen whole u s.catalogue) draft) sound.texts.catalogue

  judged_after : (s : State) → IsSoundOffice s → CanBeJudged (after s (command.SetStatus u draft whole))
  judged_after s sound =
      let ids = chosen whole u s.catalogue in
      let P : Unit → Type 0 = λ (unit : Unit). IsSomeDay unit.until in
      judged_with s sound (each (change ids) s.catalogue.forest) (each_good s.catalogue (change ids) (status_keeps ids draft) sound.sound.units)
      (all_each P (change ids) s.catalogue.forest (all_so P (λ (unit : Unit). P (change ids unit)) (λ unit old. status_day (is_chosen ids unit) unit old) (nodes s.catalogue.forest) sound.sound.days.closures))
      (legible_after s sound)

  pub sets : (places : Trees → Forest ℕ → Type 0) (version : Version) (given : Option (List Mark)) (old new : store.State) (today : ℤ) (n : ℕ)
      → (HasCleanDisk new → (o : OfficeRow) (k : Catalogue) → Represents places version old.now o k → ⊤ → Represents places version new.now o (with_status (chosen whole u k) draft k))
      → (HasCleanDisk new → OnlyTouches (tables.unit.tree ∷ []) old.now new.now)
      → (HasCleanDisk new → (f : Forest ℕ) → places old.now.trees f → n ≡ length (chosen_units whole u f))
      → IsChange places version (λ s. (today ≡ s.day) × (has_unit s.catalogue.forest u ≡ true) × TellOf s.catalogue given) (command.SetStatus u draft whole) today (done.SetStatus n) old new
  sets places version given old new today n updates only count = record {
    represents = λ clean s sound so it.
        shown_with s (each (change (chosen whole u s.catalogue)) s.catalogue.forest) places version old.now new.now (tables.unit.tree ∷ []) refl (only clean) it (legible_after s sound)
        (updates clean (office_of s) s.catalogue it.catalogue tt);
    judged = λ s sound so. judged_after s sound;
    day = λ s so. so.0;
    last = λ s so. (let there = so.1 in rw there refl);
    answers = λ clean s so it. ap done.SetStatus (count clean (each (λ (unit : Unit). unit.id) s.catalogue.forest) it.catalogue.shown);
  }

  same_id : (b : Bool) (unit : Unit)
      → (let new : Unit = cond b (record unit { draft = draft }) unit in new.id) ≡ unit.id
  same_id true unit = refl
  same_id false unit = refl

  same_boxes : (b : Bool) (unit : Unit)
      → (let new : Unit = cond b (record unit { draft = draft }) unit in new.values.boxes) ≡ unit.values.boxes
  same_boxes true unit = refl
  same_boxes false unit = refl

  -- what is left beside the branch is not chosen
  not_chosen : (b : Bool) (f : Forest Unit) → HasDistinctIds (each id_of f) → has_unit f u ≡ true
      → AllByRecursion (λ (unit : Unit). is_chosen (chosen_units b u (each id_of f)) unit ≡ false) (nodes (cut (has_id u) f))
  not_chosen false f once there = all_so (λ (unit : Unit). has_id u unit ≡ false) (λ (unit : Unit). is_chosen (u ∷ []) unit ≡ false) (λ unit other. ap (λ b. b || false) other) (nodes (cut (has_id u) f)) (none_left u f)
  not_chosen true f once there =
      all_so (λ (unit : Unit). has (nat_eq unit.id) (each id_of (cut (has_id u) f)) ≡ true) (λ (unit : Unit). is_chosen (branch (nat_eq u) (each id_of f)) unit ≡ false) apart (nodes (cut (has_id u) f))
      (all_here (cut (has_id u) f))
    where
      apart : (unit : Unit) → has (nat_eq unit.id) (each id_of (cut (has_id u) f)) ≡ true
          → is_chosen (branch (nat_eq u) (each id_of f)) unit ≡ false
      apart unit left = elim (cases_Bool (list_any (nat_eq unit.id) (branch (nat_eq u) (each id_of f)))) [
        | inl taken ↦
            let gone = tree_apart u unit.id (each id_of f) once (has-each (nat_eq u) id_of f ∙ there) taken in
            absurd (false≢true (sym gone ∙ ap (has (nat_eq unit.id)) (sym (cut-each (nat_eq u) id_of f)) ∙ left))
        | inr other ↦ any_agree (λ id. has_id id unit) (nat_eq unit.id) (branch (nat_eq u) (each id_of f)) (λ id. eqb_comm id unit.id) ∙ other
      ]

  -- of what is out only what is near the unit can be withheld by it
  pub sets_near : (s : State) → IsSoundOffice s → has_unit s.catalogue.forest u ≡ true
      → OthersAreOpen u (after s (command.SetStatus u draft whole))
  sets_near s sound there =
      let f = s.catalogue.forest in
      let ids = chosen whole u s.catalogue in
      let judged = judged_after s sound in
      let once = distinct_ids s.catalogue sound.sound.units in
      others_open s sound (each (change ids) f) u judged
      (stays_changed (change ids) u f (λ unit. same_id (is_chosen ids unit) unit) (λ unit. same_boxes (is_chosen ids unit) unit) once judged.units
      (all_so (λ (unit : Unit). is_chosen ids unit ≡ false) (λ (unit : Unit). change ids unit ≡ unit) (λ unit other. ap (λ b. cond b (record unit { draft = draft }) unit) other) (nodes (cut (has_id u) f)) (not_chosen whole f once there)))

-- what is published withholds nothing
published_opens : (ids : List ℕ) (day : ℤ) (u : ℕ) (whole : Bool) → OnlyOpens day (change u false whole ids)
published_opens ids day u whole = record {
  ids = λ unit. same_id u false whole (is_chosen ids unit) unit;
  boxes = λ unit. same_boxes u false whole (is_chosen ids unit) unit;
  published = λ unit is. published (is_chosen ids unit) unit is;
  unclosed = λ unit is. unclosed (is_chosen ids unit) unit is;
}
  where
    published : (b : Bool) (unit : Unit) → unit.draft ≡ false
        → (let new : Unit = cond b (record unit { draft = false }) unit in new.draft) ≡ false
    published true unit is = refl
    published false unit is = is

    unclosed : (b : Bool) (unit : Unit) → is_unit_closed day unit ≡ false
        → is_unit_closed day (cond b (record unit { draft = false }) unit) ≡ false
    unclosed true unit is = is
    unclosed false unit is = is

pub publishes : (u : ℕ) (whole : Bool) (s : State) → IsSoundOffice s
    → gate (after s (command.SetStatus u false whole)) ≡ None
publishes u whole s sound =
    passes s sound (change u false whole (chosen whole u s.catalogue)) (published_opens (chosen whole u s.catalogue) s.day u whole)
