-- Units that are taken away, by the rules and in the tables.
use Rattle.std.proofs.Common.{◌≡◌, ℕ, ℤ, Bool, true, List, length, refl, sym, ap, subst, ◌∙◌, nat_eq}
use Rattle.std.specs.Prelude.{not}
use Rattle.sqlite.specs.State as store
use Rattle.isad_core.specs.Days.{is_day_number}
use Rattle.tree_core.specs.ChangeConditions.{MayCut}
use Rattle.desk_core.specs.DeskRows.{Desk, PermitRow}
use Rattle.catalogue_core.proofs.EachAfter.{all_cut}
use Rattle.catalogue_core.proofs.UnitsAfter.{each_there}
use Rattle.catalogue_store.specs.BranchRemoval.{HasNoBranch, tables_of_units}
use Rattle.desk_store.specs.Representation.{IsNumberOf, RepresentsDesk}
use Rattle.desk_store.specs.declared.container_orders.ContainerOrder.{ContainerOrder}
use Rattle.office_core.specs.declared.command.Command.TheVariants as command
use Rattle.office_core.specs.declared.done.Done.TheVariants as done
use Rattle.state_encoding.proofs.LegibleRows.{desk_legible}
use Rattle.refinement.proofs.PermitFrames.{desk_with_permits}
use Rattle.access.proofs.Gates.{enough_of}
use Rattle.access.proofs.OpenByPermits.{IsAlike, permitted_left}
use Rattle.catalogue_commands.proofs.Common.{AllByRecursion, AreAsked, AreEnough, CanBeJudged, Catalogue, Forest}
use Rattle.catalogue_commands.proofs.Common.{HasCleanDisk, HasLegibleTexts, IsChange, IsLegibleCatalogue, IsSomeDay}
use Rattle.catalogue_commands.proofs.Common.{IsSoundOffice, OfficeRow, Permit, Represents, State, Trees, Unit, Version}
use Rattle.catalogue_commands.proofs.Common.{all_filtered, all_so, branch, branch-each, cut, cut_good, distinct_ids}
use Rattle.catalogue_commands.proofs.Common.{each, filter, has_id, has_unit, is_named_near, is_permitted, issued_of}
use Rattle.catalogue_commands.proofs.Common.{judged_with, length-map, list_any, nodes, office_of, permit_rows, removed}
use Rattle.catalogue_commands.proofs.Common.{stays_permitted, still_open, tables}
use Rattle.catalogue_commands.proofs.PermitsLeft.{permits_left}

module _ (u : ℕ) where
  abbrev gone : State → PermitRow → Bool
  gone s row = not (list_any (nat_eq row.unit) (branch (nat_eq u) (each (λ (unit : Unit). unit.id) s.catalogue.forest)))

  rows_are : (s : State) → IsSoundOffice s → has_unit s.catalogue.forest u ≡ true
      → permit_rows (removed s u) ≡ filter (gone s) (permit_rows s)
  rows_are s sound there = permits_left s u (distinct_ids s.catalogue sound.sound.units) there sound.sound.permits

  legible_after : (s : State) → IsSoundOffice s
      → IsLegibleCatalogue (record s.catalogue { forest = cut (has_id u) s.catalogue.forest })
  legible_after s sound = record { units = all_cut HasLegibleTexts (has_id u) s.catalogue.forest sound.texts.catalogue.units; containers = sound.texts.catalogue.containers }

  judged_after : (s : State) → IsSoundOffice s → has_unit s.catalogue.forest u ≡ true → CanBeJudged (removed s u)
  judged_after s sound there =
      let base = judged_with s sound (cut (has_id u) s.catalogue.forest) (cut_good s.catalogue (has_id u) sound.sound.units)
      (all_cut (λ (unit : Unit). IsSomeDay unit.until) (has_id u) s.catalogue.forest sound.sound.days.closures) (legible_after s sound) in
      record {
        catalogue = base.catalogue;
        containers = base.containers;
        units = base.units;
        desk = λ version.
            let it = desk_legible version s sound in
            record {
              readers = it.readers;
              seats = it.seats;
              orders = it.orders;
              holdings = it.holdings;
              runs = it.runs;
              permits = subst (AllByRecursion (λ (p : PermitRow). is_day_number p.until ≡ true)) (sym (rows_are s sound there))
                  (all_filtered (λ (p : PermitRow). is_day_number p.until ≡ true) (gone s) (permit_rows s) it.permits);
            };
        permits = λ t none. ap (filter (λ (permit : Permit). has_unit (cut (has_id u) s.catalogue.forest) permit.unit)) (sound.sound.desk.permits.known t none);
        orders = base.orders;
      }

  pub removes : (version : Version) (loans : List ContainerOrder) (places : Trees → Forest ℕ → Type 0) (old new : store.State) (today : ℤ) (n : ℕ)
      → (HasCleanDisk new → (o : OfficeRow) (k : Catalogue) → Represents places version old.now o k → MayCut has_id u k.forest → HasNoBranch places version u o k old.now new.now)
      → (HasCleanDisk new → (f : Forest ℕ) → places old.now.trees f → n ≡ length (branch (nat_eq u) f))
      → IsChange places version (λ s. (today ≡ s.day) × (has_unit s.catalogue.forest u ≡ true) × AreAsked u s (issued_of (tables version s).desk) loans) (command.Remove u) today (done.Remove n) old new
  removes version loans places old new today n takes count = record {
    represents = λ clean s sound so it.
        let left = takes clean (office_of s) s.catalogue it.catalogue so.1 in
        let d : Desk = (tables version s).desk in
        let desk = desk_with_permits old.now new.now tables_of_units left.only d (filter (gone s) (permit_rows s)) refl (left.permits (permit_rows s) it.desk.permits)
        (all_filtered (λ (p : PermitRow). IsNumberOf d.readers p.ticket) (gone s) (permit_rows s) it.desk.permit_tickets) it.desk in
        record {
          catalogue = left.represents;
          desk = subst (λ (permits : List PermitRow). RepresentsDesk new.now.trees (record d { permits = permits })) (sym (rows_are s sound so.1)) desk;
          texts = record { country = it.texts.country; repo = it.texts.repo; catalogue = legible_after s sound; readers = it.texts.readers };
        };
    judged = λ s sound so. judged_after s sound so.1;
    day = λ s so. so.0;
    last = λ s so. (let there = so.1 in rw there refl);
    answers = λ clean s so it.
        let f = s.catalogue.forest in
        ap done.Remove (count clean (each (λ (unit : Unit). unit.id) f) it.catalogue.shown
        ∙ ap length (branch-each (nat_eq u) (λ (unit : Unit). unit.id) f) ∙ length-map (branch (has_id u) f) (λ (unit : Unit). unit.id));
  }

  abbrev left : State → ℕ → List Permit
  left s t = filter (λ permit. has_unit (cut (has_id u) s.catalogue.forest) permit.unit) (s.permits t)

  -- of what is out only what is near the unit can be withheld by its removal
  pub removes_near : (version : Version) (loans : List ContainerOrder) (s : State) → IsSoundOffice s
      → has_unit s.catalogue.forest u ≡ true → AreAsked u s (issued_of (tables version s).desk) loans
      → AreEnough loans (removed s u)
  removes_near version loans s sound there asked =
      let rest = cut (has_id u) s.catalogue.forest in
      enough_of version (removed s u) (judged_after s sound there) (is_named_near u s)
      (λ c out. still_open s sound rest (left s) c (λ t box is was.
      let permitted = is_permitted s.day (s.permits t) in
      let permitted_now = is_permitted s.day (left s t) in
      sym (stays_permitted s sound u c out box is permitted permitted_now
      (all_so (λ (unit : Unit). has_unit rest unit.id ≡ true) (IsAlike permitted permitted_now) (λ unit there. sym (permitted_left (has_unit rest) s.day (s.permits t) unit.id there)) (nodes rest)
      (each_there (nodes rest) (nodes rest) (λ v h. h)))) ∙ was))
      loans asked
