-- Tables whose catalogue stands in another order say the same state, and have a cause no sooner.
use Rattle.std.proofs.Common.{◌≡◌, Bool, true, false, List, [], ◌∷◌, None, refl, sym, ap, ◌∙◌, subst, nat_eq, map}
use Rattle.state_encoding.proofs.Common.{CatalogueRows, ContainerRow, IsSound, MeetsCatalogueKeys, OfficeRows, State}
use Rattle.state_encoding.proofs.Common.{UnitRow, Version, and_from, are_good_container_rows, are_good_places}
use Rattle.state_encoding.proofs.Common.{are_good_units, around, box_from, catalogue_tests, cause, containers}
use Rattle.state_encoding.proofs.Common.{day_is_broken, desk_tests, encoding, first_held, fun_ext, holdings_are_bad}
use Rattle.state_encoding.proofs.Common.{is_good_element, is_good_housing, is_good_office, is_held_against_rules}
use Rattle.state_encoding.proofs.Common.{list_all, list_any, not_from_true, orders_are_bad, readers_are_bad}
use Rattle.state_encoding.proofs.Common.{runs_are_bad, state_of, tables, unit_numbers}
use Rattle.state_encoding.proofs.DeskPasses.{desk_passes}
use Rattle.state_encoding.proofs.JudgedWhole.{sound_catalogue, tables_are_shown}
use Rattle.state_encoding.proofs.Judging.{none_behind, none_in_both}
use Rattle.state_encoding.proofs.ShownElements.{elements_shown, containers_shown, housings_shown}
use Rattle.state_encoding.proofs.ShownUnits.{office_shown, units_shown}
use Rattle.state_encoding.proofs.shown_cells.OtherOrders.{IsReordered, any_too, units_too, elements_too, housings_too}
use Rattle.state_encoding.proofs.shown_cells.OtherOrders.{forest_too}

pub five_none : {a b c d e : Bool} → a ≡ false → b ≡ false → c ≡ false → d ≡ false → e ≡ false
    → first_held (a ∷ b ∷ c ∷ d ∷ e ∷ []) ≡ None
five_none p q r s t = rw (p, q, r, s, t) refl

module _ (version : Version) (s : State) (g : IsSound s) (c : CatalogueRows) (r : IsReordered (tables version s).catalogue c) (placed : are_good_places (encoding version) c.places ≡ true) where
  abbrev t : OfficeRows
  t = tables version s

  abbrev other : OfficeRows
  other = record t { catalogue = c }

  keys : MeetsCatalogueKeys t.catalogue
  keys = (tables_are_shown version s (desk_passes version s) g).0.catalogue

  pub state_too : state_of other ≡ state_of t
  state_too =
      ap (λ f. record (state_of other) { catalogue = record { forest = f; containers = map box_from c.containers; next = t.office.next_unit } })
      (forest_too t.catalogue c r keys.units keys.elements keys.housings)
      ∙ ap (λ (l : List ContainerRow). record (state_of t) { catalogue = record (state_of t).catalogue { containers = map box_from l } }) r.containers

  around_too : around other ≡ around t
  around_too =
      ap (λ f. record (around other) { is_unit = f }) (fun_ext (λ u. any_too (λ (row : UnitRow). nat_eq row.id u) t.catalogue.units c.units r.units))
      ∙ ap (λ (l : List ContainerRow). record (around t) { is_container = λ n. list_any (λ (row : ContainerRow). nat_eq row.id n) l }) r.containers

  desk_too : desk_tests other ≡ desk_tests t
  desk_too =
      ap (λ a. readers_are_bad a t.desk ∷ orders_are_bad a t.desk ∷ holdings_are_bad a t.desk ∷ runs_are_bad a t.desk ∷ day_is_broken other ∷ []) around_too
      ∙ ap (λ x. readers_are_bad (around t) t.desk ∷ orders_are_bad (around t) t.desk ∷ holdings_are_bad (around t) t.desk ∷ runs_are_bad (around t) t.desk
      ∷ list_any (is_held_against_rules x) (containers x) ∷ []) state_too

  catalogue_too : first_held (catalogue_tests version other) ≡ None
  catalogue_too =
      let sound = sound_catalogue s g in
      let units = units_shown version s sound in
      let boxes = containers_shown version s sound in
      five_none (not_from_true (is_good_office version t.office) (office_shown version s sound)) (not_from_true (are_good_places (encoding version) c.places) placed)
      (not_from_true (are_good_units t.office.next_unit c) (units_too t.catalogue c r t.office.next_unit units.units))
      (not_from_true (list_all (is_good_element (unit_numbers c)) c.elements) (elements_too t.catalogue c r (elements_shown version s sound units.told).0))
      (not_from_true _ (and_from (are_good_container_rows c.containers) (list_all (is_good_housing c) c.housings)
      (ap are_good_container_rows r.containers ∙ boxes.good) (housings_too t.catalogue c r (housings_shown version s sound units.told).good)))

  pub no_cause_too : cause version other ≡ None
  no_cause_too =
      none_in_both (catalogue_tests version other) (desk_tests other) catalogue_too
      (subst (λ tests. first_held tests ≡ None) (sym desk_too) (none_behind (catalogue_tests version t) (desk_tests t) (tables_are_shown version s (desk_passes version s) g).1))
