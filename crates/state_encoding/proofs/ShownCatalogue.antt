-- The rows of a sound catalogue have their keys and no cause.
use Rattle.std.proofs.Common.{[], ◌∷◌, refl}
use Rattle.state_encoding.proofs.Common.{HasNoCatalogueCause, OfficeRows, State, Version, and_from}
use Rattle.state_encoding.proofs.Common.{are_good_container_rows, are_good_places, are_good_units, containers_are_bad}
use Rattle.state_encoding.proofs.Common.{elements_are_bad, encoding, is_good_element, is_good_housing, is_good_office}
use Rattle.state_encoding.proofs.Common.{list_all, not_from_true, office_is_bad, places_are_bad, tables, unit_numbers}
use Rattle.state_encoding.proofs.Common.{units_are_bad}
use Rattle.state_encoding.proofs.Judging.{hold_none}
use Rattle.state_encoding.proofs.ShownUnits.{office_shown, AreShownUnits, units_shown}
use Rattle.state_encoding.proofs.ShownElements.{elements_shown, AreShownContainers, containers_shown, AreShownHousings}
use Rattle.state_encoding.proofs.ShownElements.{housings_shown}

pub catalogue_is_shown : (version : Version) (s : State) → HasNoCatalogueCause version s
catalogue_is_shown version s g =
    let t : OfficeRows = tables version s in
    let u : AreShownUnits version s = units_shown version s g in
    let e = elements_shown version s g u.told in
    let c : AreShownContainers version s = containers_shown version s g in
    let h : AreShownHousings version s = housings_shown version s g u.told in (
      record {
        units = u.numbers;
        names = u.names;
        places = u.placed;
        elements = e.1;
        containers = c.numbers;
        boxes = c.boxes;
        housings = h.places;
        housed_once = h.once;
      },
      hold_none (office_is_bad version t) (places_are_bad (encoding version) t.catalogue ∷ units_are_bad t.office.next_unit t.catalogue ∷ elements_are_bad t.catalogue ∷ containers_are_bad t.catalogue ∷ []) (not_from_true (is_good_office version t.office) (office_shown version s g))
          (hold_none (places_are_bad (encoding version) t.catalogue) (units_are_bad t.office.next_unit t.catalogue ∷ elements_are_bad t.catalogue ∷ containers_are_bad t.catalogue ∷ []) (not_from_true (are_good_places (encoding version) t.catalogue.places) u.places)
          (hold_none (units_are_bad t.office.next_unit t.catalogue) (elements_are_bad t.catalogue ∷ containers_are_bad t.catalogue ∷ []) (not_from_true (are_good_units t.office.next_unit t.catalogue) u.units)
          (hold_none (elements_are_bad t.catalogue) (containers_are_bad t.catalogue ∷ []) (not_from_true (list_all (is_good_element (unit_numbers t.catalogue)) t.catalogue.elements) e.0)
          (hold_none (containers_are_bad t.catalogue) [] (not_from_true _ (and_from (are_good_container_rows t.catalogue.containers) (list_all (is_good_housing t.catalogue) t.catalogue.housings) c.good h.good)) refl)))),
    )
