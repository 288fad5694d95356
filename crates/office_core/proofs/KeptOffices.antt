-- A sound office is one that a store can keep.
use Rattle.std.proofs.Common.{◌≡◌, ℕ, ◌<◌, ◌^◌, true, arith}
use Rattle.std.specs.Prelude.{nat_le}
use Rattle.isad_core.proofs.DayLemmas.{is_day_number-true}
use Rattle.catalogue_core.proofs.KeptCatalogues.{kept, knows, all_places}
use Rattle.catalogue_core.specs.Bounds.{IsKept}
use Rattle.catalogue_core.specs.Descriptions.{KnowsItsContainers, HasAllPlaces}
use Rattle.office_core.specs.SoundOffice.{IsSoundOffice, HasLegibleSettings}
use Rattle.office_core.proofs.Common.{State, and_parts, is_between, leb-true, most_daily, most_hands, most_run_size}
use Rattle.office_core.proofs.Common.{most_seats}

pub office_kept : (s : State) → IsSoundOffice s → IsKept s.catalogue
office_kept s g = kept s.catalogue g.sound.units g.sound.containers g.sound.days.closures g.texts.catalogue

pub office_knows : (s : State) → IsSoundOffice s → KnowsItsContainers s.catalogue
office_knows s g = knows s.catalogue g.sound.units g.sound.desk.boxes

pub office_places : (s : State) → IsSoundOffice s → HasAllPlaces s.catalogue
office_places s g = all_places s.catalogue g.sound.units

-- a number in its range fits its type
fits : (low high n : ℕ) → high < 2 ^ 32 → is_between low high n ≡ true → n < 2 ^ 32
fits low high n small h =
    let up = leb-true n high (and_parts (nat_le low n) (nat_le n high) h).1 in
    omega (arith, up, small)

pub office_settings : (s : State) → IsSoundOffice s → HasLegibleSettings s
office_settings s g = record {
  country = g.texts.country;
  repo = g.texts.repo;
  seats = fits 1 most_seats s.settings.seats (omega arith) g.sound.settings.seats;
  daily = fits 1 most_daily s.settings.daily (omega arith) g.sound.settings.daily;
  hands = fits 1 most_hands s.settings.hands (omega arith) g.sound.settings.hands;
  run_size = fits 1 most_run_size s.settings.run_size (omega arith) g.sound.settings.run_size;
  day = is_day_number-true s.day g.sound.days.today;
}
