-- The tables of a new office show it.
use Rattle.std.proofs.Common.{◌≡◌, ℕ, List, sym, ap, subst}
use Rattle.desk_core.specs.DeskRows.{SeatRow}
use Rattle.desk_store.specs.Representation.{RepresentsDesk}
use Rattle.state_encoding.specs.OfficeRows.{tables}
use Rattle.refinement.proofs.EmptySeats.{none_seated}
use Rattle.office.specs.InitialSettings.{Founding, IsGood, founded}
use Rattle.office.proofs.Common.{Database, Forest, IsSoundOffice, RepresentsNew, RepresentsState, Trees, Version}
use Rattle.office.proofs.Common.{new_desk, office_of, starts_sound_office}

pub founded_sound : (f : Founding) → IsGood f → IsSoundOffice (founded f)
founded_sound f good = starts_sound_office f.settings f.day good.settings good.day

desk_is : (version : Version) (f : Founding) → new_desk ≡ (tables version (founded f)).desk
desk_is version f = ap (λ (seats : List SeatRow). record new_desk { seats = seats }) (sym (none_seated 1 f.settings.seats))

pub shows_founded : (places : Trees → Forest ℕ → Type 0) (version : Version) (db : Database) (f : Founding) → IsGood f
    → RepresentsNew places version db (office_of (founded f)) → RepresentsState places version db (founded f)
shows_founded places version db f good it = record {
  catalogue = it.catalogue;
  desk = subst (RepresentsDesk db.trees) (desk_is version f) it.desk;
  texts = (founded_sound f good).texts;
}
