-- A day that begins, in the tables.
use Rattle.std.proofs.Common.{◌≡◌, ℕ, true, false, List, [], ◌∷◌, Some, None, Ok, refl, sym, ap, subst}
use Rattle.std.specs.Prelude.{ℤ}
use Rattle.office_tables.specs.Schema as schema
use Rattle.desk_store.specs.OfficeDay.{House, RepresentsBoth, opened_house}
use Rattle.desk_store.specs.Seats.{all_free}
use Rattle.office_core.specs.declared.command.Command.TheVariants as command
use Rattle.office_core.specs.declared.done.Done.TheVariants as done
use Rattle.refinement.proofs.EmptySeats.{none_seated}
use Rattle.refinement.proofs.Frames.{catalogue_with_office}
use Rattle.desk_commands.proofs.Common.{AreTexts, CarriesOutStep, Command, Database, Forest, OnlyTouches, Reply}
use Rattle.desk_commands.proofs.Common.{RepresentsDesk, RepresentsState, SeatRow, State, StillIssued, Trees, Version}
use Rattle.desk_commands.proofs.Common.{accepted, after, always_texts, containers, int_lt, is_out, list_any, office_of}
use Rattle.desk_commands.proofs.Common.{refusal, tables, version_number}

-- the desk of a state, and what the office's own row tells
abbrev pub house_of : Version → State → House
house_of version s = record {
  office = record {
    version = version_number version;
    country = s.settings.country;
    repo = s.settings.repo;
    seats = s.settings.seats;
    daily = s.settings.daily;
    hands = s.settings.hands;
    run_size = s.settings.run_size;
    day = s.day;
    next_unit = s.catalogue.next;
  };
  desk = (tables version s).desk;
}

pub shows_house : (places : Trees → Forest ℕ → Type 0) (version : Version) (db : Database) (s : State)
    → RepresentsState places version db s → RepresentsBoth db tt (house_of version s)
shows_house places version db s it = record { office = it.catalogue.catalogue.office; desk = it.desk }

module _ (version : Version) (s : State) (day : ℤ) (later : int_lt s.day day ≡ true) where
  abbrev asked : Command
  asked = command.OpenDay day

  abbrev next : State
  next = after s asked

  desk_after : (tables version next).desk ≡ all_free (tables version s).desk
  desk_after = ap (λ (seats : List SeatRow). record (tables version s).desk { seats = seats }) (none_seated 1 s.settings.seats)

  not_refused : list_any (is_out s) (containers s) ≡ false → refusal s asked ≡ None
  not_refused none = rw (later, none) refl

  pub refuses_day : list_any (is_out s) (containers s) ≡ true → refusal s asked ≡ Some StillIssued
  refuses_day some = rw (later, some) refl

  pub opens_day : (places : Trees → Forest ℕ → Type 0)
      → ((old new : Trees) (f : Forest ℕ) → new schema.link.tree ≡ old schema.link.tree → places old f → places new f)
      → (before now : Database) → list_any (is_out s) (containers s) ≡ false → RepresentsState places version before s
      → now.schema ≡ before.schema
      → OnlyTouches (schema.seat.tree ∷ schema.office.tree ∷ []) before now
      → RepresentsBoth now tt (opened_house day (house_of version s))
      → CarriesOutStep places version s asked (Ok (done.OpenDay day)) now
  opens_day places same before now none it schema_is only house =
      let one = accepted s asked (not_refused none) in
      let texts = always_texts s (asked ∷ []) (tt, tt) it.texts in
      record {
        told = sym (ap (λ (p : State × Reply). p.1) one);
        represents = λ ok. subst (RepresentsState places version now) (sym (ap (λ (p : State × Reply). p.0) one)) (record {
          catalogue = catalogue_with_office before now (schema.seat.tree ∷ schema.office.tree ∷ []) only places same version (office_of s) (office_of next) s.catalogue refl schema_is house.office refl it.catalogue;
          desk = subst (RepresentsDesk now.trees) (sym desk_after) house.desk;
          texts = subst (λ (p : State × Reply). AreTexts p.0) one texts;
        });
      }
