-- The texts that an office keeps stay UTF-8.
use Rattle.std.proofs.Common.{◌≡◌, ℕ, zero, suc, true, List, [], ◌∷◌, Option, Some, None, Ok, Err, refl, sym, subst}
use Rattle.std.proofs.Common.{arith}
use Rattle.std.specs.Prelude.{ℤ, length}
use Rattle.desk_core.specs.declared.reader.Place.{Place}
use Rattle.catalogue_core.proofs.AsciiTexts.{ascii_legible, between_low, source_legible}
use Rattle.catalogue_core.proofs.LegibleMerges.{each_legible, taken_legible}
use Rattle.catalogue_core.specs.LegibleCatalogues.{HasLegibleTexts, IsLegibleCatalogue}
use Rattle.office_core.specs.SoundOffice.{AreTexts, IsSoundOffice, NamesTexts}
use Rattle.office_core.specs.declared.command.Command.TheVariants as command
use Rattle.office_core.proofs.Common.{AllByRecursion, AreGoodSettings, Bytes, Command, Desk, IsDayNumber, IsUtf8}
use Rattle.office_core.proofs.Common.{NamesDays, Out, Reader, Settings, Shelf, State, Taken, after, all_append, all_cut}
use Rattle.office_core.proofs.Common.{all_moved, and_parts, cancelled, checks, chosen, closure_keeps, container_of}
use Rattle.office_core.proofs.Common.{has_id, intake_of, is_between, is_country, is_repository, is_source, issued}
use Rattle.office_core.proofs.Common.{list_all, nat_eq, renewed, returned, start, state_after, status_keeps}
use Rattle.office_core.proofs.Common.{with_import}
use Rattle.office_core.proofs.Steps.{Passes, held_so, run_keeps_if}
use Rattle.office_core.proofs.StaysSound.{sound_after}
use Rattle.office_core.proofs.Starts.{starts_sound}
use Rattle.office_core.proofs.PassedChecks.{passed_import}

-- ---- the settings are ASCII

country_legible : (country : Bytes) → is_country country ≡ true → IsUtf8 country
country_legible country h =
    ascii_legible (is_between 65 90) (λ b. between_low 65 90 b (omega arith)) country (and_parts (nat_eq (length country) 2) (list_all (is_between 65 90) country) h).1

repository_legible : (repo : Bytes) → is_repository repo ≡ true → IsUtf8 repo
repository_legible repo h =
    ascii_legible (is_between 33 126) (λ b. between_low 33 126 b (omega arith)) repo (and_parts (is_between 1 32 (length repo)) (list_all (is_between 33 126) repo) h).1

pub starts_legible : (settings : Settings) (day : ℤ) → AreGoodSettings settings → AreTexts (start settings day)
starts_legible settings day g = record {
  country = country_legible settings.country g.country;
  repo = repository_legible settings.repo g.repo;
  catalogue = record { units = tt; containers = tt };
  readers = tt;
}

pub starts_sound_office : (settings : Settings) (day : ℤ) → AreGoodSettings settings → IsDayNumber day
    → IsSoundOffice (start settings day)
starts_sound_office settings day g d =
    record { sound = starts_sound settings day g d; texts = starts_legible settings day g }

-- ---- each command

-- the parts of the state that have texts
same_texts : (s t : State) → t.settings ≡ s.settings → t.catalogue ≡ s.catalogue → t.readers ≡ s.readers → AreTexts s
    → AreTexts t
same_texts s t e c r h = record {
  country = subst (λ (settings : Settings). IsUtf8 settings.country) (sym e) h.country;
  repo = subst (λ (settings : Settings). IsUtf8 settings.repo) (sym e) h.repo;
  catalogue = subst IsLegibleCatalogue (sym c) h.catalogue;
  readers = subst (AllByRecursion (λ (reader : Reader). IsUtf8 reader.name)) (sym r) h.readers;
}

other_catalogue : (s t : State) → t.settings ≡ s.settings → t.readers ≡ s.readers → IsLegibleCatalogue t.catalogue
    → AreTexts s → AreTexts t
other_catalogue s t e r c h = record {
  country = subst (λ (settings : Settings). IsUtf8 settings.country) (sym e) h.country;
  repo = subst (λ (settings : Settings). IsUtf8 settings.repo) (sym e) h.repo;
  catalogue = c;
  readers = subst (AllByRecursion (λ (reader : Reader). IsUtf8 reader.name)) (sym r) h.readers;
}

imported_texts : (s : State) (source file : Bytes) (t : Taken) → intake_of s source file ≡ t → is_source source ≡ true
    → AreTexts s → AreTexts (with_import s t)
imported_texts s source file (Err fault) e named h = h
imported_texts s source file (Ok intake) e named h =
    other_catalogue s (with_import s (Ok intake)) refl refl (taken_legible s.catalogue source file intake e (source_legible source named) h.catalogue) h

reader_names : (until : ℤ) (rs : List Reader) (t : ℕ) → AllByRecursion (λ (r : Reader). IsUtf8 r.name) rs
    → AllByRecursion (λ (r : Reader). IsUtf8 r.name) (renewed until rs t)
reader_names until rs zero h = h
reader_names until [] (suc t) h = h
reader_names until (r ∷ rs) (suc zero) h = h
reader_names until (r ∷ rs) (suc (suc t)) h = (h.0, reader_names until rs (suc t) h.1)

cancelled_texts : (s : State) (o : ℕ) (k : Option ℕ) → AreTexts s → AreTexts (cancelled s o k)
cancelled_texts s o None h = h
cancelled_texts s o (Some c) h = same_texts s (cancelled s o (Some c)) refl refl refl h

issued_texts : (s : State) (c : ℕ) (q : List ℕ) → AreTexts s → AreTexts (issued s c q)
issued_texts s c [] h = h
issued_texts s c (o ∷ os) h = same_texts s (issued s c (o ∷ os)) refl refl refl h

returned_texts : (s : State) (c : ℕ) (p : Place) → AreTexts s → AreTexts (returned s c p)
returned_texts s c Shelf h = h
returned_texts s c Desk h = h
returned_texts s c (Out o) h = same_texts s (returned s c (Out o)) refl refl refl h

texts_after : (s : State) (asked : Command) → AreTexts s → NamesTexts asked → Passes (checks s asked)
    → AreTexts (after s asked)
texts_after s (command.Register name until) h n ok = record {
  country = h.country;
  repo = h.repo;
  catalogue = h.catalogue;
  readers = all_append (λ (r : Reader). IsUtf8 r.name) s.readers (record { name = name; until = until } ∷ []) h.readers (n, tt);
}
texts_after s (command.Renew t until) h n ok =
    record { country = h.country; repo = h.repo; catalogue = h.catalogue; readers = reader_names until s.readers t h.readers }
texts_after s (command.Import source file) h n ok =
    imported_texts s source file (intake_of s source file) refl (held_so (is_source source) _ (passed_import s source file ok).named) h
texts_after s (command.SetStatus u draft whole) h n ok =
    other_catalogue s (after s (command.SetStatus u draft whole)) refl refl (each_legible s.catalogue _ (status_keeps (chosen whole u s.catalogue) draft) h.catalogue) h
texts_after s (command.SetClosure u until) h n ok =
    other_catalogue s (after s (command.SetClosure u until)) refl refl (each_legible s.catalogue _ (closure_keeps until u) h.catalogue) h
texts_after s (command.Move u parent) h n ok =
    other_catalogue s (after s (command.Move u parent)) refl refl (record { units = all_moved HasLegibleTexts u parent s.catalogue.forest h.catalogue.units; containers = h.catalogue.containers }) h
texts_after s (command.Remove u) h n ok =
    other_catalogue s (after s (command.Remove u)) refl refl (record { units = all_cut HasLegibleTexts (has_id u) s.catalogue.forest h.catalogue.units; containers = h.catalogue.containers }) h
texts_after s (command.OpenDay day) h n ok = same_texts s (after s (command.OpenDay day)) refl refl refl h
texts_after s (command.TakeSeat t) h n ok = same_texts s (after s (command.TakeSeat t)) refl refl refl h
texts_after s (command.LeaveSeat t) h n ok = same_texts s (after s (command.LeaveSeat t)) refl refl refl h
texts_after s (command.Order t c) h n ok = same_texts s (after s (command.Order t c)) refl refl refl h
texts_after s (command.Cancel o) h n ok = cancelled_texts s o (container_of s o) h
texts_after s command.Run h n ok = same_texts s (after s command.Run) refl refl refl h
texts_after s command.Reshelve h n ok = same_texts s (after s command.Reshelve) refl refl refl h
texts_after s (command.Issue c t) h n ok = issued_texts s c (s.queue c) h
texts_after s (command.Return c) h n ok = returned_texts s c (s.place c) h
texts_after s (command.Permit t u until) h n ok = same_texts s (after s (command.Permit t u until)) refl refl refl h
texts_after s (command.Revoke t u) h n ok = same_texts s (after s (command.Revoke t u)) refl refl refl h

-- ---- every list of commands

pub always_texts : (s : State) (later : List Command) → AllByRecursion NamesTexts later → AreTexts s
    → AreTexts (state_after s later)
always_texts = run_keeps_if AreTexts NamesTexts texts_after

both : (later : List Command) → AllByRecursion NamesDays later → AllByRecursion NamesTexts later
    → AllByRecursion (λ asked. NamesDays asked × NamesTexts asked) later
both [] d n = tt
both (asked ∷ later) d n = ((d.0, n.0), both later d.1 n.1)

pub always_sound_office : (s : State) (later : List Command) → AllByRecursion NamesDays later
    → AllByRecursion NamesTexts later → IsSoundOffice s → IsSoundOffice (state_after s later)
always_sound_office s later d n =
    run_keeps_if IsSoundOffice (λ asked. NamesDays asked × NamesTexts asked)
    (λ s asked g names ok. record { sound = sound_after s asked g.sound names.0 ok; texts = texts_after s asked g.texts names.1 ok }) s later (both later d n)
