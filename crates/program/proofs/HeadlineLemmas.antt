-- The headline over nested sets.
use Rattle.std.proofs.Common.{IsTrue, List, [], ◌∷◌, inl, inr, subst, sym}
use Rattle.sqlite.proofs.Callers.{memory_is_clean}
use Rattle.sqlite.specs.Steps.{over_memory}
use Rattle.office_tables.specs.Schema.{schema}
use Rattle.office_core.specs.State.{State}
use Rattle.http_desk.proofs.OneRun as law
use Rattle.http_desk.specs.Runs.{AreVisits, Visit}
use Rattle.program.specs.Headline.{TheHeadlineInAFile, TheHeadlineInMemory, TheHeadlineOfATrial}
use Rattle.program.proofs.Common.{Database, FileStore, Files, Ghosts, HasCleanDisk, HasLeft, HaveCleanDisk, Held}
use Rattle.program.proofs.Common.{HoldState, Image, RepresentsSpanRows, RepresentsState, Second, file_state}
use Rattle.program.proofs.Common.{has_clean_disk, is_shown, is_still_open, over_files}

-- a disk that has returned what was written to the last visit did so before the first
all_intact : {M : Type 0} (represents : M → State → Type 0) (is_intact is_open : M → Type 0) (visits : List Visit) (old new : M)
    → AreVisits represents is_intact is_open old new visits
    → is_intact new → is_intact old
all_intact represents is_intact is_open [] old new same intact = subst is_intact (sym same) intact
all_intact represents is_intact is_open (visit ∷ later) old new (mid, first, rest) intact =
    first.intact (all_intact represents is_intact is_open later mid new rest intact)

pub in_memory : TheHeadlineInMemory
in_memory founding visits old new shown are days =
    let (t, after, happen, run, leaves) =
    law.the_headline (is_shown over_memory RepresentsSpanRows Second) (has_clean_disk over_memory) (is_still_open over_memory) visits old new are days (memory_is_clean new) _ shown shown.0.sound in
    (t, after, happen, run)

pub of_a_trial : {D : Type 0} (g : Ghosts D) → ((office : Held (FileStore D g)) → HasCleanDisk (file_state office))
    → TheHeadlineOfATrial g
of_a_trial g clean founding visits old new shown are days =
    let (t, after, happen, run, leaves) =
    law.the_headline (is_shown (over_files {g = g}) RepresentsSpanRows Second) (has_clean_disk (over_files {g = g})) (is_still_open (over_files {g = g})) visits old new are days (clean new) _ shown shown.0.sound in
    (t, after, happen, run, λ opened. after.1 (leaves opened))

-- the tables that show a state are of our schema
pub shows : (db : Database) (s : State) → RepresentsState RepresentsSpanRows Second db s
    → RepresentsState RepresentsSpanRows Second (record { schema = schema Second; trees = db.trees }) s
shows db s it = subst (λ k. RepresentsState RepresentsSpanRows Second (record { schema = k; trees = db.trees }) s) it.catalogue.catalogue.schema_is it

module _ {D : Type 0} (g : Ghosts D) (image : Image) where
  pub held_so : (office : Held (FileStore D g)) (files : Files D) (s : State) → HasLeft office files
      → HaveCleanDisk g files
      → RepresentsState RepresentsSpanRows Second (file_state office).now s → IsTrue (file_state office).is_open
      → HoldState g files s
  held_so office files s left honest is opened =
      ((file_state office).now.trees, left.hold honest opened, shows (file_state office).now s is)

  pub in_a_file : TheHeadlineInAFile g image
  in_a_file s visits old new files found holds sound are days left honest =
      let clean = left.clean honest in
      let shown = is_shown (over_files {g = g}) RepresentsSpanRows Second in
      let intact = has_clean_disk (over_files {g = g}) in
      let stays = is_still_open (over_files {g = g}) in
      let first = (found (all_intact shown intact stays visits old new are clean)).left s holds in
      let (t, after, happen, run, leaves) =
      law.the_headline shown intact stays visits old new are days clean s (sound, first) sound.sound in
      let held : IsTrue (file_state new).is_open → HoldState g files t =
      λ opened. held_so new files t left honest (after.1 opened) opened in
      (t, happen, run, λ either. elim either as (λ _. HoldState g files t) [ inl last ↦ held (leaves last) | inr opened ↦ held opened ])
