-- What a command did with an office in a store, from what the calls on the office tell.
use Rattle.std.proofs.Common.{◌≡◌, ℕ, Bool, true, false, Option, Some, None, Result, Ok, Err, IfErr, OnOk, inl, inr}
use Rattle.std.proofs.Common.{refl, subst, sym, ◌⊎◌}
use Rattle.sqlite.specs.State as store
use Rattle.office_core.specs.Rules.{Reply}
use Rattle.http_desk.specs.Exchanges.{Talks}
use Rattle.program.specs.Connections.{Serves}
use Rattle.program.specs.Outcomes.{IsClosedAnd}
use Rattle.program.specs.declared.faults.Break.{Break}
use Rattle.program.specs.declared.files.StoreOutcome.{StoreOutcome}
use Rattle.program.specs.declared.files.StoreOutcome.TheVariants.{Closed}
use Rattle.program.specs.declared.tasks.Task.{Task}
use Rattle.program.specs.declared.tasks.Task.TheVariants.{Import, Init, Migrate}
use Rattle.program.proofs.Common.{AgreesWithCalls, AreHeld, Bytes, Channels, CheckDone, CheckFails, Database, Does}
use Rattle.program.proofs.Common.{Ended, EndsWell, FailsWith, Fault, FileStore, Files, FindsIn, Founding, Ghosts}
use Rattle.program.proofs.Common.{HasCleanDisk, HasLeft, HasServed, HasTakenIn, Held, History, Image, ImportDone}
use Rattle.program.proofs.Common.{ImportFails, InitFails, IsErrAnd, IsMade, IsOpened, IsRecovered, IsTalkedWith}
use Rattle.program.proofs.Common.{JudgmentFails, JudgmentPrinted, ListeningFails, Listens, MigrateFails, Net}
use Rattle.program.proofs.Common.{OnlyPrints, OpenFault, Opens, ReplyFails, ReplyPrinted, RepresentsSpanRows, Second}
use Rattle.program.proofs.Common.{ServeDone, ServeFails, Session, Stream, TalkDone, TalkFails, WasJudgedAsFound}
use Rattle.program.proofs.Common.{after_listening, ended_by, file_state, has_clean_disk, is_shown, is_still_open}
use Rattle.program.proofs.Common.{over_files}

-- the tables of a store as it was found are those of its image
pub held_in : (image : Image) (at : store.State) → Opens at → FindsIn image at → AreHeld image at.now.trees
held_in image at opens finds =
    subst (λ (db : Database). AreHeld image db.trees) (sym opens.clean) (record { holds = finds.holds; reads = finds.reads })

-- a call failed with that fault
pub failed_as : {X : Type 0} (r : Result X Fault) (f : Fault) (P : Fault → Type 0) → IsErrAnd r (λ e. e ≡ f) → P f
    → IfErr r P
failed_as (Ok x) f P is why = tt
failed_as (Err e) f P is why = subst P (sym is) why

-- what holds before a call holds where it succeeds, and where it fails
pub on_ok_with : {X E : Type 0} (r : Result X E) (P Q : Type 0) → P → OnOk r Q → OnOk r (P × Q)
on_ok_with (Ok x) P Q it done = (it, done)
on_ok_with (Err e) P Q it done = tt

pub failed_with : {X E : Type 0} (r : Result X E) (P Q : E → Type 0) → IfErr r P → ((e : E) → P e → Q e) → IfErr r Q
failed_with (Ok x) P Q why so = tt
failed_with (Err e) P Q why so = so e why

-- what holds in one of two ways
pub either_so : {A B C D : Type 0} → (A → C) → (B → D) → A ⊎ B → C ⊎ D
either_so f g (inl a) = inl (f a)
either_so f g (inr b) = inr (g b)

module _ {S D : Type 0} (g : Ghosts D) (image : Image) where
  -- a store that was opened with this value, and closed
  module _ (start : S) (files : Files D) where
    abbrev closed : StoreOutcome S D g
    closed = Closed files

    module _ (reader reader_after out out_after : Stream) (office after : Held (FileStore D g)) (opened : IsOpened g image office)
        (intact : HasCleanDisk (file_state after) → HasCleanDisk (file_state office)) (left_so : HasLeft after files) where
      talked_with : (end : Ended) → AgreesWithCalls reader reader_after out out_after end
          → Talks (is_shown (over_files {g = g}) RepresentsSpanRows Second) (has_clean_disk (over_files {g = g})) (is_still_open (over_files {g = g})) (IsRecovered (over_files {g = g})) reader.bytes reader_after.bytes out.bytes out_after.bytes office end after
          → IsTalkedWith g image reader reader_after out out_after end files
      talked_with end agrees (read, written, gone, told, through) =
          let it : IsTalkedWith g image reader reader_after out out_after end files = record {
            office = office;
            after = after;
            opened = opened;
            intact = intact;
            input = read;
            output = written;
            read = gone;
            written = told;
            agrees = agrees;
            session = through;
            closed = left_so;
          } in
          it

      pub talk_done : (r : Result (Unit {0}) Fault)
          → OnOk r ((end : Ended) × EndsWell end × AgreesWithCalls reader reader_after out out_after end × Talks (is_shown (over_files {g = g}) RepresentsSpanRows Second) (has_clean_disk (over_files {g = g})) (is_still_open (over_files {g = g})) (IsRecovered (over_files {g = g})) reader.bytes reader_after.bytes out.bytes out_after.bytes office end after)
          → OnOk r (TalkDone g image reader reader_after out out_after closed)
      talk_done (Ok u) (end, well, agrees, talks) = (end, well, talked_with end agrees talks)
      talk_done (Err f) done = tt

      pub talk_broken : (r : Result (Unit {0}) Fault)
          → IfErr r (λ f. (broken : Break) × (f ≡ Session broken) × AgreesWithCalls reader reader_after out out_after (ended_by broken) × Talks (is_shown (over_files {g = g}) RepresentsSpanRows Second) (has_clean_disk (over_files {g = g})) (is_still_open (over_files {g = g})) (IsRecovered (over_files {g = g})) reader.bytes reader_after.bytes out.bytes out_after.bytes office (ended_by broken) after)
          → IfErr r (TalkFails g image reader reader_after out out_after closed)
      talk_broken (Ok u) why = tt
      talk_broken (Err f) (broken, is_so, agrees, talks) =
          inr (broken, is_so, talked_with (ended_by broken) agrees talks)

    module _ (out out_after : Stream) (source : Bytes) (reply : Reply) (taken : HasTakenIn g image source reply files) where
      pub import_done : (r : Result (Unit {0}) Fault) → OnOk r (ReplyPrinted reply out out_after)
          → OnOk r (ImportDone g image source out out_after closed)
      import_done (Ok u) printed = (reply, taken, printed)
      import_done (Err f) printed = tt

      pub import_failed : (r : Result (Unit {0}) Fault) → IfErr r (ReplyFails reply out out_after)
          → IfErr r (ImportFails g image source out out_after closed)
      import_failed (Ok u) why = tt
      import_failed (Err f) why = record { why = inr (inr (inr (reply, taken, why))) }

    module _ (out out_after : Stream) (number connections : ℕ) (told told_after : Option History) (office after : Held (FileStore D g)) (opened : IsOpened g image office)
        (intact : HasCleanDisk (file_state after) → HasCleanDisk (file_state office)) (left_so : HasLeft after files) where
      served : (most : ℕ) (first last : Option History) (all : Bool)
          → Serves (is_shown (over_files {g = g}) RepresentsSpanRows Second) (has_clean_disk (over_files {g = g})) (is_still_open (over_files {g = g})) (IsRecovered (over_files {g = g})) most first last office after all
          → HasServed g image most all first last files
      served most first last all sessions =
          let it : HasServed g image most all first last files =
          record { office = office; after = after; opened = opened; intact = intact; sessions = sessions; closed = left_so } in
          it

      pub serve_done : (r : Result (Unit {0}) Fault)
          → OnOk r (Listens number out out_after × Serves (is_shown (over_files {g = g}) RepresentsSpanRows Second) (has_clean_disk (over_files {g = g})) (is_still_open (over_files {g = g})) (IsRecovered (over_files {g = g})) connections (after_listening told number) told_after office after true)
          → OnOk r (ServeDone g image number connections out out_after told told_after closed)
      serve_done (Ok u) (listens, sessions) =
          (served connections (after_listening told number) told_after true sessions, listens)
      serve_done (Err f) done = tt

      pub serve_failed : (r : Result (Unit {0}) Fault)
          → IfErr r (λ f. (ListeningFails number out out_after told told_after f × Serves (is_shown (over_files {g = g}) RepresentsSpanRows Second) (has_clean_disk (over_files {g = g})) (is_still_open (over_files {g = g})) (IsRecovered (over_files {g = g})) 0 told_after told_after office after true)
          ⊎ ((f ≡ Net) × Listens number out out_after × Serves (is_shown (over_files {g = g}) RepresentsSpanRows Second) (has_clean_disk (over_files {g = g})) (is_still_open (over_files {g = g})) (IsRecovered (over_files {g = g})) connections (after_listening told number) told_after office after false))
          → IfErr r (ServeFails g image number connections out out_after told told_after closed)
      serve_failed (Ok u) why = tt
      serve_failed (Err f) (inl (why, sessions)) = inr (inl (served 0 told_after told_after true sessions, why))
      serve_failed (Err f) (inr (is, listens, sessions)) =
          inr (inr (served connections (after_listening told number) told_after false sessions, is, listens))

    -- a check that is done has found nothing
    pub check_done : (out out_after : Stream) (judged : Option OpenFault) (r : Result (Unit {0}) Fault)
        → WasJudgedAsFound g image judged files → OnOk r (JudgmentPrinted judged out out_after)
        → OnOk r (CheckDone g image out out_after closed)
    check_done out out_after None (Ok u) was printed = (was, printed)
    check_done out out_after (Some why) (Ok u) was printed = absurd printed
    check_done out out_after judged (Err f) was printed = tt

    pub check_failed : (out out_after : Stream) (judged : Option OpenFault) (r : Result (Unit {0}) Fault)
        → WasJudgedAsFound g image judged files → IfErr r (JudgmentFails judged out out_after)
        → IfErr r (CheckFails g image out out_after closed)
    check_failed out out_after judged (Ok u) was why = tt
    check_failed out out_after judged (Err f) was why = inr (judged, was, why)

  -- a new office was made, and nothing was read, printed or served
  pub init_done : (outcome : StoreOutcome S D g) (task : Task) (path : Bytes) (founding : Founding) (before : Channels) (r : Result (Unit {0}) Fault)
      → task ≡ Init path founding → OnOk r (IsClosedAnd outcome (IsMade g image founding))
      → OnOk r (Does g image task before before outcome)
  init_done outcome task path founding before (Ok u) is made =
      subst (λ t. Does g image t before before outcome) (sym is) (made, refl)
  init_done outcome task path founding before (Err f) is made = tt

  -- an `init`, an import and a migration that fail are tasks that fail
  pub init_as_task : (outcome : StoreOutcome S D g) (task : Task) (path : Bytes) (founding : Founding) (before : Channels) (r : Result (Unit {0}) Fault)
      → task ≡ Init path founding → IfErr r (InitFails g image founding outcome)
      → IfErr r (FailsWith g image task before before outcome)
  init_as_task outcome task path founding before (Ok u) is why = tt
  init_as_task outcome task path founding before (Err f) is why =
      subst (λ t. FailsWith g image t before before outcome f) (sym is) (why, refl)

  pub import_as_task : (outcome : StoreOutcome S D g) (task : Task) (path source file : Bytes) (before after : Channels) (r : Result (Unit {0}) Fault)
      → task ≡ Import path source file → OnlyPrints before after
      → IfErr r (ImportFails g image source before.out after.out outcome)
      → IfErr r (FailsWith g image task before after outcome)
  import_as_task outcome task path source file before after (Ok u) is same why = tt
  import_as_task outcome task path source file before after (Err f) is same why =
      subst (λ t. FailsWith g image t before after outcome f) (sym is) (same, why)

  pub migrate_as_task : (outcome : StoreOutcome S D g) (task : Task) (path : Bytes) (before after : Channels) (r : Result (Unit {0}) Fault)
      → task ≡ Migrate path → OnlyPrints before after
      → IfErr r (MigrateFails g image before.out after.out outcome)
      → IfErr r (FailsWith g image task before after outcome)
  migrate_as_task outcome task path before after (Ok u) is same why = tt
  migrate_as_task outcome task path before after (Err f) is same why =
      subst (λ t. FailsWith g image t before after outcome f) (sym is) (same, why)
