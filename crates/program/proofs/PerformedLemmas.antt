-- Lemmas on what a command did with its streams.
use Rattle.std.proofs.Common.{◌≡◌, ◌∙◌, List, Result, Ok, Err, Option, Some, None, false, inl, inr, ℕ, IfErr, OnOk}
use Rattle.std.proofs.Common.{refl, subst, sym}
use Rattle.clap.specs.Simple.{subcommand_of}
use Rattle.clap.specs.Takes.{takes}
use Rattle.atom_csv.specs.ReadProgress.{IfBad}
use Rattle.atom_csv.specs.declared.file.FileFault as csv
use Rattle.atom_csv.specs.declared.file.FileFault.TheVariants as files
use Rattle.office_core.specs.Rules.{Reply}
use Rattle.office.specs.declared.faults.OpenFault.TheVariants as opening
use Rattle.command_line.specs.CommandLine.{program}
use Rattle.program.specs.CommandEffects.{IsBusy}
use Rattle.program.specs.FailedOpenings.{reason_of}
use Rattle.program.specs.Faults.{RefusesFile, fault_of_file, fault_of_opening, fault_of_reading, fault_of_words}
use Rattle.program.specs.Faults.{message_of, exit_status}
use Rattle.program.specs.Outcomes.{IsClosedAnd, IsUnopened}
use Rattle.program.specs.declared.files.FileFault.{FileFault}
use Rattle.program.specs.declared.files.FileFault.TheVariants as file
use Rattle.program.specs.declared.files.StoreOutcome.{StoreOutcome}
use Rattle.program.specs.declared.files.StoreOutcome.TheVariants.{Untouched, Unopened, Closed}
use Rattle.program.specs.declared.streams.ReadFault.{ReadFault}
use Rattle.program.specs.declared.streams.ReadFault.TheVariants as reads
use Rattle.program.specs.declared.tasks.Task.{Task}
use Rattle.program.specs.declared.tasks.Task.TheVariants.{Preview, Init, Trial, Import, Talk, Serve, Check, Migrate}
use Rattle.program.specs.declared.tasks.TaskFault.{TaskFault}
use Rattle.program.specs.declared.tasks.TaskFault.TheVariants as tasks
use Rattle.program.proofs.Common.{AreRefusedFor, Channels, ComplaintFails, Date, Fails, FailsWith, Fault, File}
use Rattle.program.proofs.Common.{Founding, Ghosts, HasNoOffice, History, Image, ImportFails, InitFails, IsDone}
use Rattle.program.proofs.Common.{IsErrAnd, IsNotBroughtOver, IsNotMade, IsPerformed, IsTaskOf, IsWords, JudgmentFails}
use Rattle.program.proofs.Common.{LineFails, ListeningFails, Memory, MigrateFails, NotOpened, OpenFault, PreviewFails}
use Rattle.program.proofs.Common.{PrintsPart, ReadsInput, ReadsPart, Refused, ReplyFails, ServeFails, Settings, Stream}
use Rattle.program.proofs.Common.{TalkFails, Tells, Text, TrialFails, Words, complaint_of, preview_result}

-- a preview that was broken off while it printed
pub broken_off : {X : Type 0} (country repo : Text) (path : Option Text) (reader reader_after out out_after : Stream) (r : Result X Fault)
    → IsErrAnd r (λ fault. fault ≡ File)
    → ((file aids : List ℕ) × ReadsInput path reader reader_after file × (preview_result country repo file ≡ Ok aids) × PrintsPart aids out out_after)
    → IfErr r (PreviewFails country repo path reader reader_after out out_after)
broken_off country repo path reader reader_after out out_after (Ok x) is why = tt
broken_off country repo path reader reader_after out out_after (Err fault) is why =
    subst (PreviewFails country repo path reader reader_after out out_after) (sym is) (inr why)

-- a file that gives no finding aids ends a preview, and nothing was printed
pub refused_fails : (country repo : Text) (path : Option Text) (reader reader_after out : Stream) (file : List ℕ) (why : csv.FileFault) (fault : Fault)
    → RefusesFile why fault → ReadsInput path reader reader_after file
    → IfBad why (λ row cause. preview_result country repo file ≡ Err (row, cause)) → ReadsPart path reader reader_after
    → PreviewFails country repo path reader reader_after out out fault
refused_fails country repo path reader reader_after out file (files.Bad row cause) (Refused line) told read refused part =
    (file, row, cause, read, refused, told, refl)
refused_fails country repo path reader reader_after out file (files.Bad row cause) Memory told read refused part =
    (part, refl)
refused_fails country repo path reader reader_after out file (files.Bad row cause) _ told read refused part =
    absurd told
refused_fails country repo path reader reader_after out file files.Memory fault told read refused part =
    subst (PreviewFails country repo path reader reader_after out out) (sym told) (part, refl)

-- ---- no task fails by its words

abbrev OfWords : Fault → Type 0
OfWords (Words text) = Unit {0}
OfWords Date = Unit {0}
OfWords Settings = Unit {0}
OfWords _ = ⊥

file_no : (failed : FileFault) (f : Fault) → OfWords f → f ≡ fault_of_file failed → ⊥
file_no file.Memory f of is = subst OfWords is of
file_no file.Absent f of is = subst OfWords is of
file_no file.Unopened f of is = subst OfWords is of

reading_no : (why_not : ReadFault) (f : Fault) → OfWords f → f ≡ fault_of_reading why_not → ⊥
reading_no reads.Memory f of is = subst OfWords is of
reading_no reads.Failed f of is = subst OfWords is of

reply_no : (reply : Reply) (out out_after : Stream) (f : Fault) → OfWords f → ReplyFails reply out out_after f → ⊥
reply_no (Ok done) out out_after (Words text) of why = why
reply_no (Ok done) out out_after Date of why = why
reply_no (Ok done) out out_after Settings of why = why
reply_no (Ok done) out out_after _ of why = of
reply_no (Err refusal) out out_after (Words text) of why = why.0
reply_no (Err refusal) out out_after Date of why = why.0
reply_no (Err refusal) out out_after Settings of why = why.0
reply_no (Err refusal) out out_after _ of why = of

line_no : (line : List ℕ) (out out_after : Stream) (f : Fault) → OfWords f → LineFails line out out_after f → ⊥
line_no line out out_after (Words text) of why = why
line_no line out out_after Date of why = why
line_no line out out_after Settings of why = why
line_no line out out_after _ of why = of

listening_no : (number : ℕ) (out out_after : Stream) (told told_after : Option History) (f : Fault) → OfWords f
    → ListeningFails number out out_after told told_after f → ⊥
listening_no number out out_after told told_after (Words text) of why = why
listening_no number out out_after told told_after Date of why = why
listening_no number out out_after told told_after Settings of why = why
listening_no number out out_after told told_after _ of why = of

opening_no : (why_not : OpenFault) (f : Fault) → OfWords f → f ≡ fault_of_opening why_not → ⊥
opening_no opening.Memory f of is = subst OfWords is of
opening_no _ f of is = subst OfWords is of

complaint_no : (why_not : OpenFault) (line : Option (List ℕ)) (out out_after : Stream) (f : Fault) → OfWords f
    → ComplaintFails why_not line out out_after f → ⊥
complaint_no why_not (Some line) out out_after (Words text) of why = why
complaint_no why_not (Some line) out out_after Date of why = why
complaint_no why_not (Some line) out out_after Settings of why = why
complaint_no why_not (Some line) out out_after _ of why = of
complaint_no why_not None out out_after f of why = opening_no why_not f of why.0

judgment_no : (judged : Option OpenFault) (out out_after : Stream) (f : Fault) → OfWords f
    → JudgmentFails judged out out_after f → ⊥
judgment_no None out out_after f of why = line_no _ out out_after f of why
judgment_no (Some why_not) out out_after f of why = complaint_no why_not (complaint_of why_not) out out_after f of why

preview_no : (country repo : Text) (path : Option Text) (reader reader_after out out_after : Stream) (f : Fault)
    → OfWords f → PreviewFails country repo path reader reader_after out out_after f → ⊥
preview_no country repo path reader reader_after out out_after (Words text) of why = why
preview_no country repo path reader reader_after out out_after Date of why = why
preview_no country repo path reader reader_after out out_after Settings of why = why
preview_no country repo path reader reader_after out out_after _ of why = of

trial_no : (founding : Founding) (reader reader_after out out_after : Stream) (f : Fault) → OfWords f
    → TrialFails founding reader reader_after out out_after f → ⊥
trial_no founding reader reader_after out out_after (Words text) of why = why
trial_no founding reader reader_after out out_after Date of why = why
trial_no founding reader reader_after out out_after Settings of why = why
trial_no founding reader reader_after out out_after _ of why = of

busy_no : (f : Fault) → OfWords f → IsBusy f → ⊥
busy_no (Words text) of why = why
busy_no Date of why = why
busy_no Settings of why = why
busy_no _ of why = of

-- ---- with an office in a file

module _ {S D : Type 0} (g : Ghosts D) (image : Image) where
  unopened_no : (outcome : StoreOutcome S D g) (f : Fault) → OfWords f → IsUnopened image outcome f → ⊥
  unopened_no (Untouched start) f of why = why
  unopened_no (Unopened failed) f of why = file_no (reason_of failed) f of why.0
  unopened_no (Closed files) f of why = why

  no_office_no : (outcome : StoreOutcome S D g) (f : Fault) → OfWords f → HasNoOffice g image outcome f → ⊥
  no_office_no outcome f of (inl why) = unopened_no outcome f of why
  no_office_no outcome f of (inr (why, is, judged)) = opening_no why f of is

  not_opened_no : (out out_after : Stream) (outcome : StoreOutcome S D g) (f : Fault) → OfWords f
      → NotOpened g image out out_after outcome f → ⊥
  not_opened_no out out_after outcome f of why = no_office_no outcome f of why.0

  not_made_no : (founding : Founding) (outcome : StoreOutcome S D g) (f : Fault) → OfWords f
      → IsClosedAnd outcome (IsNotMade g image founding f) → ⊥
  not_made_no founding (Untouched start) f of why = why
  not_made_no founding (Unopened failed) f of why = why
  not_made_no founding (Closed files) f of why = opening_no why.why f of why.told

  init_no : (founding : Founding) (outcome : StoreOutcome S D g) (f : Fault) → OfWords f
      → InitFails g image founding outcome f → ⊥
  init_no founding outcome f of (inl why) = unopened_no outcome f of why
  init_no founding outcome f of (inr why) = not_made_no founding outcome f of why

  talk_no : (reader reader_after out out_after : Stream) (outcome : StoreOutcome S D g) (f : Fault) → OfWords f
      → TalkFails g image reader reader_after out out_after outcome f → ⊥
  talk_no reader reader_after out out_after outcome f of (inl why) = not_opened_no out out_after outcome f of why.1
  talk_no reader reader_after out out_after outcome f of (inr (broken, is, why)) = subst OfWords is of

  not_brought_no : (outcome : StoreOutcome S D g) (f : Fault) → OfWords f
      → IsClosedAnd outcome (IsNotBroughtOver g image f) → ⊥
  not_brought_no (Untouched start) f of why = why
  not_brought_no (Unopened failed) f of why = why
  not_brought_no (Closed files) f of why = opening_no why.why f of why.told

  import_no : (source : Text) (out out_after : Stream) (outcome : StoreOutcome S D g) (f : Fault) → OfWords f
      → ImportFails g image source out out_after outcome f → ⊥
  import_no source out out_after outcome f of fails = elim fails.why [
    | inl why ↦ reading_no why.0.0 f of why.0.1
    | inr (inl why) ↦ not_opened_no out out_after outcome f of why
    | inr (inr (inl why)) ↦ busy_no f of why.0
    | inr (inr (inr (reply, taken, why))) ↦ reply_no reply out out_after f of why
  ]

  migrate_no : (out out_after : Stream) (outcome : StoreOutcome S D g) (f : Fault) → OfWords f
      → MigrateFails g image out out_after outcome f → ⊥
  migrate_no out out_after outcome f of fails = elim fails.why [
    | inl why ↦ unopened_no outcome f of why.0
    | inr (inl (stays, quiet)) ↦ not_brought_no outcome f of stays
    | inr (inr (brought, why)) ↦ line_no _ out out_after f of why
  ]

  serve_no : (number connections : ℕ) (out out_after : Stream) (told told_after : Option History) (outcome : StoreOutcome S D g) (f : Fault)
      → OfWords f
      → ServeFails g image number connections out out_after told told_after outcome f → ⊥
  serve_no number connections out out_after told told_after outcome f of (inl (why, same)) = not_opened_no out out_after outcome f of why
  serve_no number connections out out_after told told_after outcome f of (inr (inl (nobody, why))) = listening_no number out out_after told told_after f of why
  serve_no number connections out out_after told told_after outcome f of (inr (inr (served, is, listens))) = subst OfWords is of

  none_of_words : (task : Task) (before after : Channels) (outcome : StoreOutcome S D g) (f : Fault) → OfWords f
      → FailsWith g image task before after outcome f → ⊥
  none_of_words (Preview country repo path) before after outcome f of why = preview_no country repo path before.reader after.reader before.out after.out f of why.2
  none_of_words (Init path founding) before after outcome f of why = init_no founding outcome f of why.0
  none_of_words (Trial founding) before after outcome f of why = trial_no founding before.reader after.reader before.out after.out f of why.2
  none_of_words (Import path source file) before after outcome f of why = import_no source before.out after.out outcome f of why.1
  none_of_words (Talk path) before after outcome f of why = talk_no before.reader after.reader before.out after.out outcome f of why.1
  none_of_words (Serve path number connections) before after outcome f of why = serve_no number connections before.out after.out before.told after.told outcome f of why.1
  none_of_words (Check path) before after outcome f of (same, inl why) = unopened_no outcome f of why.0
  none_of_words (Check path) before after outcome f of (same, inr (judged, was, why)) = judgment_no judged before.out after.out f of why
  none_of_words (Migrate path) before after outcome f of why = migrate_no before.out after.out outcome f of why.1

  -- words that name no task
  words_fail : (words : List Text) (before : Channels) (start : S) (f : TaskFault)
      → (IsWords f → takes program words ≡ false) → AreRefusedFor (subcommand_of program words) f
      → Fails g image words before before (Untouched start) (fault_of_words f)
  words_fail words before start tasks.Memory refused values = inl (tt, refl)
  words_fail words before start (tasks.Words text) refused values = (refused tt, (tt, refl))
  words_fail words before start tasks.Date refused values = (values, (tt, refl))
  words_fail words before start tasks.Settings refused values = (values, (tt, refl))

  pub words_failed : (words : List Text) (before : Channels) (start : S) (f : TaskFault) (fault : Fault)
      → fault ≡ fault_of_words f
      → (IsWords f → takes program words ≡ false) → AreRefusedFor (subcommand_of program words) f
      → Fails g image words before before (Untouched start) fault
  words_failed words before start f fault is refused values =
      subst (Fails g image words before before (Untouched start)) (sym is) (words_fail words before start f refused values)

  -- so a task's fault is one of the task
  fails : (words : List Text) (task : Task) (before after : Channels) (outcome : StoreOutcome S D g) (f : Fault)
      → IsTaskOf (subcommand_of program words) task
      → FailsWith g image task before after outcome f → Fails g image words before after outcome f
  fails words task before after outcome (Words text) is why =
      absurd (none_of_words task before after outcome (Words text) tt why)
  fails words task before after outcome Date is why = absurd (none_of_words task before after outcome Date tt why)
  fails words task before after outcome Settings is why =
      absurd (none_of_words task before after outcome Settings tt why)
  fails words task before after outcome Memory is why = inr (task, is, why)
  fails words task before after outcome _ is why = (task, is, why)

  pub task_failed : {X : Type 0} (words : List Text) (task : Task) (before after : Channels) (outcome : StoreOutcome S D g) (r : Result X Fault)
      → IsTaskOf (subcommand_of program words) task
      → IfErr r (FailsWith g image task before after outcome) → IfErr r (Fails g image words before after outcome)
  task_failed words task before after outcome (Ok x) is why = tt
  task_failed words task before after outcome (Err f) is why = fails words task before after outcome f is why

  -- a command whose task is done
  pub performs_done : (words : List Text) (before after : Channels) (err err_after : Stream) (outcome : StoreOutcome S D g) (status : ℕ) (r : Result (Unit {0}) Fault) (u : Unit {0})
      → r ≡ Ok u → OnOk r (IsDone g image words before after outcome) → status ≡ 0 → err_after ≡ err
      → IsPerformed g image words before after err err_after outcome status
  performs_done words before after err err_after outcome status r u is done zero same =
      inl (zero, subst (λ it. OnOk it (IsDone g image words before after outcome)) is done, same)

  -- a command that ended with a fault, whose message was told
  pub performs_fault : (words : List Text) (before after : Channels) (err err_told err_after : Stream) (outcome : StoreOutcome S D g) (status code : ℕ) (r : Result (Unit {0}) Fault) (fault : Fault)
      → r ≡ Err fault → IfErr r (Fails g image words before after outcome) → status ≡ code → code ≡ exit_status fault
      → Tells err err_told (message_of fault) → err_after ≡ err_told
      → IsPerformed g image words before after err err_after outcome status
  performs_fault words before after err err_told err_after outcome status code r fault is why same_status is_code told same =
      inr (
        fault,
        same_status ∙ is_code,
        subst (λ it. IfErr it (Fails g image words before after outcome)) is why,
        subst (λ it. Tells err it (message_of fault)) (sym same) told,
      )
