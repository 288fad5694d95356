-- Each run on a store goes on where the runs before it ended, and makes visits to the office.
use Rattle.std.proofs.Common.{◌≡◌, ◌∙◌, ◌++◌, IsTrue, List, [], ◌∷◌, ap, inl, inr, refl, subst, subst₂, sym}
use Rattle.std.proofs.Math.Logic.{∥∥₁_elim}
use Rattle.std.proofs.lemmas.List.{append-nil}
use Rattle.sqlite.specs.Closing.{HoldsAlone, IsCopied}
use Rattle.sqlite.specs.State as store
use Rattle.sqlite_trees.specs.Props.{Trees-set}
use Rattle.office_tables.specs.Schema.{schema}
use Rattle.office_core.specs.Json.{reply_text}
use Rattle.office_core.specs.State.{State}
use Rattle.office_core.specs.declared.command.Command.TheVariants.{Import}
use Rattle.http_desk.proofs.OneRun.{one_run}
use Rattle.http_desk.specs.Runs.{AllBring, AllHappen, ByHttp, CallsNameDays, CallsNameTexts, Happens, Replied, Visit}
use Rattle.office.proofs.NewOffices.{founded_sound}
use Rattle.program.specs.NextRuns.{BeginsAsBroughtOver, BeginsAsFound, BeginsAsMade, FailsToMigrate, IsAfter, IsBusy}
use Rattle.program.specs.NextRuns.{IsFoundNext, Judges, ProgramRun, RunGoesOn, RunMakesVisits, Serves, TakesIn, Talks}
use Rattle.program.specs.NextRuns.{closed_by, sessions_with, visits_in}
use Rattle.program.proofs.Common.{AllByRecursion, AreHeld, AreSessions, Bytes, Command, Connection, Database, Ended}
use Rattle.program.proofs.Common.{FileStore, Files, Ghosts, HasCleanDisk, HasLeft, Held, HoldsDatabase, Image, IsFound}
use Rattle.program.proofs.Common.{IsIn, IsSoundOffice, RepresentsSpanRows, RepresentsState, Second, Trees, early}
use Rattle.program.proofs.Common.{file_state, state_after, step}
use Rattle.program.proofs.HeadlineLemmas.{shows}

-- more commands after some are all of them
after_more : (start : State) (commands more : List Command)
    → state_after (state_after start commands) more ≡ state_after start (commands ++ more)
after_more start [] more = refl
after_more start (asked ∷ commands) more = after_more (step start asked).0 commands more

-- ---- what was found

-- bytes hold one database at most
one_database : (image : Image) (a b : Trees) → AreHeld image a → ∥ HoldsDatabase image b ∥₁ → a ≡ b
one_database image a b held holds = ∥∥₁_elim holds (Trees-set a b) (λ there. held.holds b there)

-- so the office that a run finds is in the state that the runs before it led to
finds : (image : Image) (at : store.State) (s : State) → IsFound image at → IsAfter image s []
    → IsIn RepresentsSpanRows Second s at
finds image at s found was opened =
    let same = one_database image found.found.trees was.tables found.held was.holds in
    let there : RepresentsState RepresentsSpanRows Second found.found s =
    subst₂ (λ k t. RepresentsState RepresentsSpanRows Second (record { schema = k; trees = t }) s) (sym found.verdict.0.schema_is) (sym same) was.represents in
    subst (λ (db : Database). RepresentsState RepresentsSpanRows Second db s) (sym (found.same opened)) there

-- ---- what is left

-- the tables of our schema that have these rows are those of a state
abbrev Shows : Trees → State → Type 0
Shows tables s = RepresentsState RepresentsSpanRows Second (record { schema = schema Second; trees = tables }) s

module _ {D : Type 0} {g : Ghosts D} (conn : Held (FileStore D g)) (files : Files D) (next : Image) (left : HasLeft conn files) (copied : IsCopied conn files) (found : IsFoundNext g files next) where
  is_next : ∥ HoldsDatabase next (file_state conn).now.trees ∥₁
  is_next =
      let there : HoldsAlone next (file_state conn).committed.trees = elim found [
        | inl same ↦ subst (λ i. HoldsAlone i (file_state conn).committed.trees) (sym same) copied.seen
        | inr may ↦ copied.left next may
      ] in
      subst (λ (db : Database). ∥ HoldsDatabase next db.trees ∥₁) (sym (left.settled copied.was_clean copied.was_open)) there.both

  -- the next run finds the office in the state that the connection showed
  holds_next : (s : State) → Shows (file_state conn).now.trees s → IsSoundOffice s → IsAfter next s []
  holds_next s is sound = record { tables = (file_state conn).now.trees; holds = is_next; represents = is; sound = sound }

-- the tables of a run that changed nothing
as_they_were : (image : Image) (s : State) (at now : Database) → AreHeld image at.trees → now ≡ at → IsAfter image s []
    → Shows now.trees s
as_they_were image s at now held same was =
    let trees = ap (λ (db : Database). db.trees) same ∙ one_database image at.trees was.tables held was.holds in
    subst (λ tables. Shows tables s) (sym trees) was.represents

-- a store that holds an office in a sound state
pub as_found : (image : Image) (s : State) → BeginsAsFound image s
as_found image s (tables, holds, represents) sound =
    record { tables = tables; holds = ∣ holds ∣₁; represents = represents; sound = sound }

-- ---- the visits of a run

-- one more visit
and_then : (s mid t : State) (visits : List Visit) (visit : Visit) → AllHappen s visits mid → Happens mid visit t
    → AllHappen s (visits ++ visit ∷ []) t
and_then s mid t [] visit same it = (t, subst (λ x. Happens x visit t) same it, refl)
and_then s mid t (first ∷ visits) visit (between, one, more) it =
    (between, one, and_then between mid t visits visit more it)

all_sessions : (s t : State) (connections : List Connection) → AreSessions connections s t
    → AllHappen s (sessions_with connections) t
all_sessions s t [] same = sym same
all_sessions s t (it ∷ earlier) (mid, before, session) =
    and_then s mid t (sessions_with earlier) (ByHttp it.input it.output it.end) (all_sessions s mid earlier before) session

and_such : (P : Visit → Type 0) (visits : List Visit) (visit : Visit) → AllByRecursion P visits → P visit
    → AllByRecursion P (visits ++ visit ∷ [])
and_such P [] visit all it = (it, tt)
and_such P (first ∷ visits) visit all it = (all.0, and_such P visits visit all.1 it)

-- what holds for each session
for_sessions : (P : Visit → Type 0) → ((input output : Bytes) (end : Ended) → P (ByHttp input output end))
    → (connections : List Connection) → AllByRecursion P (sessions_with connections)
for_sessions P so [] = tt
for_sessions P so (it ∷ earlier) =
    and_such P (sessions_with earlier) (ByHttp it.input it.output it.end) (for_sessions P so earlier) (so it.input it.output it.end)

module _ {D : Type 0} {g : Ghosts D} {image : Image} {files : Files D} where
  left_by : (run : ProgramRun g image files) → HasLeft (closed_by run) files
  left_by (TakesIn source reply it) = it.closed
  left_by (IsBusy source fault it) = it.closed
  left_by (Talks reader reader_after out out_after end it) = it.closed
  left_by (Serves connections all told told_after it) = it.closed
  left_by (Judges judged it) = it.left
  left_by (FailsToMigrate fault it) = it.closed

  name_days : (run : ProgramRun g image files) → AllByRecursion CallsNameDays (visits_in run)
  name_days (TakesIn source reply it) = (tt, tt)
  name_days (IsBusy source fault it) = (tt, tt)
  name_days (Talks reader reader_after out out_after end it) = (tt, tt)
  name_days (Serves connections all told told_after it) = for_sessions CallsNameDays (λ input output end. tt) it.sessions.connections
  name_days (Judges judged it) = tt
  name_days (FailsToMigrate fault it) = tt

  name_texts : (run : ProgramRun g image files) → AllByRecursion CallsNameTexts (visits_in run)
  name_texts (TakesIn source reply it) = (tt, tt)
  name_texts (IsBusy source fault it) = (tt, tt)
  name_texts (Talks reader reader_after out out_after end it) = (tt, tt)
  name_texts (Serves connections all told told_after it) = for_sessions CallsNameTexts (λ input output end. tt) it.sessions.connections
  name_texts (Judges judged it) = tt
  name_texts (FailsToMigrate fault it) = tt

  -- the visits of a run on a store that holds an office in a sound state happen
  visits_happen : (s : State) → IsAfter image s [] → (run : ProgramRun g image files)
      → HasCleanDisk (file_state (closed_by run))
      → (t : State) × (happen : AllHappen s (visits_in run) t)
      × (IsTrue (file_state (closed_by run)).is_open → Shows (file_state (closed_by run)).now.trees t)
  visits_happen s was (TakesIn source reply it) clean =
      let opened = it.opened (early it.crash clean) in
      let took = it.step clean s was.sound (finds image _ s opened was) in
      let t = (step s (Import source it.file)).0 in
      (t, (t, (ap (λ r. Replied r (reply_text r)) took.0, refl), refl), λ stays. shows _ t (took.1 stays))
  visits_happen s was (IsBusy source fault it) clean =
      let opened = it.opened (early it.crash clean) in
      let same = it.same clean in (
        s,
        (s, refl, refl),
        λ stays.
            let there = finds image _ s opened was (same.was_open stays) in
            shows _ s (subst (λ (db : Database). RepresentsState RepresentsSpanRows Second db s) (sym (same.now stays)) there),
      )
  visits_happen s was (Talks reader reader_after out out_after end it) clean =
      let opened = it.opened (it.intact clean) in
      let (t, kept, talked) = it.session clean s (was.sound, finds image _ s opened was) in
      (t, (t, talked.0, refl), λ stays. shows _ t (kept.1 stays))
  visits_happen s was (Serves connections all told told_after it) clean =
      let opened = it.opened (it.intact clean) in
      let (t, kept, served) = it.sessions.sessions clean s (was.sound, finds image _ s opened was) in
      (t, all_sessions s t it.sessions.connections served.0, λ stays. shows _ t (kept.1 stays))
  visits_happen s was (Judges judged it) clean =
      (s, refl, λ stays. as_they_were image s _ _ (it.is_store (early it.crash clean)).0 (it.same clean stays) was)
  visits_happen s was (FailsToMigrate fault it) clean =
      (s, refl, λ stays. as_they_were image s _ _ (it.is_store (early it.crash clean)).0 ((it.back clean).now stays) was)

module _ {D : Type 0} (g : Ghosts D) (image : Image) where
  pub make_visits : RunMakesVisits g image
  make_visits s holds sound files run honest =
      let (t, happen, shown) = visits_happen s (as_found image s holds sound) run ((left_by run).clean honest) in
      (t, happen, one_run s t (visits_in run) happen (name_days run) sound.sound, λ opened. ((file_state (closed_by run)).now.trees, (left_by run).hold honest opened, shown opened))

  -- a run from the state in which it finds the office
  goes : (files : Files D) (next : Image) (s : State) → IsAfter image s [] → (run : ProgramRun g image files)
      → IsCopied (closed_by run) files → IsFoundNext g files next
      → (more : List Command) × (t : State) × (happen : AllHappen s (visits_in run) t)
      × AllBring s (visits_in run) t happen more × (t ≡ state_after s more) × IsAfter next t []
  goes files next s was run copied found =
      let (t, happen, shown) = visits_happen s was run copied.was_clean in
      let one = one_run s t (visits_in run) happen (name_days run) was.sound.sound in
      let stays = one.office (name_texts run) was.sound one.commands [] (sym (append-nil one.commands)) in
      let sound : IsSoundOffice t = subst IsSoundOffice (sym one.leaves) stays in
      (one.commands, t, happen, one.bring, one.leaves, holds_next (closed_by run) files next (left_by run) copied found t (shown copied.was_open) sound)

  pub goes_on : RunGoesOn g image
  goes_on start commands was files run copied next found =
      let before = state_after start commands in
      let here : IsAfter image before [] =
      record { tables = was.tables; holds = was.holds; represents = was.represents; sound = was.sound } in
      let (more, t, happen, bring, leaves, there) = goes files next before here run copied found in
      let all : t ≡ state_after start (commands ++ more) = leaves ∙ after_more start commands more in
      let is_next : IsAfter next (state_after start (commands ++ more)) [] = subst (λ x. IsAfter next x []) all there in
      let did = subst (λ x. (happen : AllHappen before (visits_in run) x) × AllBring before (visits_in run) x happen more) all (happen, bring) in
      (more, did.0, did.1, record { tables = is_next.tables; holds = is_next.holds; represents = is_next.represents; sound = is_next.sound })

  pub as_made : BeginsAsMade g image
  as_made founding files it good copied next found =
      holds_next it.office files next it.left copied found _ (shows _ _ (it.represents copied.was_clean copied.was_open)) (founded_sound founding good)

  pub as_brought_over : BeginsAsBroughtOver g image
  as_brought_over files it copied next found =
      let before = early it.crash copied.was_clean in
      let ordered = (it.is_store before).1 in
      let same = it.same copied.was_clean in
      holds_next it.after files next it.closed copied found _ (shows _ _ (same.represents ordered)) (same.sound ordered)
