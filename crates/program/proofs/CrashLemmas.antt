-- What a failure of the disk leaves of an office in a file, call after call.
use Rattle.std.proofs.Common.{◌≡◌, ◌∙◌, ◌++◌, List, [], ◌∷◌, Result, Ok, Err, OnErr, IsTrue, false, ap, inl, inr, refl}
use Rattle.std.proofs.Common.{subst, sym}
use Rattle.std.specs.Prelude.{IfOk}
use Rattle.sqlite_trees.specs.declared.store.Store as trees
use Rattle.office_core.specs.Rules as rules
use Rattle.office_core.specs.State.{State}
use Rattle.office_core.specs.declared.machine.Reply.{Reply}
use Rattle.office.proofs.Applied.{refused_same}
use Rattle.office.specs.OfficeCall.{MayFind, TakesStep}
use Rattle.program.proofs.Common.{AllByRecursion, AreTablesAfter, AreTablesOf, Command, Database, FileStore, Files}
use Rattle.program.proofs.Common.{Ghosts, HasCleanDisk, HasLeft, HaveCleanDisk, Held, IsAmong, IsAtRest, IsErr, IsIn}
use Rattle.program.proofs.Common.{IsOk, IsRecovered, IsSoundOffice, KeepsCommits, LeaveOnly, RepresentsSpanRows, Second}
use Rattle.program.proofs.Common.{Survives, Trees, both_ways, cases_Bool, early, file_state, is_shown, over_files}
use Rattle.program.proofs.Common.{state, step}
use Rattle.program.proofs.HeadlineLemmas.{shows}

-- of an office that is open, a crash finds what was committed last
pub open_so : {D : Type 0} {g : Ghosts D} (office : Held (FileStore D g)) (s : State)
    → IsTrue (file_state office).is_open → IsRecovered (over_files {g = g}) office [] s
open_so office s opened = λ shut. absurd (both_ways _ shut opened)

-- it finds no more where more commands may have been carried out
more_so : (Such More : Command → Type 0) → ((command : Command) → Such command → More command)
    → (s : State) (db : Trees) → AreTablesAfter Such s db → AreTablesAfter More s db
more_so Such More so s db (inl same) = inl same
more_so Such More so s db (inr (command, such, after)) = inr (command, so command such, after)

-- of the commands in a list, and one more, each is such a command
pub all_such : (Such : Command → Type 0) (commands : List Command) → AllByRecursion Such commands → (command : Command)
    → IsAmong (commands ++ []) command → Such command
all_such Such [] all command never = absurd never
all_such Such (first ∷ others) all command (inl same) = subst Such (sym same) all.0
all_such Such (first ∷ others) all command (inr among) = all_such Such others all.1 command among

pub found_such : (Such : Command → Type 0) (commands : List Command) → AllByRecursion Such commands
    → (s : State) (db : Trees) → AreTablesAfter (IsAmong (commands ++ [])) s db → AreTablesAfter Such s db
found_such Such commands all s db it = more_so (IsAmong (commands ++ [])) Such (all_such Such commands all) s db it

-- what is closed after a failure leaves only what a crash finds
pub left_only : {D : Type 0} (g : Ghosts D) (office : Held (FileStore D g)) (files : Files D) (Such : Trees → Type 0)
    → HasLeft office files → HaveCleanDisk g files
    → (file_state office).is_open ≡ false → ((db : Trees) → (file_state office).may_leave db → Such db)
    → LeaveOnly g files Such
left_only g office files Such left honest shut finds =
    let (last, same, only) = left.shut honest shut in
    (last, same, λ db may. finds db (only db may))

module _ {S : Type 0} (g : trees.Ghosts S) (keeps : KeepsCommits g) (a b : Held S) (rested : HasCleanDisk (state g a) → IsAtRest Second (state g a)) where
  abbrev shown : Held S → State → Type 0
  shown = is_shown g RepresentsSpanRows Second

  -- before the call a crash finds the state, or that after one of these commands
  found_before : HasCleanDisk (state g a) → (s : State) → shown a s → (asked : List Command) → IsRecovered g a asked s
      → (db : Trees) → (state g a).may_leave db → AreTablesAfter (IsAmong asked) s db
  found_before clean s it asked found db may = elim (cases_Bool (state g a).is_open) [
    | inl opened ↦
        let same : db ≡ (state g a).now.trees =
        keeps a.store opened db may ∙ ap (λ (it : Database). it.trees) (sym ((rested clean).settled opened)) in
        inl (subst (AreTablesOf s) (sym same) (shows (state g a).now s (it.1 opened)))
    | inr shut ↦ found shut db may
  ]

  module _ (command : Command) (crash : Survives (state g a) (state g b) (MayFind RepresentsSpanRows Second command (state g a))) where
    -- a command that was answered
    stepped : (s : State) (reply : rules.Reply) → HasCleanDisk (state g b) → (IsOk reply → IsTrue (state g b).is_open)
        → TakesStep RepresentsSpanRows Second s command reply (state g b) → shown a s → (asked : List Command)
        → IsRecovered g a asked s → IsRecovered g b asked (step s command).0
    stepped s (Ok done) clean opened takes it asked found = λ shut. absurd (both_ways _ shut (opened refl))
    stepped s (Err why) clean opened takes it asked found = λ shut db may. elim (crash.crash clean db may) [
      | inl before ↦
          let same = refused_same s command (subst IsErr takes.0 refl) in
          subst (λ t. AreTablesAfter (IsAmong asked) t db) (sym same) (found_before (early crash clean) s it asked found db before)
      | inr more ↦ inl (more s it.0 it.1)
    ]

    pub command_found : {E : Type 0} (r : Result Reply E)
        → (HasCleanDisk (state g b) → IfOk r (λ reply. IsOk reply.done → IsTrue (state g b).is_open))
        → (HasCleanDisk (state g b) → (s : State) → IsSoundOffice s → IsIn RepresentsSpanRows Second s (state g a) → IfOk r (λ reply. TakesStep RepresentsSpanRows Second s command reply.done (state g b)))
        → IfOk r (λ reply. HasCleanDisk (state g b) → (s : State) → shown a s → (asked : List Command) → IsRecovered g a asked s → IsRecovered g b asked (step s command).0)
    command_found (Ok reply) opened steps =
        λ clean s it asked found. stepped s reply.done clean (opened clean) (steps clean s it.0 it.1) it asked found
    command_found (Err e) opened steps = tt

    -- a command with which the office was busy
    pub busy_found : {E : Type 0} (r : Result Reply E)
        → OnErr r (HasCleanDisk (state g b) → (s : State) → shown a s → (asked : List Command) → IsRecovered g a asked s → IsRecovered g b (command ∷ asked) s)
    busy_found (Ok reply) = tt
    busy_found (Err e) = λ clean s it asked found shut db may. elim (crash.crash clean db may) [
      | inl before ↦
          more_so (IsAmong asked) (IsAmong (command ∷ asked)) (λ one among. inr among) s db (found_before (early crash clean) s it asked found db before)
      | inr more ↦ inr (command, inl refl, more s it.0 it.1)
    ]

  -- a question
  pub question_found : Survives (state g a) (state g b) (λ _. ⊥) → HasCleanDisk (state g b) → (s : State) → shown a s
      → (asked : List Command) → IsRecovered g a asked s → IsRecovered g b asked s
  question_found crash clean s it asked found = λ shut db may. elim (crash.crash clean db may) [
    | inl before ↦ found_before (early crash clean) s it asked found db before
    | inr none ↦ absurd none
  ]
