-- How answering a question ends.
use Rattle.std.proofs.Common.{◌≡◌, ℕ, Ok, Err, Result, sym, subst}
use Rattle.sqlite.specs.State as store
use Rattle.desk_core.specs.DeskRows.{Desk}
use Rattle.desk_core.specs.LegibleDesks.{IsLegible}
use Rattle.office_tables.proofs.CallEnds.{same_fault}
use Rattle.office_tables.proofs.Calls.{cut_then}
use Rattle.office_tables.proofs.Causes.{still_unlimited}
use Rattle.office_tables.proofs.LaterCauses.{next_cause}
use Rattle.office_tables.specs.Faults.{HasCause, IsUnlimited}
use Rattle.office_core.specs.Queries.{answer}
use Rattle.office_core.specs.State.{State}
use Rattle.office_core.specs.declared.query.Answer.{Answer}
use Rattle.office_core.specs.declared.query.Query.{Query}
use Rattle.refinement.specs.QueryAnswers.{AnswersQuery}
use Rattle.refinement.proofs.Common.{Database, Forest, HasCleanDisk, IsAborted, IsErr, IsErrAnd, IsSoundOffice}
use Rattle.refinement.proofs.Common.{LeavesUnchanged, RepresentsDeskAlone, RepresentsState, StoreFault, Trees, Version}
use Rattle.refinement.proofs.Common.{desk_legible, tables, ⊤}

module _ (places : Trees → Forest ℕ → Type 0) (version : Version) where
  -- what was shown is still shown after a look
  pub still_shown : (a b : store.State) → LeavesUnchanged a b → HasCleanDisk b → (s : State)
      → RepresentsState places version a.now s → RepresentsState places version b.now s
  still_shown a b looked clean s it =
      subst (λ (db : Database). RepresentsState places version db s) (sym (looked.same clean)) it

  module _ (asked : Query) where
    -- its first step fails
    pub answers_not : (a b : store.State) (r : Result Answer StoreFault) (e : StoreFault) → r ≡ Err e → IsAborted a b
        → ((s : State) → IsSoundOffice s → RepresentsState places version a.now s → HasCleanDisk b → IsUnlimited a → HasCause a b e)
        → AnswersQuery places version asked a b r
    answers_not a b r e is cut why =
        subst (λ (r : Result Answer StoreFault). AnswersQuery places version asked a b r) (sym is)
        (record { answers = λ clean s sound it. tt; looks = tt; aborts = cut; faults = λ s sound it clean free. why s sound it clean free })

    -- a later step fails
    pub stops_later : (a b c : store.State) (r : Result Answer StoreFault) (e : StoreFault) → r ≡ Err e
        → LeavesUnchanged a b → IsAborted b c
        → ((s : State) → IsSoundOffice s → RepresentsState places version b.now s → HasCleanDisk c → IsUnlimited b → HasCause b c e)
        → AnswersQuery places version asked a c r
    stops_later a b c r e is looked cut why =
        answers_not a c r e is (cut_then looked.goes.on cut)
        (λ s sound it clean free.
        next_cause a b c looked.goes.on cut clean e (λ at_b. why s sound (still_shown a b looked at_b s it) clean (still_unlimited a b looked.goes.on free)))

    -- it tells what was read
    pub answers_by : (a b : store.State) (told : Answer) → LeavesUnchanged a b
        → (HasCleanDisk b → (s : State) → IsSoundOffice s → RepresentsState places version a.now s → told ≡ answer s asked)
        → AnswersQuery places version asked a b (Ok told)
    answers_by a b told looked is = record { answers = is; looks = looked; aborts = tt; faults = λ s sound it clean free. tt }

-- ---- it passes the fault of a step on

module _ {places : Trees → Forest ℕ → Type 0} {version : Version} {asked : Query} (e : StoreFault) {r : Result Answer StoreFault} (fault : IsErr r × IsErrAnd r (λ f. f ≡ e)) where
  -- of its first
  pub answers_passed : {a b : store.State} → IsAborted a b
      → ((s : State) → IsSoundOffice s → RepresentsState places version a.now s → HasCleanDisk b → IsUnlimited a → HasCause a b e)
      → AnswersQuery places version asked a b r
  answers_passed {a} {b} cut why = answers_not places version asked a b r e (same_fault fault) cut why

  -- which is a call on the desk
  pub desk_answers_passed : {a b : store.State} → IsAborted a b
      → ((beside : ⊤) (d : Desk) → RepresentsDeskAlone a.now beside d → ⊤ → IsLegible d → HasCleanDisk b → IsUnlimited a → HasCause a b e)
      → AnswersQuery places version asked a b r
  desk_answers_passed cut faults =
      answers_passed cut (λ s sound it. faults tt (tables version s).desk it.desk tt (desk_legible version s sound))

  -- of a later one, after a look
  pub answers_passed_later : {a b c : store.State} → LeavesUnchanged a b → IsAborted b c
      → ((s : State) → IsSoundOffice s → RepresentsState places version b.now s → HasCleanDisk c → IsUnlimited b → HasCause b c e)
      → AnswersQuery places version asked a c r
  answers_passed_later {a} {b} {c} looked cut why =
      stops_later places version asked a b c r e (same_fault fault) looked cut why
