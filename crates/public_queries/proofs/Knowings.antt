-- How answering a question ends, where something is known of the office.
use Rattle.std.proofs.Common.{◌≡◌, ℕ, Ok, Err, Result, sym, subst}
use Rattle.sqlite.specs.State as store
use Rattle.office_tables.proofs.Causes.{still_unlimited}
use Rattle.office_tables.proofs.LaterCauses.{next_cause}
use Rattle.office_tables.specs.Faults.{HasCause, IsUnlimited}
use Rattle.office_tables.specs.Versions.{Version}
use Rattle.office_tables.specs.declared.fault.StoreFault.TheVariants as fault
use Rattle.office_core.specs.State.{State}
use Rattle.office_core.specs.declared.query.Answer.{Answer}
use Rattle.office_core.specs.declared.query.Query.{Query}
use Rattle.public_queries.specs.InformedAnswers.{AnswersKnowing}
use Rattle.public_queries.proofs.Common.{Catalogue, Forest, HasCleanDisk, IsAborted, IsErr, IsErrAnd, IsKept}
use Rattle.public_queries.proofs.Common.{IsSoundOffice, LeavesUnchanged, OfficeRow, Represents, RepresentsState}
use Rattle.public_queries.proofs.Common.{StoreFault, Trees, answer, cut_after, cut_then, office_kept, office_of}
use Rattle.public_queries.proofs.Common.{same_fault, still_shown, ⊤}

module _ (places : Trees → Forest ℕ → Type 0) (version : Version) (known : State → Type 0) (asked : Query) where
  -- its first step fails
  pub knows_not : (a b : store.State) (r : Result Answer StoreFault) (e : StoreFault) → r ≡ Err e → IsAborted a b
      → ((s : State) → IsSoundOffice s → known s → RepresentsState places version a.now s → HasCleanDisk b → IsUnlimited a → HasCause a b e)
      → AnswersKnowing places version known asked a b r
  knows_not a b r e is cut why =
      subst (λ (r : Result Answer StoreFault). AnswersKnowing places version known asked a b r) (sym is)
      (record { answers = λ clean s sound so it. tt; looks = tt; aborts = cut; faults = λ s sound so it clean free. why s sound so it clean free })

  -- a later step fails
  pub knows_no_more : (a b c : store.State) (r : Result Answer StoreFault) (e : StoreFault) → r ≡ Err e
      → LeavesUnchanged a b → IsAborted b c
      → ((s : State) → IsSoundOffice s → known s → RepresentsState places version b.now s → HasCleanDisk c → IsUnlimited b → HasCause b c e)
      → AnswersKnowing places version known asked a c r
  knows_no_more a b c r e is looked cut why =
      knows_not a c r e is (cut_then looked.goes.on cut)
      (λ s sound so it clean free.
      next_cause a b c looked.goes.on cut clean e (λ at_b. why s sound so (still_shown places version a b looked at_b s it) clean (still_unlimited a b looked.goes.on free)))

  -- there was no memory for what was read
  pub knows_short : (a b : store.State) (r : Result Answer StoreFault) → r ≡ Err fault.Memory → LeavesUnchanged a b
      → AnswersKnowing places version known asked a b r
  knows_short a b r is looked =
      knows_not a b r fault.Memory is (cut_after looked.goes.on) (λ s sound so it clean free. tt)

  -- it tells what was read
  pub knows_by : (a b : store.State) (told : Answer) → LeavesUnchanged a b
      → (HasCleanDisk b → (s : State) → IsSoundOffice s → known s → RepresentsState places version a.now s → told ≡ answer s asked)
      → AnswersKnowing places version known asked a b (Ok told)
  knows_by a b told looked is = record { answers = is; looks = looked; aborts = tt; faults = λ s sound so it clean free. tt }

-- ---- it passes the fault of a step on

module _ {places : Trees → Forest ℕ → Type 0} {version : Version} {known : State → Type 0} {asked : Query} (e : StoreFault) {r : Result Answer StoreFault} (handed : IsErr r × IsErrAnd r (λ f. f ≡ e)) where
  -- of its first
  pub knows_passed : {a b : store.State} → IsAborted a b
      → ((s : State) → IsSoundOffice s → known s → RepresentsState places version a.now s → HasCleanDisk b → IsUnlimited a → HasCause a b e)
      → AnswersKnowing places version known asked a b r
  knows_passed {a} {b} cut why = knows_not places version known asked a b r e (same_fault handed) cut why

  -- which is a call on the catalogue
  pub catalogue_passed : {a b : store.State} → IsAborted a b
      → ((o : OfficeRow) (k : Catalogue) → Represents places version a.now o k → ⊤ → IsKept k → HasCleanDisk b → IsUnlimited a → HasCause a b e)
      → AnswersKnowing places version known asked a b r
  catalogue_passed cut faults =
      knows_passed cut (λ s sound so it. faults (office_of s) s.catalogue it.catalogue tt (office_kept s sound))

  -- of a later one, after a look
  pub knows_passed_later : {a b c : store.State} → LeavesUnchanged a b → IsAborted b c
      → ((s : State) → IsSoundOffice s → known s → RepresentsState places version b.now s → HasCleanDisk c → IsUnlimited b → HasCause b c e)
      → AnswersKnowing places version known asked a c r
  knows_passed_later {a} {b} {c} looked cut why =
      knows_no_more places version known asked a b c r e (same_fault handed) looked cut why
