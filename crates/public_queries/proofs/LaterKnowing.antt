-- A question is answered by a last step, for which more is known after what was read.
use Rattle.std.proofs.Common.{ℕ, Result}
use Rattle.sqlite.specs.State as store
use Rattle.office_tables.specs.Versions.{Version}
use Rattle.office_core.specs.State.{State}
use Rattle.office_core.specs.declared.query.Answer.{Answer}
use Rattle.office_core.specs.declared.query.Query.{Query}
use Rattle.refinement.proofs.Tellings.{looked_crash}
use Rattle.public_queries.specs.InformedAnswers.{AnswersKnowing}
use Rattle.public_queries.proofs.Common.{Forest, HasCleanDisk, IsAborted, IsSoundOffice, LeavesUnchanged}
use Rattle.public_queries.proofs.Common.{RepresentsState, StoreFault, Trees, cut_then, early, excused_then, looks_then}
use Rattle.public_queries.proofs.Common.{on_err_then, on_ok_then, still_shown}

pub knows_then : (places : Trees → Forest ℕ → Type 0) (version : Version) (known later : State → Type 0) (asked : Query) (a b c : store.State) (r : Result Answer StoreFault)
    → LeavesUnchanged a b
    → (HasCleanDisk b → (s : State) → IsSoundOffice s → known s → RepresentsState places version a.now s → later s)
    → AnswersKnowing places version later asked b c r → AnswersKnowing places version known asked a c r
knows_then places version known later asked a b c r looked means last =
    record {
      answers = λ clean s sound so it.
          let at_b = early (looked_crash r b c last.looks last.aborts) clean in
          last.answers clean s sound (means at_b s sound so it) (still_shown places version a b looked at_b s it);
      looks = on_ok_then r (LeavesUnchanged b c) (LeavesUnchanged a c) (λ on. looks_then looked on) last.looks;
      aborts = on_err_then r (IsAborted b c) (IsAborted a c) (λ cut. cut_then looked.goes.on cut) last.aborts;
      faults = λ s sound so it.
          excused_then _ looked.goes.on r last.aborts (λ at_b. last.faults s sound (means at_b s sound so it) (still_shown places version a b looked at_b s it));
    }
