-- A change that the gate has the last word on.
use Rattle.std.proofs.Common.{◌≡◌, ℕ, ℤ, Option, Some, None, Result, Ok, Err, OnOk, refl, sym, ap, subst, ◌∙◌, []}
use Rattle.std.specs.Prelude.{◌∷◌}
use Rattle.sqlite.specs.Effect.{Database}
use Rattle.sqlite.specs.State as store
use Rattle.sqlite_trees.specs.declared.store.Store as kept_in
use Rattle.desk_core.specs.Refusals.{first_that_holds}
use Rattle.desk_core.specs.declared.refusal.Refusal.{Refusal}
use Rattle.office_tables.specs.Calls.{Answers}
use Rattle.office_tables.specs.Step.{Goes, IsAborted, LeavesUnchanged}
use Rattle.office_core.specs.State.{State}
use Rattle.office_core.specs.declared.command.Command.{Command}
use Rattle.office_core.specs.declared.done.Done.{Done}
use Rattle.refinement.proofs.Tellings.{looked_crash}
use Rattle.refinement.specs.CommandSteps.{CarriesOut, CarriesOutStep}
use Rattle.refinement.specs.Representation.{RepresentsState}
use Rattle.access.proofs.Common.{CanBeJudged, Forest, HasCleanDisk, Held, IfOk, IsOk, IsSoundOffice, Reply}
use Rattle.access.proofs.Common.{RepresentsWhole, StoreFault, Trees, Version, after, cut_then, decide, early}
use Rattle.access.proofs.Common.{excused_then, gate, gate_reply, goes_then, on_err_then, on_ok_then, refusal, result_of}
use Rattle.access.proofs.Common.{state, step, unless_refused, ⊤}

-- the step of a command whose other checks do not hold
gated_step : (places : Trees → Forest ℕ → Type 0) (version : Version) (s : State) (asked : Command) (db : Database)
    → refusal s asked ≡ first_that_holds (gate (after s asked) ∷ []) → (reply : Reply)
    → reply ≡ gate_reply (after s asked) (result_of s asked)
    → RepresentsState places version db (after s asked) → CarriesOutStep places version s asked reply db
gated_step places version s asked db last reply is shown = at (gate (after s asked)) refl
  where
    at : (why : Option Refusal) → gate (after s asked) ≡ why → CarriesOutStep places version s asked reply db
    at None e =
        let one : step s asked ≡ (after s asked, Ok (result_of s asked)) =
        ap (λ why. decide why s (after s asked) (result_of s asked)) (last ∙ ap (λ why. first_that_holds (why ∷ [])) e) in
        let so : reply ≡ Ok (result_of s asked) = is ∙ ap (λ why. unless_refused why (result_of s asked)) e in
        record { told = so ∙ sym (ap (λ (p : State × Reply). p.1) one); represents = λ ok. subst (RepresentsState places version db) (sym (ap (λ (p : State × Reply). p.0) one)) shown }
    at (Some why) e =
        let one : step s asked ≡ (s, Err why) =
        ap (λ why. decide why s (after s asked) (result_of s asked)) (last ∙ ap (λ why. first_that_holds (why ∷ [])) e) in
        let so : reply ≡ Err why = is ∙ ap (λ why. unless_refused why (result_of s asked)) e in
        record { told = so ∙ sym (ap (λ (p : State × Reply). p.1) one); represents = λ ok. absurd (let bad : IsOk (let r : Reply = Err why in r) = subst IsOk so ok in cc) }

pub if_ok_then : {X E : Type 0} (r : Result X E) (P Q : X → Type 0) → ((x : X) → P x → Q x) → IfOk r P → IfOk r Q
if_ok_then (Ok x) P Q f h = f x h
if_ok_then (Err e) P Q f h = tt

pub if_ok_with : {X E : Type 0} (r : Result X E) (L : Type 0) (P Q : X → Type 0) → ((x : X) → L → P x → Q x) → OnOk r L
    → IfOk r P → IfOk r Q
if_ok_with (Ok x) L P Q f l h = f x l h
if_ok_with (Err e) L P Q f l h = tt

-- what is known of a change, before it and by its call
pub record IsChange (places : Trees → Forest ℕ → Type 0) (version : Version) (known : State → Type 0) (asked : Command) (today : ℤ) (done : Done) (old new : store.State) : Type 0 where
  pub represents : HasCleanDisk new → (s : State) → IsSoundOffice s → known s → RepresentsState places version old.now s
      → RepresentsState places version new.now (after s asked)
  pub judged : (s : State) → IsSoundOffice s → known s → CanBeJudged (after s asked)
  pub day : (s : State) → known s → today ≡ (after s asked).day
  pub last : (s : State) → known s → refusal s asked ≡ first_that_holds (gate (after s asked) ∷ [])
  pub answers : HasCleanDisk new → (s : State) → known s → RepresentsState places version old.now s
      → done ≡ result_of s asked

module _ {S : Type 0} (g : kept_in.Ghosts S) (places : Trees → Forest ℕ → Type 0) (version : Version) (known : State → Type 0) (asked : Command) (today : ℤ) (done : Done) (before : store.State) (mid after_it : Held S) (r : Result Reply StoreFault) where
  abbrev b : store.State
  b = state g mid

  abbrev c : store.State
  c = state g after_it

  -- the same of a change that bears only on some containers
  pub passed_where : (OthersStay : State → Type 0) → IsChange places version known asked today done before b
      → ((s : State) → IsSoundOffice s → known s → OthersStay (after s asked)) → Goes before b
      → Answers g (RepresentsWhole places version) mid after_it r (λ _. ⊤) CanBeJudged (λ _ s reply. CanBeJudged s → today ≡ s.day → OthersStay s → reply ≡ gate_reply s done)
      → CarriesOut places version known asked before c r
  passed_where OthersStay change others goes told =
      let still = λ (clean : HasCleanDisk c). early (looked_crash r b c told.looks told.aborts) clean in
      record {
        steps = λ clean s sound so it.
            let at_b = still clean in
            let shown = change.represents at_b s sound so it in
            let judged = change.judged s sound so in
            let answers = told.answers clean tt (after s asked) shown in
            if_ok_with r (LeavesUnchanged b c) (λ reply. CanBeJudged (after s asked) → today ≡ (after s asked).day → OthersStay (after s asked) → reply ≡ gate_reply (after s asked) done) (λ reply. CarriesOutStep places version s asked reply c.now)
            (λ reply looked is. gated_step places version s asked c.now (change.last s so) reply
            (is judged (change.day s so) (others s sound so) ∙ ap (gate_reply (after s asked)) (change.answers at_b s so it))
            (subst (λ (db : Database). RepresentsState places version db (after s asked)) (sym (looked.same clean)) shown))
            told.looks answers;
        goes = on_ok_then r (LeavesUnchanged b c) (Goes before c) (λ looked. goes_then goes looked.goes) told.looks;
        aborts = on_err_then r (IsAborted b c) (IsAborted before c) (λ cut. cut_then goes.on cut) told.aborts;
        faults = λ s sound so it. excused_then _ goes.on r told.aborts (λ at_b. told.faults tt (after s asked) (change.represents at_b s sound so it) tt (change.judged s sound so));
      }

-- the same of a change that can withhold nothing
pub passed_freely : (places : Trees → Forest ℕ → Type 0) (version : Version) (known : State → Type 0) (asked : Command) (today : ℤ) (done : Done) (old new : store.State)
    → IsChange places version known asked today done old new
    → ((s : State) → IsSoundOffice s → known s → gate (after s asked) ≡ None) → Goes old new
    → CarriesOut places version known asked old new (let r : Result Reply StoreFault = Ok (Ok done) in r)
passed_freely places version known asked today done old new change free goes = record {
  steps = λ clean s sound so it.
      gated_step places version s asked new.now (change.last s so) (Ok done)
      (ap Ok (change.answers clean s so it) ∙ sym (ap (λ why. unless_refused why (result_of s asked)) (free s sound so)))
      (change.represents clean s sound so it);
  goes = goes;
  aborts = tt;
  faults = λ s sound so it clean free. tt;
}
