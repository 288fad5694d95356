-- The calls of an office over its tables are calls of the machine.
use Rattle.std.proofs.Common.{◌≡◌, ℕ, Result, Ok, Err, OnErr, sym, ap, subst, ◌∙◌}
use Rattle.std.specs.Prelude.{IsOk}
use Rattle.sqlite.specs.State as sqlite
use Rattle.sqlite_trees.specs.declared.store.Store as store
use Rattle.office_core.specs.Json.{reply_text}
use Rattle.office_core.specs.Rules as rules
use Rattle.office_core.specs.State.{State}
use Rattle.office_core.specs.declared.machine.Reply.{Reply}
use Rattle.office.proofs.Common.{Answer, Answered, Command, Database, Forest, Held, IfOk, IsAsBefore, IsCall, IsIn}
use Rattle.office.proofs.Common.{IsSoundOffice, Query, Replied, RepresentsState, TakesStep, Trees, Version, answer}
use Rattle.office.proofs.Common.{command_call, has_clean_disk, is_shown, is_still_open, question_call, state, step}

-- while nothing is changed, it is in the state that it was in
pub in_as_before : (places : Trees → Forest ℕ → Type 0) (version : Version) (a b : sqlite.State) (s : State)
    → IsAsBefore a b → IsIn places version s a → IsIn places version s b
in_as_before places version a b s same is opened =
    subst (λ (db : Database). RepresentsState places version db s) (sym (same.now opened)) (is (same.was_open opened))

module _ {S : Type 0} (g : store.Ghosts S) (places : Trees → Forest ℕ → Type 0) (version : Version) (old new : Held S) where
  abbrev shown : Held S → State → Type 0
  shown = is_shown g places version

  abbrev clean : Held S → Type 0
  clean = has_clean_disk g

  -- a command
  pub applied_call : {E : Type 0} (asked : Command) (r : Result Reply E) → (clean new → clean old)
      → (clean new → is_still_open g new → is_still_open g old)
      → (clean new → IfOk r (λ reply. IsOk reply.done → is_still_open g new))
      → (clean new → (s : State) → IsSoundOffice s → IsIn places version s (state g old) → IfOk r (λ reply. TakesStep places version s asked reply.done (state g new)))
      → ((s : State) → IsSoundOffice s → IsSoundOffice (step s asked).0)
      → (clean new → OnErr r (IsAsBefore (state g old) (state g new)))
      → IfOk r (λ reply. reply.json ≡ reply_text reply.done)
      → IsCall shown clean (is_still_open g) old new (command_call asked r)
  applied_call asked (Ok reply) before was kept steps sound busy bytes = record {
    intact = before;
    was_open = was;
    kept = kept;
    follows = λ at s is. let it = steps at s is.0 is.1 in ((sound s is.0, it.1), ap (λ json. Replied reply.done json) bytes ∙ ap (λ (r : rules.Reply). Replied r (reply_text r)) it.0);
  }
  applied_call asked (Err e) before was kept steps sound busy bytes = record {
    intact = before;
    was_open = was;
    kept = λ at never. absurd never;
    follows = λ at s is. (is.0, in_as_before places version (state g old) (state g new) s (busy at) is.1);
  }

  pub step_told : {E : Type 0} (asked : Command) (r : Result Reply E)
      → (clean new → (s : State) → IsSoundOffice s → IsIn places version s (state g old) → IfOk r (λ reply. TakesStep places version s asked reply.done (state g new)))
      → ((s : State) → IsSoundOffice s → IsSoundOffice (step s asked).0)
      → IfOk r (λ reply. reply.json ≡ reply_text reply.done)
      → IfOk r (λ reply. clean new → (s : State) → shown old s → shown new (step s asked).0 × (reply.done ≡ (step s asked).1) × (reply.json ≡ reply_text (step s asked).1))
  step_told asked (Ok reply) steps sound bytes = λ at s is.
      let it = steps at s is.0 is.1 in
      ((sound s is.0, it.1), it.0, bytes ∙ ap (λ (r : rules.Reply). reply_text r) it.0)
  step_told asked (Err e) steps sound bytes = tt

  pub kept_open : {E : Type 0} (r : Result Reply E)
      → (clean new → IfOk r (λ reply. IsOk reply.done → is_still_open g new))
      → IfOk r (λ reply. clean new → IsOk reply.done → is_still_open g new)
  kept_open (Ok reply) kept = kept
  kept_open (Err e) kept = tt

  pub busy_same : {X E : Type 0} (r : Result X E) → (clean new → OnErr r (IsAsBefore (state g old) (state g new)))
      → OnErr r (clean new → (s : State) → shown old s → shown new s)
  busy_same (Ok x) same = tt
  busy_same (Err e) same = λ at s is. (is.0, in_as_before places version (state g old) (state g new) s (same at) is.1)

  -- a question
  pub answered_call : {E : Type 0} (asked : Query) (r : Result Answer E) → (clean new → clean old)
      → (clean new → (s : State) → IsSoundOffice s → IsIn places version s (state g old) → IfOk r (λ told. told ≡ answer s asked))
      → (clean new → IsAsBefore (state g old) (state g new))
      → IsCall shown clean (is_still_open g) old new (question_call asked r)
  answered_call asked (Ok told) before answers same = record {
    intact = before;
    was_open = λ at. (same at).was_open;
    kept = λ at never. absurd never;
    follows = λ at s is. ((is.0, in_as_before places version (state g old) (state g new) s (same at) is.1), ap Answered (answers at s is.0 is.1));
  }
  answered_call asked (Err e) before answers same = record {
    intact = before;
    was_open = λ at. (same at).was_open;
    kept = λ at never. absurd never;
    follows = λ at s is. (is.0, in_as_before places version (state g old) (state g new) s (same at) is.1);
  }

  pub answer_told : {E : Type 0} (asked : Query) (r : Result Answer E)
      → (clean new → (s : State) → IsSoundOffice s → IsIn places version s (state g old) → IfOk r (λ told. told ≡ answer s asked))
      → (clean new → IsAsBefore (state g old) (state g new))
      → IfOk r (λ told. clean new → (s : State) → shown old s → shown new s × (told ≡ answer s asked))
  answer_told asked (Ok told) answers same =
      λ at s is. ((is.0, in_as_before places version (state g old) (state g new) s (same at) is.1), answers at s is.0 is.1)
  answer_told asked (Err e) answers same = tt

  pub busy_told : {X E : Type 0} (r : Result X E) → (clean new → IsAsBefore (state g old) (state g new))
      → OnErr r (clean new → (s : State) → shown old s → shown new s)
  busy_told (Ok x) same = tt
  busy_told (Err e) same = λ at s is. (is.0, in_as_before places version (state g old) (state g new) s (same at) is.1)
