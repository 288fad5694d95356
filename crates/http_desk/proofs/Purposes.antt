-- An answer that is told in another way.
use Rattle.std.proofs.Common.{◌≡◌, List, sym, ◌∙◌, subst, Ok, Err, inl, inr}
use Rattle.office_core.specs.declared.machine.Busy.{Busy}
use Rattle.http_messages.specs.declared.answers.Answered.{Answered}
use Rattle.http_desk.specs.MachineAnswers.{AnswersAs}
use Rattle.http_desk.proofs.Common.{Answer, Command, Result, State, StaysFound, answer_in}

-- What holds of one way to tell the answer and the state holds of an equal one, and under a stronger premise on `kept`.
pub same_answers : {M : Type 0} {represents : M → State → Type 0} {is_intact is_open : M → Type 0}
    {recovers : M → List Command → State → Type 0} {old new : M} {f g : State → Answer × State} {P Q : Type 0}
    {result : Result Answered Busy} → ((s : State) → f s ≡ g s) → (Q → P)
    → AnswersAs represents is_intact is_open recovers old new f P result
    → AnswersAs represents is_intact is_open recovers old new g Q result
same_answers {represents = represents} {recovers = recovers} {old = old} {new = new} {result = Ok a} same posts h = record {
  store = h.store;
  kept = λ q. h.kept (posts q);
  answers = λ intact s shown.
      subst (λ t. represents new t.1 × (answer_in a ≡ t.0)) (same s) (h.answers intact s shown);
  busy = tt;
  found = λ intact s shown.
      subst (λ t. StaysFound (recovers old) (recovers new) s t.1) (same s) (h.found intact s shown);
  doubt = tt;
}
same_answers {result = Err busy} same posts h = record {
  store = h.store;
  kept = λ q. tt;
  answers = tt;
  busy = h.busy;
  found = tt;
  doubt = λ intact s shown asked before. elim (h.doubt intact s shown asked before) [
    | inl finds ↦ inl finds
    | inr (command, asks, finds) ↦ inr (command, (λ s. sym (same s) ∙ asks s), finds)
  ];
}
