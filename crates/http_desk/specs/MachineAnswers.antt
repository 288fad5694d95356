-- How the answer to a message follows from the state of the office, whose machine it asks once or not at all.
use Rattle.std.specs.Prelude.{◌≡◌, List, Result, IfOk, OnErr}
use Rattle.office_core.specs.State.{State}
use Rattle.office_core.specs.declared.command.Command.{Command}
use Rattle.office_core.specs.declared.machine.Busy.{Busy}
use Rattle.http_messages.specs.declared.answers.Answered.{Answered}
use Rattle.http_messages.specs.declared.status.Status.TheVariants.{Fine}
use Rattle.http_messages.specs.Answers.{Answer}
use Rattle.http_messages.specs.Replies.{answer_in}
use Rattle.http_desk.specs.BusyMessages.{AnswersTo, StaysFound, StaysFoundOrBusy}
use Rattle.http_desk.specs.Exchanges.{StaysFailed}

-- From the state of the office before, `told` gives the answer, and the state after. `Posts` says that this may be a
-- command.
pub record AnswersAs {M : Type 0} (represents : M → State → Type 0) (is_intact is_open : M → Type 0)
    (recovers : M → List Command → State → Type 0) (old new : M) (told : State → Answer × State) (Posts : Type 0)
    (result : Result Answered Busy) : Type 0 where
  pub store : StaysFailed is_intact is_open old new
  -- after a command that was accepted, the store is open
  pub kept : Posts → IfOk result (λ a. is_intact new → (answer_in a).status ≡ Fine → is_open new)
  -- if the store has returned what was written, these are the answer and the state
  pub answers : IfOk result (λ a. is_intact new → (s : State) → represents old s →
      represents new (told s).1 × (answer_in a ≡ (told s).0))
  -- if the office is busy, its state is as it was
  pub busy : OnErr result (is_intact new → (s : State) → represents old s → represents new s)
  -- what a crash found before, it finds afterwards; if the office is busy with a command, also the state after that
  pub found : IfOk result (λ a. is_intact new → (s : State) → represents old s →
      StaysFound (recovers old) (recovers new) s (told s).1)
  pub doubt : OnErr result (is_intact new → (s : State) → represents old s →
      StaysFoundOrBusy (recovers old) (recovers new) (AnswersTo told) s s)
