-- What is written of an answer, and what was written to a writer that may fail.
use Rattle.std.specs.Prelude.{◌≡◌, ◌≢◌, ℕ, ◌+◌, ◌||◌, List, Option, Result, Ok, Err, length, true, false}
use Rattle.std.specs.Io.KnownBytes.{Appends}
use Rattle.http_messages.specs.declared.answers.Answered.{Answered}
use Rattle.http_messages.specs.declared.answers.AnswerView.{AnswerView}
use Rattle.http_messages.specs.Replies.{answer_in, answer_of_view}
use Rattle.http_desk.specs.Session.{IsFront}
use Rattle.http_desk.specs.StreamFaults.{TakesCalls, TextIsUsedUp, send_failed}
use Rattle.http_desk.specs.Streams.{Stream, more_writes}
use Rattle.http_desk.specs.declared.output.Sent.{Sent}
use Rattle.http_desk.specs.declared.output.Sent.TheVariants.{All, Failed, Bound}

-- the writer got all of the bytes, or a front of them before a fault
abbrev pub Sends : Option (List ℕ) → Option (List ℕ) → List ℕ → Sent → Type 0
Sends old new bytes All = Appends old new bytes
Sends old new bytes Failed = (front : List ℕ) × IsFront front bytes × Appends old new front
Sends old new bytes Bound = (front : List ℕ) × IsFront front bytes × Appends old new front

-- a text was sent, in at most one write or flush for each of its bytes and 16 more
pub record SendsAsCalled (text : List ℕ) (old new : Stream) (sent : Sent) : Type 0 where
  pub sends : Sends old.bytes new.bytes text sent
  pub flushed : sent ≡ All → new.flushed ≡ true
  pub failed : new.failed ≡ (send_failed sent || old.failed)  -- a fault is told exactly if one came
  -- a bound is told only if a call was interrupted, and all calls were made
  pub bound : new.interrupted ≡ false → (old.interrupted ≡ false) × (sent ≢ Bound)
  pub used_up : sent ≡ Bound → TextIsUsedUp text new
  pub calls : TakesCalls (length text + more_writes) old new

-- the view of an answer, or the same reason why there is none
abbrev pub IsViewOf : {E : Type 0} → Result AnswerView E → Result Answered E → Type 0
IsViewOf (Ok view) (Ok answer) = answer_of_view view ≡ answer_in answer
IsViewOf (Ok view) (Err why) = ⊥
IsViewOf (Err why) (Ok answer) = ⊥
IsViewOf (Err why) (Err same) = why ≡ same
