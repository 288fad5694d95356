-- What the parts of a session's code promise for the place of one message.
use Rattle.std.specs.Prelude.{◌≡◌, ℕ, ◌++◌, Bool, true, false, List, Option, IfSome}
use Rattle.std.specs.Io.KnownBytes.{Consumes, Appends, IsAtEnd}
use Rattle.isad_core.specs.Texts.{Bytes}
use Rattle.office_core.specs.State.{State}
use Rattle.office_core.specs.declared.command.Command.{Command}
use Rattle.http_desk.specs.declared.session_end.Ended.{Ended}
use Rattle.http_desk.specs.declared.session_end.Ended.TheVariants.{End, Closed, Cut, ReadFault, WriteFault, Bound}
use Rattle.http_desk.specs.declared.session_end.Next.{Next}
use Rattle.http_desk.specs.declared.session_end.Next.TheVariants.{Goes, Ends}
use Rattle.http_desk.specs.declared.output.Sent.{Sent}
use Rattle.http_desk.specs.declared.output.Sent.TheVariants.{All, Failed, Bound as OutOfTurns}
use Rattle.http_messages.specs.declared.status.Status.{Status}
use Rattle.http_messages.specs.Answers.{error}
use Rattle.http_desk.specs.AnswerOutput.{Sends}
use Rattle.http_desk.specs.AcceptedMessages.{IsAccepted, LastLeavesOpen, LeavesOpen}
use Rattle.http_desk.specs.BusyMessages.{IsBusyWith, StaysFound, StaysFoundOrBusy, WasBusyWith}
use Rattle.http_desk.specs.Messages.{Message, Begins}
use Rattle.http_desk.specs.Session.{closes, message_text, state_after_message, refusal_text, Stops, Session}
use Rattle.http_desk.specs.Laws.{HasEnded}
use Rattle.http_desk.specs.StreamFaults.{FlushesAll, IsFlushed, NoBound, NoWriteBound, TellsBound, TellsReadFault}
use Rattle.http_desk.specs.StreamFaults.{TellsWriteFault}
use Rattle.http_desk.specs.Streams.{Stream}

-- a message was answered, and the next may come
pub record ExchangeGoesOn (number : ℕ) (s : State) (input out : Bytes) (new : State) (rest : Bytes) : Type 0 where
  pub message : Message
  pub begins : Begins input message rest
  pub stays : closes number message ≡ false
  pub says : out ≡ message_text false s message
  pub leaves : new ≡ state_after_message s message

-- What happens in the place of one message. An office that it leaves open is open afterwards. What a crash found
-- before, it finds afterwards, or that after one command more, with which the office was busy.
abbrev pub Turn : Type 0 → Type 0 → (found finds : List Command → State → Type 0) → ℕ → State → Bytes → Next → Bytes
    → State → Bytes → Type 0
Turn was_open is_open found finds number s input Goes out new rest =
    (goes : ExchangeGoesOn number s input out new rest) × (IsAccepted s goes.message → is_open) × StaysFound found finds s new
Turn was_open is_open found finds number s input (Ends end) out new rest =
    (stops : Stops number s input out end new) × (LastLeavesOpen was_open s stops.last → is_open)
    × StaysFoundOrBusy found finds (IsBusyWith input stops.last) s new

-- `P` relates the states of two offices, if the store has returned what was written
abbrev pub Through : {M : Type 0} → (M → State → Type 0) → (M → Type 0) → M → M → (State → State → Type 0) → Type 0
Through represents is_intact old new P = is_intact new → (s : State) → represents old s → (t : State) × represents new t × P s t

-- the bytes of a buffer, those that a reader then gave, and those that were written are the place of one message
abbrev pub Exchange : {M : Type 0} → (M → State → Type 0) → (M → Type 0) → (M → Type 0)
    → (M → List Command → State → Type 0) → ℕ → Option Bytes → Option Bytes → Option Bytes → Option Bytes
    → M → Bytes → Next → M → Bytes → Type 0
Exchange represents is_intact is_open recovers number left left_after held held_after old buffer next new rest =
    (read : Bytes) × (written : Bytes) × Consumes left left_after read × Appends held held_after written
    × Through represents is_intact old new
    (λ s t. Turn (is_open old) (is_open new) (recovers old) (recovers new)
    number s (buffer ++ read) next written t rest)

-- A session. An office that it leaves open is open afterwards. What a crash found before it, it finds afterwards, or
-- that after one command more, with which the office was busy.
abbrev pub Keeps : Type 0 → Type 0 → (found finds : List Command → State → Type 0) → State → Bytes → Bytes → Ended
    → State → Type 0
Keeps was_open is_open found finds s input output end new =
    (session : Session s input output end new) × (LeavesOpen was_open session → is_open)
    × StaysFoundOrBusy found finds (WasBusyWith session) s new

-- what was read and what was written are a session
abbrev pub Talks : {M : Type 0} → (M → State → Type 0) → (M → Type 0) → (M → Type 0)
    → (M → List Command → State → Type 0) → Option Bytes → Option Bytes → Option Bytes → Option Bytes
    → M → Ended → M → Type 0
Talks represents is_intact is_open recovers left left_after held held_after old end new =
    (read : Bytes) × (written : Bytes) × Consumes left left_after read × Appends held held_after written
    × Through represents is_intact old new
    (λ s t. Keeps (is_open old) (is_open new) (recovers old) (recovers new) s read written end t)

-- the input has ended, if the session ends so
abbrev pub AtEndIf : Option Bytes → Next → Type 0
AtEndIf left (Ends End) = IsAtEnd left
AtEndIf left (Ends Cut) = IsAtEnd left
AtEndIf left _ = Unit {0}

-- what comes after a sending that may have failed
abbrev pub after_sending : Sent → Next → Next
after_sending All next = next
after_sending Failed next = Ends WriteFault
after_sending OutOfTurns next = Ends Bound

-- the reader did not end the session: the input has not ended, and no read has failed
abbrev pub IsNoEnd : Next → Type 0
IsNoEnd (Ends End) = ⊥
IsNoEnd (Ends Cut) = ⊥
IsNoEnd (Ends ReadFault) = ⊥
IsNoEnd _ = Unit {0}

-- an answer was sent after which the connection is closed
abbrev pub Refused : Option Bytes → Option Bytes → Bool → Status → Next → Type 0
Refused held held_after bare status next = (sent : Sent) × Sends held held_after (refusal_text bare (error status)) sent
    × (next ≡ after_sending sent (Ends Closed))

-- what comes after an answer that was sent
abbrev pub after_answer : Bool → Next
after_answer true = Ends Closed
after_answer false = Goes

-- an answer was sent
abbrev pub SendsAnswer : Option Bytes → Option Bytes → Bool → Bytes → Next → Type 0
SendsAnswer held held_after closing text next = (sent : Sent) × Sends held held_after text sent
    × (next ≡ after_sending sent (after_answer closing))

-- a session of the whole input that a reader had, unless a fault broke it off
abbrev pub TalksWhole : {M : Type 0} → (M → State → Type 0) → (M → Type 0) → (M → Type 0)
    → (M → List Command → State → Type 0) → Option Bytes → Option Bytes → Option Bytes → M → Ended → M → Type 0
TalksWhole represents is_intact is_open recovers remaining held held_after old end new =
    IfSome remaining (λ input. HasEnded end → (written : Bytes) × Appends held held_after written
    × Through represents is_intact old new
    (λ s t. Keeps (is_open old) (is_open new) (recovers old) (recovers new) s input written end t))

-- What comes next agrees with how the calls on the writer went: after an answer the input has not ended.
pub record WritesAsCalled (writer writer_after : Stream) (next : Next) : Type 0 where
  pub no_end : IsNoEnd next
  pub flushed : IsFlushed writer_after next  -- all that was written, unless a write fault or a bound is told
  pub writes : TellsWriteFault writer writer_after next  -- a write fault is told exactly if one came
  pub turns : NoWriteBound writer writer_after next  -- a bound is told only if a call was interrupted
  pub same : writer_after.name ≡ writer.name  -- it is the same writer

-- What comes next, of a message or a session, agrees with how the calls on the reader and the writer went. `Takes` says
-- how many reads were made.
pub record EndsAsCalled (Takes : Stream → Stream → Type 0) (reader reader_after writer writer_after : Stream)
    (next : Next) : Type 0 where
  pub at_end : AtEndIf reader_after.bytes next  -- the input has ended, if that is told
  pub flushed : FlushesAll writer writer_after next  -- all that was written, unless a write fault or a bound is told
  pub reads : TellsReadFault reader reader_after next  -- a read fault is told exactly if one came
  pub writes : TellsWriteFault writer writer_after next  -- a write fault is told exactly if one came
  pub turns : NoBound reader reader_after writer writer_after next  -- a bound is told only if a call was interrupted
  pub used_up : TellsBound reader_after writer_after next  -- a bound is told only if all calls were made
  pub calls : Takes reader reader_after
  pub same : writer_after.name ≡ writer.name  -- it is the same writer

-- A store that had failed has still failed: if it has returned what was written to it, it had done so before; and if it
-- is open then, it was open before.
pub record StaysFailed {M : Type 0} (is_intact is_open : M → Type 0) (old new : M) : Type 0 where
  pub intact : is_intact new → is_intact old
  pub was_open : is_intact new → is_open new → is_open old
