-- Which calls of a reader or a writer have failed, and what holds if none was interrupted.
use Rattle.std.specs.Prelude.{◌≡◌, ◌≢◌, ℕ, ◌+◌, ◌<◌, ◌≤◌, ◌⊎◌, ◌||◌, Bool, Result, Ok, Err, true, false, length}
use Rattle.isad_core.specs.Texts.{Bytes}
use Rattle.http_desk.specs.declared.input_buffer.Filled.{Filled}
use Rattle.http_desk.specs.declared.input_buffer.Filled.TheVariants.{More, AtEnd, Failed, Bound, NoMemory}
use Rattle.http_desk.specs.declared.message_input.FoundHead.{FoundHead}
use Rattle.http_desk.specs.declared.message_input.FoundHead.TheVariants as heads
use Rattle.http_desk.specs.declared.message_input.FoundBody.{FoundBody}
use Rattle.http_desk.specs.declared.message_input.FoundBody.TheVariants as bodies
use Rattle.http_desk.specs.declared.output.Sent.{Sent}
use Rattle.http_desk.specs.declared.output.Sent.TheVariants as sents
use Rattle.http_desk.specs.declared.session_end.Ended.TheVariants as ends
use Rattle.http_desk.specs.declared.session_end.Next.{Next}
use Rattle.http_desk.specs.declared.session_end.Next.TheVariants.{Goes, Ends}
use Rattle.http_desk.specs.Messages.{longest_head}
use Rattle.http_desk.specs.Streams.{Stream, more_writes, most_reads}

-- a read took one turn; the result is a bound only if no turn was left
abbrev pub QuietFill : Filled → ℕ → ℕ → Type 0
QuietFill More old new = new + 1 ≡ old
QuietFill AtEnd old new = Unit {0}
QuietFill Failed old new = Unit {0}
QuietFill Bound old new = old ≡ 0
QuietFill NoMemory old new = Unit {0}

abbrev pub QuietRead : Result ℕ Filled → ℕ → ℕ → Type 0
QuietRead (Ok n) old new = new + 1 ≡ old
QuietRead (Err f) old new = QuietFill f old new

-- the sum of turns and bytes does not fall; the result is a bound only if the sum was below the longest head
abbrev pub QuietHead : FoundHead → ℕ → ℕ → Type 0
QuietHead (heads.Whole size) old new = old ≤ new
QuietHead heads.Failed old new = Unit {0}
QuietHead heads.Bound old new = old < longest_head
QuietHead heads.TooLong old new = Unit {0}
QuietHead heads.Blank old new = Unit {0}
QuietHead heads.Cut old new = Unit {0}
QuietHead heads.NoMemory old new = Unit {0}

abbrev pub QuietBody : ℕ → FoundBody → ℕ → Type 0
QuietBody end bodies.Whole old = Unit {0}
QuietBody end bodies.Cut old = Unit {0}
QuietBody end bodies.Failed old = Unit {0}
QuietBody end bodies.Bound old = old < end
QuietBody end bodies.NoMemory old = Unit {0}

-- all was sent, in no more turns than bytes; the result is a bound only if there were fewer turns than bytes
abbrev pub QuietSend : Sent → ℕ → ℕ → ℕ → Type 0
QuietSend sents.All old new len = old ≤ new + len
QuietSend sents.Failed old new len = Unit {0}
QuietSend sents.Bound old new len = old < len

-- ---- which calls have failed

abbrev pub fill_failed : Filled → Bool
fill_failed More = false
fill_failed AtEnd = false
fill_failed Failed = true
fill_failed Bound = false
fill_failed NoMemory = false

abbrev pub once_failed : Result ℕ Filled → Bool
once_failed (Ok n) = false
once_failed (Err f) = fill_failed f

abbrev pub head_failed : FoundHead → Bool
head_failed (heads.Whole size) = false
head_failed heads.TooLong = false
head_failed heads.Blank = false
head_failed heads.Cut = false
head_failed heads.Failed = true
head_failed heads.Bound = false
head_failed heads.NoMemory = false

abbrev pub body_failed : FoundBody → Bool
body_failed bodies.Whole = false
body_failed bodies.Cut = false
body_failed bodies.Failed = true
body_failed bodies.Bound = false
body_failed bodies.NoMemory = false

abbrev pub send_failed : Sent → Bool
send_failed sents.All = false
send_failed sents.Failed = true
send_failed sents.Bound = false

abbrev pub is_read_fault : Next → Bool
is_read_fault Goes = false
is_read_fault (Ends ends.End) = false
is_read_fault (Ends ends.Closed) = false
is_read_fault (Ends ends.Cut) = false
is_read_fault (Ends ends.ReadFault) = true
is_read_fault (Ends ends.WriteFault) = false
is_read_fault (Ends ends.Bound) = false

abbrev pub is_write_fault : Next → Bool
is_write_fault Goes = false
is_write_fault (Ends ends.End) = false
is_write_fault (Ends ends.Closed) = false
is_write_fault (Ends ends.Cut) = false
is_write_fault (Ends ends.ReadFault) = false
is_write_fault (Ends ends.WriteFault) = true
is_write_fault (Ends ends.Bound) = false

-- a read has failed exactly if this is a read fault, or a read had failed before
abbrev pub TellsReadFault : Stream → Stream → Next → Type 0
TellsReadFault old new next = new.failed ≡ (is_read_fault next || old.failed)

-- a write or a flush has failed, or a write has taken nothing, exactly if this is a write fault, or that was so before
abbrev pub TellsWriteFault : Stream → Stream → Next → Type 0
TellsWriteFault old new next = new.failed ≡ (is_write_fault next || old.failed)

-- turns are used up only if a call was interrupted
abbrev pub NoBound : Stream → Stream → Stream → Stream → Next → Type 0
NoBound reader reader_after writer writer_after next =
    reader_after.interrupted ≡ false → writer_after.interrupted ≡ false
    → (reader.interrupted ≡ false) × (writer.interrupted ≡ false) × (next ≢ Ends ends.Bound)

-- the same for a writer alone
abbrev pub NoWriteBound : Stream → Stream → Next → Type 0
NoWriteBound old new next = new.interrupted ≡ false → (old.interrupted ≡ false) × (next ≢ Ends ends.Bound)

-- so many turns were given for this message, or for this text, all of them were taken, and a call was interrupted
abbrev pub IsUsedUp : ℕ → Stream → Type 0
IsUsedUp most stream = (stream.given ≡ most) × (stream.turns ≡ 0) × (stream.interrupted ≡ true)

-- the same of a text: it had one turn for each of its bytes and 16 more
abbrev pub TextIsUsedUp : Bytes → Stream → Type 0
TextIsUsedUp text writer = IsUsedUp (length text + more_writes) writer

-- a bound is told only if all turns of a message were taken by reads, or all turns of a text by writes and flushes
abbrev pub TellsBound : Stream → Stream → Next → Type 0
TellsBound reader writer next =
    next ≡ Ends ends.Bound → IsUsedUp most_reads reader ⊎ ((text : Bytes) × TextIsUsedUp text writer)

-- the same for a writer alone, and the text that it was to write
abbrev pub TellsWriteBound : Bytes → Stream → Next → Type 0
TellsWriteBound text writer next = next ≡ Ends ends.Bound → TextIsUsedUp text writer

-- the same, whichever text it was
abbrev pub TellsSomeWriteBound : Stream → Next → Type 0
TellsSomeWriteBound writer next = next ≡ Ends ends.Bound → (text : Bytes) × TextIsUsedUp text writer

-- no call has failed, and none was interrupted
pub record IsQuiet (stream : Stream) : Type 0 where
  pub none_failed : stream.failed ≡ false
  pub none_interrupted : stream.interrupted ≡ false

-- it is the same reader or writer, no more calls were made than there were turns, and no turns were given
abbrev pub TakesTurns : Stream → Stream → Type 0
TakesTurns old new =
    (new.name ≡ old.name) × (new.calls + new.turns ≤ old.calls + old.turns) × (new.given ≡ old.given)

-- How the calls of one step went, on a reader or a writer. `fails` says whether the step failed, `RanOut` that it ended
-- for want of turns, and `Quiet` what holds if no call was interrupted.
pub record StepsAsCalled (fails : Bool) (RanOut Quiet : Type 0) (old new : Stream) : Type 0 where
  pub failed : new.failed ≡ (fails || old.failed)
  pub bound : new.interrupted ≡ false → (old.interrupted ≡ false) × Quiet
  pub used_up : RanOut → new.turns ≡ 0
  pub taken : TakesTurns old new

-- it is the same reader or writer, and at most this number of calls were made
abbrev pub TakesCalls : ℕ → Stream → Stream → Type 0
TakesCalls most old new = (new.name ≡ old.name) × (new.calls ≤ old.calls + most)

-- ---- flushes

-- all that was written was flushed, unless a write or a flush has failed or the turns were used up
abbrev pub IsFlushed : Stream → Next → Type 0
IsFlushed writer Goes = writer.flushed ≡ true
IsFlushed writer (Ends ends.End) = writer.flushed ≡ true
IsFlushed writer (Ends ends.Closed) = writer.flushed ≡ true
IsFlushed writer (Ends ends.Cut) = writer.flushed ≡ true
IsFlushed writer (Ends ends.ReadFault) = writer.flushed ≡ true
IsFlushed writer (Ends ends.WriteFault) = Unit {0}
IsFlushed writer (Ends ends.Bound) = Unit {0}

-- if nothing waited to be flushed before, nothing does now, with the same exceptions
abbrev pub FlushesAll : Stream → Stream → Next → Type 0
FlushesAll old new next = old.flushed ≡ true → IsFlushed new next
