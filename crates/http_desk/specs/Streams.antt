-- What is known of a session's reader or writer, and of the result of each of its calls.
use Rattle.std.specs.Prelude.{◌≡◌, ℕ, ◌+◌, min, Bool, true, false, Option, Result, Ok, Err}
use Rattle.isad_core.specs.Texts.{Bytes}
use Rattle.http_messages.specs.Heads.{longest_body}
use Rattle.http_desk.specs.Messages.{longest_head}
use Rattle.http_desk.specs.declared.streams.Calls.{Calls}
use Rattle.http_desk.specs.declared.streams.Undone.{Undone}
use Rattle.http_desk.specs.declared.streams.Undone.TheVariants.{Failed, Interrupted}

-- a reader or a writer, and how its calls went
pub record Stream : Type 0 where
  pub name : ℕ  -- which it is
  pub bytes : Option Bytes  -- what a reader still gives, or what a writer holds, where that is known
  pub failed : Bool  -- a call has failed, or a write has taken nothing
  pub interrupted : Bool  -- a call was interrupted
  pub calls : ℕ  -- so many were made; the count stops at 2^64 - 1
  pub given : ℕ  -- so many may be made for this message, or for this text, in all
  pub turns : ℕ  -- so many of them are left
  pub flushed : Bool  -- all that was written was flushed, as of a reader, which writes nothing

-- it has not been called yet
pub record IsUncalled (stream : Stream) : Type 0 where
  pub none_failed : stream.failed ≡ false
  pub none_interrupted : stream.interrupted ≡ false
  pub none_made : stream.calls ≡ 0
  pub none_waits : stream.flushed ≡ true

-- how its calls went
abbrev pub calls_of : Stream → Calls
calls_of stream = record {
  failed = stream.failed;
  interrupted = stream.interrupted;
  made = stream.calls;
  given = stream.given;
  turns = stream.turns;
  flushed = stream.flushed;
}

-- a stream whose calls went so, when nobody can call it any more: it needs no name
abbrev pub spent : Option Bytes → Calls → Stream
spent bytes calls = record {
  name = 0;
  bytes = bytes;
  failed = calls.failed;
  interrupted = calls.interrupted;
  calls = calls.made;
  given = calls.given;
  turns = calls.turns;
  flushed = calls.flushed;
}

-- the number of calls after one more; the count stops at 2^64 - 1
abbrev pub one_more_call : ℕ → ℕ
one_more_call calls = min (calls + 1) 18446744073709551615

-- the reads of one message: one for each byte of the longest head and of the longest body, and one more
abbrev pub most_reads : ℕ
most_reads = longest_head + longest_body + 1

-- the writes and flushes of a text, in addition to one for each byte
abbrev pub more_writes : ℕ
more_writes = 16

-- the reads of a stream that is read to its end, and the writes of a text that is no answer; flushes are counted apart
abbrev pub most_calls : ℕ
most_calls = 4294967295

-- ---- what a call answered

abbrev pub has_failed : {A : Type 0} → Result A Undone → Bool
has_failed (Ok a) = false
has_failed (Err Failed) = true
has_failed (Err Interrupted) = false

abbrev pub was_interrupted : {A : Type 0} → Result A Undone → Bool
was_interrupted (Ok a) = false
was_interrupted (Err Failed) = false
was_interrupted (Err Interrupted) = true

-- ---- whether all is flushed after a write, and after a flush

abbrev pub after_write : Bool → Result ℕ Undone → Bool
after_write flushed (Ok n) = false
after_write flushed (Err undone) = flushed

abbrev pub after_flush : Bool → Result (Unit {0}) Undone → Bool
after_flush flushed (Ok done) = true
after_flush flushed (Err undone) = flushed
