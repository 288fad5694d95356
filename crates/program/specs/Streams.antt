-- How the calls on a stream went: what was written, and why a stream failed.
use Rattle.std.specs.Prelude.{◌≡◌, ◌⊎◌, ◌≤◌, ◌+◌, ◌*◌, List, ℕ, true}
use Rattle.std.specs.Io.KnownBytes.{Appends}
use Rattle.http_desk.specs.Exchanges.{EndsAsCalled}
use Rattle.http_desk.specs.Session.{most_answers}
use Rattle.http_desk.specs.StreamFaults.{TakesCalls}
use Rattle.http_desk.specs.Streams.{Stream, most_calls, most_reads}
use Rattle.http_desk.specs.declared.session_end.Ended.{Ended}
use Rattle.http_desk.specs.declared.session_end.Next.TheVariants.{Ends}
use Rattle.http_desk.specs.Session.{IsFront}

-- at least so many calls were made, or the count of calls has reached its end
abbrev pub HaveMade : ℕ → Stream → Stream → Type 0
HaveMade number old new = (old.calls + number ≤ new.calls) ⊎ (18446744073709551615 ≤ new.calls)

-- a call has failed, or a write has taken nothing; or as many calls were made as are allowed
abbrev pub StreamFails : ℕ → Stream → Stream → Type 0
StreamFails most old new = (new.failed ≡ true) ⊎ HaveMade most old new

-- the text was written, everything is flushed if it was before, and no call has failed since
abbrev pub Prints : List ℕ → Stream → Stream → Type 0
Prints text old new =
    Appends old.bytes new.bytes text × (old.flushed ≡ true → new.flushed ≡ true) × (new.failed ≡ old.failed)

-- a front of the text, or all of it, was written before the stream failed
abbrev pub PrintsPart : List ℕ → Stream → Stream → Type 0
PrintsPart text old new =
    ((front : List ℕ) × IsFront front text × Appends old.bytes new.bytes front) × StreamFails most_calls old new

-- The end of a session agrees with how the calls on its reader and its writer went. If it ended with its input, all of
-- the input was read.
abbrev pub AgreesWithCalls : Stream → Stream → Stream → Stream → Ended → Type 0
AgreesWithCalls reader reader_after writer writer_after end =
    EndsAsCalled (TakesCalls (most_answers * most_reads)) reader reader_after writer writer_after (Ends end)
