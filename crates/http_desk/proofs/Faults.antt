-- Which faults are told after a sending, what was flushed, and how many calls were made.
use Rattle.std.proofs.Common.{◌≡◌, refl, ap, ◌∙◌, ℕ, ◌+◌, ◌≤◌, sym, true, false, subst, arith}
use Rattle.std.proofs.Math.Nat.{min-le_left}
use Rattle.std.specs.Prelude.{◌||◌, Bool, Ok, Err}
use Rattle.http_desk.specs.declared.output.Sent.TheVariants.{All, Failed, Bound}
use Rattle.http_desk.specs.declared.session_end.Ended.TheVariants as ends
use Rattle.http_desk.proofs.Common.{Bytes, Ends, Goes, IsFlushed, IsNoEnd, IsUsedUp, MatchResult, Next, Result, Sent}
use Rattle.http_desk.proofs.Common.{Stream, TakesTurns, TellsSomeWriteBound, TellsWriteBound, TextIsUsedUp}
use Rattle.http_desk.proofs.Common.{after_answer, after_sending, is_write_fault, one_more_call, send_failed}

a_write : (sent : Sent) (next : Next) → is_write_fault next ≡ false
    → is_write_fault (after_sending sent next) ≡ send_failed sent
a_write All next e = e
a_write Failed next e = refl
a_write Bound next e = refl

-- a write's fault is told where the sending has failed
pub writes_told : (sent : Sent) (next result : Next) (old new : Bool) → is_write_fault next ≡ false
    → result ≡ after_sending sent next
    → new ≡ (send_failed sent || old) → new ≡ (is_write_fault result || old)
writes_told sent next result old new n e h = h ∙ ap (λ b. b || old) (sym (ap is_write_fault e ∙ a_write sent next n))

ends_by_writing : (sent : Sent) (closing : Bool) → IsNoEnd (after_sending sent (after_answer closing))
ends_by_writing All true = tt
ends_by_writing All false = tt
ends_by_writing Failed closing = tt
ends_by_writing Bound closing = tt

-- after an answer the input has not ended, and no read has failed
pub no_end_after : (sent : Sent) (closing : Bool) (result : Next) → result ≡ after_sending sent (after_answer closing)
    → IsNoEnd result
no_end_after sent closing result e = subst IsNoEnd (sym e) (ends_by_writing sent closing)

counted_at_most : (n : ℕ) → one_more_call n ≤ n + 1
counted_at_most n = min-le_left (n + 1) 18446744073709551615

-- one call more
pub one_more : (a b c : Stream) → TakesTurns a b → c.name ≡ b.name → c.calls ≡ one_more_call b.calls
    → c.turns + 1 ≡ b.turns → c.given ≡ b.given → TakesTurns a c
one_more a b c (same, few, none) again more one given =
    let most : c.calls ≤ b.calls + 1 = subst (λ n. n ≤ b.calls + 1) (sym more) (counted_at_most b.calls) in
    (again ∙ same, omega (arith, few, most, one), given ∙ none)

-- calls, and more calls
pub takes_on : (a b c : Stream) → TakesTurns a b → TakesTurns b c → TakesTurns a c
takes_on a b c (same, few, none) (again, more, given) = (again ∙ same, omega arith, given ∙ none)

-- where nothing waits to be flushed, that holds whatever comes next
pub flushed_then : (writer : Stream) (next : Next) → writer.flushed ≡ true → IsFlushed writer next
flushed_then writer Goes e = e
flushed_then writer (Ends ends.End) e = e
flushed_then writer (Ends ends.Closed) e = e
flushed_then writer (Ends ends.Cut) e = e
flushed_then writer (Ends ends.ReadFault) e = e
flushed_then writer (Ends ends.WriteFault) e = tt
flushed_then writer (Ends ends.Bound) e = tt

flushed_by : (writer : Stream) (sent : Sent) (next : Next) → (sent ≡ All → writer.flushed ≡ true)
    → IsFlushed writer (after_sending sent next)
flushed_by writer All next f = flushed_then writer next (f refl)
flushed_by writer Failed next f = tt
flushed_by writer Bound next f = tt

-- what was sent was flushed, or a fault is told
pub flushed_after : (writer : Stream) (sent : Sent) (next result : Next) → result ≡ after_sending sent next
    → (sent ≡ All → writer.flushed ≡ true)
    → IsFlushed writer result
flushed_after writer sent next result e f = subst (IsFlushed writer) (sym e) (flushed_by writer sent next f)

-- ---- bounds

-- turns are used up, where they would be left without an interruption
pub used_up : (most : ℕ) (stream : Stream) → stream.given ≡ most → (stream.interrupted ≡ false → ⊥) → stream.turns ≡ 0
    → IsUsedUp most stream
used_up most stream given never none = (given, none, interrupted stream.interrupted refl)
  where
    interrupted : (b : Bool) → stream.interrupted ≡ b → stream.interrupted ≡ true
    interrupted true e = e
    interrupted false e = absurd (never e)

pub bound_sent : (sent : Sent) (next : Next) → (next ≡ Ends ends.Bound → ⊥) → after_sending sent next ≡ Ends ends.Bound
    → sent ≡ Bound
bound_sent All next n e = absurd (n e)
bound_sent Failed next n e = cc
bound_sent Bound next n e = refl

-- a bound after a sending is the sending's
pub tells_bound : (text : Bytes) (writer : Stream) (sent : Sent) (next result : Next) → (next ≡ Ends ends.Bound → ⊥)
    → result ≡ after_sending sent next
    → (sent ≡ Bound → TextIsUsedUp text writer) → TellsWriteBound text writer result
tells_bound text writer sent next result n e used bound = used (bound_sent sent next n (sym e ∙ bound))

-- one of two texts
pub some_bound : {A E : Type 0} (made : Result A E) (text : A → Bytes) (other : Bytes) (writer : Stream) (next : Next)
    → MatchResult made (λ a. TellsWriteBound (text a) writer next) (λ why. TellsWriteBound other writer next)
    → TellsSomeWriteBound writer next
some_bound (Ok a) text other writer next told bound = (text a, told bound)
some_bound (Err why) text other writer next told bound = (other, told bound)

pub closed_no_bound : Ends ends.Closed ≡ Ends ends.Bound → ⊥
closed_no_bound e = cc

pub goes_no_bound : Goes ≡ Ends ends.Bound → ⊥
goes_no_bound e = cc
