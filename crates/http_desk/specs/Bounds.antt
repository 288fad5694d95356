-- A session that a bound ended in a text: which text broke off, and that all of its turns were taken.
use Rattle.std.specs.Prelude.{◌≡◌, ℕ, suc, ◌⊎◌, ◌++◌, Bool, true, false, Option, length}
use Rattle.std.specs.Io.KnownBytes.{Consumes, Appends}
use Rattle.isad_core.specs.Texts.{Bytes}
use Rattle.office_core.specs.State.{State}
use Rattle.http_desk.specs.declared.session_end.Ended.TheVariants.{Bound}
use Rattle.http_messages.specs.declared.status.Status.TheVariants.{BadRequest, Busy}
use Rattle.http_messages.specs.Heads.{is_head}
use Rattle.http_messages.specs.Answers.{answer_text, continue_text, error}
use Rattle.http_desk.specs.Messages.{Last, Nothing, HeadCut, BodyCut, NoHead, Refuses, Answers, Fails}
use Rattle.http_desk.specs.Session.{IsFront, Session, Stops, closes, continue_if, message_answer, refusal_text}
use Rattle.http_desk.specs.Session.{state_after_messages}
use Rattle.http_desk.specs.StreamFaults.{IsUsedUp, TextIsUsedUp}
use Rattle.http_desk.specs.Streams.{Stream, most_reads}
use Rattle.http_desk.specs.Exchanges.{Through}

-- whether 100 Continue is written in the last place, before the answer
abbrev pub leave_of : Last → Bool
leave_of Nothing = false
leave_of HeadCut = false
leave_of (BodyCut request) = request.waits
leave_of NoHead = false
leave_of (Refuses status bare) = false
leave_of (Answers message) = message.request.waits
leave_of (Fails leave bare) = leave

-- the text is the answer in the last place
abbrev pub IsLastAnswer : ℕ → State → Last → Bytes → Type 0
IsLastAnswer number s Nothing text = ⊥
IsLastAnswer number s HeadCut text = ⊥
IsLastAnswer number s (BodyCut request) text = ⊥
IsLastAnswer number s NoHead text = text ≡ refusal_text false (error BadRequest)
IsLastAnswer number s (Refuses status bare) text = text ≡ refusal_text bare (error status)
IsLastAnswer number s (Answers message) text =
    text ≡ answer_text (is_head message.request.method) (closes number message) (message_answer s message)
IsLastAnswer number s (Fails leave bare) text = text ≡ refusal_text bare (error Busy)

-- in the last place this text broke off: it is 100 Continue, and `out` is a front of it; or it is the answer, and `out`
-- ends with a front of it
abbrev pub BreaksOff : ℕ → State → Last → Bytes → Bytes → Type 0
BreaksOff number s last out text =
    ((leave_of last ≡ true) × (text ≡ continue_text) × IsFront out text)
    ⊎ (IsLastAnswer number s last text
    × ((front : Bytes) × (out ≡ continue_if (leave_of last) ++ front) × IsFront front text))

-- the text that broke off had as many writes and flushes as it has bytes, and 16 more
abbrev pub IsWriterBounded : ℕ → State → Last → Bytes → Stream → Type 0
IsWriterBounded number s last out writer = (text : Bytes) × BreaksOff number s last out text × TextIsUsedUp text writer

-- a session ends so in the place of the message with this number
abbrev pub StopsBounded : ℕ → State → Bytes → Bytes → State → Stream → Type 0
StopsBounded number s input out new writer =
    (stops : Stops number s input out Bound new) × IsWriterBounded number s stops.last out writer

-- a session that ends so
abbrev pub SessionBounded : State → Bytes → Bytes → State → Stream → Type 0
SessionBounded s input output new writer =
    (session : Session s input output Bound new)
    × IsWriterBounded (suc (length session.messages)) (state_after_messages s session.messages) session.stops.last session.out writer

-- the bytes of a buffer, those that a reader then gave, and those that were written are such a place
abbrev pub ExchangeBounded : {M : Type 0} → (M → State → Type 0) → (M → Type 0) → ℕ → Option Bytes → Option Bytes
    → Option Bytes → Stream → M → Bytes → M → Type 0
ExchangeBounded represents is_intact number left left_after held writer old buffer new =
    (read : Bytes) × (written : Bytes) × Consumes left left_after read × Appends held writer.bytes written
    × Through represents is_intact old new (λ s t. StopsBounded number s (buffer ++ read) written t writer)

-- A session ended with a bound. All turns of a message were taken by reads; or what was read and written is a session in
-- which all turns of the text that broke off were taken by writes and flushes.
abbrev pub TalksBounded : {M : Type 0} → (M → State → Type 0) → (M → Type 0) → Option Bytes → Stream → Option Bytes
    → Stream → M → M → Type 0
TalksBounded represents is_intact left reader held writer old new = IsUsedUp most_reads reader
    ⊎ ((read : Bytes) × (written : Bytes) × Consumes left reader.bytes read × Appends held writer.bytes written
    × Through represents is_intact old new (λ s t. SessionBounded s read written t writer))
