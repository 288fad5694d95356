-- What visits to an office were: each as it was before it was made and afterwards, and what happened.
use Rattle.std.specs.Prelude.{◌≡◌, List, [], ◌∷◌, Option, Some, None, Result, Ok, Err}
use Rattle.std.specs.List.{AllByRecursion}
use Rattle.std.specs.Io.KnownBytes.{Appends, Consumes}
use Rattle.isad_core.specs.Texts.{Bytes}
use Rattle.office_core.specs.MixedRuns.{ToDo, ToTell}
use Rattle.office_core.specs.declared.machine.Busy.{Busy}
use Rattle.office_core.specs.declared.machine.Reply.{Reply}
use Rattle.office_core.specs.declared.query.Answer.{Answer}
use Rattle.office_core.specs.State.{State}
use Rattle.http_desk.specs.Exchanges.{AtEndIf}
use Rattle.http_desk.specs.Runs.{AreVisits, ByHttp, CallsNameDays, CallsNameTexts, Directly, Heard, IsVisited, Replied}
use Rattle.http_desk.specs.Runs.{Answered, Visit as Happening}
use Rattle.http_desk.specs.declared.session_end.Ended.{Ended}
use Rattle.http_desk.specs.declared.session_end.Next.TheVariants.{Ends}
use Rattle.headline.specs.declared.visits.CommandVisit.{CommandVisit}
use Rattle.headline.specs.declared.visits.QuestionVisit.{QuestionVisit}
use Rattle.headline.specs.declared.visits.SessionVisit.{SessionVisit}
use Rattle.headline.specs.declared.visits.Visit.{Visit}
use Rattle.headline.specs.declared.visits.Visit.TheVariants.{Session, Command, Question}

-- what a call heard: nothing if the office was busy
abbrev pub heard_reply : Result Reply Busy → Option Heard
heard_reply (Ok reply) = Some (Replied reply.done reply.json)
heard_reply (Err busy) = None

abbrev pub heard_answer : Result Answer Busy → Option Heard
heard_answer (Ok told) = Some (Answered told)
heard_answer (Err busy) = None

-- the command was called, and what was replied is noted
abbrev pub IsPut : CommandVisit → CommandVisit → Happening → Type 0
IsPut before after happened =
    (told : Result Reply Busy) × (after ≡ record { command = before.command; told = Some told })
    × (happened ≡ Directly (ToDo before.command) (heard_reply told))

-- the question was called, and what was answered is noted
abbrev pub IsTold : QuestionVisit → QuestionVisit → Happening → Type 0
IsTold before after happened =
    (told : Result Answer Busy) × (after ≡ record { query = before.query; told = Some told })
    × (happened ≡ Directly (ToTell before.query) (heard_answer told))

-- What a reader still gives, and what a writer holds, where that is known.
module _ {R W : Type 0} (remaining : R → Option Bytes) (contents : W → Option Bytes) where
  -- The session was held, and how it ended is noted. What came is what its reader gave, and what went is what its
  -- writer took; the reader is at its end if the session is said to have ended there.
  abbrev pub IsHeld : SessionVisit R W → SessionVisit R W → Happening → Type 0
  IsHeld before after (Directly asked told) = ⊥
  IsHeld before after (ByHttp input output end) =
      Consumes (remaining before.reader) (remaining after.reader) input
      × Appends (contents before.writer) (contents after.writer) output
      × AtEndIf (remaining after.reader) (Ends end) × (after.ended ≡ Some end)

  -- a session was held over this reader and this writer, which ended so
  abbrev pub IsConversation : {M : Type 0} → (M → State → Type 0) → (M → Type 0) → (M → Type 0) → R → R → W → W → Ended
      → M → M → Type 0
  IsConversation represents is_intact is_open reader reader_after writer writer_after end old new =
      (input output : Bytes) × Consumes (remaining reader) (remaining reader_after) input
      × Appends (contents writer) (contents writer_after) output × AtEndIf (remaining reader_after) (Ends end)
      × IsVisited represents is_intact is_open old new (ByHttp input output end)

  -- the visit was made
  abbrev pub IsMade : Visit R W → Visit R W → Happening → Type 0
  IsMade (Session before) (Session after) happened = IsHeld before after happened
  IsMade (Command before) (Command after) happened = IsPut before after happened
  IsMade (Question before) (Question after) happened = IsTold before after happened
  IsMade _ _ happened = ⊥

  -- they were made, one by one
  abbrev pub AreMade : List (Visit R W) → List (Visit R W) → List Happening → Type 0
  AreMade [] [] [] = Unit {0}
  AreMade (before ∷ befores) (after ∷ afters) (happened ∷ all) =
      IsMade before after happened × AreMade befores afters all
  AreMade _ _ _ = ⊥

  -- the visits were made, one after the other, and the calls among them name days of the calendar and texts in UTF-8
  abbrev pub WereMade : {M : Type 0} → (M → State → Type 0) → (M → Type 0) → (M → Type 0) → List (Visit R W)
      → List (Visit R W) → M → M → Type 0
  WereMade represents is_intact is_open befores afters old new =
      (happened : List Happening) × AreMade befores afters happened × AreVisits represents is_intact is_open old new happened
      × AllByRecursion CallsNameDays happened × AllByRecursion CallsNameTexts happened
