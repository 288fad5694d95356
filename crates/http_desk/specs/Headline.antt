-- What holds for an office after any sessions over HTTP and any calls whose commands name days of the calendar.
use Rattle.std.specs.Prelude.{◌≡◌, ◌++◌, IsOk, List, Option, Some, None}
use Rattle.std.specs.List.{AllByRecursion}
use Rattle.std.specs.Io.KnownBytes.{Consumes, Appends}
use Rattle.isad_core.specs.Texts.{Bytes}
use Rattle.office_core.specs.declared.command.Command.{Command}
use Rattle.office_core.specs.declared.machine.Reply.{Reply}
use Rattle.office_core.specs.declared.query.Answer.{Answer}
use Rattle.office_core.specs.declared.query.Query.{Query}
use Rattle.office_core.specs.Json.{reply_text}
use Rattle.office_core.specs.MixedRuns.{Asked, ToDo, ToTell}
use Rattle.office_core.specs.Queries.{answer}
use Rattle.office_core.specs.Laws.{OutApart, IssuesTheFirst, OpenToHolders}
use Rattle.office_core.specs.Rules as machine
use Rattle.office_core.specs.Secrecy.{ShowsOnlyPublished}
use Rattle.office_core.specs.SoundOffice.{IsSoundOffice, NamesTexts}
use Rattle.office_core.specs.Soundness.{IsSound, NamesDays}
use Rattle.office_core.specs.State.{State}
use Rattle.http_desk.specs.declared.session_end.Ended.{Ended}
use Rattle.http_desk.specs.Runs.{HasCarriedOut, Visit, ByHttp, Directly, Replied, Answered, CallsNameDays}
use Rattle.http_desk.specs.Runs.{CallsNameTexts}
use Rattle.http_desk.specs.Runs.{AllHappen, AllBring, IsVisited, AreVisits, VisitsLeaveOpen}
use Rattle.http_desk.specs.Session.{Session}
use Rattle.http_desk.specs.Exchanges.{Talks}

-- ---- what a session means to the machine

-- In every session the machine carries out a list of commands.
abbrev pub SessionsRunTheMachine : Type 0
SessionsRunTheMachine =
    (s new : State) (input output : Bytes) (end : Ended) (session : Session s input output end new)
    → (commands : List Command) × HasCarriedOut session commands

-- ---- what makes a visit

-- What `talk` promises for a peer, `apply` for a command and `ask` for a question makes a visit, for each outcome.
pub record MakeVisits {M : Type 0} (represents : M → State → Type 0) (is_intact is_open : M → Type 0)
    (recovers : M → List Command → State → Type 0) : Type 0 where
  pub talk : (left left_after held held_after : Option Bytes) (old new : M) (end : Ended)
      → Talks represents is_intact is_open recovers left left_after held held_after old end new
      → (is_intact new → is_intact old)
      → (is_intact new → is_open new → is_open old)
      → (read written : Bytes) × Consumes left left_after read × Appends held held_after written
      × IsVisited represents is_intact is_open old new (ByHttp read written end)
  pub apply : (old new : M) (command : Command) (reply : Reply) → (is_intact new → is_intact old)
      → (is_intact new → is_open new → is_open old) → (is_intact new → IsOk reply.done → is_open new)
      → (is_intact new → (s : State) → represents old s → represents new (machine.step s command).0
      × (reply.done ≡ (machine.step s command).1) × (reply.json ≡ reply_text (machine.step s command).1))
      → IsVisited represents is_intact is_open old new (Directly (ToDo command) (Some (Replied reply.done reply.json)))
  pub ask : (old new : M) (query : Query) (told : Answer) → (is_intact new → is_intact old)
      → (is_intact new → is_open new → is_open old)
      → (is_intact new → (s : State) → represents old s → represents new s × (told ≡ answer s query))
      → IsVisited represents is_intact is_open old new (Directly (ToTell query) (Some (Answered told)))
  pub busy : (old new : M) (asked : Asked) → (is_intact new → is_intact old)
      → (is_intact new → is_open new → is_open old)
      → (is_intact new → (s : State) → represents old s → represents new s)
      → IsVisited represents is_intact is_open old new (Directly asked None)

-- ---- what holds for all of them

-- what holds for a state
pub record KeepsTheRules (s : State) : Type 0 where
  pub sound : IsSound s
  pub apart : OutApart s  -- no container is with two readers
  pub first : IssuesTheFirst s  -- each issue goes to the first waiting order
  pub open_to_holders : OpenToHolders s  -- what is out is open, on that day, to the reader who has it
  pub shown : ShowsOnlyPublished s  -- what the public is shown is printed from published units alone

-- Visits, as they happened, make one run of the machine, and the rules are kept at each point of it. If the office was
-- sound at first and its texts and those of the calls are UTF-8, it is so at each point.
pub record IsOneRun (s : State) (visits : List Visit) (new : State) (happen : AllHappen s visits new) : Type 0 where
  pub commands : List Command
  pub bring : AllBring s visits new happen commands
  pub days : AllByRecursion NamesDays commands
  pub texts : AllByRecursion CallsNameTexts visits → AllByRecursion NamesTexts commands
  pub leaves : new ≡ machine.state_after s commands
  pub keeps : (before later : List Command) → commands ≡ before ++ later → KeepsTheRules (machine.state_after s before)
  pub office : AllByRecursion CallsNameTexts visits → IsSoundOffice s
      → (before later : List Command) → commands ≡ before ++ later → IsSoundOffice (machine.state_after s before)

-- Sessions, and calls whose commands name days of the calendar, that lead from a sound state to another are one run.
abbrev pub VisitsRunTheMachine : Type 0
VisitsRunTheMachine =
    (s new : State) (visits : List Visit) (happen : AllHappen s visits new) → AllByRecursion CallsNameDays visits
    → IsSound s → IsOneRun s visits new happen

-- After any sessions, and any calls whose commands name days of the calendar, from a sound state on, the office
-- represents the machine's state. If the last message or call was a command that was accepted, or if there was none and
-- the office was open at first, it is open.
abbrev pub TheHeadline : {M : Type 0} → (M → State → Type 0) → (M → Type 0) → (M → Type 0) → Type 0
TheHeadline {M} represents is_intact is_open =
    (visits : List Visit) (old new : M) → AreVisits represents is_intact is_open old new visits
    → AllByRecursion CallsNameDays visits → is_intact new → (s : State) → represents old s → IsSound s
    → (t : State) × represents new t × (happen : AllHappen s visits t) × IsOneRun s visits t happen
    × (VisitsLeaveOpen (is_open old) s visits t happen → is_open new)
