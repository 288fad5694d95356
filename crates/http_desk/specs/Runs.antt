-- What the machine does in a session, and how sessions and calls make one run of the machine.
use Rattle.std.specs.Prelude.{◌≡◌, ◌++◌, IsOk, List, [], ◌∷◌, Option, Some, None}
use Rattle.std.specs.List.{AllByRecursion}
use Rattle.isad_core.specs.Texts.{Bytes}
use Rattle.office_core.specs.declared.command.Command.{Command}
use Rattle.office_core.specs.declared.query.Answer.{Answer as Told}
use Rattle.office_core.specs.Json.{reply_text}
use Rattle.office_core.specs.MixedRuns.{Asked, ToDo, ToTell, next_state}
use Rattle.office_core.specs.Queries.{answer}
use Rattle.office_core.specs.Rules as machine
use Rattle.office_core.specs.SoundOffice.{NamesTexts}
use Rattle.office_core.specs.Soundness.{NamesDays}
use Rattle.office_core.specs.State.{State}
use Rattle.http_messages.specs.Answers.{Answer, of_reply, of_told, response}
use Rattle.http_desk.specs.declared.session_end.Ended.{Ended}
use Rattle.http_desk.specs.AcceptedMessages.{LeavesOpen}
use Rattle.http_desk.specs.Messages.{Message, Last, Nothing, HeadCut, BodyCut, NoHead, Refuses, Answers, Fails}
use Rattle.http_desk.specs.Session.{Session, message_answer, state_after_message}
use Rattle.http_desk.specs.Exchanges.{Through}

-- ---- one message

-- what a message means to the machine
pub data Meaning : Type 0 where
  Puts : Asked → Meaning  -- a command or a question
  Fixed : Answer → Meaning  -- neither: it has this answer, whatever the state is

-- the machine's reply to the command, or its answer to the question, and the state that this leaves
abbrev pub carried_out : State → Meaning → Answer × State
carried_out s (Puts (ToDo command)) = (of_reply (machine.step s command).1, (machine.step s command).0)
carried_out s (Puts (ToTell query)) = (of_told (answer s query), s)
carried_out s (Fixed told) = (told, s)

-- in every state, the answer to the message is this meaning carried out
abbrev pub HasMeaning : Message → Meaning → Type 0
HasMeaning message meaning = (s : State) → response s message.request message.body ≡ carried_out s meaning

-- the messages have these meanings, one by one
abbrev pub AllMean : List Message → List Meaning → Type 0
AllMean [] [] = Unit {0}
AllMean [] (meaning ∷ meanings) = ⊥
AllMean (message ∷ messages) [] = ⊥
AllMean (message ∷ messages) (meaning ∷ meanings) = HasMeaning message meaning × AllMean messages meanings

-- the commands among them
abbrev pub commands_among : List Meaning → List Command
commands_among [] = []
commands_among (Puts (ToDo command) ∷ later) = command ∷ commands_among later
commands_among (Puts (ToTell query) ∷ later) = commands_among later
commands_among (Fixed told ∷ later) = commands_among later

-- ---- the messages of a session

-- the message in the last place, if there is one
abbrev pub message_in : Last → List Message
message_in Nothing = []
message_in HeadCut = []
message_in (BodyCut request) = []
message_in NoHead = []
message_in (Refuses status bare) = []
message_in (Answers message) = message ∷ []
message_in (Fails leave bare) = []

-- all messages that were answered by the office
abbrev pub all_messages : {s new : State} {input output : Bytes} {end : Ended} → Session s input output end new
    → List Message
all_messages session = session.messages ++ message_in session.stops.last

-- the answers to messages, each in the state that those before it left
abbrev pub answers_of : State → List Message → List Answer
answers_of s [] = []
answers_of s (message ∷ later) = message_answer s message ∷ answers_of (state_after_message s message) later

abbrev pub machines_answers : State → List Meaning → List Answer
machines_answers s [] = []
machines_answers s (meaning ∷ later) = (carried_out s meaning).0 ∷ machines_answers (carried_out s meaning).1 later

-- In a session the machine carries out these commands: those among the meanings of its messages, in order. The answers
-- are the machine's, and so is the state at the end. Every day that the commands name is in the calendar, and every
-- text is UTF-8.
pub record HasCarriedOut {s new : State} {input output : Bytes} {end : Ended}
    (session : Session s input output end new) (commands : List Command) : Type 0 where
  pub meanings : List Meaning
  pub mean : AllMean (all_messages session) meanings
  pub are : commands ≡ commands_among meanings
  pub answers : answers_of s (all_messages session) ≡ machines_answers s meanings
  pub leaves : new ≡ machine.state_after s commands
  pub days : AllByRecursion NamesDays commands
  pub texts : AllByRecursion NamesTexts commands

-- ---- sessions and calls, one after the other

-- what a call answers
pub data Heard : Type 0 where
  Replied : machine.Reply → Bytes → Heard  -- the reply to a command, and its JSON
  Answered : Told → Heard  -- the answer to a question

abbrev pub heard_of : State → Asked → Heard
heard_of s (ToDo command) = Replied (machine.step s command).1 (reply_text (machine.step s command).1)
heard_of s (ToTell query) = Answered (answer s query)

-- one session or call
pub data Visit : Type 0 where
  ByHttp : (input output : Bytes) → Ended → Visit  -- by a peer, with these bytes
  Directly : Asked → Option Heard → Visit  -- by a call; it is told nothing where the office is busy

-- the visit leads from one state to another
abbrev pub Happens : State → Visit → State → Type 0
Happens s (ByHttp input output end) new = Session s input output end new
Happens s (Directly asked (Some heard)) new = (heard ≡ heard_of s asked) × (new ≡ next_state s asked)
Happens s (Directly asked None) new = new ≡ s

-- the visits lead from one state to another, one after the other
abbrev pub AllHappen : State → List Visit → State → Type 0
AllHappen s [] new = new ≡ s
AllHappen s (visit ∷ later) new = (mid : State) × Happens s visit mid × AllHappen mid later new

-- the days that a call names are in the calendar, as every `Day` is
abbrev pub CallsNameDays : Visit → Type 0
CallsNameDays (ByHttp input output end) = Unit {0}
CallsNameDays (Directly (ToDo command) told) = NamesDays command
CallsNameDays (Directly (ToTell query) told) = Unit {0}

-- the texts that a call names are UTF-8, as every `Text` is
abbrev pub CallsNameTexts : Visit → Type 0
CallsNameTexts (ByHttp input output end) = Unit {0}
CallsNameTexts (Directly (ToDo command) told) = NamesTexts command
CallsNameTexts (Directly (ToTell query) told) = Unit {0}

-- ---- which of them leave an office open

-- a session that leaves the office open, or a call of a command that was accepted
abbrev pub VisitLeavesOpen : Type 0 → (s : State) (visit : Visit) (new : State) → Happens s visit new → Type 0
VisitLeavesOpen was_open s (ByHttp input output end) new session = LeavesOpen was_open session
VisitLeavesOpen was_open s (Directly (ToDo command) (Some heard)) new happens = IsOk (machine.step s command).1
VisitLeavesOpen was_open s (Directly (ToTell query) (Some heard)) new happens = ⊥
VisitLeavesOpen was_open s (Directly asked None) new happens = ⊥

-- the last visit leaves the office open; if there are no visits, it was open before
abbrev pub VisitsLeaveOpen : Type 0 → (s : State) (visits : List Visit) (new : State) → AllHappen s visits new → Type 0
VisitsLeaveOpen was_open s [] new same = was_open
VisitsLeaveOpen was_open s (visit ∷ later) new (mid, happens, more) =
    VisitsLeaveOpen (VisitLeavesOpen was_open s visit mid happens) mid later new more

-- ---- an office that is seen in a state, and whose store has returned what was written to it

module _ {M : Type 0} (represents : M → State → Type 0) (is_intact is_open : M → Type 0) where
  pub record IsVisited (old new : M) (visit : Visit) : Type 0 where
    pub intact : is_intact new → is_intact old
    pub was_open : is_intact new → is_open new → is_open old
    -- an office that the visit leaves open is open afterwards
    pub happens : Through represents is_intact old new
        (λ s t. (it : Happens s visit t) × (VisitLeavesOpen (is_open old) s visit t it → is_open new))

  abbrev pub AreVisits : M → M → List Visit → Type 0
  AreVisits old new [] = old ≡ new
  AreVisits old new (visit ∷ later) = (mid : M) × IsVisited old mid visit × AreVisits mid new later

-- ---- their commands

-- The commands of a visit that has happened: those of a session; or the one of a call, unless the office was busy.
abbrev pub VisitBrings : (s : State) (visit : Visit) (new : State) → Happens s visit new → List Command → Type 0
VisitBrings s (ByHttp input output end) new session commands = HasCarriedOut session commands
VisitBrings s (Directly (ToDo command) (Some told)) new happens commands = commands ≡ command ∷ []
VisitBrings s (Directly (ToTell query) (Some told)) new happens commands = commands ≡ []
VisitBrings s (Directly asked None) new happens commands = commands ≡ []

-- the commands of all of them, in order
abbrev pub AllBring : (s : State) (visits : List Visit) (new : State) → AllHappen s visits new → List Command → Type 0
AllBring s [] new same commands = commands ≡ []
AllBring s (visit ∷ later) new (mid, happens, more) commands =
    (first others : List Command) × (commands ≡ first ++ others) × VisitBrings s visit mid happens first
    × AllBring mid later new more others
