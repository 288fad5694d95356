-- The command with which an office was busy, and what a crash then finds once a failure of the disk has shut its store.
use Rattle.std.specs.Prelude.{◌≡◌, ◌⊎◌, List, ◌∷◌}
use Rattle.isad_core.specs.Texts.{Bytes}
use Rattle.office_core.specs.State.{State}
use Rattle.office_core.specs.declared.command.Command.{Command}
use Rattle.http_messages.specs.Answers.{Answer, response, command_answer}
use Rattle.http_desk.specs.declared.session_end.Ended.{Ended}
use Rattle.http_desk.specs.Messages.{Message, Begins, Last, Nothing, HeadCut, BodyCut, NoHead, Refuses, Answers, Fails}
use Rattle.http_desk.specs.Session.{Session}

-- in every state, this is the answer to the command, and the state after it
abbrev pub AnswersTo : (State → Answer × State) → Command → Type 0
AnswersTo told command = (s : State) → told s ≡ command_answer s command

-- the message asks this command
abbrev pub AsksCommand : Message → Command → Type 0
AsksCommand message command = AnswersTo (λ s. response s message.request message.body) command

-- In the last place there is a message that asks this command, and 503 is answered.
abbrev pub IsBusyWith : Bytes → Last → Command → Type 0
IsBusyWith input Nothing command = ⊥
IsBusyWith input HeadCut command = ⊥
IsBusyWith input (BodyCut request) command = ⊥
IsBusyWith input NoHead command = ⊥
IsBusyWith input (Refuses status bare) command = ⊥
IsBusyWith input (Answers message) command = ⊥
IsBusyWith input (Fails leave bare) command = (message : Message) × (rest : Bytes) × Begins input message rest
    × AsksCommand message command

-- The last message of the session asks this command, and 503 is answered. No other message of a session is answered so.
abbrev pub WasBusyWith : {s new : State} {input output : Bytes} {end : Ended} → Session s input output end new
    → Command → Type 0
WasBusyWith session command = IsBusyWith session.rest session.stops.last command

-- A crash finds a state, or that after one of the commands in a list. If it did so before (`found`), it does so after
-- an answer (`finds`).
abbrev pub StaysFound : (found finds : List Command → State → Type 0) → State → State → Type 0
StaysFound found finds s new = (asked : List Command) → found asked s → finds asked new

-- The same where the office may have been busy: with one command more in the list, if it was busy with that.
abbrev pub StaysFoundOrBusy : (found finds : List Command → State → Type 0) → (Command → Type 0) → State → State
    → Type 0
StaysFoundOrBusy found finds BusyWith s new = (asked : List Command) → found asked s
    → finds asked new ⊎ ((command : Command) × BusyWith command × finds (command ∷ asked) new)
