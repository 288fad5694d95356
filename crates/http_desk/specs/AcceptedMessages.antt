-- Which messages leave an office open, so that its store shows what they made it keep.
use Rattle.std.specs.Prelude.{◌≡◌, List, [], ◌∷◌, codes}
use Rattle.isad_core.specs.Texts.{Bytes}
use Rattle.office_core.specs.State.{State}
use Rattle.http_messages.specs.declared.status.Status.TheVariants.{Fine}
use Rattle.http_messages.specs.Answers.{Answer}
use Rattle.http_messages.specs.Heads.{Request}
use Rattle.http_desk.specs.declared.session_end.Ended.{Ended}
use Rattle.http_desk.specs.Messages.{Message, Last, Nothing, HeadCut, BodyCut, NoHead, Refuses, Answers, Fails}
use Rattle.http_desk.specs.Session.{Session, message_answer, state_after_message, state_after_messages}

-- a command was accepted: a POST is answered 200
abbrev pub Accepts : Request → Answer → Type 0
Accepts request answer = (request.method ≡ codes "POST") × (answer.status ≡ Fine)

abbrev pub IsAccepted : State → Message → Type 0
IsAccepted s message = Accepts message.request (message_answer s message)

-- the last message is a command that was accepted; if there are none, the office was open before
abbrev pub AllLeaveOpen : Type 0 → State → List Message → Type 0
AllLeaveOpen was_open s [] = was_open
AllLeaveOpen was_open s (message ∷ later) = AllLeaveOpen (IsAccepted s message) (state_after_message s message) later

-- The last place has such a command; or it has nothing for the office, and the office was open before it. After 503
-- this is not known.
abbrev pub LastLeavesOpen : Type 0 → State → Last → Type 0
LastLeavesOpen was_open s Nothing = was_open
LastLeavesOpen was_open s HeadCut = was_open
LastLeavesOpen was_open s (BodyCut request) = was_open
LastLeavesOpen was_open s NoHead = was_open
LastLeavesOpen was_open s (Refuses status bare) = was_open
LastLeavesOpen was_open s (Answers message) = IsAccepted s message
LastLeavesOpen was_open s (Fails leave bare) = ⊥

-- the last message of a session is a command that was accepted; if there is none, the office was open before
abbrev pub LeavesOpen : Type 0 → {s new : State} {input output : Bytes} {end : Ended} → Session s input output end new
    → Type 0
LeavesOpen was_open {s} {new} {input} {output} {end} session =
    LastLeavesOpen (AllLeaveOpen was_open s session.messages) (state_after_messages s session.messages) session.stops.last
