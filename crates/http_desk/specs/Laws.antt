-- Laws of sessions, over the definitions alone.
use Rattle.std.specs.Prelude.{◌≡◌, ◌⊎◌, ◌++◌, Bool, true, false, List, codes}
use Rattle.std.specs.List.{AllByRecursion}
use Rattle.isad_core.specs.Texts.{Bytes}
use Rattle.office_core.specs.State.{State}
use Rattle.office_core.specs.Secrecy.{SamePublic}
use Rattle.http_desk.specs.declared.session_end.Ended.{Ended}
use Rattle.http_desk.specs.declared.session_end.Ended.TheVariants.{End, Closed, Cut, ReadFault, WriteFault, Bound}
use Rattle.http_messages.specs.Targets.{path_of}
use Rattle.http_desk.specs.Messages.{Message, Cuts, Last, Nothing, HeadCut, BodyCut, NoHead, Refuses, Answers, Fails}
use Rattle.http_desk.specs.Session.{IsFront, Session, text_after_all}

-- the answer in this place is 503
abbrev pub is_busy : Last → Bool
is_busy Nothing = false
is_busy HeadCut = false
is_busy (BodyCut request) = false
is_busy NoHead = false
is_busy (Refuses status bare) = false
is_busy (Answers message) = false
is_busy (Fails leave bare) = true

-- the session ended with 503
abbrev pub was_busy : {s new : State} {input out : Bytes} {end : Ended} → Session s input out end new → Bool
was_busy session = is_busy session.stops.last

-- no failed call and no bound on calls broke the session off
abbrev pub HasEnded : Ended → Type 0
HasEnded End = Unit {0}
HasEnded Cut = Unit {0}
HasEnded Closed = Unit {0}
HasEnded ReadFault = ⊥
HasEnded WriteFault = ⊥
HasEnded Bound = ⊥

-- ---- without 503 and without a fault, the state and the input determine the output, the end and the new state

pub record AreSameOutcomes (out out2 : Bytes) (end fin : Ended) (new new2 : State) : Type 0 where
  pub output : out ≡ out2
  pub ended : end ≡ fin
  pub state : new ≡ new2

abbrev pub AreDetermined : Type 0
AreDetermined =
    (s : State) (input out out2 : Bytes) (end fin : Ended) (new new2 : State)
    (a : Session s input out end new) (b : Session s input out2 fin new2)
    → HasEnded end → HasEnded fin → was_busy a ≡ false → was_busy b ≡ false → AreSameOutcomes out out2 end fin new new2

-- ---- the bytes of a session of the public show only what is public

-- a GET below /public/
pub record IsPublicGet (message : Message) : Type 0 where
  pub method : message.request.method ≡ codes "GET"
  pub below : Bytes
  pub path : path_of message.request.target ≡ codes "/public/" ++ below

abbrev pub AsksThePublic : Bytes → Type 0
AsksThePublic input = (messages : List Message) (rest : Bytes) → Cuts input messages rest
    → AllByRecursion IsPublicGet messages

-- what is written before 503
abbrev pub until_busy : {s new : State} {input out : Bytes} {end : Ended} → Session s input out end new → Bytes
until_busy {s} {new} {input} {out} {end} session = if_busy (was_busy session) out
  where
    if_busy : Bool → Bytes → Bytes
    if_busy true all = text_after_all s session.messages
    if_busy false all = all

-- the bytes are equal up to the first 503: without a 503 all bytes are equal, and so are the ends
pub record AreAlike {s t new new2 : State} {input out out2 : Bytes} {end fin : Ended}
    (a : Session s input out end new) (b : Session t input out2 fin new2) : Type 0 where
  pub first : was_busy a ≡ true → was_busy b ≡ false → IsFront (until_busy a) out2
  pub second : was_busy a ≡ false → was_busy b ≡ true → IsFront (until_busy b) out
  pub both : IsFront (until_busy a) (until_busy b) ⊎ IsFront (until_busy b) (until_busy a)
  pub neither : was_busy a ≡ false → was_busy b ≡ false → (out ≡ out2) × (end ≡ fin)

abbrev pub NothingLeaks : Type 0
NothingLeaks =
    (s t : State) (input out out2 : Bytes) (end fin : Ended) (new new2 : State)
    (a : Session s input out end new) (b : Session t input out2 fin new2)
    → SamePublic s t → AsksThePublic input → HasEnded end → HasEnded fin → AreAlike a b
