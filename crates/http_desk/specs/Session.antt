-- Sessions: what is answered to a whole input, how that ends, and the state that it leaves.
use Rattle.std.specs.Prelude.{◌≡◌, ℕ, suc, ◌<◌, ◌⊎◌, ◌||◌, ◌++◌, Bool, true, false, List, [], ◌∷◌, length, nat_eq}
use Rattle.std.specs.List.{AllByRecursion}
use Rattle.isad_core.specs.Texts.{Bytes}
use Rattle.office_core.specs.State.{State}
use Rattle.http_desk.specs.declared.session_end.Ended.{Ended}
use Rattle.http_desk.specs.declared.session_end.Ended.TheVariants.{End, Closed, Cut, ReadFault, WriteFault, Bound}
use Rattle.http_messages.specs.declared.status.Status.TheVariants.{BadRequest, Busy}
use Rattle.http_messages.specs.Heads.{is_head}
use Rattle.http_messages.specs.Answers.{Answer, error, answer_text, continue_text, response}
use Rattle.http_desk.specs.declared.session.TheConstants.{ANSWERS}
use Rattle.http_desk.specs.Messages.{Message, Cuts, Last, Nothing, HeadCut, BodyCut, NoHead, Refuses, Answers, Fails}
use Rattle.http_desk.specs.Messages.{Stands}

-- ---- what is written for a message

abbrev pub most_answers : ℕ
most_answers = ANSWERS

-- the connection is closed after the answer with this number, counted from 1
abbrev pub closes : ℕ → Message → Bool
closes number message = message.request.closes || nat_eq number most_answers

abbrev pub continue_if : Bool → Bytes
continue_if true = continue_text
continue_if false = []

abbrev pub refusal_text : Bool → Answer → Bytes
refusal_text bare a = answer_text bare true a

abbrev pub message_answer : State → Message → Answer
message_answer s message = (response s message.request message.body).0

abbrev pub state_after_message : State → Message → State
state_after_message s message = (response s message.request message.body).1

-- 100 Continue if it is due, and the answer
abbrev pub message_text : Bool → State → Message → Bytes
message_text closing s message =
    continue_if message.request.waits ++ answer_text (is_head message.request.method) closing (message_answer s message)

-- what is written for messages after whose answers the connection stays open
abbrev pub text_after_all : State → List Message → Bytes
text_after_all s [] = []
text_after_all s (message ∷ messages) = message_text false s message ++ text_after_all (state_after_message s message) messages

abbrev pub state_after_messages : State → List Message → State
state_after_messages s [] = s
state_after_messages s (message ∷ messages) = state_after_messages (state_after_message s message) messages

-- what is written in the last place
abbrev pub last_text : ℕ → State → Last → Bytes
last_text number s Nothing = []
last_text number s HeadCut = []
last_text number s (BodyCut request) = continue_if request.waits
last_text number s NoHead = refusal_text false (error BadRequest)
last_text number s (Refuses status bare) = refusal_text bare (error status)
last_text number s (Answers message) = message_text (closes number message) s message
last_text number s (Fails leave bare) = continue_if leave ++ refusal_text bare (error Busy)

abbrev pub state_after_last : State → Last → State
state_after_last s Nothing = s
state_after_last s HeadCut = s
state_after_last s (BodyCut request) = s
state_after_last s NoHead = s
state_after_last s (Refuses status bare) = s
state_after_last s (Answers message) = state_after_message s message
state_after_last s (Fails leave bare) = s

-- ---- how it ends

abbrev pub IsCutOff : Last → Type 0
IsCutOff Nothing = ⊥
IsCutOff HeadCut = Unit {0}
IsCutOff (BodyCut request) = Unit {0}
IsCutOff NoHead = ⊥
IsCutOff (Refuses status bare) = ⊥
IsCutOff (Answers message) = ⊥
IsCutOff (Fails leave bare) = ⊥

-- the answer in the last place closes the connection
abbrev pub IsClosing : ℕ → Last → Type 0
IsClosing number Nothing = ⊥
IsClosing number HeadCut = ⊥
IsClosing number (BodyCut request) = ⊥
IsClosing number NoHead = Unit {0}
IsClosing number (Refuses status bare) = Unit {0}
IsClosing number (Answers message) = closes number message ≡ true
IsClosing number (Fails leave bare) = Unit {0}

abbrev pub EndsSo : ℕ → Last → Ended → Type 0
EndsSo number last End = last ≡ Nothing
EndsSo number last Cut = IsCutOff last
EndsSo number last Closed = IsClosing number last
-- a read that fails leaves what the end of the input would leave there
EndsSo number last ReadFault = (last ≡ Nothing) ⊎ IsCutOff last
-- in any message's place, a write may fail or the turns may be used up
EndsSo number last WriteFault = Unit {0}
EndsSo number last Bound = Unit {0}

-- a front of the bytes, or all of them
abbrev pub IsFront : Bytes → Bytes → Type 0
IsFront front bytes = (rest : Bytes) × (bytes ≡ front ++ rest)

-- what was written in the last place: all of the bytes, or a front of them if a write failed or the turns were used up
abbrev pub Written : Ended → Bytes → Bytes → Type 0
Written End bytes out = out ≡ bytes
Written Cut bytes out = out ≡ bytes
Written Closed bytes out = out ≡ bytes
Written ReadFault bytes out = out ≡ bytes
Written WriteFault bytes out = IsFront out bytes
Written Bound bytes out = IsFront out bytes

-- the session ends in the place of the message with this number: what is at the front of the input, what is written
-- for it, how the session ends, and the state that it leaves
pub record Stops (number : ℕ) (s : State) (input out : Bytes) (end : Ended) (new : State) : Type 0 where
  pub last : Last
  pub stands : Stands input last
  pub ends : EndsSo number last end
  pub written : Written end (last_text number s last) out
  pub leaves : new ≡ state_after_last s last

-- the connection stays open after the answer
abbrev pub StaysOpen : Message → Type 0
StaysOpen message = message.request.closes ≡ false

-- The input is cut into messages. Each is answered in turn, and the session ends in the place of the last one.
pub record Session (s : State) (input output : Bytes) (end : Ended) (new : State) : Type 0 where
  pub messages : List Message
  pub rest : Bytes
  pub out : Bytes
  pub cut : Cuts input messages rest
  pub stay : AllByRecursion StaysOpen messages
  pub few : length messages < most_answers
  pub stops : Stops (suc (length messages)) (state_after_messages s messages) rest out end new
  pub says : output ≡ text_after_all s messages ++ out
