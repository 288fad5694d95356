-- What the public may ask of an office over HTTP, and what a session shows the public.
use Rattle.std.specs.Prelude.{◌≡◌, ◌++◌, true, false, codes, List, [], ◌∷◌}
use Rattle.isad_core.specs.Texts.{Bytes}
use Rattle.office_core.specs.declared.command.Command.TheVariants.{Order}
use Rattle.office_core.specs.declared.query.Query.{Query}
use Rattle.office_core.specs.MixedRuns.{ToDo, ToTell}
use Rattle.office_core.specs.Queries.{is_public}
use Rattle.office_core.specs.Secrecy.{PrintsPublished}
use Rattle.office_core.specs.State.{State}
use Rattle.http_messages.specs.Targets.{path_of}
use Rattle.http_desk.specs.declared.session_end.Ended.{Ended}
use Rattle.http_desk.specs.Messages.{Message}
use Rattle.http_desk.specs.Runs.{Meaning, Puts, Fixed, HasMeaning, all_messages}
use Rattle.http_desk.specs.Session.{Session, message_answer, state_after_message}

-- a request below /public/, with any method
abbrev pub IsBelowPublic : Message → Type 0
IsBelowPublic message = (below : Bytes) × (path_of message.request.target ≡ codes "/public/" ++ below)

-- a public question or an order; or neither a command nor a question, and its answer is no text
abbrev pub IsForThePublic : Meaning → Type 0
IsForThePublic (Puts (ToDo (Order ticket container))) = Unit {0}
IsForThePublic (Puts (ToDo _)) = ⊥
IsForThePublic (Puts (ToTell asked)) = is_public asked ≡ true
IsForThePublic (Fixed told) = told.is_text ≡ false

-- the meaning of the message is for the public, and if its answer is a text and not JSON, the text answers a public
-- question and is printed only from units that are published in this state
pub record IsAnsweredInPublic (s : State) (message : Message) : Type 0 where
  pub meaning : Meaning
  pub means : HasMeaning message meaning
  pub asks : IsForThePublic meaning
  pub prints : (message_answer s message).is_text ≡ true →
      (asked : Query) × (meaning ≡ Puts (ToTell asked)) × PrintsPublished s asked (message_answer s message).body

-- each message below /public/ is answered so, in the state that the messages before it left
abbrev pub AreAnsweredInPublic : State → List Message → Type 0
AreAnsweredInPublic s [] = Unit {0}
AreAnsweredInPublic s (message ∷ later) =
    (IsBelowPublic message → IsAnsweredInPublic s message) × AreAnsweredInPublic (state_after_message s message) later

-- In a session all messages below /public/ are answered so. The answers to a session's messages are the bytes that it
-- writes (`Session.says`).
abbrev pub SessionsShowOnlyPublished : Type 0
SessionsShowOnlyPublished =
    (s new : State) (input output : Bytes) (end : Ended) (session : Session s input output end new)
    → AreAnsweredInPublic s (all_messages session)
