-- How long heads and sessions may be, what is written in the last place of a session, and how it may end.
use Rattle.std.specs.Prelude.{◌≡◌, ◌++◌, true, false, [], replicate, Some, None, codes}
use Rattle.isad_core.specs.Texts.{Bytes}
use Rattle.http_messages.specs.Answers.{error}
use Rattle.http_messages.specs.declared.status.Status.TheVariants.{BadRequest, NotImplemented}
use Rattle.http_messages.specs.Heads.{Request}
use Rattle.http_desk.specs.declared.session_end.Ended.TheVariants.{Closed, Cut}
use Rattle.http_desk.specs.Messages.{Message, HeadCut, BodyCut, NoHead, Refuses, Answers, IsBlank, IsTooLong}
use Rattle.http_desk.specs.Session.{EndsSo, closes, continue_if, last_text, message_text, refusal_text}
use Rattle.http_desk.specs.Session.{state_after_last}
use Rattle.http_desk.specs.WorkedExamples.{filled_office, with_draft, of, get, json_text}

abbrev pub bad_request : (connection body : Bytes) → Bytes
bad_request connection body = json_text (codes "400 Bad Request") (codes "23") connection body

abbrev pub closing : Bytes
closing = codes "Connection: close\r\n"

abbrev pub bad_text : Bytes
bad_text = codes "{\"error\":\"bad request\"}"

abbrev pub not_implemented : Bytes
not_implemented = json_text (codes "501 Not Implemented") (codes "27") closing (codes "{\"error\":\"not implemented\"}")

abbrev pub continue_line : Bytes
continue_line = codes "HTTP/1.1 100 Continue\r\n\r\n"

-- a draft of unit 2, whose body comes after 100 Continue
abbrev pub waiting_request : Request
waiting_request = record { method = codes "POST"; target = codes "/desk/status"; length = Some 27; waits = true; closes = false }

abbrev pub draft_message : Message
draft_message = record { request = waiting_request; body = codes "{\"unit\":2,\"status\":\"draft\"}" }

abbrev pub one_unit_answer : (connection : Bytes) → Bytes
one_unit_answer connection = json_text (codes "200 OK") (codes "11") connection (codes "{\"units\":1}")

pub record Ended : Type 0 where
  pub longest_blank : IsBlank (replicate 16383 10)
  pub shortest_too_long : IsTooLong (replicate 16384 65)
  pub asked : closes 1 (of (codes "GET") (codes "/") None true) ≡ true
  pub last_but_one : closes 9999 (get (codes "/")) ≡ false
  pub last : closes 10000 (get (codes "/")) ≡ true
  pub goes_on : continue_if true ≡ continue_line
  pub refused : refusal_text false (error BadRequest) ≡ bad_request closing bad_text
  pub refused_head : refusal_text true (error BadRequest) ≡ bad_request closing []
  pub no_text_to_head : message_text false filled_office (of (codes "HEAD") (codes "/public/fonds") None false)
      ≡ json_text (codes "405 Method Not Allowed") (codes "30") (codes "Allow: GET\r\n") []
  pub after_waiting : message_text false filled_office draft_message ≡ continue_line ++ one_unit_answer []
  pub half_a_body : last_text 1 filled_office (BodyCut waiting_request) ≡ continue_line
  pub too_long : last_text 1 filled_office NoHead ≡ bad_request closing bad_text
  pub chunked : last_text 1 filled_office (Refuses NotImplemented false) ≡ not_implemented
  pub last_answer : last_text 10000 filled_office (Answers draft_message) ≡ continue_line ++ one_unit_answer closing
  pub last_state : state_after_last filled_office (Answers draft_message) ≡ with_draft
  pub cut : EndsSo 1 HeadCut Cut
  pub closed_too_long : EndsSo 1 NoHead Closed
  pub closed_refused : EndsSo 1 (Refuses NotImplemented false) Closed
