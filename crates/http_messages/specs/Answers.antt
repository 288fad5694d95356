-- The answer to a request, and its bytes (RFC 9112, section 4; RFC 9110, sections 15 and 8).
use Rattle.std.specs.Prelude.{ℕ, ◌&&◌, ◌++◌, Bool, true, false, not, [], length, Option, Some, None, is_none, Ok, Err}
use Rattle.std.specs.Prelude.{decimal, if◌then◌else◌, codes}
use Rattle.std.specs.Str.{bytes_eq}
use Rattle.isad_core.specs.Texts.{Bytes}
use Rattle.office_core.specs.declared.command.Command.{Command}
use Rattle.office_core.specs.declared.command.Command.TheVariants.{Import}
use Rattle.office_core.specs.declared.query.Answer.TheVariants as told
use Rattle.office_core.specs.declared.query.Answer.{Answer as Told}
use Rattle.office_core.specs.State.{State}
use Rattle.office_core.specs.Rules.{Reply, step}
use Rattle.office_core.specs.Json.{reply_text}
use Rattle.office_core.specs.Queries.{answer}
use Rattle.http_messages.specs.declared.status.Status.{Status}
use Rattle.http_messages.specs.declared.status.Status.TheVariants.{Fine, BadRequest, NotFound, MethodNotAllowed}
use Rattle.http_messages.specs.declared.status.Status.TheVariants.{Conflict, LengthRequired, TooLarge, NotImplemented}
use Rattle.http_messages.specs.declared.status.Status.TheVariants.{Busy}
use Rattle.http_messages.specs.Heads.{Request}
use Rattle.http_messages.specs.Targets.{path_of}
use Rattle.http_messages.specs.Routes.{Route, Asks, Does, TakesFile, TakesForm, route_of, is_post, method_of}
use Rattle.http_messages.specs.Members.{command_in}

pub record Answer : Type 0 where
  pub status : Status
  pub is_text : Bool  -- a text, or else JSON
  pub allow : Option Bytes  -- the method that is allowed, where another was used
  pub body : Bytes

-- ---- statuses

abbrev pub status_code : Status → ℕ
status_code Fine = 200
status_code BadRequest = 400
status_code NotFound = 404
status_code MethodNotAllowed = 405
status_code Conflict = 409
status_code LengthRequired = 411
status_code TooLarge = 413
status_code NotImplemented = 501
status_code Busy = 503

abbrev pub phrase_of : Status → Bytes
phrase_of Fine = codes "OK"
phrase_of BadRequest = codes "Bad Request"
phrase_of NotFound = codes "Not Found"
phrase_of MethodNotAllowed = codes "Method Not Allowed"
phrase_of Conflict = codes "Conflict"
phrase_of LengthRequired = codes "Length Required"
phrase_of TooLarge = codes "Content Too Large"
phrase_of NotImplemented = codes "Not Implemented"
phrase_of Busy = codes "Service Unavailable"

-- the body of an answer that does not come from the office
abbrev pub error_text : Status → Bytes
error_text Fine = []
error_text BadRequest = codes "{\"error\":\"bad request\"}"
error_text NotFound = codes "{\"error\":\"not found\"}"
error_text MethodNotAllowed = codes "{\"error\":\"method not allowed\"}"
error_text Conflict = []
error_text LengthRequired = codes "{\"error\":\"length required\"}"
error_text TooLarge = codes "{\"error\":\"too large\"}"
error_text NotImplemented = codes "{\"error\":\"not implemented\"}"
error_text Busy = codes "{\"error\":\"busy\"}"

abbrev pub error : Status → Answer
error status = record { status = status; is_text = false; allow = None; body = error_text status }

abbrev pub not_allowed : Bytes → Answer
not_allowed method =
    record { status = MethodNotAllowed; is_text = false; allow = Some method; body = error_text MethodNotAllowed }

-- ---- bytes

abbrev pub type_name : Bool → Bytes
type_name true = codes "text/plain; charset=utf-8"
type_name false = codes "application/json"

abbrev pub allow_field : Option Bytes → Bytes
allow_field None = []
allow_field (Some method) = codes "Allow: " ++ method ++ codes "\r\n"

abbrev pub close_field : Bool → Bytes
close_field true = codes "Connection: close\r\n"
close_field false = []

-- the head of an answer, after which the connection is closed or stays open
unfoldable pub head_text : Bool → Answer → Bytes
head_text closing a =
    codes "HTTP/1.1 " ++ (decimal (status_code a.status) ++ (codes " " ++ (phrase_of a.status ++ (codes "\r\n"
    ++ (codes "Content-Type: " ++ (type_name a.is_text ++ (codes "\r\n"
    ++ (codes "Content-Length: " ++ (decimal (length a.body) ++ (codes "\r\n"
    ++ (allow_field a.allow ++ (close_field closing ++ codes "\r\n"))))))))))))

-- an answer to HEAD is written without its body
abbrev pub body_text : Bool → Answer → Bytes
body_text bare a = if bare then [] else a.body

abbrev pub answer_text : Bool → Bool → Answer → Bytes
answer_text bare closing a = head_text closing a ++ body_text bare a

-- the peer may send the body
unfoldable pub continue_text : Bytes
continue_text = codes "HTTP/1.1 100 Continue\r\n\r\n"

-- ---- what is answered to a request and its body, and the state that this leaves

abbrev pub of_told : Told → Answer
of_told (told.Text bytes) = record { status = Fine; is_text = true; allow = None; body = bytes }
of_told (told.Json bytes) = record { status = Fine; is_text = false; allow = None; body = bytes }
of_told (told.Unknown why) = error NotFound

abbrev pub status_of_reply : Reply → Status
status_of_reply (Ok command_answer) = Fine
status_of_reply (Err why) = Conflict

abbrev pub of_reply : Reply → Answer
of_reply reply = record { status = status_of_reply reply; is_text = false; allow = None; body = reply_text reply }

abbrev pub command_answer : State → Command → Answer × State
command_answer s asked = (of_reply (step s asked).1, (step s asked).0)

abbrev pub done_if_read : State → Option Command → Answer × State
done_if_read s None = (error BadRequest, s)
done_if_read s (Some asked) = command_answer s asked

abbrev pub route_carried_out : State → Bytes → Route → Answer × State
route_carried_out s body (Asks asked) = (of_told (answer s asked), s)
route_carried_out s body (Does asked) = command_answer s asked
route_carried_out s body (TakesFile source) = command_answer s (Import source body)
route_carried_out s body (TakesForm asked) = done_if_read s (command_in asked body)

-- the checks in order: route, method, length, members of the body; and then the command or the question
abbrev pub by_route : State → Request → Bytes → Option Route → Answer × State
by_route s request body None = (error NotFound, s)
by_route s request body (Some route) =
    if not (bytes_eq request.method (method_of route)) then (not_allowed (method_of route), s)
    else if is_post route && is_none request.length then (error LengthRequired, s)
    else route_carried_out s body route

abbrev pub response : State → Request → Bytes → Answer × State
response s request body = by_route s request body (route_of (path_of request.target))
