-- Answers in a small office, to the byte. Each expected text was written by hand.
use Rattle.std.specs.Prelude.{◌≡◌, ◌++◌, ℕ, Bool, true, false, [], ◌∷◌, Option, Some, None, codes}
use Rattle.isad_core.specs.Texts.{Bytes}
use Rattle.office_core.specs.State.{State}
use Rattle.office_core.specs.Rules.{state_after}
use Rattle.office_core.specs.WorkedExamples.{new_office, import, draft, docks}
use Rattle.http_desk.specs.Messages.{Message}
use Rattle.http_desk.specs.Session.{message_text}

abbrev pub of : Bytes → Bytes → Option ℕ → Bool → Message
of method target size closes =
    record {
      request = record { method = method; target = target; length = size; waits = false; closes = closes };
      body = [];
    }

abbrev pub get : Bytes → Message
get target = of (codes "GET") target None false

-- an office with a fonds and a series
abbrev pub filled_office : State
filled_office = state_after new_office (import docks ∷ [])

-- the same, with the series a draft
abbrev pub with_draft : State
with_draft = state_after filled_office (draft 2 ∷ [])

-- the message is answered with these bytes; the connection is closed after them if its head asks for that
abbrev pub IsAnsweredWith : State → Message → Bytes → Type 0
IsAnsweredWith s message text = message_text message.request.closes s message ≡ text

-- an answer with a text, after which the connection stays open
abbrev pub fine_text : (length : Bytes) → Bytes → Bytes
fine_text size text =
    codes "HTTP/1.1 200 OK\r\nContent-Type: text/plain; charset=utf-8\r\n"
    ++ (codes "Content-Length: " ++ (size ++ (codes "\r\n\r\n" ++ text)))

-- another answer, with a JSON text
abbrev pub json_text : (status length more : Bytes) → Bytes → Bytes
json_text status size more text =
    codes "HTTP/1.1 " ++ (status ++ (codes "\r\nContent-Type: application/json\r\n"
    ++ (codes "Content-Length: " ++ (size ++ (codes "\r\n" ++ (more ++ (codes "\r\n" ++ text)))))))

abbrev pub fonds_list : Bytes
fonds_list = fine_text (codes "40") (codes "1 GB 0999 HUL [Fonds] Hull Dock Company\n")

abbrev pub not_found : Bytes
not_found = json_text (codes "404 Not Found") (codes "21") [] (codes "{\"error\":\"not found\"}")

pub record Answered : Type 0 where
  pub fonds : IsAnsweredWith filled_office (get (codes "/public/fonds")) fonds_list
  pub nothing : IsAnsweredWith new_office (of (codes "GET") (codes "/public/fonds") None true)
      (fine_text (codes "0\r\nConnection: close") [])
  pub head : IsAnsweredWith filled_office (of (codes "HEAD") (codes "/public/fonds") None false)
      (json_text (codes "405 Method Not Allowed") (codes "30") (codes "Allow: GET\r\n") [])
  pub draft : IsAnsweredWith with_draft (get (codes "/public/units/2")) not_found
  pub unknown : IsAnsweredWith filled_office (get (codes "/public/units/99999")) not_found
  pub no_route : IsAnsweredWith filled_office (get (codes "/public/units/02")) not_found
  pub no_length : IsAnsweredWith filled_office (of (codes "POST") (codes "/desk/run") None false)
      (json_text (codes "411 Length Required") (codes "27") [] (codes "{\"error\":\"length required\"}"))
  pub refused : IsAnsweredWith filled_office (of (codes "POST") (codes "/desk/run?x") (Some 0) false)
      (json_text (codes "409 Conflict") (codes "37") [] (codes "{\"code\":24,\"refused\":\"NothingToMove\"}"))
