-- Heads, and what is answered to what they ask for. The expected results were written by hand.
use Rattle.std.specs.Prelude.{◌≡◌, true, false, List, [], ◌∷◌, map, Some, None, codes}
use Rattle.httparse.specs.Grammar.{RequestHead, crlf}
use Rattle.isad_core.specs.Texts.{Bytes}
use Rattle.office_core.specs.declared.command.Command.TheVariants.{Import}
use Rattle.office_core.specs.declared.query.Answer.TheVariants as told
use Rattle.office_core.specs.State.{State}
use Rattle.http_messages.specs.declared.head_scan.HeadScanState.TheVariants.{Lead, Middle}
use Rattle.http_messages.specs.declared.head_scan.Scan.TheVariants.{Whole, Open}
use Rattle.http_messages.specs.declared.status.Status.{Status}
use Rattle.http_messages.specs.declared.status.Status.TheVariants.{Fine, BadRequest, NotFound, MethodNotAllowed}
use Rattle.http_messages.specs.declared.status.Status.TheVariants.{Conflict, LengthRequired, TooLarge, NotImplemented}
use Rattle.http_messages.specs.declared.status.Status.TheVariants.{Busy}
use Rattle.http_messages.specs.HeadScan.{scan}
use Rattle.http_messages.specs.Heads.{Request, Refused, verdict_on}
use Rattle.http_messages.specs.Answers.{response, route_carried_out, continue_text, command_answer, done_if_read, error}
use Rattle.http_messages.specs.Answers.{error_text, head_text, not_allowed, status_code, of_told, phrase_of}
use Rattle.http_messages.specs.Routes.{TakesFile}
use Rattle.http_messages.specs.WorkedExamples.{Weighs, With, takes, says_length, expects, chunked_field, options}

-- ---- where a head ends

pub record Scanned : Type 0 where
  pub empty_lines : scan (codes "\n\r\n\r\nG\n\n") ≡ Whole 8
  pub returns : scan (codes "\r\r\n\n") ≡ Whole 4
  pub line_feeds : scan (codes "G\n\n") ≡ Whole 3
  pub return_in_line : scan (codes "G\n\rX\n\n") ≡ Whole 6
  pub return_at_end : scan (codes "G\r\n\r\n") ≡ Whole 5
  pub begun : scan (codes "G") ≡ Open Middle
  pub nothing : scan (codes "\r\n") ≡ Open Lead

-- ---- the verdict on a head

-- a head of the version 1.0 with no fields
abbrev pub old_head : RequestHead
old_head =
    record { blank = []; method = codes "GET"; target = codes "/"; minor = 0; line_end = crlf; fields = []; last = crlf }

pub record Judged : Type 0 where
  pub old_chunked : Weighs (codes "GET") 0 (chunked_field ∷ []) (Refused NotImplemented false)
  pub small_head : Weighs (codes "head") 1 [] (Refused BadRequest false)
  pub old_expectation : Weighs (codes "GET") 0 (says_length (codes "5") ∷ expects (codes "100-continue") ∷ [])
      (takes (Some 5) false true)
  pub no_body : With (expects (codes "100-continue") ∷ []) (takes None false false)
  pub one_byte : With (says_length (codes "1") ∷ expects (codes "100-continue") ∷ []) (takes (Some 1) true false)
  pub another_expectation : With (says_length (codes "1") ∷ expects (codes "100-continues") ∷ []) (takes (Some 1) false false)
  pub another_field : With (says_length (codes "1") ∷ (codes "X", codes "100-continue") ∷ []) (takes (Some 1) false false)
  pub second_options : With (options (codes "keep-alive") ∷ options (codes "close") ∷ []) (takes None false true)
  pub close_elsewhere : With ((codes "X", codes "close") ∷ []) (takes None false false)
  pub space_after_close : With (options (codes "close , x") ∷ []) (takes None false true)
  pub ten_times : With (says_length (codes "5") ∷ says_length (codes "50") ∷ []) (Refused BadRequest false)
  pub second_empty : With (says_length (codes "0") ∷ says_length [] ∷ []) (Refused BadRequest false)
  pub old_version : verdict_on old_head ≡ takes None false true

-- ---- answers

abbrev pub statuses : List Status
statuses = Fine ∷ BadRequest ∷ NotFound ∷ MethodNotAllowed ∷ Conflict ∷ LengthRequired ∷ TooLarge ∷ NotImplemented ∷ Busy ∷ []

abbrev pub phrases : List Bytes
phrases = codes "OK" ∷ codes "Bad Request" ∷ codes "Not Found" ∷ codes "Method Not Allowed" ∷ codes "Conflict"
    ∷ codes "Length Required" ∷ codes "Content Too Large" ∷ codes "Not Implemented" ∷ codes "Service Unavailable" ∷ []

abbrev pub error_texts : List Bytes
error_texts = [] ∷ codes "{\"error\":\"bad request\"}" ∷ codes "{\"error\":\"not found\"}"
    ∷ codes "{\"error\":\"method not allowed\"}" ∷ [] ∷ codes "{\"error\":\"length required\"}"
    ∷ codes "{\"error\":\"too large\"}" ∷ codes "{\"error\":\"not implemented\"}" ∷ codes "{\"error\":\"busy\"}" ∷ []

abbrev pub asks : (method target : Bytes) → Request
asks method target = record { method = method; target = target; length = None; waits = false; closes = false }

abbrev pub refused_head : Bytes
refused_head = codes "HTTP/1.1 405 Method Not Allowed\r\nContent-Type: application/json\r\nContent-Length: 30\r\nAllow: GET\r\nConnection: close\r\n\r\n"

pub record Stated : Type 0 where
  pub numbers : map status_code statuses ≡ 200 ∷ 400 ∷ 404 ∷ 405 ∷ 409 ∷ 411 ∷ 413 ∷ 501 ∷ 503 ∷ []
  pub words : map phrase_of statuses ≡ phrases
  pub texts : map error_text statuses ≡ error_texts
  pub fields : head_text true (not_allowed (codes "GET")) ≡ refused_head
  pub go_on : continue_text ≡ codes "HTTP/1.1 100 Continue\r\n\r\n"
  pub json : of_told (told.Json (codes "{}")) ≡ record { status = Fine; is_text = false; allow = None; body = codes "{}" }
  pub bad_body : (s : State) → done_if_read s None ≡ (error BadRequest, s)
  pub file : (s : State) (body : Bytes) → route_carried_out s body (TakesFile (codes "a")) ≡ command_answer s (Import (codes "a") body)
  pub wrong_method : (s : State) → response s (asks (codes "GET") (codes "/desk/run")) [] ≡ (not_allowed (codes "POST"), s)
