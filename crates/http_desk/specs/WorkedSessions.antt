-- Whole sessions in a small office, to the byte. Inputs and outputs were written by hand.
use Rattle.std.specs.Prelude.{◌≡◌, ◌++◌, [], codes}
use Rattle.isad_core.specs.Texts.{Bytes}
use Rattle.http_desk.specs.declared.session_end.Ended.TheVariants.{End, Cut}
use Rattle.http_desk.specs.Messages.{longest_head}
use Rattle.http_desk.specs.Session.{Session, most_answers}
use Rattle.http_desk.specs.WorkedExamples.{filled_office, with_draft, fonds_list, not_found, json_text}

abbrev pub list_request : Bytes
list_request = codes "GET /public/fonds HTTP/1.1\r\nHost: x\r\n\r\n"

abbrev pub register_head : Bytes
register_head = codes "POST /desk/register HTTP/1.1\r\nHost: x\r\nContent-Length: 35\r\n\r\n"

-- ten bytes of its body
abbrev pub half_a_request : Bytes
half_a_request = register_head ++ codes "{\"name\":\"A"

abbrev pub draft_head : Bytes
draft_head = codes "POST /desk/status HTTP/1.1\r\nHost: x\r\nContent-Length: 27\r\n\r\n"

abbrev pub draft_request : Bytes
draft_request = draft_head ++ codes "{\"unit\":2,\"status\":\"draft\"}"

abbrev pub page_request : Bytes
page_request = codes "GET /public/units/2 HTTP/1.1\r\nHost: x\r\n\r\n"

abbrev pub one_unit : Bytes
one_unit = json_text (codes "200 OK") (codes "11") [] (codes "{\"units\":1}")

pub record SessionsTalked : Type 0 where
  pub twice : Session filled_office (list_request ++ list_request) (fonds_list ++ fonds_list) End filled_office
  pub cut : Session filled_office (list_request ++ half_a_request) fonds_list Cut filled_office
  -- the draft is unknown from the next message on
  pub drafted : Session filled_office (draft_request ++ page_request) (one_unit ++ not_found) End with_draft
  -- the bytes of a head, and the answers of a session
  pub head : longest_head ≡ 16384
  pub answers : most_answers ≡ 10000
