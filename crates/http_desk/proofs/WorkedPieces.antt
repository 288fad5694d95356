-- What worked messages are answered, and what state they leave.
use Rattle.std.proofs.Common.{◌≡◌, ◌++◌, refl, false, codes, [], lit<}
use Rattle.std.proofs.Math.Utf8.{encode}
use Rattle.std.specs.Fmt.{digits}
use Rattle.std.specs.Str.{is_utf8, chars}
use Rattle.csv.specs.Machine.{next_record}
use Rattle.csv.specs.Reading.{records_from, strip_bom}
use Rattle.serde_json.proofs.OnLiterals.{serde_json_on_literals}
use Rattle.isad_core.specs.Days.{day_text}
use Rattle.atom_csv.specs.Columns.{columns}
use Rattle.atom_csv.specs.Values.{text_elements}
use Rattle.catalogue_core.specs.ContainerContents.{is_open}
use Rattle.catalogue_core.specs.Intake.{take}
use Rattle.http_messages.specs.Answers.{head_text, continue_text}
use Rattle.http_desk.proofs.Common.{Cut, End, Message, Session, State, draft_head, draft_request, filled_office}
use Rattle.http_desk.proofs.Common.{fonds_list, half_a_request, list_request, message_text, not_found, one_unit}
use Rattle.http_desk.proofs.Common.{page_request, register_head, state_after_message, with_draft}
use Rattle.http_desk.proofs.WorkedHeads.{asks_for, draft_has, list_has, one_answered, orders_at, page_has, register_has}
use Rattle.http_desk.proofs.WorkedHeads.{two_answered}

abbrev pub list_message : Message
list_message = record { request = asks_for (codes "/public/fonds"); body = [] }

abbrev pub page_message : Message
page_message = record { request = asks_for (codes "/public/units/2"); body = [] }

abbrev pub draft_message : Message
draft_message = record { request = orders_at (codes "/desk/status") 27; body = codes "{\"unit\":2,\"status\":\"draft\"}" }

pub list_told : message_text false filled_office list_message ≡ fonds_list
unfolding head_text continue_text is_open take is_utf8 chars encode records_from strip_bom next_record columns text_elements digits day_text serde_json_on_literals
list_told = refl

-- questions change nothing
pub list_keeps : (s : State) → state_after_message s list_message ≡ s
unfolding is_utf8 chars encode
list_keeps s = refl

pub page_keeps : (s : State) → state_after_message s page_message ≡ s
unfolding digits is_utf8 chars encode
page_keeps s = refl

pub draft_told : message_text false filled_office draft_message ≡ one_unit
unfolding head_text continue_text is_open take is_utf8 chars encode records_from strip_bom next_record columns text_elements digits day_text serde_json_on_literals
draft_told = refl

pub draft_leaves : state_after_message filled_office draft_message ≡ with_draft
unfolding is_utf8 chars encode digits day_text serde_json_on_literals
draft_leaves = refl

pub page_told : message_text false with_draft page_message ≡ not_found
unfolding head_text continue_text is_open take is_utf8 chars encode records_from strip_bom next_record columns text_elements digits day_text serde_json_on_literals
page_told = refl

-- ---- sessions

-- a list, and then a registration that stops inside its body
abbrev pub list_and_cut : Session filled_office (list_request ++ half_a_request) fonds_list Cut filled_office
list_and_cut = one_answered filled_office filled_office (list_request ++ half_a_request) half_a_request list_message (orders_at (codes "/desk/register") 35) fonds_list
    (record { block = list_request; head = list_has half_a_request; complete = refl })
    refl list_told (list_keeps filled_office)
    (register_head, codes "{\"name\":\"A", register_has (codes "{\"name\":\"A"), lit< tt) refl

-- a draft, and then its page
abbrev pub draft_and_page : Session filled_office (draft_request ++ page_request) (one_unit ++ not_found) End with_draft
draft_and_page = two_answered filled_office with_draft with_draft (draft_request ++ page_request) page_request draft_message page_message one_unit not_found
    (record { block = draft_head; head = draft_has (draft_message.body ++ page_request); complete = refl })
    (record { block = page_request; head = page_has []; complete = refl })
    refl refl draft_told draft_leaves page_told (page_keeps with_draft)
