-- The answers of the worked rows, computed.
use Rattle.std.proofs.Common.{refl}
use Rattle.std.proofs.Math.Utf8.{encode}
use Rattle.std.specs.Fmt.{digits}
use Rattle.std.specs.Str.{is_utf8, chars}
use Rattle.csv.specs.Machine.{next_record}
use Rattle.csv.specs.Reading.{records_from, strip_bom}
use Rattle.serde_json.proofs.OnLiterals.{serde_json_on_literals}
use Rattle.isad_core.specs.Days.{day_text}
use Rattle.atom_csv.specs.Columns.{columns}
use Rattle.atom_csv.specs.Values.{text_elements}
use Rattle.catalogue_core.specs.ContainerContents.{is_open}
use Rattle.catalogue_core.specs.Intake.{take}
use Rattle.office_core.specs.WorkedAnswers.{Aids, Pages, Statuses, AtTheDesk, ReplyTexts}

pub aids : Aids
unfolding is_open take is_utf8 chars encode records_from strip_bom next_record columns text_elements digits day_text
aids = record { fonds = refl; nothing = refl; whole = refl; lower = refl; draft_left_out = refl; draft_unknown = refl; closed = refl; open_on_the_day = refl; boxes_once = refl; by_place = refl; below_a_draft = refl }

pub pages : Pages
unfolding is_open take is_utf8 chars encode records_from strip_bom next_record columns text_elements digits day_text
pages = record { found = refl; with_children = refl; not_all_above = refl; own = refl; boxes_above = refl; own_boxes = refl; draft_unknown = refl; below_a_draft = refl; closed = refl; below_a_closed = refl; none_such = refl; permits_unseen = refl }

pub statuses : Statuses
unfolding is_open take is_utf8 chars encode records_from strip_bom next_record columns text_elements digits day_text
statuses = record { branch_drafted = refl; branch_published = refl; unit_alone = refl; one_closed = refl }

pub at_the_desk : AtTheDesk
unfolding is_open take is_utf8 chars encode records_from strip_bom next_record columns text_elements digits day_text serde_json_on_literals
at_the_desk = record { slip = refl; no_slip = refl; queue = refl; reader = refl; none_issued = refl; one_issued = refl; out = refl; order_out = refl; no_seat = refl; permits = refl; permits_gone = refl; unknown_ticket = refl; unknown_permits = refl; unknown_container = refl }

pub replies : ReplyTexts
unfolding digits serde_json_on_literals
replies = record { header_alone = refl; two_rows = refl; with_reader = refl; bad_file = refl; bad_name = refl; an_order = refl }
