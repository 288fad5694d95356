-- The rows of what is shown, computed.
use Rattle.std.proofs.Common.{refl}
use Rattle.std.proofs.Math.Utf8.{encode}
use Rattle.std.specs.Fmt.{digits}
use Rattle.std.specs.Str.{is_utf8, chars}
use Rattle.csv.specs.Machine.{next_record}
use Rattle.csv.specs.Reading.{records_from, strip_bom}
use Rattle.serde_json.proofs.OnLiterals.{serde_json_on_literals}
use Rattle.isad_core.specs.Days.{day_text}
use Rattle.atom_csv.specs.Columns.{columns}
use Rattle.atom_csv.specs.Values.{text_elements}
use Rattle.catalogue_core.specs.ContainerContents.{is_open}
use Rattle.catalogue_core.specs.Intake.{take}
use Rattle.office_core.specs.WorkedShown.{ClosedShown, OldSlips, Lists, PermitKept, NearestAbove, LinesInOrder}
use Rattle.office_core.specs.WorkedShown.{ToldApart}

pub closed_shown : ClosedShown
unfolding is_open take is_utf8 chars encode records_from strip_bom next_record columns text_elements digits day_text
closed_shown = record { closed_top = refl; closed_child = refl; aid_of_a_closed_top = refl; aid_of_a_closed_unit = refl; none_below = refl }

pub old_slips : OldSlips
unfolding is_open take is_utf8 chars encode records_from strip_bom next_record columns text_elements digits day_text
old_slips = record { first = refl; second = refl }

pub lists : Lists
unfolding is_open take is_utf8 chars encode records_from strip_bom next_record columns text_elements digits day_text serde_json_on_literals
lists = record { queue_of_two = refl; orders_of_a_reader = refl; two_issued = refl; expired_permits = refl }

pub permit_kept : PermitKept
unfolding is_open take is_utf8 chars encode records_from strip_bom next_record columns text_elements digits day_text serde_json_on_literals
permit_kept = refl

pub nearest_above : NearestAbove
unfolding is_open take is_utf8 chars encode records_from strip_bom next_record columns text_elements digits day_text
nearest_above = record { file = refl; series = refl }

pub lines_in_order : LinesInOrder
unfolding is_open take is_utf8 chars encode records_from strip_bom next_record columns text_elements digits day_text
lines_in_order = refl

pub told_apart : ToldApart
unfolding is_open take is_utf8 chars encode records_from strip_bom next_record columns text_elements digits day_text serde_json_on_literals
told_apart = record { orders = refl; renewed = refl; permits = refl; revoked = refl; kinds = refl; numbers = refl; children = refl }
