-- The rows of what is told first, computed.
use Rattle.std.proofs.Common.{refl}
use Rattle.std.proofs.Math.Utf8.{encode}
use Rattle.std.specs.Str.{is_utf8, chars}
use Rattle.csv.specs.Machine.{next_record}
use Rattle.csv.specs.Reading.{records_from, strip_bom}
use Rattle.atom_csv.specs.Columns.{columns}
use Rattle.atom_csv.specs.Values.{text_elements}
use Rattle.catalogue_core.specs.ContainerContents.{is_open}
use Rattle.catalogue_core.specs.Intake.{take}
use Rattle.office_core.specs.WorkedChecks.{OrderInTurn, IssueInTurn, SeatsInTurn, PermitInTurn, NameBeforeFile}

pub order_in_turn : OrderInTurn
order_in_turn = record { ticket = refl; expired = refl; withheld = refl; ordered = refl; day = refl; full = refl; last = refl }

pub issue_in_turn : IssueInTurn
issue_in_turn = record { container = refl; elsewhere = refl; another = refl; expired = refl; standing = refl; full_hands = refl; withheld = refl; given = refl; standing_and_withheld = refl }

pub seats_in_turn : SeatsInTurn
seats_in_turn = record { ticket = refl; expired = refl; seated = refl; none_free = refl; taken = refl; leaving_ticket = refl; standing = refl; holding = refl; left = refl }

pub permit_in_turn : PermitInTurn
unfolding is_open take is_utf8 chars encode records_from strip_bom next_record columns text_elements
permit_in_turn = refl

pub name_before_file : NameBeforeFile
unfolding is_open take is_utf8 chars encode records_from strip_bom next_record columns text_elements
name_before_file = refl
