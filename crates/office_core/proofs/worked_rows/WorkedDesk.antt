-- The rows of the reading room, computed.
use Rattle.std.proofs.Common.{refl}
use Rattle.std.proofs.Math.Utf8.{encode}
use Rattle.std.specs.Str.{is_utf8, chars}
use Rattle.csv.specs.Machine.{next_record}
use Rattle.csv.specs.Reading.{records_from, strip_bom}
use Rattle.atom_csv.specs.Columns.{columns}
use Rattle.atom_csv.specs.Values.{text_elements}
use Rattle.catalogue_core.specs.ContainerContents.{is_open}
use Rattle.catalogue_core.specs.Intake.{take}
use Rattle.office_core.specs.WorkedDesk.{RenewedAlone, RegisteredTooLate, RunForAnExpiredTicket, ReshelvedInOrder}
use Rattle.office_core.specs.WorkedDesk.{NotFirstAndExpired, HandsFullAndClosed, OrderedAndClosed, UnknownTicketAndUnit}
use Rattle.office_core.specs.WorkedDesk.{RunForFullHands, ExpiredHolder, PermitsOfTheExpired, PermitOfAnEarlierDay}

pub renewed_alone : RenewedAlone
unfolding is_open take is_utf8 chars encode records_from strip_bom next_record columns text_elements
renewed_alone = refl

pub registered_too_late : RegisteredTooLate
unfolding is_open take is_utf8 chars encode records_from strip_bom next_record columns text_elements
registered_too_late = refl

pub run_for_an_expired_ticket : RunForAnExpiredTicket
unfolding is_open take is_utf8 chars encode records_from strip_bom next_record columns text_elements
run_for_an_expired_ticket = refl

pub reshelved_in_order : ReshelvedInOrder
unfolding is_open take is_utf8 chars encode records_from strip_bom next_record columns text_elements
reshelved_in_order = refl

pub not_first_and_expired : NotFirstAndExpired
unfolding is_open take is_utf8 chars encode records_from strip_bom next_record columns text_elements
not_first_and_expired = refl

pub hands_full_and_closed : HandsFullAndClosed
unfolding is_open take is_utf8 chars encode records_from strip_bom next_record columns text_elements
hands_full_and_closed = refl

pub ordered_and_closed : OrderedAndClosed
unfolding is_open take is_utf8 chars encode records_from strip_bom next_record columns text_elements
ordered_and_closed = refl

pub unknown_ticket_and_unit : UnknownTicketAndUnit
unfolding is_open take is_utf8 chars encode records_from strip_bom next_record columns text_elements
unknown_ticket_and_unit = refl

pub run_for_full_hands : RunForFullHands
unfolding is_open take is_utf8 chars encode records_from strip_bom next_record columns text_elements
run_for_full_hands = refl

pub expired_holder : ExpiredHolder
unfolding is_open take is_utf8 chars encode records_from strip_bom next_record columns text_elements
expired_holder = refl

pub permits_of_the_expired : PermitsOfTheExpired
unfolding is_open take is_utf8 chars encode records_from strip_bom next_record columns text_elements
permits_of_the_expired = refl

pub permit_of_an_earlier_day : PermitOfAnEarlierDay
unfolding is_open take is_utf8 chars encode records_from strip_bom next_record columns text_elements
permit_of_an_earlier_day = refl
