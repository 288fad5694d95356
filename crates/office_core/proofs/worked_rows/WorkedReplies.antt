-- The worked rows, computed.
use Rattle.std.proofs.Common.{refl}
use Rattle.std.proofs.Math.Utf8.{encode}
use Rattle.std.specs.Fmt.{digits}
use Rattle.std.specs.Str.{is_utf8, chars}
use Rattle.csv.specs.Machine.{next_record}
use Rattle.csv.specs.Reading.{records_from, strip_bom}
use Rattle.atom_csv.specs.Columns.{columns}
use Rattle.atom_csv.specs.Values.{text_elements}
use Rattle.catalogue_core.specs.ContainerContents.{is_open}
use Rattle.catalogue_core.specs.Intake.{take}
use Rattle.office_core.specs.WorkedReplies.{Depths, NamesOfReaders, AtTheCounter, QueueOfTwo, GateAndDay}
use Rattle.office_core.specs.WorkedReplies.{RunOfTwoAndOne, OrdersOfADay, Seats, ExpiryAndRenewal, HandsAndReshelving}
use Rattle.office_core.specs.WorkedReplies.{LeastOrders, LockGates, Permits, PermitsAndDrafts, ImportAgain, FaultyFiles}
use Rattle.office_core.specs.WorkedReplies.{Remarks, Moves, Unknown, ExpiredAtTheDesk, ClosureEnds, SeatsOvernight}
use Rattle.office_core.specs.WorkedReplies.{LowestContainer, HeadCancelled, TwoAtOnce, WithReaderAgain, PermitsAbove}
use Rattle.office_core.specs.WorkedReplies.{Placed}

pub queue_of_two : QueueOfTwo
unfolding is_open take is_utf8 chars encode records_from strip_bom next_record columns text_elements
queue_of_two = refl

pub gate_and_day : GateAndDay
unfolding is_open take is_utf8 chars encode records_from strip_bom next_record columns text_elements
gate_and_day = refl

pub run_of_two_and_one : RunOfTwoAndOne
unfolding is_open take is_utf8 chars encode records_from strip_bom next_record columns text_elements
run_of_two_and_one = refl

pub orders_of_a_day : OrdersOfADay
unfolding is_open take is_utf8 chars encode records_from strip_bom next_record columns text_elements
orders_of_a_day = refl

pub seats : Seats
unfolding is_open take is_utf8 chars encode records_from strip_bom next_record columns text_elements
seats = refl

pub expiry_and_renewal : ExpiryAndRenewal
unfolding is_open take is_utf8 chars encode records_from strip_bom next_record columns text_elements
expiry_and_renewal = refl

pub hands_and_reshelving : HandsAndReshelving
unfolding is_open take is_utf8 chars encode records_from strip_bom next_record columns text_elements
hands_and_reshelving = refl

pub least_orders : LeastOrders
unfolding is_open take is_utf8 chars encode records_from strip_bom next_record columns text_elements
least_orders = refl

pub lock_gates : LockGates
unfolding is_open take is_utf8 chars encode records_from strip_bom next_record columns text_elements
lock_gates = refl

pub permits : Permits
unfolding is_open take is_utf8 chars encode records_from strip_bom next_record columns text_elements
permits = refl

pub permits_and_drafts : PermitsAndDrafts
unfolding is_open take is_utf8 chars encode records_from strip_bom next_record columns text_elements
permits_and_drafts = refl

pub import_again : ImportAgain
unfolding is_open take is_utf8 chars encode records_from strip_bom next_record columns text_elements
import_again = refl

pub faulty_files : FaultyFiles
unfolding is_open take is_utf8 chars encode records_from strip_bom next_record columns text_elements
faulty_files = refl

pub remarks : Remarks
unfolding is_open take is_utf8 chars encode records_from strip_bom next_record columns text_elements
remarks = refl

pub moves : Moves
unfolding is_open take is_utf8 chars encode records_from strip_bom next_record columns text_elements
moves = refl

pub unknown : Unknown
unfolding is_open take is_utf8 chars encode records_from strip_bom next_record columns text_elements
unknown = refl

pub expired_at_the_desk : ExpiredAtTheDesk
unfolding is_open take is_utf8 chars encode records_from strip_bom next_record columns text_elements
expired_at_the_desk = refl

pub closure_ends : ClosureEnds
unfolding is_open take is_utf8 chars encode records_from strip_bom next_record columns text_elements
closure_ends = refl

pub seats_overnight : SeatsOvernight
unfolding is_open take is_utf8 chars encode records_from strip_bom next_record columns text_elements
seats_overnight = refl

pub lowest_container : LowestContainer
unfolding is_open take is_utf8 chars encode records_from strip_bom next_record columns text_elements
lowest_container = refl

pub head_cancelled : HeadCancelled
unfolding is_open take is_utf8 chars encode records_from strip_bom next_record columns text_elements
head_cancelled = refl

pub two_at_once : TwoAtOnce
unfolding is_open take is_utf8 chars encode records_from strip_bom next_record columns text_elements
two_at_once = refl

pub with_reader_again : WithReaderAgain
unfolding is_open take is_utf8 chars encode records_from strip_bom next_record columns text_elements
with_reader_again = refl

pub permits_above : PermitsAbove
unfolding is_open take is_utf8 chars encode records_from strip_bom next_record columns text_elements
permits_above = refl

pub names_of_readers : NamesOfReaders
unfolding is_open take is_utf8 chars encode records_from strip_bom next_record columns text_elements
names_of_readers = refl

pub at_the_counter : AtTheCounter
unfolding is_open take is_utf8 chars encode records_from strip_bom next_record columns text_elements
at_the_counter = refl

pub depths : Depths
unfolding is_open take is_utf8 chars encode records_from strip_bom next_record columns text_elements digits
depths = refl

pub placed : Placed
unfolding is_open take is_utf8 chars encode records_from strip_bom next_record columns text_elements
placed = record { first = refl; moved = refl; moved_back = refl; removed = refl; again = refl; refused = refl }
