use Rattle.office_core.proofs.worked_rows.WorkedReplies as row
use Rattle.office_core.proofs.worked.worked_rows.Goals as goal

pub returns-clause-queue_of_two : goal.returns-clause-queue_of_two
returns-clause-queue_of_two c = row.queue_of_two

pub returns-clause-gate_and_day : goal.returns-clause-gate_and_day
returns-clause-gate_and_day c = row.gate_and_day

pub returns-clause-run_of_two_and_one : goal.returns-clause-run_of_two_and_one
returns-clause-run_of_two_and_one c = row.run_of_two_and_one

pub returns-clause-orders_of_a_day : goal.returns-clause-orders_of_a_day
returns-clause-orders_of_a_day c = row.orders_of_a_day

pub returns-clause-seats : goal.returns-clause-seats
returns-clause-seats c = row.seats

pub returns-clause-expiry_and_renewal : goal.returns-clause-expiry_and_renewal
returns-clause-expiry_and_renewal c = row.expiry_and_renewal

pub returns-clause-hands_and_reshelving : goal.returns-clause-hands_and_reshelving
returns-clause-hands_and_reshelving c = row.hands_and_reshelving

pub returns-clause-least_orders : goal.returns-clause-least_orders
returns-clause-least_orders c = row.least_orders

pub returns-clause-lock_gates : goal.returns-clause-lock_gates
returns-clause-lock_gates c = row.lock_gates

pub returns-clause-permits : goal.returns-clause-permits
returns-clause-permits c = row.permits

pub returns-clause-permits_and_drafts : goal.returns-clause-permits_and_drafts
returns-clause-permits_and_drafts c = row.permits_and_drafts

pub returns-clause-import_again : goal.returns-clause-import_again
returns-clause-import_again c = row.import_again

pub returns-clause-faulty_files : goal.returns-clause-faulty_files
returns-clause-faulty_files c = row.faulty_files

pub returns-clause-remarks : goal.returns-clause-remarks
returns-clause-remarks c = row.remarks

pub returns-clause-moves : goal.returns-clause-moves
returns-clause-moves c = row.moves

pub returns-clause-unknown : goal.returns-clause-unknown
returns-clause-unknown c = row.unknown

pub returns-clause-expired_at_the_desk : goal.returns-clause-expired_at_the_desk
returns-clause-expired_at_the_desk c = row.expired_at_the_desk

pub returns-clause-closure_ends : goal.returns-clause-closure_ends
returns-clause-closure_ends c = row.closure_ends

pub returns-clause-seats_overnight : goal.returns-clause-seats_overnight
returns-clause-seats_overnight c = row.seats_overnight

pub returns-clause-lowest_container : goal.returns-clause-lowest_container
returns-clause-lowest_container c = row.lowest_container

pub returns-clause-head_cancelled : goal.returns-clause-head_cancelled
returns-clause-head_cancelled c = row.head_cancelled

pub returns-clause-two_at_once : goal.returns-clause-two_at_once
returns-clause-two_at_once c = row.two_at_once

pub returns-clause-with_reader_again : goal.returns-clause-with_reader_again
returns-clause-with_reader_again c = row.with_reader_again

pub returns-clause-permits_above : goal.returns-clause-permits_above
returns-clause-permits_above c = row.permits_above

pub returns-clause-placed : goal.returns-clause-placed
returns-clause-placed c = row.placed

pub returns-clause-names_of_readers : goal.returns-clause-names_of_readers
returns-clause-names_of_readers c = row.names_of_readers

pub returns-clause-at_the_counter : goal.returns-clause-at_the_counter
returns-clause-at_the_counter c = row.at_the_counter

pub returns-clause-depths : goal.returns-clause-depths
returns-clause-depths c = row.depths
