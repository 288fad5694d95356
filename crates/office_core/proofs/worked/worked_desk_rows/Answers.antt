use Rattle.office_core.proofs.worked_rows.WorkedDesk as row
use Rattle.office_core.proofs.worked.worked_desk_rows.Goals as goal

pub returns-clause-renewed_alone : goal.returns-clause-renewed_alone
returns-clause-renewed_alone c = row.renewed_alone

pub returns-clause-registered_too_late : goal.returns-clause-registered_too_late
returns-clause-registered_too_late c = row.registered_too_late

pub returns-clause-run_for_an_expired_ticket : goal.returns-clause-run_for_an_expired_ticket
returns-clause-run_for_an_expired_ticket c = row.run_for_an_expired_ticket

pub returns-clause-reshelved_in_order : goal.returns-clause-reshelved_in_order
returns-clause-reshelved_in_order c = row.reshelved_in_order

pub returns-clause-not_first_and_expired : goal.returns-clause-not_first_and_expired
returns-clause-not_first_and_expired c = row.not_first_and_expired

pub returns-clause-hands_full_and_closed : goal.returns-clause-hands_full_and_closed
returns-clause-hands_full_and_closed c = row.hands_full_and_closed

pub returns-clause-ordered_and_closed : goal.returns-clause-ordered_and_closed
returns-clause-ordered_and_closed c = row.ordered_and_closed

pub returns-clause-unknown_ticket_and_unit : goal.returns-clause-unknown_ticket_and_unit
returns-clause-unknown_ticket_and_unit c = row.unknown_ticket_and_unit

pub returns-clause-run_for_full_hands : goal.returns-clause-run_for_full_hands
returns-clause-run_for_full_hands c = row.run_for_full_hands

pub returns-clause-expired_holder : goal.returns-clause-expired_holder
returns-clause-expired_holder c = row.expired_holder

pub returns-clause-permits_of_the_expired : goal.returns-clause-permits_of_the_expired
returns-clause-permits_of_the_expired c = row.permits_of_the_expired

pub returns-clause-permit_of_an_earlier_day : goal.returns-clause-permit_of_an_earlier_day
returns-clause-permit_of_an_earlier_day c = row.permit_of_an_earlier_day
