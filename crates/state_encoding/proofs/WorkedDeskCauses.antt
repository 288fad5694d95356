-- What the causes say of a small office, computed.
use Rattle.std.proofs.Common.{refl}
use Rattle.catalogue_core.specs.ContainerContents.{is_open}
use Rattle.state_encoding.specs.WorkedDeskCauses.{DeskCausesTold}

pub told : DeskCausesTold
unfolding is_open
told =
    record {
      nothing = refl;
      ticket_left_out = refl;
      blank_name = refl;
      ticket_for_ever = refl;
      seat_of_another_office = refl;
      a_third_seat = refl;
      seat_without_a_number = refl;
      stranger_sits = refl;
      permit_for_no_unit = refl;
      permit_of_a_stranger = refl;
      permit_for_ever = refl;
      permits_to_the_limit = refl;
      permit_past_the_limit = refl;
      order_left_out = refl;
      order_of_a_stranger = refl;
      order_for_no_container = refl;
      order_in_no_state = refl;
      order_before_1900 = refl;
      order_of_tomorrow = refl;
      one_too_many_that_day = refl;
      two_tickets_that_day = refl;
      a_third_that_day = refl;
      order_twice = refl;
      order_again_once_done = refl;
      no_such_container = refl;
      no_such_place = refl;
      named_at_the_desk = refl;
      out_with_nobody = refl;
      out_with_a_done_order = refl;
      out_with_an_order_for_another = refl;
      out_and_not_held = refl;
      run_left_out = refl;
      run_before_1900 = refl;
      run_of_tomorrow = refl;
      run_of_nothing = refl;
      run_of_too_many = refl;
      line_of_no_run = refl;
      line_of_no_order = refl;
      line_of_another_container = refl;
      line_of_another_ticket = refl;
      holder_without_a_seat = refl;
      two_in_one_hand = refl;
      draft_is_out = refl;
      closed_is_out = refl;
      out_by_a_permit = refl;
    }
