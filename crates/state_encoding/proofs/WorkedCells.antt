-- What is told of rows with a cell that its column cannot have, computed.
use Rattle.std.proofs.Common.{refl}
use Rattle.state_encoding.specs.WorkedCells.{CellCausesTold}

pub told : CellCausesTold
told =
    record {
      second_office = refl;
      version_below_0 = refl;
      seats_below_0 = refl;
      no_day = refl;
      place_below_0 = refl;
      parent_below_0 = refl;
      ord_below_0 = refl;
      top = refl;
      span_below_0 = refl;
      lft_below_0 = refl;
      no_lft = refl;
      no_rgt = refl;
      span = refl;
      draft_2 = refl;
      draft_below_0 = refl;
      until_a_text = refl;
      k_below_0 = refl;
      no_value = refl;
      container_below_0 = refl;
      no_name = refl;
      housed_below_0 = refl;
      ticket_below_0 = refl;
      seat_below_0 = refl;
      nobody_sits = refl;
      sits = refl;
      permit_for_no_unit = refl;
      state_below_0 = refl;
      day_below_0 = refl;
      no_place = refl;
      held_by_minus_1 = refl;
      at_the_desk = refl;
      run_below_0 = refl;
      line_of_order_minus_1 = refl;
    }
