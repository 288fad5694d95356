-- What the causes 1 to 5 say of a small office, computed.
use Rattle.std.proofs.Common.{refl}
use Rattle.catalogue_core.specs.ContainerContents.{is_open}
use Rattle.state_encoding.specs.WorkedCatalogueCauses.{CatalogueCausesTold}

pub told : CatalogueCausesTold
unfolding is_open
told =
    record {
      nothing = refl;
      nothing_nested = refl;
      other_version = refl;
      no_seats = refl;
      a_seat_too_many = refl;
      small_letters = refl;
      day_after_the_last = refl;
      next_past_the_last = refl;
      not_from_one = refl;
      no_parent = refl;
      gap = refl;
      places_of_the_other_version = refl;
      place_number_0 = refl;
      place_past_the_last_number = refl;
      below_number_0 = refl;
      ord_past_32_bits = refl;
      span_number_0 = refl;
      span_past_the_last_number = refl;
      lft_past_32_bits = refl;
      rgt_past_32_bits = refl;
      unit_without_a_place = refl;
      place_without_a_unit = refl;
      next_is_there = refl;
      no_source = refl;
      blank_number = refl;
      number_too_long = refl;
      level_too_long = refl;
      closed_until_no_day = refl;
      as_deep_as_may_be = refl;
      too_deep = refl;
      level_as_an_element = refl;
      after_the_last = refl;
      blank_title = refl;
      title_of_no_unit = refl;
      container_left_out = refl;
      container_without_a_name = refl;
      in_no_container = refl;
      of_no_unit = refl;
      place_left_out = refl;
      two_causes = refl;
    }
