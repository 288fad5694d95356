-- The names that several proofs of this crate cite, passed on from one place. Declares nothing.
pub use Rattle.std.proofs.lemmas.Int.{ints, to_z-of_z}
pub use Rattle.std.specs.List.{cons_option, flat_map, list_any}
pub use Rattle.jiff_core.specs.Date.{epoch_day}
pub use Rattle.isad_core.specs.Days.{IsDayNumber, YearMonthDay, date_in_march_year, date_of, date_text, day_of}
pub use Rattle.isad_core.specs.Days.{day_of_march_year, day_of_month, days_after_first_march, digit, is_civil}
pub use Rattle.isad_core.specs.Days.{is_day_number, march_month, march_year, number_of_date, two_digits}
pub use Rattle.isad_core.specs.PrintedDescriptions.{aid, container_text, element_text, found_container, found_element}
pub use Rattle.isad_core.specs.PrintedDescriptions.{indent, line, numbered_line, unit_below}
pub use Rattle.isad_core.specs.Texts.{Bytes, byte_or_space, is_line_break, one_line, single_breaks}
