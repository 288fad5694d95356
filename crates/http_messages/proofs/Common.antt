-- The names that several proofs of this crate cite, passed on from one place. Declares nothing.
pub use Rattle.std.proofs.lemmas.Bool.Decides.{nat_tests}
pub use Rattle.std.proofs.lemmas.Int.Digits.{digits_more, digits_value-lt, digits_value_more}
pub use Rattle.std.specs.Char.{digit_value, is_ascii_digit}
pub use Rattle.std.specs.List.{find, list_all, list_any}
pub use Rattle.std.specs.Prelude.{codes, leb, ltb, nat_lt, not, option_map, ◌&&◌, ◌||◌}
pub use Rattle.std.specs.Str.{IsAscii, IsUtf8}
pub use Rattle.std.specs.Str.Parse.{AllDigits, digits_value}
pub use Rattle.httparse.specs.Spans.{header_bytes, span_bytes}
pub use Rattle.isad_core.specs.Texts.{Bytes}
pub use Rattle.http_messages.specs.HeadScan.{found_after, next_place, one_more, scan_from}
pub use Rattle.http_messages.specs.Heads.{Accepted, Field, Refused, Verdict, agrees, asks_close, first_length, hosts}
pub use Rattle.http_messages.specs.Heads.{is_close, is_continue_expectation, is_head, is_named, list_items}
pub use Rattle.http_messages.specs.Heads.{longest_body, onto_first, strip_zeros, weigh, weigh_length}
pub use Rattle.http_messages.specs.Routes.{Route, first_route, leads_to, parameter_in, route_of, route_table}
