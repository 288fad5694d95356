-- The names that several proofs of this crate cite, passed on from one place. Declares nothing.
pub use Rattle.std.proofs.lemmas.Simd.{map-map}
pub use Rattle.std.specs.List.{AllByRecursion, AllZip, cons_option, flat_map}
pub use Rattle.std.specs.Prelude.{codes, filter_map, is_some, nat_lt, option_map}
pub use Rattle.sqlite.specs.Held.{state}
pub use Rattle.serde_json.specs.Data.{Data, string}
pub use Rattle.serde_json.specs.Written.{compact_text, has_float}
pub use Rattle.desk_core.specs.DeskRows.{OrderRow, RunLineRow, RunRow}
pub use Rattle.desk_core.specs.Slips.{bytes_order, is_shelved_before, shelf_order, slip, slip_head, slip_line}
pub use Rattle.desk_core.specs.declared.refusal.Refusal.TheVariants.{UnknownContainer, UnknownRun, UnknownTicket}
pub use Rattle.office_tables.specs.Versions.{Version}
pub use Rattle.office_core.specs.Json.{count, date, fields, list, or_null}
pub use Rattle.office_core.specs.Queries.{answer, candidate_of, is_out_now, issued_json, known_json, live_orders}
pub use Rattle.office_core.specs.Queries.{order_json, permit_json, place_name, queue_json, reader_json, run_answer}
pub use Rattle.office_core.specs.Queries.{waiting_json}
pub use Rattle.office_core.specs.SoundDesk.{ByContainer, ByUnit, ExactlyOne, IsFiled, IsGoodLine, is_out_for}
pub use Rattle.office_core.specs.SoundOffice.{IsSoundOffice}
pub use Rattle.office_core.specs.State.{Cancelled, Done, End, Line, Order, Reader, Run, State, container_of, containers}
pub use Rattle.office_core.specs.State.{is_by, is_container, is_ticket, seat_of, waits}
pub use Rattle.office_core.specs.Words.{nth, some_and, stands}
pub use Rattle.office_core.specs.declared.query.Answer.TheVariants.{Json, Text, Unknown}
pub use Rattle.state_encoding.specs.DeskEncoding.{holding_row, lines_from, order_from, order_row, order_rows, rows_from}
pub use Rattle.state_encoding.specs.DeskEncoding.{run_line_row, run_row, state_number}
pub use Rattle.state_encoding.specs.OfficeRows.{line_from, run_from, tables}
pub use Rattle.replies.proofs.Lists.{no_float}
pub use Rattle.refinement.proofs.Answerings.{answers_by, answers_passed, answers_passed_later, desk_answers_passed}
pub use Rattle.refinement.proofs.Answerings.{still_shown}
pub use Rattle.refinement.proofs.StorageShown.{box_row, has_container, legible_storage, shows_storage, storage_of}
pub use Rattle.desk_queries.specs.JsonValues.{card_data, live_data, loan_data, permit_data, queue_data, waiting_data}
