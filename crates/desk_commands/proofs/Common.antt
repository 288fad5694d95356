-- The names that several proofs of this crate cite, passed on from one place. Declares nothing.
pub use Rattle.std.proofs.lemmas.Bool.{and_parts, cases_Bool, cases_eq, eqb-true, false≢true, leb-false}
pub use Rattle.std.proofs.lemmas.Bool.Decides.{nat_tests}
pub use Rattle.std.proofs.lemmas.List.{append_assoc, get_or_default, length-append, length-map, take-append-drop}
pub use Rattle.std.proofs.lemmas.List.{take-map, take_all, take_more, take_rest}
pub use Rattle.std.proofs.lemmas.List.Sorted.{All-permutation, IsNonDecreasingBy-from_sort, IsPermutation-append_right}
pub use Rattle.std.proofs.lemmas.List.Sorted.{IsPermutation-map, IsPermutation-sym, IsPermutation-trans}
pub use Rattle.std.proofs.lemmas.List.Sorted.{list_any-IsPermutation}
pub use Rattle.std.specs.List.{AllByRecursion, cons_option, flat_map, list_all, list_any}
pub use Rattle.std.specs.List.Sorted.{IsPermutation}
pub use Rattle.std.specs.Prelude.{IsErr, IsErrAnd, IsOk, IsUtf8, filter_map, find, int_lt, is_some, nat_le, nat_lt}
pub use Rattle.std.specs.Prelude.{option_and_then, option_map, slice_get, unwrap_or, ⊤}
pub use Rattle.sqlite.specs.Effect.{Database}
pub use Rattle.sqlite.specs.Held.{Held, state}
pub use Rattle.sqlite.specs.State.{HasCleanDisk}
pub use Rattle.sqlite.specs.Tree.{Trees, rowid}
pub use Rattle.isad_core.specs.Limits.{most_orders, most_permits, most_runs, most_tickets}
pub use Rattle.tree_core.specs.Forest.{Forest, cut, nodes}
pub use Rattle.desk_core.specs.Checks.{IssueFacts, issue_checks, leave_seat_checks, order_checks, take_seat_checks}
pub use Rattle.desk_core.specs.Decisions.{is_desk, issue_facts, leave_seat_facts, order_facts, order_out}
pub use Rattle.desk_core.specs.Decisions.{take_seat_facts}
pub use Rattle.desk_core.specs.DeskRows.{HoldingRow, OrderRow, PermitRow, ReaderRow, RunLineRow, RunRow, SeatRow}
pub use Rattle.desk_core.specs.DeskRows.{with_state}
pub use Rattle.desk_core.specs.LegibleDesks.{IsLegible}
pub use Rattle.desk_core.specs.Refusals.{first_that_holds}
pub use Rattle.desk_core.specs.declared.reader.Limits.{Limits}
pub use Rattle.desk_core.specs.declared.reader.Place.{Place}
pub use Rattle.desk_core.specs.declared.reader.Place.TheVariants.{Out, Shelf}
pub use Rattle.desk_core.specs.declared.refusal.Refusal.{Refusal}
pub use Rattle.desk_core.specs.declared.refusal.Refusal.TheVariants.{Full, NoPermit, NotAtDesk, NotFirst, NotIssued}
pub use Rattle.desk_core.specs.declared.refusal.Refusal.TheVariants.{NothingToMove, OrderNotWaiting, StillIssued}
pub use Rattle.desk_core.specs.declared.refusal.Refusal.TheVariants.{UnknownContainer, UnknownOrder, UnknownTicket}
pub use Rattle.desk_core.specs.declared.refusal.Refusal.TheVariants.{UnknownUnit}
pub use Rattle.catalogue_core.specs.Members.{StandsIn}
pub use Rattle.office_tables.proofs.Calls.{cut_then, early, goes_nowhere, goes_then, looks_nowhere, looks_then}
pub use Rattle.office_tables.proofs.Calls.{on_ok_then}
pub use Rattle.office_tables.proofs.Touching.{nothing_touched, touched_again, touched_wider}
pub use Rattle.office_tables.specs.Step.{Continues, Goes, IsAborted, LeavesUnchanged, OnlyTouches}
pub use Rattle.office_tables.specs.Versions.{Version, version_number}
pub use Rattle.desk_store.specs.Holdings.{at_desk_of, candidates_of, firsts_of, is_first_waiting, is_on_shelf}
pub use Rattle.desk_store.specs.Holdings.{issued_by, issued_of, on_shelf, placed_at, waits_for, with_place}
pub use Rattle.desk_store.specs.Orders.{IsNextOrder, IsThere, order_state_number, order_with, with_order}
pub use Rattle.desk_store.specs.Orders.{with_order_state}
pub use Rattle.desk_store.specs.Readers.{card_of, next_ticket, ticket_holder, with_last_day, with_reader}
pub use Rattle.desk_store.specs.Representation.{IsNumberOf, RepresentsDesk, RepresentsDeskAlone}
pub use Rattle.desk_store.specs.Runs.{TakesEachOnce, line_of_run, next_run, with_run}
pub use Rattle.desk_store.specs.declared.container_orders.ContainerOrder.{ContainerOrder}
pub use Rattle.desk_store.specs.declared.orders.WaitingOrder.{WaitingOrder}
pub use Rattle.office_core.proofs.Filed.{fetched_out, is_cancelled, is_issued, is_ordered, is_returned, only_cancels}
pub use Rattle.office_core.proofs.Filed.{only_issues, only_orders, only_returns, picked_due, reshelved_out, waiting}
pub use Rattle.office_core.proofs.OrderLaws.{goes_same, stands_out, stands_past, stands_waiting}
pub use Rattle.office_core.proofs.PassedChecks.{passed_issue, passed_order, passed_permit, passed_take_seat}
pub use Rattle.office_core.proofs.Steps.{held_so, passes}
pub use Rattle.office_core.proofs.Texts.{always_texts}
pub use Rattle.office_core.proofs.Words.{ascending-push, below_none, numbered_within, put_here, put_there, same_number}
pub use Rattle.office_core.specs.Laws.{Standing, Waiting, numbers_from, standing}
pub use Rattle.office_core.specs.Rules.{Reply, after, cancelled, checks, fetched, gate, is_name, issued, ordered}
pub use Rattle.office_core.specs.Rules.{refusal, renewed, reshelved, returned}
pub use Rattle.office_core.specs.SoundDesk.{ByUnit, IsAscending, IsFiled, is_out_for}
pub use Rattle.office_core.specs.SoundOffice.{AreTexts, IsSoundOffice}
pub use Rattle.office_core.specs.State.{Cancelled, Done, Line, Order, Permit, Reader, Run, State, brings, container_of}
pub use Rattle.office_core.specs.State.{containers, granted_until, has_ordered, has_permit, held_count, idle, is_by}
pub use Rattle.office_core.specs.State.{is_container, is_due, is_expired, is_idle, is_line_before, is_out, is_permitted}
pub use Rattle.office_core.specs.State.{is_seat_of, is_seated, is_shelf, is_ticket, line_for, lowest_free_seat, new_run}
pub use Rattle.office_core.specs.State.{opens, orders_of_run, orders_placed, revoked, seat_of, waits}
pub use Rattle.office_core.specs.Words.{first, is_empty, nth, numbers_to, some_and, stands, update_at}
pub use Rattle.office_core.specs.declared.command.Command.{Command}
pub use Rattle.state_encoding.proofs.DeskLookups.{flipped}
pub use Rattle.state_encoding.proofs.LegibleRows.{desk_legible}
pub use Rattle.state_encoding.proofs.Members.{all_of_in, any_same, in_filter, in_map, in_numbers, some_in, to_from}
pub use Rattle.state_encoding.proofs.NumberedRows.{in_rows, length-rows}
pub use Rattle.state_encoding.proofs.TableLaws.{reads_back, rows_moved}
pub use Rattle.state_encoding.specs.DeskEncoding.{holding_row, holding_rows, lines_from, order_row, order_rows}
pub use Rattle.state_encoding.specs.DeskEncoding.{permit_row, permit_rows, place_from, place_in, reader_row, rows_from}
pub use Rattle.state_encoding.specs.DeskEncoding.{run_line_row, run_line_rows, run_row, seat_rows, state_number}
pub use Rattle.state_encoding.specs.OfficeRows.{tables}
pub use Rattle.refinement.proofs.CardsShown.{card, card_shown, has_card, holder_shown, known_ticket}
pub use Rattle.refinement.proofs.CommandSteps.{accepts, refuses}
pub use Rattle.refinement.proofs.DeskSteps.{desk_step}
pub use Rattle.refinement.proofs.Doings.{accepted, makes_passed, makes_passed_later, refused, tells_full}
pub use Rattle.refinement.proofs.Doings.{tells_passed_later}
pub use Rattle.refinement.proofs.HoldingRows.{place_after, placed_to, rows_of}
pub use Rattle.refinement.proofs.Judged.{judged_now}
pub use Rattle.refinement.proofs.StorageShown.{has_container, legible_storage, shows_storage, storage_of}
pub use Rattle.refinement.specs.AccessConditions.{CanBeJudged, RepresentsWhole}
pub use Rattle.refinement.specs.CommandSteps.{CarriesOut, CarriesOutStep}
pub use Rattle.refinement.specs.ReadingRoomLimits.{limits_of}
pub use Rattle.refinement.specs.Representation.{RepresentsState, office_of}
pub use Rattle.access.specs.Openness.{open_ones}
pub use Rattle.desk_commands.specs.ContainerMoves.{all_placed, handed_over, with_all_placed}
pub use Rattle.desk_commands.specs.SparedCatalogue.{CarriesOutSparing, reading_room_trees, spares_catalogue}
