-- The names that several proofs of this crate cite, passed on from one place. Declares nothing.
pub use Rattle.std.proofs.lemmas.Bool.{and_cases, and_parts, cases_Bool, cases_eq, cases_lt, eq-eqb, eqb-false}
pub use Rattle.std.proofs.lemmas.Bool.{eqb-true, false≢true, le-leb, le-ltb, leb-false, leb-true, lt-leb, lt-ltb}
pub use Rattle.std.proofs.lemmas.Bool.{ltb-false, ltb-true, ne_eqb, not-false, not-true, or_cases, or_left, or_parts}
pub use Rattle.std.proofs.lemmas.Bool.{or_right}
pub use Rattle.std.proofs.lemmas.Int.{ints}
pub use Rattle.std.proofs.lemmas.List.{length-map, length-replicate, map-append}
pub use Rattle.std.proofs.lemmas.List.Folds.{list_any-append}
pub use Rattle.std.proofs.lemmas.List.Sorted.{length_permutation, list_any-IsPermutation}
pub use Rattle.std.proofs.lemmas.List.Sums.{length-filter, sum_by_push}
pub use Rattle.std.proofs.lemmas.Option.{same_Some}
pub use Rattle.std.specs.List.{AllByRecursion, cons_option, flat_map, list_all, list_any}
pub use Rattle.std.specs.Prelude.{IsUtf8, codes, count_by, decimal, filter, filter_map, find, int_le, is_some, nat_eq}
pub use Rattle.std.specs.Prelude.{option_and_then, option_map, option_to_list, unwrap_or, ◌≤ℤ◌}
pub use Rattle.std.specs.Str.{bytes_eq}
pub use Rattle.isad_core.specs.Boxes.{distinct}
pub use Rattle.isad_core.specs.Days.{IsDayNumber}
pub use Rattle.isad_core.specs.Limits.{most_bytes, most_containers, most_daily, most_deep, most_hands, most_orders}
pub use Rattle.isad_core.specs.Limits.{most_permits, most_run_size, most_runs, most_seats, most_tickets}
pub use Rattle.isad_core.specs.Limits.{most_unit_numbers, most_units}
pub use Rattle.isad_core.specs.Texts.{Bytes, is_blank_text}
pub use Rattle.isad_core.specs.declared.values.BoxKey.{BoxKey}
pub use Rattle.tree_core.specs.Forest.{Empty, Forest, Node, cut, each, has, has_place, move_last, nodes, path, size}
pub use Rattle.tree_core.specs.Forest.{tree}
pub use Rattle.atom_csv.specs.FileContents.{file_of}
pub use Rattle.atom_csv.specs.declared.file.File.{File}
pub use Rattle.atom_csv.specs.declared.file.Row.{Row}
pub use Rattle.desk_core.specs.Decisions.{is_desk, order_out}
pub use Rattle.desk_core.specs.Refusals.{Check, first_that_holds, unless, when}
pub use Rattle.desk_core.specs.declared.reader.Place.TheVariants.{Desk, Out, Shelf}
pub use Rattle.desk_core.specs.declared.refusal.Refusal.{Refusal}
pub use Rattle.desk_core.specs.declared.refusal.Refusal.TheVariants.{AlreadyOrdered, BadName, DailyLimit, Full}
pub use Rattle.desk_core.specs.declared.refusal.Refusal.TheVariants.{NotAvailable, NothingToMove, TicketExpired}
pub use Rattle.desk_core.specs.declared.refusal.Refusal.TheVariants.{UnknownTicket, UnknownUnit, WithReader}
pub use Rattle.catalogue_core.proofs.DistinctLists.{all_so}
pub use Rattle.catalogue_core.proofs.EachAfter.{ClosureDay, all_cut, all_moved, closure_day, later_of, new_days}
pub use Rattle.catalogue_core.proofs.EachAfter.{revised_day, status_day}
pub use Rattle.catalogue_core.proofs.EachOf.{all_and, all_append, all_distinct, all_filtered, all_true}
pub use Rattle.catalogue_core.proofs.Imported.{IsTaken, boxes_after, distinct_again, new_boxes, new_rows, next_after}
pub use Rattle.catalogue_core.proofs.Imported.{taken_is}
pub use Rattle.catalogue_core.proofs.ImportedAgain.{HasTaken, all_each, all_merged, boxes_again, count_all, has_taken}
pub use Rattle.catalogue_core.proofs.ImportedAgain.{merge_again, none_changed, none_new, numbered_rows, one_text}
pub use Rattle.catalogue_core.proofs.ImportedAgain.{rows_same, same_text}
pub use Rattle.catalogue_core.proofs.KeptUnits.{closure_keeps, same_containers, status_keeps}
pub use Rattle.catalogue_core.proofs.MergedNodes.{AreNumberedFrom, merged_nodes, numbered_are, still_there}
pub use Rattle.catalogue_core.proofs.UnitsAfter.{OldOrNew, closure_id, each_units, has_cut, has_moved, ids_between}
pub use Rattle.catalogue_core.proofs.UnitsAfter.{length-numbered, merged_units, of_number, status_id}
pub use Rattle.catalogue_core.specs.CatalogueMerge.{Catalogue, New, box_number, has_legacy, is_known, merge}
pub use Rattle.catalogue_core.specs.CatalogueMerge.{merged_boxes, merged_forest, new_unit, numbered_from, parent_number}
pub use Rattle.catalogue_core.specs.CatalogueMerge.{revised}
pub use Rattle.catalogue_core.specs.ContainerContents.{contents, is_some_there, is_withheld_from, paths}
pub use Rattle.catalogue_core.specs.GoodCatalogues.{AreGoodContainers, AreGoodUnits, IsGoodUnit, IsSomeDay}
pub use Rattle.catalogue_core.specs.GoodCatalogues.{is_same_unit}
pub use Rattle.catalogue_core.specs.Intake.{Intake, Taken, is_changed, is_full, is_new, is_same, take_rows, with_file}
pub use Rattle.catalogue_core.specs.Moves.{depth_after, height, is_into_itself}
pub use Rattle.catalogue_core.specs.Pages.{Press, above_last, aid_units, before_last, has_public_number, page_at}
pub use Rattle.catalogue_core.specs.Pages.{page_of, pages_side_by_side, public_number}
pub use Rattle.catalogue_core.specs.PublicForest.{PublicUnit, Stub, Told, public_of, public_unit, stub_of}
pub use Rattle.catalogue_core.specs.PublishedUnits.{IsPublished, boxes_told, identifiers, last_of}
pub use Rattle.catalogue_core.specs.Sources.{is_between, is_source}
pub use Rattle.catalogue_core.specs.Statuses.{chosen, is_chosen}
pub use Rattle.catalogue_core.specs.UnitLookup.{has_unit}
pub use Rattle.catalogue_core.specs.Units.{Unit, has_id, is_from, is_unit_closed}
pub use Rattle.office_core.specs.GivenNumbers.{AreNumberedUnits, ComesNew, Containers, EachIsUnits, GivenInOrder}
pub use Rattle.office_core.specs.GivenNumbers.{IsThatUnit, Kind, NamesStay, NamesWhatCame, NumbersRows, Orders, Runs}
pub use Rattle.office_core.specs.GivenNumbers.{StartsAtOne, StaysNamed, Tickets, Units, all_given, given_numbers}
pub use Rattle.office_core.specs.GivenNumbers.{is_there, names, next_number, order_given, run_given, ticket_given}
pub use Rattle.office_core.specs.ImportLaws.{HasGoodCatalogue, ImportsBringTheNew, ImportsKeepTheCatalogue}
pub use Rattle.office_core.specs.ImportReply.{bad_file, is_level_above, lacks_essential, remark_if, remark_on, remarks}
pub use Rattle.office_core.specs.ImportReply.{too_much}
pub use Rattle.office_core.specs.Laws.{Ended, ImportsAgain, IsFirstWaiting, IssuesTheFirst, OpenToHolders, OrderGoes}
pub use Rattle.office_core.specs.Laws.{OrdersGoOn, OutApart, Standing, Waiting, WithItsReader, numbers_from, standing}
pub use Rattle.office_core.specs.Laws.{stands_as}
pub use Rattle.office_core.specs.Queries.{answer, is_public, page_answer, press, public_answer, public_forest}
pub use Rattle.office_core.specs.Rules.{Reply, after, cancelled, checks, decide, fetched, gate, intake_of}
pub use Rattle.office_core.specs.Rules.{is_kept_from_holder, issued, lowest_withheld, ordered, refusal, removed}
pub use Rattle.office_core.specs.Rules.{renewed, replies, reshelved, result_of, returned, state_after, step}
pub use Rattle.office_core.specs.Rules.{with_import}
pub use Rattle.office_core.specs.Secrecy.{AnswersAlike, PageShowsPublished, SamePublic, ShowsAllPublished, ShowsBranch}
pub use Rattle.office_core.specs.Secrecy.{ShowsNumbered, ShowsOnlyPublished, ShowsPublished, is_text, published_forest}
pub use Rattle.office_core.specs.Secrecy.{published_part, published_unit}
pub use Rattle.office_core.specs.SoundDesk.{AreFiled, AreGoodOrders, AreGoodPermits, AreGoodPlaces, AreGoodReaders}
pub use Rattle.office_core.specs.SoundDesk.{AreGoodRuns, AreGoodSeats, ByContainer, ByUnit, ExactlyOne, IsAscending}
pub use Rattle.office_core.specs.SoundDesk.{IsFiled, IsGoodHolder, IsGoodLine, IsGoodOrder, IsGoodRun, IsSoundDesk}
pub use Rattle.office_core.specs.SoundDesk.{SitOnce, is_out_for}
pub use Rattle.office_core.specs.Soundness.{AreGoodDays, AreGoodSettings, ArePermitsOfUnits, IsSound, NamesDays}
pub use Rattle.office_core.specs.Soundness.{is_country, is_repository}
pub use Rattle.office_core.specs.State.{Cancelled, End, Line, Order, Permit, Reader, Run, Settings, State, brings}
pub use Rattle.office_core.specs.State.{container_of, containers, granted, has_ordered, has_permit, held_count, idle}
pub use Rattle.office_core.specs.State.{is_by, is_container, is_due, is_expired, is_idle, is_line_before, is_out}
pub use Rattle.office_core.specs.State.{is_out_with, is_permitted, is_seat_of, is_seated, is_shelf, is_ticket, line_for}
pub use Rattle.office_core.specs.State.{new_run, opens, orders_of_run, orders_placed, revoked, rise, sit, start, waits}
pub use Rattle.office_core.specs.Words.{first, first_that, is_empty, nth, numbers_to, some_and, stands, update_at}
pub use Rattle.office_core.specs.Words.{without}
pub use Rattle.office_core.specs.declared.command.Command.{Command}
pub use Rattle.office_core.specs.declared.done.Remark.{Remark}
