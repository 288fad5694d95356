-- The names that several proofs of this crate cite, passed on from one place. Declares nothing.
pub use Rattle.std.proofs.lemmas.Bool.{and_from, and_parts, cases_Bool, cases_eq, cases_lt, false_from_ne_true}
pub use Rattle.std.proofs.lemmas.Bool.{false≢true, lt-ltb, ltb-false, ltb-true, ne_eqb, not-true, not_from_false}
pub use Rattle.std.proofs.lemmas.Bool.{or_cases, or_from, or_left, or_parts, or_right}
pub use Rattle.std.proofs.lemmas.Bool.Decides.{nat_tests}
pub use Rattle.std.proofs.lemmas.List.{get_or-map, length-map, take-map, take_more}
pub use Rattle.std.proofs.lemmas.List.Sorted.{All-permutation, IsNonDecreasingBy-short, IsPermutation-append_comm}
pub use Rattle.std.proofs.lemmas.List.Sorted.{IsPermutation-cons, IsPermutation-map, IsPermutation-refl}
pub use Rattle.std.proofs.lemmas.List.Sorted.{IsPermutation-swap, IsPermutation-sym, IsPermutation-trans}
pub use Rattle.std.proofs.lemmas.List.Sorted.{length_permutation, list_any-IsPermutation, ranks_by}
pub use Rattle.std.proofs.lemmas.Result.{IfOk-weaker}
pub use Rattle.std.specs.Cmp.{IsTotalOrder, int_cmp_total, on_total, tied_back}
pub use Rattle.std.specs.List.{AllByRecursion, AllZip, cons_option, count_by, list_all, list_any}
pub use Rattle.std.specs.List.Sorted.{IsNonDecreasingBy, IsPermutation, IsSorted}
pub use Rattle.std.specs.Ordering.{int_cmp, is_eq, is_lt, is_ne, match_ordering, ordering_reverse, ordering_then}
pub use Rattle.std.specs.Prelude.{IsErr, IsErrAnd}
pub use Rattle.std.specs.Str.{bytes_eq}
pub use Rattle.sqlite.proofs.Callers.{IsPlain, begun_plain, command_of, never_commits, one_step, reads_as, runs_as}
pub use Rattle.sqlite.proofs.Callers.{statement_of, unchanged_then}
pub use Rattle.sqlite.proofs.StateLemmas.{survives_then, survives_weaker}
pub use Rattle.sqlite.specs.Cast.{cast, cast_row}
pub use Rattle.sqlite.specs.Clock.{timed}
pub use Rattle.sqlite.specs.Collation.TheVariants.{Binary}
pub use Rattle.sqlite.specs.Command.{Command}
pub use Rattle.sqlite.specs.Command.TheVariants.{Begin, Commit, CreateIndex, CreateTable, Insert, Rollback, Rows}
pub use Rattle.sqlite.specs.Command.TheVariants.{Select, Update}
pub use Rattle.sqlite.specs.Does.{AtPlace, Concludes, Defines, Does, MakesIndex, MakesSequence, MakesTable, OnRows}
pub use Rattle.sqlite.specs.Does.{Tally, WritesRows, due, lacks_sequence, no_rows, sequence_text}
pub use Rattle.sqlite.specs.Edit.{Applies, Edit, IsRefused, are_fresh, edit_of, edited, id_in, is_taken, left_by}
pub use Rattle.sqlite.specs.Edit.{next_rowid, numbered, put_all, row_at, taken_by, without_all}
pub use Rattle.sqlite.specs.Effect.{Database, IsDatabase, IsNoText, IsSource, RefusesQuery, RefusesSource}
pub use Rattle.sqlite.specs.Effect.{RefusesToAlter, RefusesToRead, alter_error, edit_error, is_query, value_rows}
pub use Rattle.sqlite.specs.Held.{Held, state}
pub use Rattle.sqlite.specs.Listing.{IsSourceOf, reads_listing}
pub use Rattle.sqlite.specs.Order.{Row, column}
pub use Rattle.sqlite.specs.Program.{overlay}
pub use Rattle.sqlite.specs.Query.{IsAnswer, Join, Output, Query, end, inner, key_cmp, matches, output, output_cmp}
pub use Rattle.sqlite.specs.Rowids.TheVariants.{Chosen, Given}
pub use Rattle.sqlite.specs.Rows.{Counter, CounterIn, Counts, CountsIn, Edited, Gives, Part, Queried, Sourced, Task}
pub use Rattle.sqlite.specs.Rows.{Then, Written, count_of, higher, rowids_for, sequence, stamped}
pub use Rattle.sqlite.specs.Schema.{Schema}
pub use Rattle.sqlite.specs.Source.{Source}
pub use Rattle.sqlite.specs.State.{CommitsShowing, Executes, Fails, FailsToShow, HasCleanDisk, IsLive, IsMisplaced}
pub use Rattle.sqlite.specs.State.{IsNoStatement, IsRolledBack, IsStatement, IsUnchanged, MayChange, MayCommit, Runs}
pub use Rattle.sqlite.specs.State.{RunsCommand, Shows, ShowsRows, State, Survives, is_pragma, mode_of, shows_rows}
pub use Rattle.sqlite.specs.State.{store_error, text_of}
pub use Rattle.sqlite.specs.Table.{Table}
pub use Rattle.sqlite.specs.Term.{Env, Term, col, eval, eval_all, holds, lit}
pub use Rattle.sqlite.specs.Tree.{IsAscending, IsTable, Trees, has_rowid, put_row, rowid, without_rowid}
pub use Rattle.sqlite.specs.declared.error.Error.{Error}
pub use Rattle.sqlite.specs.declared.error.Error.TheVariants.{ExecuteReturnedResults, SqliteFailure}
pub use Rattle.sqlite.specs.declared.error.ErrorCode.TheVariants.{ConstraintViolation}
pub use Rattle.sqlite.specs.declared.run.Mode.{Mode}
pub use Rattle.sqlite.specs.declared.types.Value.{Value}
pub use Rattle.sqlite.specs.declared.types.Value.TheVariants.{Blob, Int, Null, Real, Text}
pub use Rattle.sqlite_resolve.specs.declared.compiled.Compiled.{Compiled}
pub use Rattle.sqlite_rules.proofs.ActionLemmas.{no_works}
pub use Rattle.sqlite_rules.proofs.ListLemmas.{all_from, all_has, has_filtered, has_got, has_kept, some_from, some_has}
pub use Rattle.sqlite_rules.proofs.ListLemmas.{test_from, test_has}
pub use Rattle.sqlite_rules.proofs.RuleLemmas.{Turns, keeps_at, keeps_from, origin, parent_is_table, refers_at}
pub use Rattle.sqlite_rules.proofs.RuleLemmas.{refers_from, unique_kept}
pub use Rattle.sqlite_rules.proofs.TableLemmas.{int_is, put_all_adds, put_all_has, put_all_keeps, put_has}
pub use Rattle.sqlite_rules.proofs.TableLemmas.{without_all_has}
pub use Rattle.sqlite_rules.specs.Action.{Acts, ActsOn, AreChildren, Leads, Settles, Work, action_edit, deed_for}
pub use Rattle.sqlite_rules.specs.Action.{is_child_of, pairs, work_by, work_for, works}
pub use Rattle.sqlite_rules.specs.Calls.{ids_of}
pub use Rattle.sqlite_rules.specs.Lists.{Has}
pub use Rattle.sqlite_rules.specs.declared.error.Refusal.TheVariants.{BadReference, Mismatch, NoRowid, TooDeep}
pub use Rattle.sqlite_schema.specs.Rules.{Keeps, Obeys, ParentKey, Refers, agree, clashes, differ, equal, guards}
pub use Rattle.sqlite_schema.specs.Rules.{has_null, has_parent, is_held, is_key_of, parent_key, passes, passes_checks}
pub use Rattle.sqlite_schema.specs.Rules.{references_fit}
pub use Rattle.sqlite_schema.specs.declared.program.Program.{Program}
pub use Rattle.sqlite_schema.specs.declared.schema.Among.TheVariants.{All}
pub use Rattle.sqlite_schema.specs.declared.schema.Constraint.TheVariants.{Check, Datatype, ForeignKey, NotNull}
pub use Rattle.sqlite_schema.specs.declared.schema.Constraint.TheVariants.{PrimaryKey, Unique}
pub use Rattle.sqlite_schema.specs.declared.schema.Keys.{Keys}
pub use Rattle.sqlite_schema.specs.declared.schema.Keys.TheVariants.{Enforced}
pub use Rattle.sqlite_schema.specs.declared.schema.Reference.{Reference}
pub use Rattle.sqlite_trees.proofs.ListLemmas.{IsPermutation-filter, all-append, all-map, all-permutation, all_both}
pub use Rattle.sqlite_trees.proofs.ListLemmas.{all_from_map, all_of, all_weaker, ascending-filter, ascending-map}
pub use Rattle.sqlite_trees.proofs.ListLemmas.{ascending_from_map, ascending_weaker, filter-map, filter_all}
pub use Rattle.sqlite_trees.proofs.ListLemmas.{filter_none, filter_same, flat_map-map, flat_map_same_on, map-flat_map}
pub use Rattle.sqlite_trees.proofs.ListLemmas.{map-map, pull_back}
pub use Rattle.sqlite_trees.specs.View.{is_int}
pub use Rattle.sqlite_trees.specs.declared.error.StoreError.{StoreError}
pub use Rattle.sqlite_trees.specs.declared.error.StoreError.TheVariants.{Broken, Corrupt, Full, Io, Unstorable}
pub use Rattle.sqlite_typing.specs.Types.{accepts_program, accepts_terms}
pub use Rattle.sqlite_value.proofs.OrderLemmas.{then-Equal, value_cmp-Int, value_cmp-Null, value_cmp-Text}
pub use Rattle.sqlite_value.proofs.OrderLemmas.{value_cmp-apart, value_cmp_total}
pub use Rattle.sqlite_value.specs.Keys.{ascending}
pub use Rattle.sqlite_value.specs.declared.keys.Key.{Key}
pub use Rattle.office_tables.specs.ChangeStatement.{IsChange, IsOurs, IsOutside, Leaves, LeavesOr, Ran}
pub use Rattle.office_tables.specs.Creation.{DefinesIndex, DefinesTable, HasMade, IsFreeName, IsMaking, LeavesMaking}
pub use Rattle.office_tables.specs.Faults.{BlamesDisk, FaultsHaveCause, HasOuterCause, IsUnlimited, fault_of}
pub use Rattle.office_tables.specs.Order.{IsOrdered, Rises}
pub use Rattle.office_tables.specs.OrderedInsertion.{put_by}
pub use Rattle.office_tables.specs.Query.{Finds, FindsFirst, Gathers, IsOurQuery, IsQuery, Misses, Reads, StopsShort}
pub use Rattle.office_tables.specs.RowNumbers.{AreCounted, AreCountedFrom, HasNumbered, HoldsNumbered}
pub use Rattle.office_tables.specs.Schema.{container, desk_schema, desk_tables, element, housing, index, link, office}
pub use Rattle.office_tables.specs.Schema.{permit, schema, seat, unit}
pub use Rattle.office_tables.specs.StatementMeaning.{Means}
pub use Rattle.office_tables.specs.Step.{Continues, Goes, GoesOn, HasRows, Holds, InOffice, InTransaction, IsAborted}
pub use Rattle.office_tables.specs.Step.{IsBack, IsSame, LeavesUnchanged, OnlyTouches, PutsRow, Spares, table_trees}
pub use Rattle.office_tables.specs.Transactions.{Committed, IsStopped}
pub use Rattle.office_tables.specs.declared.fault.StoreFault.{StoreFault}
