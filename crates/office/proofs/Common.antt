-- The names that several proofs of this crate cite, passed on from one place. Declares nothing.
pub use Rattle.std.proofs.lemmas.Bool.{both_ways, cases_Bool, eqb-true, false≢true, ltb-false}
pub use Rattle.std.specs.List.{AllByRecursion, IsDistinct, find, list_any}
pub use Rattle.std.specs.Prelude.{IfErr, IfOk, IsErr, IsErrAnd, int_lt, is_some, nat_lt, option_map}
pub use Rattle.sqlite.proofs.StateLemmas.{survives_then, survives_weaker}
pub use Rattle.sqlite.specs.Effect.{Database, IsDatabase}
pub use Rattle.sqlite.specs.Held.{Held, state}
pub use Rattle.sqlite.specs.State.{Executes, HasCleanDisk, IsLive, IsNotRun, Shows, Survives}
pub use Rattle.sqlite.specs.Tree.{Trees}
pub use Rattle.tree_core.specs.Forest.{Empty, Forest, Node, each, nodes}
pub use Rattle.visibility.specs.declared.marks.Mark.{Mark}
pub use Rattle.desk_core.specs.declared.refusal.Refusal.{Refusal}
pub use Rattle.catalogue_core.specs.Units.{Unit, has_id}
pub use Rattle.office_tables.proofs.Calls.{continues_then, cut_then, early, looks_nowhere, on_ok_both, on_ok_then}
pub use Rattle.office_tables.specs.Faults.{BlamesDisk, HasOuterCause, fault_of}
pub use Rattle.office_tables.specs.Schema.{desk_schema, desk_tables, no_schema, schema}
pub use Rattle.office_tables.specs.Step.{Goes, GoesOn, LeavesUnchanged, OnlyTouches}
pub use Rattle.office_tables.specs.Versions.{First, Second, Version, encoding}
pub use Rattle.office_tables.specs.declared.fault.StoreFault.{StoreFault}
pub use Rattle.catalogue_statements.specs.Representation.{Represents, RepresentsHousings, RepresentsLinkRows}
pub use Rattle.catalogue_statements.specs.Representation.{RepresentsUnits, housing_places, numbered_containers}
pub use Rattle.office_core.proofs.Texts.{always_sound_office, starts_sound_office}
pub use Rattle.office_core.specs.Queries.{answer, is_public, known_json, run_answer}
pub use Rattle.office_core.specs.Rules.{after, checks, decide, is_name, refusal, result_of, step}
pub use Rattle.office_core.specs.SoundOffice.{IsSoundOffice, NamesTexts}
pub use Rattle.office_core.specs.State.{Order, Run, container_of, is_by, is_container, is_expired, is_ticket, opens}
pub use Rattle.office_core.specs.declared.command.Command.{Command}
pub use Rattle.office_core.specs.declared.query.Answer.{Answer}
pub use Rattle.office_core.specs.declared.query.Query.{Query}
pub use Rattle.refinement.proofs.Crashes.{continued, went}
pub use Rattle.refinement.proofs.Doings.{does_pass, does_then, is_refused, refused}
pub use Rattle.refinement.proofs.Tellings.{looked_crash}
pub use Rattle.refinement.specs.Representation.{RepresentsState, office_of}
pub use Rattle.adoption.specs.Verdicts.{IsVerdict}
pub use Rattle.desk_commands.specs.SparedCatalogue.{reading_room_trees, spares_catalogue}
pub use Rattle.office.specs.Adoption.{HasAdoptCause, IsAdopted, fault_for_verdict, state_in}
pub use Rattle.office.specs.IdleOffice.{IsAsBefore, IsAtRest, IsIn, IsOffice, has_clean_disk, is_shown, is_still_open}
pub use Rattle.office.specs.Inspection.{ConfirmsOpen, Inspects}
pub use Rattle.office.specs.KeptMarks.{AreKept, AreOfLent, AreOfTables, AreSound, AreSoundIf, FollowsChange}
pub use Rattle.known_units.specs.KnownUnits.{KnowsIf, TellOf}
pub use Rattle.office.specs.KeptMarks.{FollowsReply, KnowsKept, TellOne, asks_access}
pub use Rattle.office.specs.NamedNumbers.{asks_named, named, of_named}
pub use Rattle.office.specs.NewOffice.{MakesTables, RepresentsNew, new_desk, open_fault_of}
pub use Rattle.office.specs.OfficeCall.{MayFind, TakesStep}
pub use Rattle.office.specs.Runs.{Answered, AreCalls, Call, IsAcceptance, IsCall, IsMachinesRun, LeaveOpen, Replied}
pub use Rattle.office.specs.Runs.{Returned, all_heard, as_returned, command_call, heard, question_call, with_first}
pub use Rattle.office.specs.Runs.{with_heard}
