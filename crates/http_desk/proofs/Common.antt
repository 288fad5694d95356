-- The names that several proofs of this crate cite, passed on from one place. Declares nothing.
pub use Rattle.std.proofs.KnownBytes.{Appends-nil, Appends-trans, Consumes-nil, Consumes-trans}
pub use Rattle.std.proofs.lemmas.Bool.Decides.{nat_tests}
pub use Rattle.std.proofs.lemmas.List.{drop-append-le, take-append-le, take_rest}
pub use Rattle.std.proofs.lemmas.Str.{IsCharBoundary-after_ascii, IsCharBoundary-before_ascii, IsUtf8-append}
pub use Rattle.std.proofs.lemmas.Str.{IsUtf8-drop, IsUtf8-encode, IsUtf8-from_is_utf8, IsUtf8-take, encode_ascii}
pub use Rattle.std.specs.Io.KnownBytes.{Appends, Consumes}
pub use Rattle.std.specs.List.{AllByRecursion, flat_map, list_all, starts_with}
pub use Rattle.std.specs.Prelude.{IfOk, IfSome, IsOk, MatchResult, OnErr, OnOk, Result, decimal, is_none, nat_eq, not}
pub use Rattle.std.specs.Prelude.{option_and_then, option_map, unwrap_or, ⊤}
pub use Rattle.std.specs.Str.{bytes_eq}
pub use Rattle.isad_core.specs.Days.{IsDayNumber, day_of, number_of_date, two_digits}
pub use Rattle.isad_core.specs.Texts.{Bytes}
pub use Rattle.office_core.specs.MixedRuns.{Asked, ToDo, ToTell}
pub use Rattle.office_core.specs.Secrecy.{AnswersAlike, PrintsPublished, SamePublic}
pub use Rattle.office_core.specs.SoundOffice.{NamesTexts}
pub use Rattle.office_core.specs.Soundness.{IsSound, NamesDays}
pub use Rattle.office_core.specs.State.{State}
pub use Rattle.office_core.specs.declared.command.Command.{Command}
pub use Rattle.http_messages.proofs.Scans.{scan_go_on, scan_take_limit, scan_take_more, scan_take_open}
pub use Rattle.http_messages.proofs.Scans.{scan_take_within}
pub use Rattle.http_messages.specs.Answers.{Answer, allow_field, answer_text, body_text, by_route, close_field}
pub use Rattle.http_messages.specs.Answers.{done_if_read, error, not_allowed, of_told, phrase_of, response, status_code}
pub use Rattle.http_messages.specs.Answers.{type_name}
pub use Rattle.http_messages.specs.HeadVerdict.{request_in, verdict_in}
pub use Rattle.http_messages.specs.Heads.{Accepted, JudgesHead, Request, Verdict, body_length, is_head, verdict_on}
pub use Rattle.http_messages.specs.Members.{as_day, command_in, command_of_form, day_at, day_or_null_at, draft_at}
pub use Rattle.http_messages.specs.Members.{flag_at, null_or, number_at, number_or_null_at, text_at, value_of}
pub use Rattle.http_messages.specs.Replies.{answer_in, answer_of_view}
pub use Rattle.http_messages.specs.Routes.{Asks, Does, Route, TakesFile, TakesForm, first_route, is_post, leads_to}
pub use Rattle.http_messages.specs.Routes.{method_of, number_from_digits, or_else, parameter_in, question, route_of}
pub use Rattle.http_messages.specs.Routes.{route_table}
pub use Rattle.http_messages.specs.Targets.{path_of}
pub use Rattle.http_messages.specs.declared.head_scan.HeadScanState.TheVariants.{Lead, LeadReturn, Middle, Start}
pub use Rattle.http_messages.specs.declared.head_scan.HeadScanState.TheVariants.{StartReturn}
pub use Rattle.http_messages.specs.declared.head_scan.Scan.TheVariants.{Open, Whole}
pub use Rattle.http_messages.specs.declared.status.Status.{Status}
pub use Rattle.http_messages.specs.declared.status.Status.TheVariants.{BadRequest, Fine, LengthRequired, NotFound}
pub use Rattle.http_desk.specs.AcceptedMessages.{AllLeaveOpen, IsAccepted, LastLeavesOpen, LeavesOpen}
pub use Rattle.http_desk.specs.AnswerOutput.{IsViewOf, Sends, SendsAsCalled}
pub use Rattle.http_desk.specs.BusyMessages.{AnswersTo, IsBusyWith, StaysFound, StaysFoundOrBusy}
pub use Rattle.http_desk.specs.Exchanges.{AtEndIf, EndsAsCalled, Exchange, ExchangeGoesOn, IsNoEnd, Keeps, SendsAnswer}
pub use Rattle.http_desk.specs.Exchanges.{Talks, TalksWhole, Through, Turn, WritesAsCalled, after_answer, after_sending}
pub use Rattle.http_desk.specs.Laws.{AreAlike, AreSameOutcomes, AsksThePublic, HasEnded, IsPublicGet, is_busy}
pub use Rattle.http_desk.specs.Laws.{until_busy, was_busy}
pub use Rattle.http_desk.specs.MessageInput.{ReadsIntoBuffer}
pub use Rattle.http_desk.specs.Messages.{Answers, Begins, BodyCut, Cuts, Fails, HasHead, HeadCut, IsBlank, IsHeadCut}
pub use Rattle.http_desk.specs.Messages.{IsTooLong, Last, MayFail, Message, NoHead, Nothing, Refuses, SomeHead, Stands}
pub use Rattle.http_desk.specs.Messages.{longest_head}
pub use Rattle.http_desk.specs.Runs.{AllBring, AllHappen, AllMean, AreVisits, ByHttp, CallsNameDays, CallsNameTexts}
pub use Rattle.http_desk.specs.Runs.{Directly, Fixed, Happens, HasCarriedOut, HasMeaning, Meaning, Puts, Replied, Visit}
pub use Rattle.http_desk.specs.Runs.{VisitBrings, VisitLeavesOpen, VisitsLeaveOpen, all_messages, answers_of}
pub use Rattle.http_desk.specs.Runs.{carried_out, commands_among, machines_answers, message_in}
pub use Rattle.http_desk.specs.Session.{EndsSo, IsClosing, IsCutOff, IsFront, Session, StaysOpen, Stops, Written}
pub use Rattle.http_desk.specs.Session.{closes, continue_if, last_text, message_answer, message_text, most_answers}
pub use Rattle.http_desk.specs.Session.{refusal_text, state_after_last, state_after_message, state_after_messages}
pub use Rattle.http_desk.specs.Session.{text_after_all}
pub use Rattle.http_desk.specs.StreamFaults.{IsFlushed, IsUsedUp, QuietSend, StepsAsCalled, TakesCalls, TakesTurns}
pub use Rattle.http_desk.specs.StreamFaults.{TellsReadFault, TellsSomeWriteBound, TellsWriteBound, TextIsUsedUp}
pub use Rattle.http_desk.specs.StreamFaults.{is_read_fault, is_write_fault, send_failed}
pub use Rattle.http_desk.specs.Streams.{Stream, most_reads, one_more_call}
pub use Rattle.http_desk.specs.WorkedExamples.{filled_office, fonds_list, not_found, with_draft}
pub use Rattle.http_desk.specs.WorkedSessions.{draft_head, draft_request, half_a_request, list_request, one_unit}
pub use Rattle.http_desk.specs.WorkedSessions.{page_request, register_head}
pub use Rattle.http_desk.specs.declared.output.Sent.{Sent}
pub use Rattle.http_desk.specs.declared.session_end.Ended.{Ended}
pub use Rattle.http_desk.specs.declared.session_end.Ended.TheVariants.{Closed, Cut, End, ReadFault, WriteFault}
pub use Rattle.http_desk.specs.declared.session_end.Next.{Next}
pub use Rattle.http_desk.specs.declared.session_end.Next.TheVariants.{Ends, Goes}
