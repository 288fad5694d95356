-- The names that several proofs of this crate cite, passed on from one place. Declares nothing.
pub use Rattle.office_tables.specs.Versions.{Second}
pub use Rattle.nested_sets.specs.Representation.{RepresentsSpanRows}
pub use Rattle.office_core.specs.MixedRuns.{ToDo, ToTell, next_state}
pub use Rattle.http_desk.specs.Runs.{AllHappen, Answered, AreVisits, ByHttp, CallsNameDays, CallsNameTexts, Directly}
pub use Rattle.http_desk.specs.Runs.{Heard, IsVisited, Replied, Visit, VisitsLeaveOpen}
pub use Rattle.office.specs.IdleOffice.{has_clean_disk, is_shown, is_still_open}
pub use Rattle.headline.specs.Visits.{AreMade, IsConversation, IsMade, WereMade, heard_answer, heard_reply}
