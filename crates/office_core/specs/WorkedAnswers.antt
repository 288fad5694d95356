-- The answers of small offices, byte for byte. Each expected text was written by hand.
use Rattle.std.specs.Prelude.{◌≡◌, true, false, List, [], ◌∷◌, None, codes}
use Rattle.desk_core.specs.declared.refusal.Refusal.TheVariants.{UnknownUnit, UnknownTicket, UnknownContainer}
use Rattle.desk_core.specs.declared.refusal.Refusal.TheVariants.{UnknownRun, WithReader, BadFile, BadName}
use Rattle.office_core.specs.declared.command.Command.{Command}
use Rattle.office_core.specs.declared.command.Command.TheVariants.{OpenDay, SetStatus, SetClosure, Move, Remove}
use Rattle.office_core.specs.declared.command.Command.TheVariants.{TakeSeat, Order, Cancel, Run, Reshelve, Issue}
use Rattle.office_core.specs.declared.command.Command.TheVariants.{Return, Permit}
use Rattle.office_core.specs.declared.done.Remark.TheVariants.{LacksEssential}
use Rattle.office_core.specs.declared.query.Query.{Query}
use Rattle.office_core.specs.declared.query.Query.TheVariants.{Fonds, Aid, Page, ReaderOrders, Queue, RunSlip}
use Rattle.office_core.specs.declared.query.Query.TheVariants.{IssuedNow, ReaderPermits}
use Rattle.office_core.specs.declared.query.Answer.{Answer}
use Rattle.office_core.specs.declared.query.Answer.TheVariants.{Text, Json, Unknown}
use Rattle.office_core.specs.Json.{reply_text}
use Rattle.office_core.specs.Queries.{answer}
use Rattle.office_core.specs.Rules.{state_after}
use Rattle.office_core.specs.WorkedExamples.{new_office, import, publish, draft, close, ann, order, refusal_reply}
use Rattle.office_core.specs.WorkedExamples.{import_reply, february_1, march_1, march_2, year_2030, docks, boxes}
use Rattle.office_core.specs.WorkedExamples.{lock_gates, smith, harbour}

-- the answer after these commands
abbrev pub AnswerIs : List Command → Query → Answer → Type 0
AnswerIs asked question told = answer (state_after new_office asked) question ≡ told

-- the tops, and a finding aid without what is a draft or closed
pub record Aids : Type 0 where
  pub fonds : AnswerIs (import docks ∷ []) Fonds (Text (codes "1 GB 0999 HUL [Fonds] Hull Dock Company\n"))
  pub nothing : AnswerIs [] Fonds (Text [])
  pub whole : AnswerIs (import docks ∷ []) (Aid 1) (Text (codes "GB 0999 HUL [Fonds] Hull Dock Company\n  GB 0999 HUL/1 [Series] Minutes\n"))
  pub lower : AnswerIs (import docks ∷ []) (Aid 2) (Text (codes "GB 0999 HUL/1 [Series] Minutes\n"))
  pub draft_left_out : AnswerIs (import docks ∷ draft 2 ∷ import docks ∷ []) (Aid 1) (Text (codes "GB 0999 HUL [Fonds] Hull Dock Company\n"))
  pub draft_unknown : AnswerIs (import docks ∷ draft 2 ∷ []) (Page 2) (Unknown UnknownUnit)
  pub closed : AnswerIs (import docks ∷ close 2 march_2 ∷ []) (Aid 1) (Text (codes "GB 0999 HUL [Fonds] Hull Dock Company\n  GB 0999 HUL/1 [Series] closed until 2024-03-02\n"))
  pub open_on_the_day : AnswerIs (import docks ∷ close 2 march_2 ∷ OpenDay march_2 ∷ []) (Aid 1) (Text (codes "GB 0999 HUL [Fonds] Hull Dock Company\n  GB 0999 HUL/1 [Series] Minutes\n"))
  pub boxes_once : AnswerIs (import lock_gates ∷ []) (Aid 1) (Text (codes "GB 0999 P [-] Plans\n  Container 1: Box 1\n  GB 0999 P/1 [-] Lock gates\n"))
  pub by_place : AnswerIs (import boxes ∷ Move 1 None ∷ draft 2 ∷ []) Fonds (Text (codes "3 GB 0999 C [-] Maps\n4 GB 0999 D [-] Deeds\n1 GB 0999 A [-] Plans\n"))
  pub below_a_draft : AnswerIs (import docks ∷ draft 1 ∷ []) (Aid 2) (Unknown UnknownUnit)

-- pages, with values taken from the units above
pub record Pages : Type 0 where
  pub found : AnswerIs (import smith ∷ []) (Page 4) (Text (codes "GB 0999 HUL/1/A/7 [File] 1901\n  3.2.1 Name of creator(s): Smith (from GB 0999 HUL)\n"))
  pub with_children : AnswerIs (import smith ∷ []) (Page 3) (Text (codes "GB 0999 HUL/1/A [Sub-series] Board\n  3.2.1 Name of creator(s): Smith (from GB 0999 HUL)\n  Unit 4: GB 0999 HUL/1/A/7 [File] 1901\n"))
  pub not_all_above : AnswerIs (import harbour ∷ []) (Page 2) (Text (codes "GB 0999 HUL/1 [Series] Minutes\n  3.4.1 Conditions governing access: Open (from GB 0999 HUL)\n"))
  pub own : AnswerIs (import smith ∷ []) (Page 1) (Text (codes "GB 0999 HUL [Fonds] Docks\n  3.2.1 Name of creator(s): Smith\n  Unit 2: GB 0999 HUL/1 [Series] Minutes\n"))
  pub boxes_above : AnswerIs (import lock_gates ∷ []) (Page 2) (Text (codes "GB 0999 P/1 [-] Lock gates\n  Container 1: Box 1 (from GB 0999 P)\n"))
  pub own_boxes : AnswerIs (import lock_gates ∷ []) (Page 1) (Text (codes "GB 0999 P [-] Plans\n  Container 1: Box 1\n  Unit 2: GB 0999 P/1 [-] Lock gates\n"))
  pub draft_unknown : AnswerIs (import smith ∷ draft 2 ∷ []) (Page 2) (Unknown UnknownUnit)
  pub below_a_draft : AnswerIs (import smith ∷ draft 2 ∷ []) (Page 3) (Unknown UnknownUnit)
  pub closed : AnswerIs (import smith ∷ draft 2 ∷ publish 2 ∷ close 2 year_2030 ∷ []) (Page 2) (Text (codes "GB 0999 HUL/1 [Series] closed until 2030-01-01\n"))
  pub below_a_closed : AnswerIs (import smith ∷ close 2 year_2030 ∷ []) (Page 3) (Unknown UnknownUnit)
  pub none_such : AnswerIs (import smith ∷ []) (Page 99999) (Unknown UnknownUnit)
  pub permits_unseen : AnswerIs (import lock_gates ∷ ann ∷ close 2 year_2030 ∷ Permit 1 2 march_1 ∷ []) (Aid 1) (Text (codes "GB 0999 P [-] Plans\n  Container 1: Box 1\n  GB 0999 P/1 [-] closed until 2030-01-01\n"))

-- a status for a branch sets all of it, and a status for a unit that unit alone
pub record Statuses : Type 0 where
  pub branch_drafted : AnswerIs (import docks ∷ SetStatus 1 true true ∷ publish 1 ∷ []) (Aid 1) (Text (codes "GB 0999 HUL [Fonds] Hull Dock Company\n"))
  pub branch_published : AnswerIs (import docks ∷ draft 2 ∷ SetStatus 1 false true ∷ []) (Aid 2) (Text (codes "GB 0999 HUL/1 [Series] Minutes\n"))
  pub unit_alone : AnswerIs (import docks ∷ draft 2 ∷ publish 1 ∷ []) (Page 2) (Unknown UnknownUnit)
  pub one_closed : AnswerIs (import docks ∷ close 1 year_2030 ∷ SetClosure 1 None ∷ close 2 year_2030 ∷ SetClosure 1 None ∷ []) (Page 2) (Text (codes "GB 0999 HUL/1 [Series] closed until 2030-01-01\n"))

-- what the desk asks
pub record AtTheDesk : Type 0 where
  pub slip : AnswerIs (import boxes ∷ ann ∷ Order 1 1 ∷ Order 1 2 ∷ Order 1 3 ∷ Run ∷ []) (RunSlip 1)
      (Text (codes "Run 1  2024-03-01\nStrongroom 1         Box 2                 2        2       1\nStrongroom 2         Box 1                 1        1       1\n"))
  pub no_slip : AnswerIs (import boxes ∷ ann ∷ Order 1 1 ∷ Order 1 2 ∷ Order 1 3 ∷ Run ∷ Run ∷ Run ∷ []) (RunSlip 3) (Unknown UnknownRun)
  pub queue : AnswerIs (import boxes ∷ ann ∷ Order 1 1 ∷ Order 1 2 ∷ Run ∷ TakeSeat 1 ∷ Issue 1 1 ∷ Return 1 ∷ Reshelve ∷ []) (Queue 2)
      (Json (codes "{\"container\":2,\"name\":\"Box 2\",\"out\":null,\"place\":\"desk\",\"waiting\":[{\"order\":2,\"ticket\":1}]}"))
  pub reader : AnswerIs (import boxes ∷ ann ∷ Order 1 1 ∷ Order 1 2 ∷ Run ∷ TakeSeat 1 ∷ Issue 1 1 ∷ Return 1 ∷ Reshelve ∷ []) (ReaderOrders 1)
      (Json (codes "{\"name\":\"Ann\",\"orders\":[{\"container\":2,\"order\":2,\"state\":\"waiting\"}],\"seat\":1,\"ticket\":1,\"until\":\"2024-12-31\"}"))
  pub none_issued : AnswerIs (import boxes ∷ ann ∷ Order 1 1 ∷ Order 1 2 ∷ Run ∷ TakeSeat 1 ∷ Issue 1 1 ∷ Return 1 ∷ Reshelve ∷ []) IssuedNow (Json (codes "[]"))
  pub one_issued : AnswerIs (import boxes ∷ ann ∷ Order 1 1 ∷ Order 1 2 ∷ Run ∷ TakeSeat 1 ∷ Issue 1 1 ∷ []) IssuedNow (Json (codes "[{\"container\":1,\"order\":1,\"ticket\":1}]"))
  pub out : AnswerIs (import boxes ∷ ann ∷ Order 1 1 ∷ Run ∷ TakeSeat 1 ∷ Issue 1 1 ∷ []) (Queue 1)
      (Json (codes "{\"container\":1,\"name\":\"Box 1\",\"out\":1,\"place\":\"out\",\"waiting\":[]}"))
  pub order_out : AnswerIs (import boxes ∷ ann ∷ Order 1 1 ∷ Order 1 2 ∷ Cancel 2 ∷ Run ∷ TakeSeat 1 ∷ Issue 1 1 ∷ []) (ReaderOrders 1)
      (Json (codes "{\"name\":\"Ann\",\"orders\":[{\"container\":1,\"order\":1,\"state\":\"out\"}],\"seat\":1,\"ticket\":1,\"until\":\"2024-12-31\"}"))
  pub no_seat : AnswerIs (ann ∷ []) (ReaderOrders 1) (Json (codes "{\"name\":\"Ann\",\"orders\":[],\"seat\":null,\"ticket\":1,\"until\":\"2024-12-31\"}"))
  pub permits : AnswerIs (import lock_gates ∷ ann ∷ close 2 year_2030 ∷ Permit 1 2 march_1 ∷ Permit 1 2 february_1 ∷ []) (ReaderPermits 1) (Json (codes "[{\"unit\":2,\"until\":\"2024-03-01\"}]"))
  pub permits_gone : AnswerIs (import lock_gates ∷ ann ∷ Permit 1 2 march_1 ∷ Permit 1 1 march_1 ∷ Remove 1 ∷ []) (ReaderPermits 1) (Json (codes "[]"))
  pub unknown_ticket : AnswerIs [] (ReaderOrders 1) (Unknown UnknownTicket)
  pub unknown_permits : AnswerIs [] (ReaderPermits 1) (Unknown UnknownTicket)
  pub unknown_container : AnswerIs [] (Queue 1) (Unknown UnknownContainer)

-- replies
pub record ReplyTexts : Type 0 where
  pub header_alone : reply_text (import_reply 0 0 0 0 []) ≡ codes "{\"changed\":0,\"new\":0,\"remarks\":[],\"same\":0,\"translations\":0}"
  pub two_rows : reply_text (import_reply 0 2 0 0 (LacksEssential 2 ∷ [])) ≡ codes "{\"changed\":0,\"new\":2,\"remarks\":[{\"kind\":2,\"row\":2}],\"same\":0,\"translations\":0}"
  pub with_reader : reply_text (refusal_reply (WithReader 1)) ≡ codes "{\"code\":21,\"container\":1,\"refused\":\"WithReader\"}"
  pub bad_file : reply_text (refusal_reply (BadFile 3 11)) ≡ codes "{\"cause\":11,\"code\":22,\"refused\":\"BadFile\",\"row\":3}"
  pub bad_name : reply_text (refusal_reply BadName) ≡ codes "{\"code\":27,\"refused\":\"BadName\"}"
  pub an_order : reply_text (order 4) ≡ codes "{\"order\":4}"
