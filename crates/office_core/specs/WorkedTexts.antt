-- The text of each reply, with its keys in byte order and no white space, byte for byte. Each was written by hand.
use Rattle.std.specs.Prelude.{◌≡◌, [], ◌∷◌, Ok, codes}
use Rattle.desk_core.specs.declared.refusal.Refusal.TheVariants.{UnknownUnit, UnknownTicket, UnknownContainer}
use Rattle.desk_core.specs.declared.refusal.Refusal.TheVariants.{TicketExpired, NotAvailable, AlreadyOrdered}
use Rattle.desk_core.specs.declared.refusal.Refusal.TheVariants.{DailyLimit, NoSeatFree, AlreadySeated, NotSeated}
use Rattle.desk_core.specs.declared.refusal.Refusal.TheVariants.{HoldsContainers, UnknownOrder, OrderNotWaiting}
use Rattle.desk_core.specs.declared.refusal.Refusal.TheVariants.{NotAtDesk, NotFirst, HandsFull, NotIssued, DayNotLater}
use Rattle.desk_core.specs.declared.refusal.Refusal.TheVariants.{StillIssued, IntoItself, WithReader, BadFile, Full}
use Rattle.desk_core.specs.declared.refusal.Refusal.TheVariants.{NothingToMove, TooDeep, UnknownRun, BadName, NoPermit}
use Rattle.office_core.specs.declared.done.Done.TheVariants as done
use Rattle.office_core.specs.declared.done.Remark.TheVariants.{LevelTooHigh, LacksEssential}
use Rattle.office_core.specs.Json.{reply_text}
use Rattle.office_core.specs.WorkedExamples.{refusal_reply, import_reply, march_2}

-- a command that was done
pub record EachReply : Type 0 where
  pub open_day : reply_text (Ok (done.OpenDay march_2)) ≡ codes "{\"day\":\"2024-03-02\"}"
  pub import : reply_text (import_reply 1 2 3 4 (LevelTooHigh 5 ∷ LacksEssential 6 ∷ [])) ≡ codes "{\"changed\":1,\"new\":2,\"remarks\":[{\"kind\":1,\"row\":5},{\"kind\":2,\"row\":6}],\"same\":3,\"translations\":4}"
  pub set_status : reply_text (Ok (done.SetStatus 7)) ≡ codes "{\"units\":7}"
  pub set_closure : reply_text (Ok (done.SetClosure 7)) ≡ codes "{\"unit\":7}"
  pub move : reply_text (Ok (done.Move 7)) ≡ codes "{\"unit\":7}"
  pub remove : reply_text (Ok (done.Remove 7)) ≡ codes "{\"units\":7}"
  pub register : reply_text (Ok (done.Register 7)) ≡ codes "{\"ticket\":7}"
  pub renew : reply_text (Ok (done.Renew 7)) ≡ codes "{\"ticket\":7}"
  pub take_seat : reply_text (Ok (done.TakeSeat 7)) ≡ codes "{\"seat\":7}"
  pub leave_seat : reply_text (Ok (done.LeaveSeat 7)) ≡ codes "{\"seat\":7}"
  pub order : reply_text (Ok (done.Order 7)) ≡ codes "{\"order\":7}"
  pub cancel : reply_text (Ok (done.Cancel 7)) ≡ codes "{\"order\":7}"
  pub run : reply_text (Ok (done.Run 7 8)) ≡ codes "{\"run\":7,\"taken\":8}"
  pub reshelve : reply_text (Ok (done.Reshelve (7 ∷ 8 ∷ []))) ≡ codes "{\"containers\":[7,8]}"
  pub issue : reply_text (Ok (done.Issue 7)) ≡ codes "{\"order\":7}"
  pub back : reply_text (Ok (done.Return 7)) ≡ codes "{\"order\":7}"
  pub permit : reply_text (Ok (done.Permit 7 8 march_2)) ≡ codes "{\"ticket\":7,\"unit\":8,\"until\":\"2024-03-02\"}"
  pub revoke : reply_text (Ok (done.Revoke 7)) ≡ codes "{\"unit\":7}"

-- a command that was refused
pub record EachRefusal : Type 0 where
  pub unknown_unit : reply_text (refusal_reply UnknownUnit) ≡ codes "{\"code\":1,\"refused\":\"UnknownUnit\"}"
  pub unknown_ticket : reply_text (refusal_reply UnknownTicket) ≡ codes "{\"code\":2,\"refused\":\"UnknownTicket\"}"
  pub unknown_container : reply_text (refusal_reply UnknownContainer) ≡ codes "{\"code\":3,\"refused\":\"UnknownContainer\"}"
  pub ticket_expired : reply_text (refusal_reply TicketExpired) ≡ codes "{\"code\":4,\"refused\":\"TicketExpired\"}"
  pub not_available : reply_text (refusal_reply NotAvailable) ≡ codes "{\"code\":5,\"refused\":\"NotAvailable\"}"
  pub already_ordered : reply_text (refusal_reply AlreadyOrdered) ≡ codes "{\"code\":6,\"refused\":\"AlreadyOrdered\"}"
  pub daily_limit : reply_text (refusal_reply DailyLimit) ≡ codes "{\"code\":7,\"refused\":\"DailyLimit\"}"
  pub no_seat_free : reply_text (refusal_reply NoSeatFree) ≡ codes "{\"code\":8,\"refused\":\"NoSeatFree\"}"
  pub already_seated : reply_text (refusal_reply AlreadySeated) ≡ codes "{\"code\":9,\"refused\":\"AlreadySeated\"}"
  pub not_seated : reply_text (refusal_reply NotSeated) ≡ codes "{\"code\":10,\"refused\":\"NotSeated\"}"
  pub holds_containers : reply_text (refusal_reply HoldsContainers) ≡ codes "{\"code\":11,\"refused\":\"HoldsContainers\"}"
  pub unknown_order : reply_text (refusal_reply UnknownOrder) ≡ codes "{\"code\":12,\"refused\":\"UnknownOrder\"}"
  pub order_not_waiting : reply_text (refusal_reply OrderNotWaiting) ≡ codes "{\"code\":13,\"refused\":\"OrderNotWaiting\"}"
  pub not_at_desk : reply_text (refusal_reply NotAtDesk) ≡ codes "{\"code\":14,\"refused\":\"NotAtDesk\"}"
  pub not_first : reply_text (refusal_reply NotFirst) ≡ codes "{\"code\":15,\"refused\":\"NotFirst\"}"
  pub hands_full : reply_text (refusal_reply HandsFull) ≡ codes "{\"code\":16,\"refused\":\"HandsFull\"}"
  pub not_issued : reply_text (refusal_reply NotIssued) ≡ codes "{\"code\":17,\"refused\":\"NotIssued\"}"
  pub day_not_later : reply_text (refusal_reply DayNotLater) ≡ codes "{\"code\":18,\"refused\":\"DayNotLater\"}"
  pub still_issued : reply_text (refusal_reply StillIssued) ≡ codes "{\"code\":19,\"refused\":\"StillIssued\"}"
  pub into_itself : reply_text (refusal_reply IntoItself) ≡ codes "{\"code\":20,\"refused\":\"IntoItself\"}"
  pub with_reader : reply_text (refusal_reply (WithReader 7)) ≡ codes "{\"code\":21,\"container\":7,\"refused\":\"WithReader\"}"
  pub bad_file : reply_text (refusal_reply (BadFile 8 9)) ≡ codes "{\"cause\":9,\"code\":22,\"refused\":\"BadFile\",\"row\":8}"
  pub full : reply_text (refusal_reply Full) ≡ codes "{\"code\":23,\"refused\":\"Full\"}"
  pub nothing_to_move : reply_text (refusal_reply NothingToMove) ≡ codes "{\"code\":24,\"refused\":\"NothingToMove\"}"
  pub too_deep : reply_text (refusal_reply TooDeep) ≡ codes "{\"code\":25,\"refused\":\"TooDeep\"}"
  pub unknown_run : reply_text (refusal_reply UnknownRun) ≡ codes "{\"code\":26,\"refused\":\"UnknownRun\"}"
  pub bad_name : reply_text (refusal_reply BadName) ≡ codes "{\"code\":27,\"refused\":\"BadName\"}"
  pub no_permit : reply_text (refusal_reply NoPermit) ≡ codes "{\"code\":28,\"refused\":\"NoPermit\"}"
