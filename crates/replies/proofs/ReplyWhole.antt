-- No number in what is told of a command has a fraction.
use Rattle.std.proofs.Common.{◌≡◌, false, Ok, Err, refl}
use Rattle.serde_json.specs.Written.{has_float}
use Rattle.desk_core.specs.declared.refusal.Refusal.{Refusal}
use Rattle.desk_core.specs.declared.refusal.Refusal.TheVariants.{UnknownUnit, UnknownTicket, UnknownContainer}
use Rattle.desk_core.specs.declared.refusal.Refusal.TheVariants.{TicketExpired, NotAvailable, AlreadyOrdered}
use Rattle.desk_core.specs.declared.refusal.Refusal.TheVariants.{DailyLimit, NoSeatFree, AlreadySeated, NotSeated}
use Rattle.desk_core.specs.declared.refusal.Refusal.TheVariants.{HoldsContainers, UnknownOrder, OrderNotWaiting}
use Rattle.desk_core.specs.declared.refusal.Refusal.TheVariants.{NotAtDesk, NotFirst, HandsFull, NotIssued, DayNotLater}
use Rattle.desk_core.specs.declared.refusal.Refusal.TheVariants.{StillIssued, IntoItself, WithReader, BadFile, Full}
use Rattle.desk_core.specs.declared.refusal.Refusal.TheVariants.{NothingToMove, TooDeep, UnknownRun, BadName, NoPermit}
use Rattle.office_core.specs.Json.{count, done_json, refusal_json, remark_json, reply_json}
use Rattle.office_core.specs.Rules.{Reply}
use Rattle.office_core.specs.declared.done.Done.{Done}
use Rattle.office_core.specs.declared.done.Done.TheVariants as done
use Rattle.office_core.specs.declared.done.Remark.{Remark}
use Rattle.office_core.specs.declared.done.Remark.TheVariants.{LevelTooHigh, LacksEssential}
use Rattle.replies.proofs.Lists.{no_float}

remark : (r : Remark) → has_float (remark_json r) ≡ false
remark (LevelTooHigh row) = refl
remark (LacksEssential row) = refl

told : (d : Done) → has_float (done_json d) ≡ false
told (done.OpenDay day) = refl
told (done.Import changed new remarks same translations) = rw (no_float remark_json remark remarks) refl
told (done.SetStatus units) = refl
told (done.SetClosure unit) = refl
told (done.Move unit) = refl
told (done.Remove units) = refl
told (done.Register ticket) = refl
told (done.Renew ticket) = refl
told (done.TakeSeat seat) = refl
told (done.LeaveSeat seat) = refl
told (done.Order order) = refl
told (done.Cancel order) = refl
told (done.Run run taken) = refl
told (done.Reshelve containers) = rw (no_float count (λ n. refl) containers) refl
told (done.Issue order) = refl
told (done.Return order) = refl
told (done.Permit ticket unit until) = refl
told (done.Revoke unit) = refl

refused : (why : Refusal) → has_float (refusal_json why) ≡ false
refused UnknownUnit = refl
refused UnknownTicket = refl
refused UnknownContainer = refl
refused TicketExpired = refl
refused NotAvailable = refl
refused AlreadyOrdered = refl
refused DailyLimit = refl
refused NoSeatFree = refl
refused AlreadySeated = refl
refused NotSeated = refl
refused HoldsContainers = refl
refused UnknownOrder = refl
refused OrderNotWaiting = refl
refused NotAtDesk = refl
refused NotFirst = refl
refused HandsFull = refl
refused NotIssued = refl
refused DayNotLater = refl
refused StillIssued = refl
refused IntoItself = refl
refused (WithReader container) = refl
refused (BadFile row cause) = refl
refused Full = refl
refused NothingToMove = refl
refused TooDeep = refl
refused UnknownRun = refl
refused BadName = refl
refused NoPermit = refl

pub reply_whole : (reply : Reply) → has_float (reply_json reply) ≡ false
reply_whole (Ok d) = told d
reply_whole (Err why) = refused why
