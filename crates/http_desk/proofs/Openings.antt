-- What leaves an office open.
use Rattle.std.proofs.Common.{List, [], ◌∷◌, ◌++◌, None, Some}
use Rattle.http_desk.proofs.Common.{AllHappen, AllLeaveOpen, Answers, Asked, BodyCut, ByHttp, Bytes, Directly, Ended}
use Rattle.http_desk.proofs.Common.{Fails, Happens, HeadCut, IsAccepted, Last, LastLeavesOpen, LeavesOpen, Message}
use Rattle.http_desk.proofs.Common.{NoHead, Nothing, Refuses, Session, State, ToDo, ToTell, Visit, VisitLeavesOpen}
use Rattle.http_desk.proofs.Common.{VisitsLeaveOpen, state_after_message, state_after_messages}

-- the last message is the one that counts
pub last_accepted : (ms : List Message) (m : Message) (s : State) (was : Type 0) → AllLeaveOpen was s (ms ++ m ∷ [])
    → IsAccepted (state_after_messages s ms) m
last_accepted [] m s was h = h
last_accepted (n ∷ ms) m s was h = last_accepted ms m (state_after_message s n) (IsAccepted s n) h

module _ (was now : Type 0) (still : was → now) where
  pub last_open : (s : State) (last : Last) → LastLeavesOpen was s last → LastLeavesOpen now s last
  last_open s Nothing h = still h
  last_open s HeadCut h = still h
  last_open s (BodyCut request) h = still h
  last_open s NoHead h = still h
  last_open s (Refuses status bare) h = still h
  last_open s (Answers message) h = h
  last_open s (Fails leave bare) h = h

  all_open : (s : State) (ms : List Message) → AllLeaveOpen was s ms → AllLeaveOpen now s ms
  all_open s [] h = still h
  all_open s (m ∷ ms) h = h

-- what leaves an office open that was so before, leaves one open that was so, too
pub session_open : (was now : Type 0) → (was → now)
    → (s new : State) (input output : Bytes) (end : Ended) (session : Session s input output end new)
    → LeavesOpen was session → LeavesOpen now session
session_open was now still s new input output end session h =
    last_open (AllLeaveOpen was s session.messages) (AllLeaveOpen now s session.messages) (all_open was now still s session.messages)
    (state_after_messages s session.messages) session.stops.last h

visit_open : (was now : Type 0) → (was → now) → (s new : State) (visit : Visit) (it : Happens s visit new)
    → VisitLeavesOpen was s visit new it → VisitLeavesOpen now s visit new it
visit_open was now still s new (ByHttp input output end) it h = session_open was now still s new input output end it h
visit_open was now still s new (Directly (ToDo command) (Some heard)) it h = h
visit_open was now still s new (Directly (ToTell query) (Some heard)) it h = h
visit_open was now still s new (Directly (ToDo command) None) it h = h
visit_open was now still s new (Directly (ToTell query) None) it h = h

pub visits_open : (was now : Type 0) → (was → now)
    → (s new : State) (visits : List Visit) (all : AllHappen s visits new) → VisitsLeaveOpen was s visits new all
    → VisitsLeaveOpen now s visits new all
visits_open was now still s new [] same h = still h
visits_open was now still s new (visit ∷ later) (mid, happens, more) h =
    visits_open (VisitLeavesOpen was s visit mid happens) (VisitLeavesOpen now s visit mid happens) (visit_open was now still s mid visit happens) mid new later more h

-- nothing is known where the office was busy
pub not_known : (was : Type 0) (X : Type 0) (s t : State) (asked : Asked) (same : Happens s (Directly asked None) t)
    → VisitLeavesOpen was s (Directly asked None) t same → X
not_known was X s t (ToDo command) same never = absurd never
not_known was X s t (ToTell query) same never = absurd never
