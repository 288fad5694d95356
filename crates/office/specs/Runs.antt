-- Calls on an office, one after another, and the run of the machine.
use Rattle.std.specs.Prelude.{◌≡◌, IsOk, List, [], ◌∷◌, Option, Some, None, Result, Ok, Err, map}
use Rattle.isad_core.specs.Texts.{Bytes}
use Rattle.office_core.specs.Json.{reply_text}
use Rattle.office_core.specs.MixedRuns.{Asked, ToDo, ToTell, ResultTold, next_state, told_of, state_after_all, all_told}
use Rattle.office_core.specs.MixedRuns as mixed
use Rattle.office_core.specs.Rules as machine
use Rattle.office_core.specs.State.{State}
use Rattle.office_core.specs.declared.command.Command.{Command}
use Rattle.office_core.specs.declared.machine.Reply.{Reply}
use Rattle.office_core.specs.declared.query.Answer.{Answer}
use Rattle.office_core.specs.declared.query.Query.{Query}

-- what a call returns
pub data Returned : Type 0 where
  Replied : (reply : machine.Reply) → (json : Bytes) → Returned  -- the reply to a command, and its JSON
  Answered : (answer : Answer) → Returned  -- the answer to a question

-- what the machine tells, as a call returns it
abbrev pub as_returned : ResultTold → Returned
as_returned (mixed.Replied reply) = Replied reply (reply_text reply)
as_returned (mixed.Answered answer) = Answered answer

-- what the office is asked, and what the call returns: none if the office is busy
pub record Call : Type 0 where
  pub asked : Asked
  pub told : Option Returned

abbrev pub command_call : {E : Type 0} → Command → Result Reply E → Call
command_call asked (Ok reply) = record { asked = ToDo asked; told = Some (Replied reply.done reply.json) }
command_call asked (Err busy) = record { asked = ToDo asked; told = None }

abbrev pub question_call : {E : Type 0} → Query → Result Answer E → Call
question_call asked (Ok told) = record { asked = ToTell asked; told = Some (Answered told) }
question_call asked (Err busy) = record { asked = ToTell asked; told = None }

-- what was asked while the office was not busy
abbrev pub with_heard : Asked → Option Returned → List Asked → List Asked
with_heard asked (Some told) later = asked ∷ later
with_heard asked None later = later

abbrev pub heard : List Call → List Asked
heard [] = []
heard (call ∷ later) = with_heard call.asked call.told (heard later)

-- the replies with their JSON, and the answers
abbrev pub with_first : Option Returned → List Returned → List Returned
with_first (Some told) later = told ∷ later
with_first None later = later

abbrev pub all_heard : List Call → List Returned
all_heard [] = []
all_heard (call ∷ later) = with_first call.told (all_heard later)

-- a command was accepted
abbrev pub IsAcceptance : Option Returned → Type 0
IsAcceptance (Some (Replied reply json)) = IsOk reply
IsAcceptance (Some (Answered answer)) = ⊥
IsAcceptance None = ⊥

-- the last call was a command that was accepted, or there were no calls and the office was open before
abbrev pub LeaveOpen : Type 0 → List Call → Type 0
LeaveOpen was_open [] = was_open
LeaveOpen was_open (call ∷ later) = LeaveOpen (IsAcceptance call.told) later

-- When an office represents a state, when its store has returned what was written to it, and when it is open.
module _ {M : Type 0} (represents : M → State → Type 0) (is_intact is_open : M → Type 0) where
  -- the result with its bytes and the next state are the machine's; an office that is busy keeps its state
  abbrev pub Follows : State → Asked → Option Returned → M → Type 0
  Follows s asked (Some told) new = represents new (next_state s asked) × (told ≡ as_returned (told_of s asked))
  Follows s asked None new = represents new s

  -- one call
  pub record IsCall (old new : M) (call : Call) : Type 0 where
    pub intact : is_intact new → is_intact old
    pub was_open : is_intact new → is_open new → is_open old
    pub kept : is_intact new → IsAcceptance call.told → is_open new
    pub follows : is_intact new → (s : State) → represents old s → Follows s call.asked call.told new

  -- one call after another
  abbrev pub AreCalls : M → M → List Call → Type 0
  AreCalls old new [] = old ≡ new
  AreCalls old new (call ∷ later) = (mid : M) × IsCall old mid call × AreCalls mid new later

  -- The results are those of the machine for the calls that were not busy, also the JSON of each reply, and the office
  -- is then in the machine's state. If the last call was a command that was accepted, the office is open.
  abbrev pub IsMachinesRun : M → M → List Call → Type 0
  IsMachinesRun old new calls =
      is_intact new → (s : State) → represents old s
      → represents new (state_after_all s (heard calls))
      × (all_heard calls ≡ map as_returned (all_told s (heard calls)))
      × (LeaveOpen (is_open old) calls → is_open new)
