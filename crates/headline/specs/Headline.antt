-- What visits to an office over nested sets have done: the headline.
use Rattle.std.specs.Prelude.{◌≡◌, ◌++◌, List, [], ◌∷◌, Option}
use Rattle.sqlite.specs.Held.{Held, state}
use Rattle.sqlite_trees.specs.declared.store.Store as trees
use Rattle.isad_core.specs.Texts.{Bytes}
use Rattle.nested_sets.specs.Representation.{RepresentsSpanRows}
use Rattle.office.specs.IdleOffice.{has_clean_disk, is_shown, is_still_open}
use Rattle.office_core.specs.Rules as machine
use Rattle.office_core.specs.SoundOffice.{IsSoundOffice}
use Rattle.office_core.specs.State.{State}
use Rattle.office_core.specs.declared.command.Command.{Command}
use Rattle.office_tables.specs.Versions.{Second}
use Rattle.http_desk.specs.Headline.{IsOneRun}
use Rattle.http_desk.specs.PublicSessions.{AreAnsweredInPublic}
use Rattle.http_desk.specs.Runs.{AllHappen, ByHttp, Directly, IsVisited, Visit, VisitsLeaveOpen, all_messages}
use Rattle.headline.specs.Rows.{HasRowsApart}
use Rattle.headline.specs.Visits.{AreMade}
use Rattle.headline.specs.declared.visits.Visit.{Visit as Asked}

-- Each request below /public/ asks a public question or places an order, and a text that answers one is printed from
-- units that are published at that time.
abbrev pub AllAnsweredInPublic : (s : State) (visits : List Visit) (t : State) → AllHappen s visits t → Type 0
AllAnsweredInPublic s [] t same = Unit {0}
AllAnsweredInPublic s (ByHttp input output end ∷ later) t (mid, session, more) =
    AreAnsweredInPublic s (all_messages session) × AllAnsweredInPublic mid later t more
AllAnsweredInPublic s (Directly asked told ∷ later) t (mid, called, more) = AllAnsweredInPublic mid later t more

module _ {S : Type 0} (g : trees.Ghosts S) where
  -- one visit to an office over nested sets
  abbrev pub IsVisitedOver : Held S → Held S → Visit → Type 0
  IsVisitedOver = IsVisited (is_shown g RepresentsSpanRows Second) (has_clean_disk g) (is_still_open g)

  -- What visits to an office in a state have led to.
  pub record AreMachines (old new : Held S) (s : State) (visits : List Visit) : Type 0 where
    pub state_then : State
    pub shown : is_shown g RepresentsSpanRows Second new state_then  -- its rows are those of this state
    pub happen : AllHappen s visits state_then  -- each session and call is answered as the machine does, to the byte
    pub run : IsOneRun s visits state_then happen  -- the machine reaches it by their commands, and keeps the rules
    pub sound : (before later : List Command) → run.commands ≡ before ++ later → IsSoundOffice (machine.state_after s before)
    pub public : AllAnsweredInPublic s visits state_then happen  -- below /public/ only what is published is told
    pub rows : is_still_open g new → HasRowsApart (state g new).now.trees  -- no container is with two readers
    pub is_open : VisitsLeaveOpen (is_still_open g old) s visits state_then happen → is_still_open g new

  -- The visits were made, one by one. If the office was in a state, and its disk has returned what was written to it,
  -- they have led to what the machine leads to.
  pub record TheHeadline {R W : Type 0} (remaining : R → Option Bytes) (contents : W → Option Bytes)
      (old new : Held S) (before after : List (Asked R W)) : Type 0 where
    pub visits : List Visit
    pub made : AreMade remaining contents before after visits
    pub machines : has_clean_disk g new → (s : State) → is_shown g RepresentsSpanRows Second old s
        → AreMachines old new s visits
