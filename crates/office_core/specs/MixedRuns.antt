-- Commands and queries, one after another.
use Rattle.std.specs.Prelude.{List, [], ◌∷◌}
use Rattle.office_core.specs.declared.command.Command.{Command}
use Rattle.office_core.specs.declared.query.Query.{Query}
use Rattle.office_core.specs.declared.query.Answer.{Answer}
use Rattle.office_core.specs.Queries.{answer}
use Rattle.office_core.specs.Rules.{Reply, step}
use Rattle.office_core.specs.State.{State}

pub data Asked : Type 0 where
  ToDo : (command : Command) → Asked
  ToTell : (query : Query) → Asked

pub data ResultTold : Type 0 where
  Replied : (reply : Reply) → ResultTold
  Answered : (answer : Answer) → ResultTold

-- a query changes nothing
abbrev pub next_state : State → Asked → State
next_state s (ToDo command) = (step s command).0
next_state s (ToTell query) = s

abbrev pub told_of : State → Asked → ResultTold
told_of s (ToDo command) = Replied (step s command).1
told_of s (ToTell query) = Answered (answer s query)

-- the state after all of them, and their results, each from the state that it finds
abbrev pub state_after_all : State → List Asked → State
state_after_all s [] = s
state_after_all s (asked ∷ later) = state_after_all (next_state s asked) later

abbrev pub all_told : State → List Asked → List ResultTold
all_told s [] = []
all_told s (asked ∷ later) = told_of s asked ∷ all_told (next_state s asked) later

-- the commands among them, and the replies among the results
abbrev pub commands_of : List Asked → List Command
commands_of [] = []
commands_of (ToDo command ∷ later) = command ∷ commands_of later
commands_of (ToTell query ∷ later) = commands_of later

abbrev pub replies_of : List ResultTold → List Reply
replies_of [] = []
replies_of (Replied reply ∷ later) = reply ∷ replies_of later
replies_of (Answered answer ∷ later) = replies_of later
