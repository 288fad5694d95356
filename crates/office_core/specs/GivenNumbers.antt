-- What numbers name, and which numbers are given.
use Rattle.std.specs.Prelude.{◌≡◌, ℕ, ℤ, suc, ◌-◌, ◌<◌, ◌≤◌, Bool, true, ◌&&◌, List, [], ◌∷◌, ◌++◌, length, Option}
use Rattle.std.specs.Prelude.{Some, None, Ok, option_to_list, filter, map, ◌⊎◌}
use Rattle.std.specs.List.{AllByRecursion}
use Rattle.isad_core.specs.Texts.{Bytes}
use Rattle.tree_core.specs.Forest.{Forest, nodes, has}
use Rattle.catalogue_core.specs.Units.{Unit, has_id, is_from}
use Rattle.catalogue_core.specs.UnitLookup.{has_unit}
use Rattle.catalogue_core.specs.Intake.{is_new}
use Rattle.atom_csv.specs.FileContents.{file_of}
use Rattle.atom_csv.specs.declared.file.File.{File}
use Rattle.atom_csv.specs.declared.file.Row.{Row}
use Rattle.office_core.specs.Words.{nth}
use Rattle.office_core.specs.State.{Reader, State, Settings, start, new_run}
use Rattle.office_core.specs.declared.command.Command.{Command}
use Rattle.office_core.specs.declared.command.Command.TheVariants as command
use Rattle.office_core.specs.declared.done.Done.{Done}
use Rattle.office_core.specs.declared.done.Done.TheVariants as done
use Rattle.office_core.specs.Rules.{Reply, step, state_after}
use Rattle.office_core.specs.Laws.{numbers_from}

-- ---- what a number names

-- the n-th of the one list is the n-th of the other
abbrev pub NamesStay : {X : Type 0} → List X → List X → Type 0
NamesStay {X} old new = (n : ℕ) (x : X) → nth old n ≡ Some x → nth new n ≡ Some x

-- the names of the readers, by ticket
abbrev pub names : State → List Bytes
names s = map (λ (reader : Reader). reader.name) s.readers

-- there is a unit with this one's number, source and number in the source
abbrev pub is_there : Forest Unit → Unit → Bool
is_there f unit = has (λ (other : Unit). has_id unit.id other && is_from unit.source unit.legacy other) f

-- if this unit's number was already given in s, it is the unit of s with that number
abbrev pub IsThatUnit : State → Unit → Type 0
IsThatUnit s unit = unit.id < s.catalogue.next → is_there s.catalogue.forest unit ≡ true

-- A number names the same in t as in s: a container with its name, location and kind, an order of that ticket for that
-- container from that day, a run of that day with its lines, and a reader with that name. A unit of t whose number was
-- given in s is that unit of s, from the same source, with the same number there.
pub record StaysNamed (s t : State) : Type 0 where
  pub containers : NamesStay s.catalogue.containers t.catalogue.containers
  pub orders : NamesStay s.orders t.orders
  pub runs : NamesStay s.runs t.runs
  pub readers : NamesStay (names s) (names t)
  pub units : AllByRecursion (IsThatUnit s) (nodes t.catalogue.forest)
  -- a unit's number that was given stays given
  pub next : s.catalogue.next ≤ t.catalogue.next

-- ---- which numbers are given

pub data Kind : Type 0 where
  Tickets : Kind
  Orders : Kind
  Runs : Kind
  Containers : Kind
  Units : Kind

-- the number that is given next
abbrev pub next_number : Kind → State → ℕ
next_number Tickets s = suc (length s.readers)
next_number Orders s = suc (length s.orders)
next_number Runs s = suc (length s.runs)
next_number Containers s = suc (length s.catalogue.containers)
next_number Units s = s.catalogue.next

abbrev pub ticket_given : Command → Reply → Option ℕ
ticket_given (command.Register name until) (Ok (done.Register t)) = Some t
ticket_given _ _ = None

abbrev pub order_given : Command → Reply → Option ℕ
order_given (command.Order t c) (Ok (done.Order o)) = Some o
order_given _ _ = None

abbrev pub run_given : Command → Reply → Option ℕ
run_given command.Run (Ok (done.Run n taken)) = Some n
run_given _ _ = None

-- the numbers of a kind that a command gives: those of the reply, and those that containers and units get
abbrev pub given_numbers : Kind → State → Command → List ℕ
given_numbers Tickets s asked = option_to_list (ticket_given asked (step s asked).1)
given_numbers Orders s asked = option_to_list (order_given asked (step s asked).1)
given_numbers Runs s asked = option_to_list (run_given asked (step s asked).1)
given_numbers Containers s asked =
    numbers_from
    (suc (length s.catalogue.containers))
    (length (step s asked).0.catalogue.containers - length s.catalogue.containers)
given_numbers Units s asked = numbers_from s.catalogue.next ((step s asked).0.catalogue.next - s.catalogue.next)

-- the numbers of a kind that a list of commands gives, one command after another
abbrev pub all_given : Kind → State → List Command → List ℕ
all_given kind s [] = []
all_given kind s (asked ∷ later) = given_numbers kind s asked ++ all_given kind (step s asked).0 later

-- The given numbers are the next ones, each once and in order: no number is left out or given twice.
abbrev pub GivenInOrder : Kind → State → List Command → Type 0
GivenInOrder kind s commands =
    all_given kind s commands
    ≡ numbers_from (next_number kind s) (next_number kind (state_after s commands) - next_number kind s)

-- The first number of each kind is 1.
abbrev pub StartsAtOne : Kind → Type 0
StartsAtOne kind = (settings : Settings) (day : ℤ) → next_number kind (start settings day) ≡ 1

-- ---- what a number is given to

-- The number in the reply is that of the new reader, order or run.
abbrev pub NamesWhatCame : State → State → Command → Reply → Type 0
NamesWhatCame s t (command.Register name until) (Ok (done.Register r)) =
    nth t.readers r ≡ Some (record { name = name; until = until })
NamesWhatCame s t (command.Order ticket c) (Ok (done.Order o)) =
    nth t.orders o ≡ Some (record { ticket = ticket; container = c; day = s.day })
NamesWhatCame s t command.Run (Ok (done.Run n taken)) = nth t.runs n ≡ Some (new_run s)
NamesWhatCame s t _ _ = Prim.Unit {0}

-- a unit that is new has one of the numbers that the command gives
abbrev pub ComesNew : State → State → Type 0
ComesNew s t =
    (u : ℕ)
    → has_unit t.catalogue.forest u ≡ true
    → (has_unit s.catalogue.forest u ≡ true) ⊎ ((s.catalogue.next ≤ u) × (u < t.catalogue.next))

-- each unit number that a command gives is the number of a unit
abbrev pub EachIsUnits : State → State → Type 0
EachIsUnits s t = (u : ℕ) → s.catalogue.next ≤ u → u < t.catalogue.next → has_unit t.catalogue.forest u ≡ true

-- the forest has the units of these rows, numbered from n on in the order of the rows
abbrev pub AreNumberedUnits : Forest Unit → Bytes → ℕ → List Row → Type 0
AreNumberedUnits f source n [] = Prim.Unit {0}
AreNumberedUnits f source n (row ∷ rows) =
    (has (λ (unit : Unit). has_id n unit && is_from source row.legacy unit) f ≡ true)
    × AreNumberedUnits f source (suc n) rows

-- An accepted import gives the next unit numbers to its new rows in the order of the file.
abbrev pub NumbersRows : State → Type 0
NumbersRows s =
    (source file : Bytes) (read : File) (told : Done)
    → (step s (command.Import source file)).1 ≡ Ok told
    → file_of file ≡ Ok read
    → let new_rows = filter (is_new s.catalogue.forest source) read.rows in
    AreNumberedUnits (step s (command.Import source file)).0.catalogue.forest source s.catalogue.next new_rows
