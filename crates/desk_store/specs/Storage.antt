-- The desk together with the containers, which belong to the catalogue.
use Rattle.std.specs.Prelude.{◌≡◌, ◌≤◌, ⊤, ℕ, nat_eq, List, length, map, find, Option, Some, None, IsPermutation}
use Rattle.std.specs.List.{AllByRecursion, AllZip}
use Rattle.sqlite.specs.Effect.{Database}
use Rattle.isad_core.specs.LegibleValues.{IsLegibleBox}
use Rattle.isad_core.specs.Limits.{most_containers}
use Rattle.isad_core.specs.declared.values.BoxKey.{BoxKey}
use Rattle.desk_core.specs.DeskRows.{Desk, RunRow, RunLineRow}
use Rattle.office_tables.specs.Schema as tables
use Rattle.office_tables.specs.SharedRows.{numbered_container_cells}
use Rattle.desk_store.specs.Orders.{IsQueue, IsHead}
use Rattle.desk_store.specs.Runs.{lines_of, IsCandidate}
use Rattle.desk_store.specs.Representation.{RepresentsDesk, IsLegible}
use Rattle.office_tables.specs.RowNumbers.{AreCounted}
use Rattle.desk_store.specs.declared.queue_heads.QueueHead.{QueueHead}
use Rattle.desk_store.specs.declared.queues.ContainerQueue.{ContainerQueue}
use Rattle.desk_core.specs.declared.run.Candidate.{Candidate}
use Rattle.desk_store.specs.declared.runs.Brought.{Brought}
use Rattle.desk_store.specs.declared.container_orders.ContainerOrder.{ContainerOrder}

-- the containers that the catalogue knows, each under its number, and the desk
pub record Storage : Type 0 where
  pub containers : List (ℕ × BoxKey)
  pub desk : Desk

-- containers are numbered from 1, up to the most that there may be
pub record RepresentsQueues (db : Database) (beside : ⊤) (storage : Storage) : Type 0 where
  pub containers : db.trees tables.container.tree ≡ map numbered_container_cells storage.containers
  pub numbers : AreCounted (λ (b : ℕ × BoxKey). b.0) storage.containers
  pub few : length storage.containers ≤ most_containers
  pub desk : RepresentsDesk db.trees storage.desk

-- what is written on a container can be read back
pub record IsLegibleStorage (storage : Storage) : Type 0 where
  pub containers : AllByRecursion (λ (b : ℕ × BoxKey). IsLegibleBox b.1) storage.containers
  pub desk : IsLegible storage.desk

abbrev pub container_with : ℕ → Storage → Option (ℕ × BoxKey)
container_with c storage = find (λ (b : ℕ × BoxKey). nat_eq c b.0) storage.containers

-- ---- a container and who waits for it

-- the answer about a container that may be known: its queue, or none
abbrev pub IsQueued : ℕ → Storage → Option (ℕ × BoxKey) → Option ContainerQueue → Type 0
IsQueued c storage None found = found ≡ None
IsQueued c storage (Some box) None = ⊥
IsQueued c storage (Some box) (Some q) = IsQueue c storage.desk box.1 q

-- the same of the head of its queue
abbrev pub IsHeaded : ℕ → Storage → Option (ℕ × BoxKey) → Option QueueHead → Type 0
IsHeaded c storage None found = found ≡ None
IsHeaded c storage (Some box) None = ⊥
IsHeaded c storage (Some box) (Some head) = IsHead c storage.desk head

-- ---- what a run brought

-- the answer about a line of a run: the line, with what is written on its container
abbrev pub IsToldLine : Storage → ContainerOrder → Candidate → Type 0
IsToldLine storage l = IsCandidate storage.containers (record { run = 0; container = l.container; order_no = l.order; ticket = l.ticket })

-- the run's day, and its lines in some order, each with what is written on its container
pub record IsBrought (storage : Storage) (run : RunRow) (told : Brought) : Type 0 where
  pub day : told.day ≡ run.day
  pub lines : List ContainerOrder
  pub are : IsPermutation (map (λ (l : RunLineRow). record { container = l.container; order = l.order_no; ticket = l.ticket }) (lines_of run.id storage.desk)) lines
  pub tell : AllZip (IsToldLine storage) lines told.lines

-- the answer about a run that may have been made: what it brought, or none
abbrev pub IsToldRun : Storage → Option RunRow → Option Brought → Type 0
IsToldRun storage None found = found ≡ None
IsToldRun storage (Some run) None = ⊥
IsToldRun storage (Some run) (Some told) = IsBrought storage run told

-- the container of a line is known
abbrev pub IsKnownLine : ContainerOrder → Storage → Type 0
IsKnownLine l storage = (box : ℕ × BoxKey) × (container_with l.container storage ≡ Some box)

-- the containers of a run's lines are known
abbrev pub AreKnown : ℕ → Storage → Type 0
AreKnown n storage =
    AllByRecursion (λ (l : RunLineRow). IsKnownLine (record { container = l.container; order = l.order_no; ticket = l.ticket }) storage) (lines_of n storage.desk)
