-- What runs bring to the desk.
use Rattle.std.specs.Prelude.{◌≡◌, ℕ, suc, ℤ, cond, nat_eq, nat_lt, List, [], ◌∷◌, ◌++◌, length, map, filter, find}
use Rattle.std.specs.Prelude.{Option, Some, None}
use Rattle.std.specs.List.{IsDistinct}
use Rattle.isad_core.specs.declared.values.BoxKey.{BoxKey}
use Rattle.desk_core.specs.declared.run.Candidate.{Candidate}
use Rattle.isad_core.specs.Limits.{most_runs}
use Rattle.desk_core.specs.DeskRows.{Desk, RunRow, RunLineRow}
use Rattle.desk_store.specs.declared.container_orders.ContainerOrder.{ContainerOrder}

-- the number of the next run, or none if no number is left
abbrev pub next_run : Desk → Option ℕ
next_run d = cond (nat_lt (length d.runs) most_runs) (Some (suc (length d.runs))) None

abbrev pub line_of_run : ℕ → ContainerOrder → RunLineRow
line_of_run n taken = record { run = n; container = taken.container; order_no = taken.order; ticket = taken.ticket }

-- the desk with one more run, which has a line for each container that it takes; without a number, the desk as it is
abbrev pub with_run : Option ℕ → ℤ → List ContainerOrder → Desk → Desk
with_run None day taken d = d
with_run (Some n) day taken d =
    record d { runs = d.runs ++ record { id = n; day = day } ∷ []; run_lines = d.run_lines ++ map (line_of_run n) taken }

abbrev pub run_with : ℕ → Desk → Option RunRow
run_with n d = find (λ (r : RunRow). nat_eq n r.id) d.runs

-- the lines of a run, in any order
abbrev pub lines_of : ℕ → Desk → List RunLineRow
lines_of n d = filter (λ l. nat_eq n l.run) d.run_lines

-- no container is taken twice
abbrev pub TakesEachOnce : List ContainerOrder → Type 0
TakesEachOnce taken = IsDistinct nat_eq (map (λ (t : ContainerOrder). t.container) taken)

-- the line, with what is written on its container
pub record IsCandidate (boxes : List (ℕ × BoxKey)) (l : RunLineRow) (c : Candidate) : Type 0 where
  pub box : BoxKey
  pub known : find (λ (b : ℕ × BoxKey). nat_eq l.container b.0) boxes ≡ Some (l.container, box)
  pub is : c ≡ record { container = l.container; order = l.order_no; ticket = l.ticket; location = box.location; name = box.name; kind = box.kind }
