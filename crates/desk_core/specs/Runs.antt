-- What a run brings to the desk, and what goes back to the shelf.
use Rattle.std.specs.Prelude.{◌≡◌, ℕ, ◌≤◌, Bool, not, nat_lt, List, ◌++◌, length, take, map, filter, min, All}
use Rattle.std.specs.List.Sorted.{IsNonDecreasingBy, IsPermutation}
use Rattle.desk_core.specs.declared.run.Candidate.{Candidate}
use Rattle.desk_core.specs.Orders.{in_order}

-- Each container comes with its first order; the lower order number goes first.
abbrev pub has_lesser_order : Candidate → Candidate → Bool
has_lesser_order a b = nat_lt a.order b.order

-- the candidates with the lowest order numbers, as many as a run may take, in the order of these numbers
abbrev pub run_of : List Candidate → ℕ → List Candidate
run_of candidates most = take most (in_order has_lesser_order candidates)

-- A run: some of the candidates, as many as it may take or all, by ascending order number. No other candidate has a
-- lower order number than one of them.
pub record IsRun (candidates run : List Candidate) (most : ℕ) : Type 0 where
  pub left : List Candidate
  pub same : IsPermutation candidates (run ++ left)
  pub many : length run ≡ min most (length candidates)
  pub rising : IsNonDecreasingBy (λ c. c.order) run
  pub least : All (λ taken. All (λ other. taken.order ≤ other.order) left) run

-- the containers at the desk that no order waits for; each comes with whether an order waits for it
abbrev pub idle_containers : List (ℕ × Bool) → List ℕ
idle_containers desk = map (λ c. c.0) (filter (λ c. not c.1) desk)

-- the containers that go back to the shelf, ascending
abbrev pub reshelved_containers : List (ℕ × Bool) → List ℕ
reshelved_containers desk = in_order nat_lt (idle_containers desk)
