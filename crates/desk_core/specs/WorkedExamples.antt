-- A run and its slip, worked out by hand.
use Rattle.std.specs.Prelude.{◌≡◌, ℕ, [], ◌∷◌, ◌++◌, codes, pos}
use Rattle.isad_core.specs.Texts.{Bytes}
use Rattle.desk_core.specs.declared.run.Candidate.{Candidate}
use Rattle.desk_core.specs.Runs.{run_of}
use Rattle.desk_core.specs.Slips.{slip}

-- a box in a strongroom, for which an order of ticket 1 waits
abbrev pub waiting : ℕ → ℕ → Bytes → Bytes → Candidate
waiting container order location name = record {
  container = container;
  order = order;
  ticket = 1;
  location = location;
  name = name;
  kind = [];
}

abbrev pub plans : Candidate
plans = waiting 1 1 (codes "Strongroom 2") (codes "Box 1")

abbrev pub minutes : Candidate
minutes = waiting 2 2 (codes "Strongroom 1") (codes "Box 2")

abbrev pub maps : Candidate
maps = waiting 3 3 (codes "Strongroom 1") (codes "Box 3")

-- three containers wait, in any order here, and a run takes two
abbrev pub WorkedRun : Type 0
WorkedRun = run_of (maps ∷ minutes ∷ plans ∷ []) 2 ≡ plans ∷ minutes ∷ []

-- on 1 March 2024
abbrev pub WorkedSlip : Type 0
WorkedSlip =
    slip 1 (pos 19783) (plans ∷ minutes ∷ [])
    ≡ codes "Run 1  2024-03-01" ++ 10
    ∷ codes "Strongroom 1         Box 2                 2        2       1" ++ 10
    ∷ codes "Strongroom 2         Box 1                 1        1       1" ++ 10 ∷ []
