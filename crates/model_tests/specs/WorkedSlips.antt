-- Runs, what goes back to the shelf, and the order and the columns of a slip, worked out by hand.
use Rattle.std.specs.Prelude.{◌≡◌, ◌++◌, ℕ, List, [], ◌∷◌, codes, map, pos, true, false}
use Rattle.isad_core.specs.Texts.{Bytes}
use Rattle.desk_core.specs.declared.run.Candidate.{Candidate}
use Rattle.desk_core.specs.Runs.{reshelved_containers, run_of}
use Rattle.desk_core.specs.Slips.{slip}

abbrev pub candidate : (container order ticket : ℕ) → (location name kind : Bytes) → Candidate
candidate container order ticket location name kind =
    record { container = container; order = order; ticket = ticket; location = location; name = name; kind = kind }

-- in UTF-8, where the second letter has two bytes
abbrev pub saelar : Bytes
saelar = 83 ∷ 195 ∷ 164 ∷ codes "lar"

-- two boxes with the same name and kind, one of another kind, one of an earlier name, and two in other places: a roll
-- with a name too long for its column, and a box in a place with a letter of two bytes
abbrev pub run_lines : List Candidate
run_lines = candidate 2 6 1 saelar (codes "A") (codes "a") ∷ candidate 4 5 1 (codes "Safe") (codes "Box 2") (codes "b")
    ∷ candidate 5 4 1 (codes "Safe") (codes "Box 2") (codes "a") ∷ candidate 3 3 333 (codes "Safe") (codes "Box 2") (codes "a")
    ∷ candidate 6 2 22 (codes "Safe") (codes "Box 1") (codes "c")
    ∷ candidate 7 12345678 1 (codes "Reading room") (codes "Minutes of meetings") (codes "z") ∷ []

pub record Slipped : Type 0 where
  pub run : map (λ (taken : Candidate). taken.order) (run_of run_lines 4) ≡ 2 ∷ 3 ∷ 4 ∷ 5 ∷ []
  pub whole_run : map (λ (taken : Candidate). taken.order) (run_of run_lines 7) ≡ 2 ∷ 3 ∷ 4 ∷ 5 ∷ 6 ∷ 12345678 ∷ []
  pub shelf : reshelved_containers ((9, false) ∷ (4, true) ∷ (2, false) ∷ (5, false) ∷ (1, true) ∷ []) ≡ 2 ∷ 5 ∷ 9 ∷ []
  pub shelves : slip 12 (pos 19783) run_lines
      ≡ codes "Run 12  2024-03-01\n"
      ++ codes "Reading room         Minutes of meetings      7 12345678       1\n"
      ++ codes "Safe                 Box 1                 6        2      22\n"
      ++ codes "Safe                 Box 2                 3        3     333\n"
      ++ codes "Safe                 Box 2                 5        4       1\n"
      ++ codes "Safe                 Box 2                 4        5       1\n"
      ++ saelar ++ codes "                A                     2        6       1\n"
