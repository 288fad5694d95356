-- What is told of a run: its day is read, then its lines, and then what is written on their containers.
use Rattle.std.proofs.Common.{◌≡◌, ℕ, List, [], ◌∷◌, map, Option, Some, None, refl, sym, ap, subst}
use Rattle.std.proofs.lemmas.List.Sorted.{All-permutation}
use Rattle.desk_core.specs.declared.run.Candidate.{Candidate}
use Rattle.desk_store.specs.declared.run_lines.RunDay.{RunDay}
use Rattle.desk_store.proofs.Common.{All-from_recursion, AllByRecursion, AllZip, AreKnown, ContainerOrder, IsKnownLine}
use Rattle.desk_store.proofs.Common.{IsPermutation, IsToldLine, IsToldRun, RunLineRow, RunRow, Storage, lines_of}
use Rattle.desk_store.proofs.Common.{option_map, recursion_from_All, run_with}
use Rattle.desk_store.proofs.BroughtRows.{day_of, same_run}
use Rattle.desk_store.proofs.RunRows.{taken_line}

pub none_told : (s : Storage) (row : Option RunRow) → option_map day_of row ≡ None → IsToldRun s row None
none_told s None is = refl
none_told s (Some r) is = absurd (cc)

pub run_told : (n : ℕ) (s : Storage) (row : Option RunRow) (made : RunDay) (lines : List ContainerOrder) (told : List Candidate)
    → run_with n s.desk ≡ row → option_map day_of row ≡ Some made
    → IsPermutation (map taken_line (lines_of n s.desk)) lines → AllZip (IsToldLine s) lines told
    → IsToldRun s row (Some (record { day = made.day; lines = told }))
run_told n s None made lines told found is are tell = absurd (cc)
run_told n s (Some r) made lines told found is are tell =
    let same : day_of r ≡ made = cc in
    record {
      day = ap (λ (d : RunDay). d.day) (sym same);
      lines = lines;
      are = subst (λ m. IsPermutation (map taken_line (lines_of m s.desk)) lines) (same_run n s.desk.runs r found) are;
      tell = tell;
    }

mapped : (s : Storage) (ls : List RunLineRow) → AllByRecursion (λ (l : RunLineRow). IsKnownLine (taken_line l) s) ls
    → AllByRecursion (λ l. IsKnownLine l s) (map taken_line ls)
mapped s [] all = tt
mapped s (l ∷ ls) all = (all.0, mapped s ls all.1)

pub known_lines : (n : ℕ) (s : Storage) (lines : List ContainerOrder)
    → IsPermutation (map taken_line (lines_of n s.desk)) lines → AreKnown n s
    → AllByRecursion (λ l. IsKnownLine l s) lines
known_lines n s lines same all =
    recursion_from_All (λ l. IsKnownLine l s) lines (All-permutation (λ l. IsKnownLine l s) (map taken_line (lines_of n s.desk)) lines same
    (All-from_recursion (λ l. IsKnownLine l s) (map taken_line (lines_of n s.desk)) (mapped s (lines_of n s.desk) all)))
