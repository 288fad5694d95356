-- What is told of a run is what the rules tell of it.
use Rattle.std.proofs.Common.{◌≡◌, ◌⊎◌, ℕ, suc, ◌<◌, true, nat_eq, List, [], ◌∷◌, ◌++◌, map, Option, Some, None, inl}
use Rattle.std.proofs.Common.{inr, refl, sym, ap, subst, ◌∙◌}
use Rattle.std.proofs.lemmas.List.Sorted.{IsPermutation-map}
use Rattle.std.specs.List.Sorted.{IsPermutation}
use Rattle.std.specs.Prelude.{ℤ}
use Rattle.sqlite_trees.proofs.ListLemmas.{IsPermutation-flat_map}
use Rattle.isad_core.specs.declared.values.BoxKey.{BoxKey}
use Rattle.desk_core.specs.declared.run.Candidate.{Candidate}
use Rattle.catalogue_core.specs.Members.{StandsIn}
use Rattle.office_tables.proofs.Rows.{same_test}
use Rattle.desk_store.specs.Runs.{IsCandidate, lines_of, run_with}
use Rattle.desk_store.specs.Storage.{AreKnown, IsBrought, IsKnownLine, IsToldLine, IsToldRun, container_with}
use Rattle.desk_store.specs.declared.runs.Brought.{Brought}
use Rattle.office_core.specs.declared.query.Answer.{Answer}
use Rattle.office_core.specs.declared.query.Query.TheVariants as query
use Rattle.state_encoding.proofs.DeskLookups.{flipped, some_is}
use Rattle.state_encoding.proofs.Members.{all_in, all_of_in, in_append, in_filter, in_map}
use Rattle.state_encoding.proofs.NumberedRows.{numbered-map, numbered-rows, stands_at}
use Rattle.state_encoding.proofs.ReadBack.{runs_back}
use Rattle.refinement.proofs.RowsOfLists.{found_row}
use Rattle.desk_queries.proofs.Common.{AllByRecursion, AllZip, ByContainer, IsGoodLine, IsSoundOffice, Line, Order, Run}
use Rattle.desk_queries.proofs.Common.{RunLineRow, RunRow, State, Text, Unknown, UnknownRun, Version, answer, box_row}
use Rattle.desk_queries.proofs.Common.{candidate_of, cons_option, filter_map, flat_map, has_container, is_container}
use Rattle.desk_queries.proofs.Common.{line_from, lines_from, map-map, nth, option_map, rows_from, run_answer, run_from}
use Rattle.desk_queries.proofs.Common.{run_line_row, run_row, slip, storage_of, tables}
use Rattle.desk_queries.proofs.SlipTold.{Rise, same_slip}

-- what the slip says where no line is told
abbrev pub told_slip : ℕ → Option Brought → Answer
told_slip n None = Unknown UnknownRun
told_slip n (Some told) = Text (slip n told.day told.lines)

-- those that there are, as a list of lists
each_some : {X Y : Type 0} (f : X → Option Y) (xs : List X) → filter_map f xs ≡ flat_map (λ x. cons_option (f x) []) xs
each_some {X} {Y} f [] = refl
each_some {X} {Y} f (x ∷ xs) = at (f x) (each_some f xs)
  where
    at : (y : Option Y) → filter_map f xs ≡ flat_map (λ x. cons_option (f x) []) xs
        → cons_option y (filter_map f xs) ≡ cons_option y [] ++ flat_map (λ x. cons_option (f x) []) xs
    at None e = e
    at (Some y) e = ap (λ l. y ∷ l) e

module _ (version : Version) (s : State) (sound : IsSoundOffice s) where
  -- ---- the lines

  told_line : (l : RunLineRow) (c : Candidate) → IsCandidate (storage_of version s).containers l c
      → candidate_of s (line_from l) ≡ Some c
  told_line l c it = at (nth s.catalogue.containers l.container) (sym (box_row version s l.container) ∙ it.known)
    where
      at : (box : Option BoxKey)
          → option_map (λ (b : BoxKey). (let x : ℕ × BoxKey = (l.container, b) in x)) box ≡ Some (let x : ℕ × BoxKey = (l.container, it.box) in x)
          → option_map (λ (b : BoxKey). (let c : Candidate = record { container = l.container; order = l.order_no; ticket = l.ticket; location = b.location; name = b.name; kind = b.kind } in c)) box ≡ Some c
      at None e = absurd (cc)
      at (Some box) e =
          let second : Some box ≡ Some it.box = ap (option_map (λ (x : ℕ × BoxKey). x.1)) e in
          let same : box ≡ it.box = cc in
          ap (λ (b : BoxKey). Some (let c : Candidate = record { container = l.container; order = l.order_no; ticket = l.ticket; location = b.location; name = b.name; kind = b.kind } in c)) same ∙ ap Some (sym it.is)

  module _ {T : Type 0} (Answers : T → Candidate → Type 0) (line : T → Line) (answers : (l : T) (c : Candidate) → Answers l c → candidate_of s (line l) ≡ Some c) where
    told_lines : (ls : List T) (cs : List Candidate) → AllZip Answers ls cs
        → filter_map (candidate_of s) (map line ls) ≡ cs
    told_lines [] [] all = refl
    told_lines [] (c ∷ cs) all = absurd all
    told_lines (l ∷ ls) [] all = absurd all
    told_lines (l ∷ ls) (c ∷ cs) all =
        ap (λ o. cons_option o (filter_map (candidate_of s) (map line ls))) (answers l c all.0) ∙ ap (λ k. c ∷ k) (told_lines ls cs all.1)

    -- the lines in whatever order, each with what is written on its container
    mixed_lines : (ls : List T) (cs : List Candidate) (rows : List RunLineRow) (taken : RunLineRow → T)
        → IsPermutation (map taken rows) ls → AllZip Answers ls cs
        → (lines : List Line) → map (λ (r : RunLineRow). line (taken r)) rows ≡ lines
        → IsPermutation (filter_map (candidate_of s) lines) cs
    mixed_lines ls cs rows taken same all lines are =
        let moved : IsPermutation lines (map line ls) =
        subst (λ (l : List Line). IsPermutation l (map line ls)) (map-map line taken rows ∙ are) (IsPermutation-map line (map taken rows) ls same) in
        let mixed = IsPermutation-flat_map (λ (x : Line). cons_option (candidate_of s x) []) lines (map line ls) moved in
        subst (λ l. IsPermutation l cs) (sym (each_some (candidate_of s) lines))
        (subst (IsPermutation (flat_map (λ (x : Line). cons_option (candidate_of s x) []) lines)) (sym (each_some (candidate_of s) (map line ls)) ∙ told_lines ls cs all) mixed)

  -- the rows of a run are its lines
  rows_told : (n : ℕ) (run : Run) → nth s.runs n ≡ Some run
      → map line_from (lines_of n (tables version s).desk) ≡ run.lines
  rows_told n run is =
      let all = lines_from 1 s.runs in
      let again : Some (run_from all (run_row n run)) ≡ Some run =
      sym (ap (option_map (run_from all)) (numbered-rows run_row s.runs n ∙ ap (option_map (run_row n)) is))
      ∙ sym (numbered-map (run_from all) (rows_from run_row 1 s.runs) n)
      ∙ ap (λ (runs : List Run). nth runs n) (runs_back s.runs) ∙ is in
      let same : run_from all (run_row n run) ≡ run = cc in
      ap (map line_from) (same_test (λ (l : RunLineRow). nat_eq n l.run) (λ (l : RunLineRow). nat_eq l.run n) (λ l. flipped n l.run) all)
      ∙ ap (λ (r : Run). r.lines) same

  -- ---- each container is on a slip once

  later : (k : ℕ) (ls : List Line) → AllByRecursion (λ (l : Line). k < l.container) ls
      → AllByRecursion (λ (c : Candidate). k < c.container) (filter_map (candidate_of s) ls)
  later k [] all = tt
  later k (l ∷ ls) all = at (nth s.catalogue.containers l.container) (later k ls all.1)
    where
      at : (box : Option BoxKey) → AllByRecursion (λ (c : Candidate). k < c.container) (filter_map (candidate_of s) ls)
          → AllByRecursion (λ (c : Candidate). k < c.container)
          (cons_option (option_map (λ (b : BoxKey). (let c : Candidate = record { container = l.container; order = l.order; ticket = l.ticket; location = b.location; name = b.name; kind = b.kind } in c)) box) (filter_map (candidate_of s) ls))
      at None rest = rest
      at (Some box) rest = (all.0, rest)

  rise : (ls : List Line) → ByContainer ls → Rise (filter_map (candidate_of s) ls)
  rise [] by = tt
  rise (l ∷ ls) by = at (nth s.catalogue.containers l.container) (later l.container ls by.0) (rise ls by.1)
    where
      at : (box : Option BoxKey)
          → AllByRecursion (λ (c : Candidate). l.container < c.container) (filter_map (candidate_of s) ls)
          → Rise (filter_map (candidate_of s) ls)
          → Rise (cons_option (option_map (λ (b : BoxKey). (let c : Candidate = record { container = l.container; order = l.order; ticket = l.ticket; location = b.location; name = b.name; kind = b.kind } in c)) box) (filter_map (candidate_of s) ls))
      at None above rest = rest
      at (Some box) above rest = (above, rest)

  -- ---- the slip

  brought : (n : ℕ) (run : Run) (told : Brought) → nth s.runs n ≡ Some run
      → IsBrought (storage_of version s) (run_row n run) told
      → Text (slip n told.day told.lines) ≡ Text (slip n run.day (filter_map (candidate_of s) run.lines))
  brought n run told is it =
      let good = sound.sound.desk.runs.each n run is in
      let mixed = mixed_lines (IsToldLine (storage_of version s)) (λ l. record { container = l.container; order = l.order; ticket = l.ticket })
      (λ l c answers. told_line (record { run = 0; container = l.container; order_no = l.order; ticket = l.ticket }) c answers) it.lines told.lines (lines_of n (tables version s).desk)
      (λ (l : RunLineRow). record { container = l.container; order = l.order_no; ticket = l.ticket }) it.are it.tell run.lines (rows_told n run is) in
      ap (λ (day : ℤ). Text (slip n day told.lines)) it.day
      ∙ ap Text (same_slip n run.day (filter_map (candidate_of s) run.lines) told.lines (rise run.lines good.by_container) mixed)

  pub run_told : (n : ℕ) (found : Option Brought)
      → IsToldRun (storage_of version s) (run_with n (storage_of version s).desk) found
      → told_slip n found ≡ answer s (query.RunSlip n)
  run_told n found it =
      at (nth s.runs n) refl found (subst (λ (row : Option RunRow). IsToldRun (storage_of version s) row found) (found_row run_row (λ (r : RunRow). r.id) (λ n x. refl) n s.runs) it)
    where
      at : (run : Option Run) → nth s.runs n ≡ run → (found : Option Brought)
          → IsToldRun (storage_of version s) (option_map (run_row n) run) found → told_slip n found ≡ run_answer s n run
      at None is found it = ap (told_slip n) it
      at (Some run) is None it = absurd it
      at (Some run) is (Some told) it = brought n run told is it

  -- ---- the containers of a run's lines are known

  known_line : (l : Line) → IsGoodLine s l → is_container s l.container ≡ true
  known_line l good = at (nth s.orders l.order) refl good.order
    where
      at : (order : Option Order) → nth s.orders l.order ≡ order
          → option_map (λ (order : Order). order.container) order ≡ Some l.container → is_container s l.container ≡ true
      at None is e = absurd (cc)
      at (Some order) is e =
          let same : order.container ≡ l.container = cc in
          subst (λ c. is_container s c ≡ true) same (sound.sound.desk.orders.each l.order order is).container

  in_lines : (m : ℕ) (runs : List Run) → ((run : Run) → StandsIn run runs → AllByRecursion (IsGoodLine s) run.lines)
      → (row : RunLineRow) → StandsIn row (lines_from m runs) → is_container s row.container ≡ true
  in_lines m [] good row k = absurd k
  in_lines m (run ∷ runs) good row k =
      at (in_append (map (run_line_row m) run.lines) (lines_from (suc m) runs) row k) (in_lines (suc m) runs (λ r i. good r (inr i)) row)
    where
      at : StandsIn row (map (run_line_row m) run.lines) ⊎ StandsIn row (lines_from (suc m) runs)
          → (StandsIn row (lines_from (suc m) runs) → is_container s row.container ≡ true)
          → is_container s row.container ≡ true
      at (inl here) rest =
          let i = in_map (run_line_row m) run.lines row here in
          subst (λ (r : RunLineRow). is_container s r.container ≡ true) (sym i.2) (known_line i.0 (all_in (IsGoodLine s) run.lines i.0 (good run (inl refl)) i.1))
      at (inr there) rest = rest there

  pub lines_known : (n : ℕ) → AreKnown n (storage_of version s)
  lines_known n =
      all_of_in (λ (l : RunLineRow). IsKnownLine (record { container = l.container; order = l.order_no; ticket = l.ticket }) (storage_of version s)) (lines_of n (tables version s).desk) (λ l k.
      let there = (in_filter (λ (l : RunLineRow). nat_eq n l.run) (lines_from 1 s.runs) l k).0 in
      let known = in_lines 1 s.runs (λ run i. let at = stands_at s.runs run i in (sound.sound.desk.runs.each at.0 run at.1).lines) l there in
      some_is (container_with l.container (storage_of version s)) (has_container version s l.container ∙ known))
