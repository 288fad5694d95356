-- A run and its lines, on the whole desk: first the next number is read, then the run is put, and then a line for each container.
use Rattle.std.proofs.Common.{◌≡◌, ℕ, zero, suc, ◌+◌, ◌<◌, ℤ, pos, Bool, false, ◌&&◌, cond, nat_eq, List, [], ◌∷◌, ◌++◌}
use Rattle.std.proofs.Common.{map, filter, take, get_or, length, Option, Some, None, Result, Ok, Err, OnOk, OnErr, inl}
use Rattle.std.proofs.Common.{inr, refl, sym, ap, subst, ◌∙◌, arith}
use Rattle.std.proofs.lemmas.List.Folds.{list_any-append}
use Rattle.std.specs.List.{IsDistinct}
use Rattle.sqlite_trees.specs.declared.store.Store as store
use Rattle.tree_core.proofs.Lists.{eqb_comm}
use Rattle.office_tables.specs.Schema as tables
use Rattle.desk_store.proofs.Common.{AllByRecursion, ContainerOrder, Database, Desk, Goes, HasCause, HasCleanDisk}
use Rattle.desk_store.proofs.Common.{HasNumbered, Held, IsAborted, IsLegible, IsNumberOf, IsUnlimited, LeavesUnchanged}
use Rattle.desk_store.proofs.Common.{OnlyTouches, PutsRow, RepresentsDesk, RepresentsDeskAlone, RunLineRow, RunRow}
use Rattle.desk_store.proofs.Common.{Spares, State, StoreFault, StoreUpdates, TakesEachOnce, all-append, all-get_or}
use Rattle.desk_store.proofs.Common.{all-map, all_from_map, all_of, and_right, append_assoc, cases_Bool, counted_free}
use Rattle.desk_store.proofs.Common.{counted_more, cut_then, early, goes_then, length-append, line_of_run, list_any}
use Rattle.desk_store.proofs.Common.{looked_spares, ltb-true, makes_well, map_more, most_runs, nat_lt, next_cause}
use Rattle.desk_store.proofs.Common.{next_run, or_from, put_end, put_row, put_rows, run_cells, run_line_cells, state}
use Rattle.desk_store.proofs.Common.{still_numbered, still_unlimited, touched_again, touched_wider, with_run, ⊤}
use Rattle.desk_store.proofs.Frames.{with_runs}
use Rattle.desk_store.proofs.NumbersOf.{widened, none_after}

-- ---- the lines

abbrev pub is_line : ℕ → ℕ → RunLineRow → Bool
is_line run c l = nat_eq run l.run && nat_eq c l.container

-- a run that has no line has none for a container
none_of_run : (run c : ℕ) (ls : List RunLineRow) → filter (λ (l : RunLineRow). nat_eq run l.run) ls ≡ []
    → list_any (is_line run c) ls ≡ false
none_of_run run c [] none = refl
none_of_run run c (l ∷ ls) none =
    let rest = filter (λ (l : RunLineRow). nat_eq run l.run) ls in
    elim (cases_Bool (nat_eq run l.run)) [
      | inl same ↦ absurd (let e : (l ∷ rest) ≡ [] = sym (ap (λ b. cond b (l ∷ rest) rest) same) ∙ none in cc)
      | inr other ↦ rw other (none_of_run run c ls (sym (ap (λ b. cond b (l ∷ rest) rest) other) ∙ none))
    ]

-- the containers before this one are others
not_yet : (run : ℕ) (xs : List ContainerOrder) (i : ℕ) (d : ContainerOrder)
    → IsDistinct nat_eq (map (λ (t : ContainerOrder). t.container) xs) → i < length xs
    → list_any (is_line run (get_or xs i d).container) (map (line_of_run run) (take i xs)) ≡ false
unfolding IsDistinct
not_yet run [] i d apart low = absurd (omega (arith, low))
not_yet run (x ∷ xs) zero d apart low = refl
not_yet run (x ∷ xs) (suc i) d apart low =
    let other : nat_eq (get_or xs i d).container x.container ≡ false = eqb_comm (get_or xs i d).container x.container
    ∙ all-get_or (λ (t : ContainerOrder). nat_eq x.container t.container ≡ false) xs i d (all_from_map (λ c. nat_eq x.container c ≡ false) (λ (t : ContainerOrder). t.container) xs apart.0) (omega (arith, low)) in
    or_from _ _ (and_right (nat_eq run run) _ other) (not_yet run xs i d apart.1 (omega (arith, low)))

pub free_line : (run : ℕ) (ls : List RunLineRow) (xs : List ContainerOrder) (i : ℕ) (d : ContainerOrder)
    → filter (λ (l : RunLineRow). nat_eq run l.run) ls ≡ []
    → IsDistinct nat_eq (map (λ (t : ContainerOrder). t.container) xs) → i < length xs
    → list_any (is_line run (get_or xs i d).container) (ls ++ map (line_of_run run) (take i xs)) ≡ false
free_line run ls xs i d none apart low =
    list_any-append (is_line run (get_or xs i d).container) ls (map (line_of_run run) (take i xs)) ∙ or_from _ _ (none_of_run run (get_or xs i d).container ls none) (not_yet run xs i d apart low)

pub line_more : (run : ℕ) (ls : List RunLineRow) (xs : List ContainerOrder) (i : ℕ) (d : ContainerOrder) → i < length xs
    → ((ls ++ map (line_of_run run) (take i xs)) ++ line_of_run run (get_or xs i d) ∷ []) ≡ (ls ++ map (line_of_run run) (take (i + 1) xs))
line_more run ls xs i d low =
    append_assoc ls (map (line_of_run run) (take i xs)) (line_of_run run (get_or xs i d) ∷ [])
    ∙ ap (λ l. ls ++ l) (sym (map_more (line_of_run run) xs i d low))

-- ---- a run with its lines

-- where there is a next run, it is one more than there were
next_is : (d : Desk) (n : ℕ) → Some n ≡ next_run d → (n ≡ suc (length d.runs)) × (length d.runs < most_runs)
next_is d n h = elim (cases_Bool (nat_lt (length d.runs) most_runs)) [
  | inl left ↦ (let e : Some n ≡ Some (suc (length d.runs)) = h ∙ ap (λ b. cond b (Some (suc (length d.runs))) None) left in let k : n ≡ suc (length d.runs) = cc in k, ltb-true (length d.runs) most_runs left)
  | inr none ↦ absurd (let e : Some n ≡ None = h ∙ ap (λ b. cond b (Some (suc (length d.runs))) None) none in cc)
]

module _ (a b c : State) (run : ℕ) (on : ℤ) (taken : List ContainerOrder) where
  abbrev row : RunRow
  row = record { id = run; day = on }

  pub both_touched : OnlyTouches (tables.run.tree ∷ []) a.now b.now
      → OnlyTouches (tables.run_line.tree ∷ []) b.now c.now
      → OnlyTouches (tables.run.tree ∷ tables.run_line.tree ∷ []) a.now c.now
  both_touched first then =
      touched_again (tables.run.tree ∷ tables.run_line.tree ∷ []) a.now b.now c.now (touched_wider (tables.run.tree ∷ []) (tables.run.tree ∷ tables.run_line.tree ∷ []) a.now b.now refl first) (touched_wider (tables.run_line.tree ∷ []) (tables.run.tree ∷ tables.run_line.tree ∷ []) b.now c.now refl then)

  -- the lines are as they were
  pub lines_still : OnlyTouches (tables.run.tree ∷ []) a.now b.now → (d : Desk) → RepresentsDesk a.now.trees d
      → HasNumbered run_line_cells (b.now.trees tables.run_line.tree) d.run_lines
  lines_still first d shown =
      still_numbered run_line_cells (a.now.trees tables.run_line.tree) (b.now.trees tables.run_line.tree) d.run_lines (first tables.run_line.tree refl refl) shown.run_lines

  pub run_free : (d : Desk) → RepresentsDesk a.now.trees d → Some run ≡ next_run d
      → list_any (λ (r : RunRow). nat_eq run r.id) d.runs ≡ false
  run_free d shown is = counted_free (λ (r : RunRow). r.id) 1 d.runs run shown.run_numbers ((next_is d run is).0 ∙ omega arith)

  -- no line has the run's number yet
  pub no_line : (d : Desk) → RepresentsDesk a.now.trees d → Some run ≡ next_run d
      → filter (λ (l : RunLineRow). nat_eq run l.run) d.run_lines ≡ []
  no_line d shown is = none_after (λ (l : RunLineRow). l.run) d.runs run (let n = (next_is d run is).0 in omega (arith, n)) d.run_lines shown.line_runs

  -- the old lines are of the old runs, and the new ones of this
  lines_known : (d : Desk) → RepresentsDesk a.now.trees d → Some run ≡ next_run d
      → AllByRecursion (λ (l : RunLineRow). IsNumberOf (d.runs ++ row ∷ []) l.run) (d.run_lines ++ map (line_of_run run) taken)
  lines_known d shown is =
      let size = length-append d.runs (row ∷ []) in
      let n = (next_is d run is).0 in
      all-append (λ (l : RunLineRow). IsNumberOf (d.runs ++ row ∷ []) l.run) d.run_lines (map (line_of_run run) taken)
      (widened (λ (l : RunLineRow). l.run) d.runs (d.runs ++ row ∷ []) (omega (arith, size)) d.run_lines shown.line_runs)
      (all-map (λ (l : RunLineRow). IsNumberOf (d.runs ++ row ∷ []) l.run) (line_of_run run) taken (all_of (λ _. IsNumberOf (d.runs ++ row ∷ []) run) (λ _. (omega (arith, n), omega (arith, n, size))) taken))

  pub run_shown : PutsRow tables.run.tree (run_cells row) a.now b.now
      → OnlyTouches (tables.run_line.tree ∷ []) b.now c.now → (d : Desk) → RepresentsDesk a.now.trees d
      → Some run ≡ next_run d
      → HasNumbered run_line_cells (c.now.trees tables.run_line.tree) (d.run_lines ++ map (line_of_run run) taken)
      → RepresentsDesk c.now.trees (with_run (Some run) on taken d)
  run_shown put lines d shown is has =
      let n = next_is d run is in
      let few = n.1 in
      let next : run ≡ 1 + length d.runs = n.0 ∙ omega arith in
      with_runs a.now c.now d shown (d.runs ++ row ∷ []) (d.run_lines ++ map (line_of_run run) taken) (both_touched put.only lines)
      (lines tables.run.tree refl refl ∙ put.rows ∙ ap (put_row (run_cells row)) shown.runs ∙ put_rows run_cells (λ (r : RunRow). pos r.id) (λ _. refl) row d.runs
      ∙ ap (map run_cells) (put_end (λ (r : RunRow). r.id) 1 d.runs row shown.run_numbers next))
      (counted_more (λ (r : RunRow). r.id) 1 d.runs row shown.run_numbers next)
      (let size = length-append d.runs (row ∷ []) in omega (arith, size, few)) has (lines_known d shown is)

-- before the last step the disk was clean too
pub clean_before : {X : Type 0} (b c : State) (r : Result X StoreFault) → OnOk r (Goes b c) → OnErr r (IsAborted b c)
    → HasCleanDisk c → HasCleanDisk b
clean_before b c (Ok x) goes cut clean = early goes.on.crash clean
clean_before b c (Err e) goes cut clean = early cut.crash clean

-- ---- the call

module _ {S : Type 0} (g : store.Ghosts S) (before mid after : Held S) (on : ℤ) (taken : List ContainerOrder) (run : ℕ) where
  abbrev a : State
  a = state g before

  abbrev b : State
  b = state g mid

  abbrev c : State
  c = state g after

  module _ (looked : LeavesUnchanged a b) (is : HasCleanDisk b → (d : Desk) → RepresentsDesk a.now.trees d → Some run ≡ next_run d) where
    still_shown : HasCleanDisk b → (d : Desk) → RepresentsDesk a.now.trees d → RepresentsDesk b.now.trees d
    still_shown clean d shown = subst (λ (db : Database). RepresentsDesk db.trees d) (sym (looked.same clean)) shown

    pub recorded : Goes b c
        → (HasCleanDisk c → (d : Desk) → RepresentsDesk b.now.trees d → Some run ≡ next_run d → RepresentsDesk c.now.trees (with_run (Some run) on taken d))
        → (HasCleanDisk c → OnlyTouches (tables.run.tree ∷ tables.run_line.tree ∷ []) b.now c.now)
        → StoreUpdates g (tables.run.tree ∷ tables.run_line.tree ∷ []) RepresentsDeskAlone before after (Ok (Some run)) (λ _. ⊤) (λ d. IsLegible d × TakesEachOnce taken) (λ d. with_run (next_run d) on taken d)
    recorded goes represents only =
        let back = early goes.on.crash in
        makes_well (goes_then looked.goes goes)
        (λ clean. subst (λ (db : Database). OnlyTouches (tables.run.tree ∷ tables.run_line.tree ∷ []) db c.now) (looked.same (back clean)) (only clean))
        (λ clean beside d shown may.
        let at = is (back clean) d shown in
        subst (λ o. RepresentsDesk c.now.trees (with_run o on taken d)) at (represents clean d (still_shown (back clean) d shown) at))

    pub not_recorded : (e : StoreFault) → IsAborted b c
        → (HasCleanDisk c → Spares (OnlyTouches (tables.run.tree ∷ tables.run_line.tree ∷ [])) b c e)
        → ((d : Desk) → RepresentsDesk b.now.trees d → Some run ≡ next_run d → TakesEachOnce taken → HasCleanDisk c → IsUnlimited b → HasCause b c e)
        → StoreUpdates {X = Option ℕ} g (tables.run.tree ∷ tables.run_line.tree ∷ []) RepresentsDeskAlone before after (Err e) (λ _. ⊤) (λ d. IsLegible d × TakesEachOnce taken) (λ d. with_run (next_run d) on taken d)
    not_recorded e cut spares why = record {
      call = record {
        represents_updated = λ clean beside d shown may. tt;
        only = λ clean. tt;
        goes = tt;
        aborts = cut_then looked.goes.on cut;
        faults = λ beside d shown may kept clean free. next_cause a b c looked.goes.on cut clean e (λ cleaner. why d (still_shown cleaner d shown) (is cleaner d shown) kept.1 clean (still_unlimited a b looked.goes.on free));
      };
      spares = λ clean. looked_spares looked (early cut.crash clean) e (spares clean);
    }
