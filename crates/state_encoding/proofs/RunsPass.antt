-- The rows of runs of a sound state are good, and its day's rules hold.
use Rattle.std.proofs.Common.{◌≡◌, ℕ, suc, ◌+◌, true, false, not, ◌&&◌, List, [], ◌∷◌, length, Option, Some, None, refl}
use Rattle.std.proofs.Common.{sym, ap, ◌∙◌, inl, inr, arith}
use Rattle.std.specs.Prelude.{map, nat_eq}
use Rattle.state_encoding.proofs.Common.{IsDayNumber, IsGoodLine, IsSound, Line, Order, OrderRow, Run, RunLineRow}
use Rattle.state_encoding.proofs.Common.{RunRow, StandsIn, State, Version, and_from, are_good_runs, are_numbered_from}
use Rattle.state_encoding.proofs.Common.{around, containers, count_by, day_is_broken, filter, held_count, holds_well}
use Rattle.state_encoding.proofs.Common.{int_le, is_day_number, is_day_number-true, is_good_line, is_good_run}
use Rattle.state_encoding.proofs.Common.{is_held_against_rules, is_order_of_line, is_seated, is_some, le-leb}
use Rattle.state_encoding.proofs.Common.{length-filter, length-map, line_from, lines_from, list_all, list_any}
use Rattle.state_encoding.proofs.Common.{most_runs, nat_le, nth, opens, option_and_then, option_map, order_out}
use Rattle.state_encoding.proofs.Common.{run_from, run_line_row, run_line_rows, run_row, run_rows, same_number}
use Rattle.state_encoding.proofs.Common.{slice_get, some_and, tables}
use Rattle.state_encoding.proofs.ReadBack.{runs_back}
use Rattle.state_encoding.proofs.Whole.{says_the_state}
use Rattle.state_encoding.proofs.Members.{all_in, none_of_in, tests_of_in, in_append, in_map}
use Rattle.state_encoding.proofs.NumberedRows.{rows_are_numbered, length-rows, in_rows, numbered_in, numbered-map}
use Rattle.state_encoding.proofs.NumberedRows.{numbered-rows}
use Rattle.state_encoding.proofs.DeskLookups.{order_there, run_there, between, not_later}

-- a line row is a line of a run
pub in_lines_from : (n : ℕ) (runs : List Run) (r : RunLineRow) → StandsIn r (lines_from n runs)
    → (j : ℕ) × (run : Run) × (line : Line) × (slice_get runs j ≡ Some run) × StandsIn line run.lines × (r ≡ run_line_row (n + j) line)
in_lines_from n [] r k = absurd k
in_lines_from n (run ∷ runs) r k =
    elim (in_append (map (run_line_row n) run.lines) (lines_from (suc n) runs) r k) [
      | inl l ↦
          let i = in_map (run_line_row n) run.lines r l in
          let z : n ≡ n + 0 = omega arith in
          (0, run, i.0, refl, i.1, i.2 ∙ ap (λ m. run_line_row m i.0) z)
      | inr l ↦
          let i = in_lines_from (suc n) runs r l in
          let z : suc n + i.0 ≡ n + suc i.0 = omega arith in
          (suc i.0, i.1, i.2, i.3, i.4, i.5 ∙ ap (λ m. run_line_row m i.2) z)
    ]

pub in_lines : (runs : List Run) (r : RunLineRow) → StandsIn r (lines_from 1 runs)
    → (m : ℕ) × (run : Run) × (line : Line) × (nth runs m ≡ Some run) × StandsIn line run.lines × (r ≡ run_line_row m line)
in_lines runs r k =
    let i = in_lines_from 1 runs r k in
    let z : 1 + i.0 ≡ suc i.0 = omega arith in
    (suc i.0, i.1, i.2, i.3, i.4, i.5 ∙ ap (λ m. run_line_row m i.2) z)

of_container : (r : Option Order) (c : ℕ) → option_map (λ order. order.container) r ≡ Some c
    → some_and (λ order. nat_eq order.container c) r ≡ true
of_container None c e = absurd (cc)
of_container (Some order) c e = let k : order.container ≡ c = cc in ap (λ n. nat_eq n c) k ∙ same_number c

both_of : (r : Option Order) (c t : ℕ) → some_and (λ order. nat_eq order.container c) r ≡ true
    → some_and (λ order. nat_eq order.ticket t) r ≡ true
    → some_and (λ order. nat_eq order.container c && nat_eq order.ticket t) r ≡ true
both_of None c t a b = a
both_of (Some order) c t a b = and_from (nat_eq order.container c) (nat_eq order.ticket t) a b

module _ (version : Version) (s : State) (g : IsSound s) where
  lines_count : (n : ℕ) (run : Run) → nth s.runs n ≡ Some run
      → count_by (λ (line : RunLineRow). nat_eq line.run n) (run_line_rows s) ≡ length run.lines
  lines_count n run e =
      let rows = run_line_rows s in
      let mine = filter (λ (line : RunLineRow). nat_eq line.run n) rows in
      let a : option_map (λ (r : Run). length r.lines) (nth (map (run_from rows) (run_rows s)) n) ≡ Some (length run.lines) =
      ap (λ runs. option_map (λ (r : Run). length r.lines) (nth runs n)) (runs_back s.runs)
      ∙ ap (option_map (λ (r : Run). length r.lines)) e in
      let b : nth (map (run_from rows) (run_rows s)) n ≡ Some (run_from rows (run_row n run)) =
      numbered-map (run_from rows) (run_rows s) n
      ∙ ap (option_map (run_from rows)) (numbered-rows run_row s.runs n ∙ ap (option_map (run_row n)) e) in
      let c : Some (length (map line_from mine)) ≡ Some (length run.lines) =
      sym (ap (option_map (λ (r : Run). length r.lines)) b) ∙ a in
      let d : length (map line_from mine) ≡ length run.lines = cc in
      sym (length-filter (λ (line : RunLineRow). nat_eq line.run n) rows) ∙ (sym (length-map mine line_from) ∙ d)

  good_run_of : (n : ℕ) (run : Run) → nth s.runs n ≡ Some run
      → is_good_run (around (tables version s)) (tables version s).desk (run_row n run) ≡ true
  good_run_of n run e =
      let t = tables version s in
      let it = g.desk.runs.each n run e in
      let some = it.some in
      let few = it.few in
      let count = lines_count n run e in
      and_from (is_day_number run.day) _ (is_day_number-true run.day (all_in (λ run. IsDayNumber run.day) s.runs run g.days.runs (numbered_in s.runs n run e)))
      (and_from (int_le run.day s.day) _ (not_later run.day s.day it.day)
      (between 1 s.settings.run_size (count_by (λ (line : RunLineRow). nat_eq line.run n) t.desk.run_lines) (omega (arith, some, count)) (omega (arith, few, count))))

  good_run : (r : RunRow) → StandsIn r (run_rows s)
      → is_good_run (around (tables version s)) (tables version s).desk r ≡ true
  good_run r k =
      let i = in_rows run_row s.runs r k in
      ap (is_good_run (around (tables version s)) (tables version s).desk) i.3 ∙ good_run_of i.0 i.1 i.2

  good_line_of : (n : ℕ) (run : Run) (line : Line) → nth s.runs n ≡ Some run → StandsIn line run.lines
      → is_good_line (tables version s).desk (run_line_row n line) ≡ true
  good_line_of n run line e k =
      let t = tables version s in
      let it = all_in (IsGoodLine s) run.lines line (g.desk.runs.each n run e).lines k in
      and_from (list_any (λ (row : RunRow). nat_eq row.id n) t.desk.runs) (list_any (is_order_of_line (run_line_row n line)) t.desk.orders) (run_there version s n ∙ ap is_some e)
      (order_there version s (λ (row : OrderRow). nat_eq row.container line.container && nat_eq row.ticket line.ticket) line.order
      ∙ both_of (nth s.orders line.order) line.container line.ticket (of_container (nth s.orders line.order) line.container it.order) it.ticket)

  good_line : (r : RunLineRow) → StandsIn r (run_line_rows s) → is_good_line (tables version s).desk r ≡ true
  good_line r k =
      let i = in_lines s.runs r k in
      ap (is_good_line (tables version s).desk) i.5 ∙ good_line_of i.0 i.1 i.2 i.3 i.4

  pub runs_pass : are_good_runs (around (tables version s)) (tables version s).desk ≡ true
  runs_pass =
      let t = tables version s in
      let few = g.desk.runs.few in
      let count = length-rows run_row 1 s.runs in
      and_from (are_numbered_from (λ (row : RunRow). row.id) 1 t.desk.runs) _ (rows_are_numbered run_row (λ row. row.id) (λ n x. refl) 1 s.runs)
      (and_from (nat_le (length t.desk.runs) most_runs) _ (le-leb (length t.desk.runs) most_runs (omega (arith, few, count)))
      (and_from (list_all (is_good_run (around t) t.desk) t.desk.runs) _ (tests_of_in (is_good_run (around t) t.desk) t.desk.runs good_run) (tests_of_in (is_good_line t.desk) t.desk.run_lines good_line)))

  -- ---- the day

  well_held : (c : ℕ) (o : Option ℕ) → order_out (s.place c) ≡ o
      → some_and (λ ticket. not (holds_well s c ticket)) (option_and_then (λ o. option_map (λ order. order.ticket) (nth s.orders o)) o) ≡ false
  well_held c None e = refl
  well_held c (Some o) e = at (nth s.orders o) refl
    where
      at : (r : Option Order) → nth s.orders o ≡ r
          → some_and (λ ticket. not (holds_well s c ticket)) (option_map (λ order. order.ticket) r) ≡ false
      at None q = refl
      at (Some order) q =
          let it = g.desk.places.holders c o order e q in
          ap not (and_from (is_seated s order.ticket) _ it.seated (and_from (nat_le (held_count s order.ticket) s.settings.hands) (opens s order.ticket c) (le-leb (held_count s order.ticket) s.settings.hands it.few) it.may_see))

  pub day_passes : day_is_broken (tables version s) ≡ false
  day_passes =
      ap (λ s. list_any (is_held_against_rules s) (containers s)) (says_the_state version s g)
      ∙ none_of_in (is_held_against_rules s) (containers s) (λ c k. well_held c (order_out (s.place c)) refl)
