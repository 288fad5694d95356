-- Runs whose rows pass are sound, and show those rows again.
use Rattle.std.proofs.Common.{◌≡◌, ℕ, suc, ◌<◌, ◌≤◌, true, ◌&&◌, List, [], ◌∷◌, ◌++◌, length, Option, Some, None, refl}
use Rattle.std.proofs.Common.{sym, ap, ◌∙◌, subst, inl, inr, arith}
use Rattle.std.specs.Prelude.{map, nat_eq}
use Rattle.catalogue_core.specs.Sources.{is_between}
use Rattle.state_encoding.proofs.Common.{AllByRecursion, AreGoodRuns, AreInOrder, ByContainer, IsDayNumber, IsGoodLine}
use Rattle.state_encoding.proofs.Common.{IsGoodRun, Line, MeetsDeskKeys, OfficeRows, Order, OrderRow, Run, RunLineRow}
use Rattle.state_encoding.proofs.Common.{RunRow, StandsIn, State, and_parts, are_good_runs, are_numbered_from, around}
use Rattle.state_encoding.proofs.Common.{container_of, count_by, eqb-true, false≢true, filter, flat_map, flat_map-cons}
use Rattle.state_encoding.proofs.Common.{int_le, is_by, is_day_number, is_day_number-so, is_good_line, is_good_run}
use Rattle.state_encoding.proofs.Common.{is_order_of_line, leb-true, length-filter, length-map, line_from, lines_from}
use Rattle.state_encoding.proofs.Common.{list_all, list_any, most_runs, nat_le, nth, numbered_from_one, numbered_within}
use Rattle.state_encoding.proofs.Common.{numbers_from, option_map, order_from, run_from, run_line_row, run_line_rows}
use Rattle.state_encoding.proofs.Common.{run_row, run_rows, some_and, state_of, ◌≤ℤ◌}
use Rattle.state_encoding.proofs.Members.{all_of_in, in_map, in_filter, test_in}
use Rattle.state_encoding.proofs.NumberedRows.{known_numbered, any_numbered, numbered_in, numbered-map, rows_again}
use Rattle.state_encoding.proofs.DeskKeys.{LineBefore}
use Rattle.state_encoding.proofs.DeskLookups.{is_between_so, is_not_later, some_and-map}
use Rattle.state_encoding.proofs.Grouped.{order_weaker, order-filter, order-map, grouped_all}
use Rattle.state_encoding.proofs.DeskParts.{OrdersParts, said_by}

pub record RunParts (t : OfficeRows) : Type 0 where
  pub numbered : are_numbered_from (λ (row : RunRow). row.id) 1 t.desk.runs ≡ true
  pub few : length t.desk.runs ≤ most_runs
  pub days : (row : RunRow) → StandsIn row t.desk.runs → IsDayNumber row.day × (row.day ≤ℤ t.office.day)
  pub counts : (row : RunRow) → StandsIn row t.desk.runs → let lines = count_by (λ (line : RunLineRow). nat_eq line.run row.id) t.desk.run_lines in (1 ≤ lines) × (lines ≤ t.office.run_size)
  pub known : (line : RunLineRow) → StandsIn line t.desk.run_lines
      → list_any (λ (row : RunRow). nat_eq row.id line.run) t.desk.runs ≡ true
  pub orders : (line : RunLineRow) → StandsIn line t.desk.run_lines
      → list_any (is_order_of_line line) t.desk.orders ≡ true

pub run_parts : (t : OfficeRows) → are_good_runs (around t) t.desk ≡ true → RunParts t
run_parts t h =
    let a = and_parts (are_numbered_from (λ (row : RunRow). row.id) 1 t.desk.runs) (nat_le (length t.desk.runs) most_runs && (list_all (is_good_run (around t) t.desk) t.desk.runs && list_all (is_good_line t.desk) t.desk.run_lines)) h in
    let b = and_parts (nat_le (length t.desk.runs) most_runs) (list_all (is_good_run (around t) t.desk) t.desk.runs && list_all (is_good_line t.desk) t.desk.run_lines) a.1 in
    let c = and_parts (list_all (is_good_run (around t) t.desk) t.desk.runs) (list_all (is_good_line t.desk) t.desk.run_lines) b.1 in
    let run = λ (row : RunRow) (l : StandsIn row t.desk.runs). and_parts (is_day_number row.day) (int_le row.day t.office.day && is_between 1 t.office.run_size (count_by (λ (line : RunLineRow). nat_eq line.run row.id) t.desk.run_lines)) (test_in (is_good_run (around t) t.desk) t.desk.runs row c.0 l) in
    let rest = λ (row : RunRow) (l : StandsIn row t.desk.runs). and_parts (int_le row.day t.office.day) (is_between 1 t.office.run_size (count_by (λ (line : RunLineRow). nat_eq line.run row.id) t.desk.run_lines)) (run row l).1 in
    let line = λ (row : RunLineRow) (l : StandsIn row t.desk.run_lines). and_parts (list_any (λ (r : RunRow). nat_eq r.id row.run) t.desk.runs) (list_any (is_order_of_line row) t.desk.orders) (test_in (is_good_line t.desk) t.desk.run_lines row c.1 l) in
    record {
      numbered = a.0;
      few = leb-true (length t.desk.runs) most_runs b.0;
      days = λ row l. (is_day_number-so row.day (run row l).0, is_not_later row.day t.office.day (rest row l).0);
      counts = λ row l. is_between_so 1 t.office.run_size (count_by (λ (line : RunLineRow). nat_eq line.run row.id) t.desk.run_lines) (rest row l).1;
      known = λ row l. (line row l).0;
      orders = λ row l. (line row l).1;
    }

-- the order of a line, by its number
line_order : (s : State) (o c ticket : ℕ) (r : Option Order) → nth s.orders o ≡ r
    → some_and (λ (order : Order). nat_eq order.container c && nat_eq order.ticket ticket) r ≡ true
    → (container_of s o ≡ Some c) × (is_by s ticket o ≡ true)
line_order s o c ticket None e h = absurd (false≢true h)
line_order s o c ticket (Some order) e h =
    let b = and_parts (nat_eq order.container c) (nat_eq order.ticket ticket) h in (
      ap (option_map (λ (order : Order). order.container)) e ∙ ap Some (eqb-true order.container c b.0),
      ap (some_and (λ (order : Order). nat_eq order.ticket ticket)) e ∙ b.1,
    )

by_container : (lines : List Line) → AreInOrder (λ (a b : Line). a.container < b.container) lines → ByContainer lines
by_container [] h = tt
by_container (line ∷ lines) h = (h.0, by_container lines h.1)

own_rows_again : (n : ℕ) (rows : List RunLineRow) → ((row : RunLineRow) → StandsIn row rows → row.run ≡ n)
    → map (run_line_row n) (map line_from rows) ≡ rows
own_rows_again n [] f = refl
own_rows_again n (row ∷ rows) f =
    ap (λ m. record { run = m; container = row.container; order_no = row.order_no; ticket = row.ticket } ∷ map (run_line_row n) (map line_from rows)) (sym (f row (inl refl)))
    ∙ ap (λ l. row ∷ l) (own_rows_again n rows (λ x k. f x (inr k)))

module _ (t : OfficeRows) (k : MeetsDeskKeys t.desk) (o : OrdersParts t) (p : RunParts t) where
  abbrev lines_of : ℕ → List RunLineRow
  lines_of n = filter (λ (line : RunLineRow). nat_eq line.run n) t.desk.run_lines

  is_of : (n : ℕ) (line : RunLineRow) → StandsIn line (lines_of n) → StandsIn line t.desk.run_lines × (line.run ≡ n)
  is_of n line l =
      let i = in_filter (λ (line : RunLineRow). nat_eq line.run n) t.desk.run_lines line l in
      (i.0, eqb-true line.run n i.1)

  good_line : (line : RunLineRow) → StandsIn line t.desk.run_lines → IsGoodLine (state_of t) (line_from line)
  good_line line l =
      let known =
      sym (any_numbered (λ (row : OrderRow). row.id) (λ (row : OrderRow). nat_eq row.container line.container && nat_eq row.ticket line.ticket) t.desk.orders line.order_no o.numbered)
      ∙ p.orders line l in
      let said = ap (some_and (λ (order : Order). nat_eq order.container line.container && nat_eq order.ticket line.ticket)) (numbered-map order_from t.desk.orders line.order_no)
      ∙ (some_and-map (λ (order : Order). nat_eq order.container line.container && nat_eq order.ticket line.ticket) order_from (nth t.desk.orders line.order_no) ∙ known) in
      let r = line_order (state_of t) line.order_no line.container line.ticket (nth (state_of t).orders line.order_no) refl said in
      record { order = r.0; ticket = r.1 }

  good_run : (row : RunRow) → StandsIn row t.desk.runs → IsGoodRun (state_of t) (run_from t.desk.run_lines row)
  good_run row l =
      let mine = lines_of row.id in
      let counts = p.counts row l in
      let low = counts.0 in
      let high = counts.1 in
      let all = length-filter (λ (line : RunLineRow). nat_eq line.run row.id) t.desk.run_lines in
      let same = length-map mine line_from in
      record {
        day = (p.days row l).1;
        some = omega (arith, low, all, same);
        few = omega (arith, high, all, same);
        by_container = by_container (map line_from mine) (order-map LineBefore (λ (a b : Line). a.container < b.container) line_from mine (λ a b m n h. elim h [
          | inl less ↦ (let x = (is_of row.id a m).1 in let y = (is_of row.id b n).1 in absurd (omega (arith, x, y, less)))
          | inr later ↦ later.1
        ]) (order-filter LineBefore (λ (line : RunLineRow). nat_eq line.run row.id) t.desk.run_lines k.run_lines));
        lines = all_of_in (IsGoodLine (state_of t)) (map line_from mine) (λ line m.
            let i = in_map line_from mine line m in
            subst (IsGoodLine (state_of t)) (sym i.2) (good_line i.0 (is_of row.id i.0 i.1).0));
      }

  pub said_runs : AreGoodRuns (state_of t)
  said_runs =
      let count = length-map t.desk.runs (run_from t.desk.run_lines) in
      let few = p.few in
      record {
        each = λ n run e. (
            let i = said_by (run_from t.desk.run_lines) t.desk.runs n run e in
            subst (IsGoodRun (state_of t)) (sym i.2) (good_run i.0 (numbered_in t.desk.runs n i.0 i.1)));
        few = omega (arith, count, few);
      }

  pub run_days : AllByRecursion (λ run. IsDayNumber run.day) (state_of t).runs
  run_days =
      all_of_in (λ (run : Run). IsDayNumber run.day) (state_of t).runs (λ run l.
      let i = in_map (run_from t.desk.run_lines) t.desk.runs run l in
      subst (λ (r : Run). IsDayNumber r.day) (sym i.2) (p.days i.0 i.1).0)

  pub runs_again : run_rows (state_of t) ≡ t.desk.runs
  runs_again = rows_again run_row (λ (row : RunRow). row.id) (run_from t.desk.run_lines) 1 t.desk.runs p.numbered (λ r l. refl)

  lines_grouped : (n : ℕ) (runs : List RunRow) → are_numbered_from (λ (row : RunRow). row.id) n runs ≡ true
      → lines_from n (map (run_from t.desk.run_lines) runs) ≡ flat_map lines_of (numbers_from n (length runs))
  lines_grouped n [] h = refl
  lines_grouped n (run ∷ runs) h =
      let b = and_parts (nat_eq run.id n) (are_numbered_from (λ (row : RunRow). row.id) (suc n) runs) h in
      let rest = lines_from (suc n) (map (run_from t.desk.run_lines) runs) in
      ap (λ m. map (run_line_row n) (map line_from (lines_of m)) ++ rest) (eqb-true run.id n b.0)
      ∙ (ap (λ l. l ++ rest) (own_rows_again n (lines_of n) (λ row l. (is_of n row l).1))
      ∙ (ap (λ l. lines_of n ++ l) (lines_grouped (suc n) runs b.1)
      ∙ sym (flat_map-cons lines_of n (numbers_from (suc n) (length runs)))))

  pub lines_again : run_line_rows (state_of t) ≡ t.desk.run_lines
  lines_again =
      lines_grouped 1 t.desk.runs p.numbered
      ∙ grouped_all (λ (line : RunLineRow). line.run) 1 (length t.desk.runs) t.desk.run_lines (order_weaker LineBefore (λ (a b : RunLineRow). a.run ≤ b.run) t.desk.run_lines (λ a b h. elim h [
        | inl less ↦ omega (arith, less)
        | inr same ↦ (let e = same.0 in omega (arith, e))
      ]) k.run_lines) (λ line l.
      let known = sym (known_numbered (λ (row : RunRow). row.id) t.desk.runs line.run p.numbered) ∙ p.known line l in
      let low = numbered_from_one t.desk.runs line.run known in
      let high = numbered_within t.desk.runs line.run known in
      (low, omega (arith, high)))
