-- Runs and their lines as they are judged from the values at hand.
use Rattle.std.proofs.Common.{◌≡◌, ℕ, ◌≤◌, Bool, true, false, ◌&&◌, List, map, length, refl, sym, ap, ◌∙◌, nat_eq}
use Rattle.std.proofs.Common.{nat_le}
use Rattle.std.proofs.Math.Bool.{and_comm}
use Rattle.desk_core.specs.DeskCauses as causes
use Rattle.desk_core.specs.DeskRows as desk
use Rattle.desk_core.specs.declared.consistency.rows.RunLineRow.{RunLineRow}
use Rattle.desk_core.specs.declared.consistency.rows.RunRow.{RunRow}
use Rattle.desk_core.proofs.Common.{Around, In, OrderRow, Surrounds, Tally, and_parts, are_numbered_from, count_by}
use Rattle.desk_core.proofs.Common.{eqb_comm, int_le, is_between, is_day_number, is_fit_line, is_fit_run, length-map}
use Rattle.desk_core.proofs.Common.{list_all, list_all-map, list_any, most_runs, order_record, run_line_record}
use Rattle.desk_core.proofs.Common.{run_record, times}
use Rattle.desk_core.proofs.Counts.{count_agree, count_map}
use Rattle.desk_core.proofs.NumberedRows.{has_number, numbered_map, own_number}
use Rattle.desk_core.proofs.Tests.{all_agree, and_same, and_then}
use Rattle.desk_core.proofs.FitHoldings.{order_there}

module _ (a : causes.Around) (d : desk.Desk) (orders : List OrderRow) (e : d.orders ≡ map order_record orders) (numbered : are_numbered_from (λ (row : OrderRow). row.id) 1 orders ≡ true)
    (runs : List RunRow) (f : d.runs ≡ map run_record runs) (lines : List RunLineRow) (g : d.run_lines ≡ map run_line_record lines) where
  numbers_told : are_numbered_from (λ n. n) 1 (map (λ (row : RunRow). row.id) runs) ≡ are_numbered_from (λ (row : desk.RunRow). row.id) 1 d.runs
  numbers_told =
      numbered_map (λ n. n) (λ (row : RunRow). row.id) 1 runs
      ∙ sym (numbered_map (λ (row : desk.RunRow). row.id) run_record 1 runs)
      ∙ ap (are_numbered_from (λ (row : desk.RunRow). row.id) 1) (sym f)

  long : length d.runs ≡ length runs
  long = ap length f ∙ length-map runs run_record

  lines_told : are_numbered_from (λ (row : desk.RunRow). row.id) 1 d.runs ≡ true
      → list_all (causes.is_good_line d) d.run_lines ≡ list_all (is_fit_line orders (length runs)) lines
  lines_told counted =
      ap (list_all (causes.is_good_line d)) g
      ∙ list_all-map (causes.is_good_line d) run_line_record lines
      ∙ all_agree (λ line. causes.is_good_line d (run_line_record line)) (is_fit_line orders (length runs)) lines
      (λ line i. and_same (list_any (λ (row : desk.RunRow). nat_eq row.id line.run) d.runs) (is_between 1 (length runs) line.run) _ _
      (has_number (λ (row : desk.RunRow). row.id) d.runs line.run counted ∙ ap (λ n. is_between 1 n line.run) long)
      (order_there d orders e numbered (λ (row : desk.OrderRow). nat_eq row.container line.container && nat_eq row.ticket line.ticket) line.order_no))

  abbrev pub plain : Bool
  plain = are_numbered_from (λ n. n) 1 (map (λ (row : RunRow). row.id) runs) && (nat_le (length runs) most_runs && list_all (is_fit_line orders (length runs)) lines)

  pub runs_told : causes.are_good_runs a d ≡ (plain && list_all (causes.is_good_run a d) d.runs)
  runs_told =
      and_then (are_numbered_from (λ (row : desk.RunRow). row.id) 1 d.runs) (are_numbered_from (λ n. n) 1 (map (λ (row : RunRow). row.id) runs)) _ _ (sym numbers_told)
      (λ t. and_same (nat_le (length d.runs) most_runs) (nat_le (length runs) most_runs) _ _ (ap (λ n. nat_le n most_runs) long)
      (and_comm (list_all (causes.is_good_run a d) d.runs) (list_all (causes.is_good_line d) d.run_lines) ∙ ap (λ b. b && list_all (causes.is_good_run a d) d.runs) (lines_told t)))
      ∙ three (are_numbered_from (λ n. n) 1 (map (λ (row : RunRow). row.id) runs)) (nat_le (length runs) most_runs) (list_all (is_fit_line orders (length runs)) lines) _
    where
      three : (n l t x : Bool) → (n && (l && (t && x))) ≡ ((n && (l && t)) && x)
      three true true t x = refl
      three true false t x = refl
      three false l t x = refl

  pub each_told : (s : Around) (tally : Tally) → Surrounds s a d
      → are_numbered_from (λ n. n) 1 (map (λ (row : RunRow). row.id) runs) ≡ true
      → ((n : ℕ) → n ≤ length runs → times tally n ≡ count_by (nat_eq n) (map (λ (line : RunLineRow). line.run) lines))
      → list_all (is_fit_run s tally) runs ≡ list_all (causes.is_good_run a d) d.runs
  each_told s tally h counted counts =
      all_agree (is_fit_run s tally) (λ row. causes.is_good_run a d (run_record row)) runs
      (λ row i. ap (λ b. is_day_number row.day && b)
      (and_same (int_le row.day s.day) (int_le row.day a.day) _ _ (ap (int_le row.day) (sym h.day))
      (ap (λ n. is_between 1 n (times tally row.id)) (sym h.run_size) ∙ ap (is_between 1 a.run_size) (many row i))))
      ∙ sym (list_all-map (causes.is_good_run a d) run_record runs)
      ∙ ap (list_all (causes.is_good_run a d)) (sym f)
    where
      many : (row : RunRow) → In row runs
          → times tally row.id ≡ count_by (λ (line : desk.RunLineRow). nat_eq line.run row.id) d.run_lines
      many row i =
          let own = own_number (λ (r : RunRow). r.id) runs row (sym (numbered_map (λ n. n) (λ (r : RunRow). r.id) 1 runs) ∙ counted) i in
          counts row.id own.1
          ∙ count_map (nat_eq row.id) (λ (line : RunLineRow). line.run) lines
          ∙ count_agree (λ (line : RunLineRow). nat_eq row.id line.run) (λ (line : RunLineRow). nat_eq line.run row.id) lines (λ line j. eqb_comm row.id line.run)
          ∙ sym (count_map (λ (line : desk.RunLineRow). nat_eq line.run row.id) run_line_record lines)
          ∙ ap (count_by (λ (line : desk.RunLineRow). nat_eq line.run row.id)) (sym g)

  -- ---- as it is judged, one after the other

  abbrev IsPlainly : List ℕ → Bool → Type 0
  IsPlainly numbers b = b ≡ (are_numbered_from (λ n. n) 1 numbers && (nat_le (length runs) most_runs && list_all (is_fit_line orders (length runs)) lines))

  is_plain : (numbers : List ℕ) (b : Bool) → numbers ≡ map (λ (row : RunRow). row.id) runs → IsPlainly numbers b
      → b ≡ plain
  is_plain numbers b n p =
      p
      ∙ ap (λ ns. are_numbered_from (λ n. n) 1 ns && (nat_le (length runs) most_runs && list_all (is_fit_line orders (length runs)) lines)) n

  pub not_plain : (numbers : List ℕ) (b : Bool) → numbers ≡ map (λ (row : RunRow). row.id) runs → IsPlainly numbers b
      → b ≡ false → false ≡ causes.are_good_runs a d
  not_plain numbers b n p f =
      sym (runs_told ∙ ap (λ v. v && list_all (causes.is_good_run a d) d.runs) (sym (is_plain numbers b n p) ∙ f))

  pub counted_well : (s : Around) (tally : Tally) (numbers of_lines : List ℕ) (b r : Bool) → Surrounds s a d
      → numbers ≡ map (λ (row : RunRow). row.id) runs → IsPlainly numbers b → b ≡ true
      → of_lines ≡ map (λ (line : RunLineRow). line.run) lines
      → ((n : ℕ) → n ≤ length runs → times tally n ≡ count_by (nat_eq n) of_lines)
      → r ≡ list_all (is_fit_run s tally) runs → r ≡ causes.are_good_runs a d
  counted_well s tally numbers of_lines b r h n p t l counts v =
      let whole = sym (is_plain numbers b n p) ∙ t in
      let counted = (and_parts (are_numbered_from (λ n. n) 1 (map (λ (row : RunRow). row.id) runs)) _ whole).0 in
      v ∙ each_told s tally h counted (λ m le. counts m le ∙ ap (count_by (nat_eq m)) l)
      ∙ sym (runs_told ∙ ap (λ x. x && list_all (causes.is_good_run a d) d.runs) whole)
