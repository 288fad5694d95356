-- The statement on whether a container is out: what its text means, what it tells, and why it fails.
use Rattle.std.proofs.Common.{◌≡◌, ℕ, pos, Bool, List, [], ◌∷◌, map, filter, find, take, codes, true, false, cond, not, ◌||◌}
use Rattle.std.proofs.Common.{Option, Some, None, Result, IfOk, IfErr, refl, sym, ap, ◌∙◌}
use Rattle.sqlite.proofs.Callers.{reads_as}
use Rattle.sqlite.specs.Listing.{understood}
use Rattle.sqlite.specs.Ops.{binary, from_truth, is_true, unary}
use Rattle.sqlite.specs.Query.{inner, end}
use Rattle.sqlite_schema.specs.declared.program.Program.{Program}
use Rattle.sqlite_sql.specs.Term.{op1}
use Rattle.sqlite_sql.specs.declared.ops.BinaryOp.TheVariants.{Is}
use Rattle.sqlite_sql.specs.declared.ops.UnaryOp.TheVariants.{Not}
use Rattle.sqlite_tied.specs.Compute.{everything}
use Rattle.sqlite_value.proofs.OrderLemmas.{value_cmp-Null, value_cmp-apart}
use Rattle.office_tables.proofs.Limits.{limited_query, first_answers}
use Rattle.office_tables.proofs.RowReads.{all_caused}
use Rattle.desk_store.proofs.Common.{Binary, Command, Finds, HasCause, HoldingRow, Holds, IfOk-weaker, Int, IsOrdered}
use Rattle.desk_store.proofs.Common.{IsUnlimited, Means, Misses, Null, Row, Select, Shown, State, StoreFault, Term}
use Rattle.desk_store.proofs.Common.{Version, all_of, by_one_int, col, holding, holding_cells, is_eq, is_held, is_some}
use Rattle.desk_store.proofs.Common.{le_refl, list_any, lit, map-map, none_refuse, op2, only, option_map, or_null}
use Rattle.desk_store.proofs.Common.{read_cause, schema, sums_nothing, ⊤}
use Rattle.desk_store.proofs.CardRows.{in_order}
use Rattle.desk_store.proofs.LoanRows.{by_container}

turned : (b : Bool) → is_true (unary Not (from_truth (Some b))) ≡ not b
unfolding unary
turned true = refl
turned false = refl

has_order : (held_by : Option ℕ)
    → is_true (unary Not (binary (Is Binary) (or_null Int (option_map pos held_by)) Null)) ≡ is_some held_by
unfolding binary
has_order None = turned _ ∙ ap (λ o. not (is_eq o)) (value_cmp-Null Null)
has_order (Some o) = turned _ ∙ ap not (ap is_eq (value_cmp-apart (Int (pos o)) Null (λ e. cc)))

abbrev out_there : List Term
out_there = op1 Not (op2 (Is Binary) (col 1 2) (lit Null)) ∷ []

abbrev pub out_cells : ℕ → Row
out_cells c = Int (pos c) ∷ []

abbrev pub out_text : List ℕ
out_text = codes "SELECT container FROM holding WHERE held_by IS NOT NULL ORDER BY container LIMIT 1"

abbrev out_program : Program
out_program = record { lets = []; body = limited_query (inner holding.tree end) out_there (col 1 0 ∷ []) in_order 1 }

abbrev pub out_command : Command
out_command = Select out_program (codes "container" ∷ [])

pub out_means : (v : Version) → Means v out_text 0 out_command
unfolding understood everything
out_means v = record { is = refl; plain = (refl, refl); whole = (le_refl _, refl, refl); unlisted = refl }

abbrev pub container_of : HoldingRow → ℕ
container_of h = h.container

module _ (old new : State) (v : Version) (has : old.now.schema ≡ schema v) (xs : List HoldingRow) (stored : Holds holding holding_cells old xs) {X : Type 0} (items : X → List ℕ) (r : Result X StoreFault) where
  out_rows : (rows : List Row) → Shown out_text [] old new rows
      → (ys : List HoldingRow) × IsOrdered by_container (filter is_held xs) ys × (rows ≡ map out_cells (map container_of (take 1 ys)))
  out_rows rows shown =
      let means = out_means v in
      let read = reads_as out_text [] old new (schema v) has out_command means.is means.plain means.unlisted rows shown in
      let got = first_answers holding.tree out_there (col 1 0 ∷ []) in_order old.now.trees []
      holding_cells xs is_held (λ h. out_cells h.container) (λ (h : HoldingRow). Int (pos h.container) ∷ []) by_container
      stored (λ h. only (has_order h.held_by)) (λ _. refl) (λ _. refl) (λ a b. by_one_int (pos a.container) (pos b.container)) 1 rows (read.answer Null) in
      (got.0, (got.1, got.2), got.3 ∙ sym (map-map out_cells container_of (take 1 got.0)))

  pub out_finds : IfOk r (λ found. Finds out_cells out_text [] old new (items found))
      → IfOk r (λ found. (ys : List HoldingRow) × IsOrdered by_container (filter is_held xs) ys × (items found ≡ map container_of (take 1 ys)))
  out_finds found = IfOk-weaker r _ _ (λ all it. let got = out_rows it.rows it.shown in (got.0, got.1, it.are (map container_of (take 1 got.0)) got.2)) found

  pub out_faults : IsUnlimited old → IfErr r (Misses out_cells (λ _. ⊤) out_text [] old new)
      → IfErr r (HasCause old new)
  out_faults free missed =
      let means = out_means v in
      all_caused out_cells (λ _. ⊤) out_text [] old new r missed
      (read_cause out_text [] old new (schema v) has out_program (codes "container" ∷ []) means.is means.plain means.whole means.unlisted
      (λ db e refused. none_refuse refused (λ t. let clash : true ≡ false = t in cc) (sums_nothing _)) free)
      (λ rows shown. let got = out_rows rows shown in (map container_of (take 1 got.0), got.2, all_of (λ (_ : ℕ). ⊤) (λ _. tt) _))

-- one is found where there is one
pub any_found : (xs : List HoldingRow) → is_some (option_map container_of (find is_held xs)) ≡ list_any is_held xs
any_found [] = refl
any_found (x ∷ xs) =
    elim (is_held x) as (λ b. is_some (option_map container_of (cond b (Some x) (find is_held xs))) ≡ (b || list_any is_held xs)) [
      | true ↦ refl
      | false ↦ any_found xs
    ]
