-- count(*) and max(..) over a table of typed records.
use Rattle.std.proofs.Common.{◌≡◌, ℕ, pos, negsuc, List, [], ◌∷◌, length, map, filter, Bool, false, Some, refl, sym, ap}
use Rattle.std.proofs.Common.{◌∙◌}
use Rattle.std.specs.declared.cmp.Ordering.TheVariants.{Equal}
use Rattle.sqlite_sql.proofs.AggregateLemmas.{only_one}
use Rattle.sqlite_sql.specs.Group.{Aggregate, Grouping, value_over, IsSummary}
use Rattle.sqlite_sql.specs.declared.aggregate.AggregateOp.TheVariants as by
use Rattle.office_tables.specs.RowCounts.{cap}
use Rattle.office_tables.proofs.Common.{AllZip, Binary, Env, Int, IsAnswer, IsPermutation, Join, Null, Query, Row, Term}
use Rattle.office_tables.proofs.Common.{Trees, col, end, eval, holds, inner, length-map, length_permutation, list_all}
use Rattle.office_tables.proofs.Common.{lit, matches, overlay}
use Rattle.office_tables.proofs.Queries.{found}

abbrev pub over : Aggregate → Grouping
over a = record { keys = []; collations = []; aggregates = a ∷ []; having = [] }

-- SELECT the aggregate FROM from WHERE filter
abbrev pub summary_query : Join → List Term → Aggregate → Query
summary_query from filter a =
    record { from = from; filter = filter; group = Some (over a); project = col 1 0 ∷ []; distinct = false; collations = []; order = []; limit = lit (Int (negsuc 0)); offset = lit (Int (pos 0)) }

abbrev pub count_rows : Aggregate
count_rows = record { op = by.CountRows; distinct = false; collation = Binary; argument = lit Null }

module _ (t : ℕ) (where_terms : List Term) (db : Trees) (params : Row) {A : Type 0} (row : A → Row) (xs : List A) (keep : A → Bool) (stored : db t ≡ map row xs)
    (keeps : (x : A) → list_all (holds (params ∷ row x ∷ [])) where_terms ≡ keep x) where
  all : matches (overlay db []) where_terms (inner t end) (params ∷ []) ≡ map (λ x. params ∷ row x ∷ []) (filter keep xs)
  all = found t where_terms [] [] db params row xs keep (λ _. []) (λ _. []) (λ _ _. Equal) stored keeps (λ _. refl) (λ _. refl) (λ _ _. refl)

  one_value : (order : List Env) → IsPermutation (map (λ x. params ∷ row x ∷ []) (filter keep xs)) order → (vs : Row)
      → AllZip (λ a v. value_over order a ≡ Some v) (count_rows ∷ []) vs
      → vs ≡ Int (pos (cap (length (filter keep xs)))) ∷ []
  one_value order same [] k = absurd k
  one_value order same (v ∷ u ∷ vs) k = absurd k.1
  one_value order same (v ∷ []) k =
      let size : length (map (eval (lit Null)) order) ≡ length (filter keep xs) =
      length-map order (eval (lit Null)) ∙ length_permutation _ _ same
      ∙ length-map (filter keep xs) (λ x. params ∷ row x ∷ []) in
      let is : Some v ≡ Some (Int (pos (cap (length (filter keep xs))))) =
      sym k.0 ∙ ap (λ n. Some (Int (pos (cap n)))) size in
      let e : v ≡ Int (pos (cap (length (filter keep xs)))) = cc in
      ap (λ x. x ∷ []) e

  one_row : (rows : List Row) (order : List Env) → IsPermutation (map (λ x. params ∷ row x ∷ []) (filter keep xs)) order
      → AllZip (IsSummary (over count_rows)) (order ∷ []) rows
      → rows ≡ (Int (pos (cap (length (filter keep xs)))) ∷ []) ∷ []
  one_row [] order same h = absurd h
  one_row (r ∷ x ∷ rows) order same h = absurd h.1
  one_row (r ∷ []) order same h = ap (λ v. v ∷ []) (h.0.2 ∙ one_value order same h.0.0 h.0.1)

  pub counts : (rows : List Row)
      → IsAnswer (summary_query (inner t end) where_terms count_rows) (overlay db []) params rows
      → rows ≡ (Int (pos (cap (length (filter keep xs)))) ∷ []) ∷ []
  counts rows answer =
      let made = rw all at answer.grouped in
      let it = one_row made.rows made.grouping.0 made.grouping.1 (rw made.grouping.2 at made.summaries) in
      let kept = rw (made.having, it) at answer.distinct in
      let ordered = only_one _ answer.ordered (rw kept at answer.same) in
      rw ordered at answer.shown
