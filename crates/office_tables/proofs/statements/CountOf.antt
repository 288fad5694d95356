-- A SELECT that counts the rows of one table, for any of our texts and any records.
use Rattle.std.proofs.Common.{◌≡◌, ℕ, ◌<◌, ◌^◌, pos, Bool, true, List, [], ◌∷◌, length, map, Result, IfOk, IfErr, ap}
use Rattle.std.proofs.Common.{◌∙◌, arith}
use Rattle.std.proofs.lemmas.Bool.{both_ways}
use Rattle.std.proofs.lemmas.List.Sums.{count_by-le-length, length-filter}
use Rattle.sqlite.specs.State.{Shown}
use Rattle.office_tables.specs.Faults.{HasCause}
use Rattle.office_tables.specs.RowCounts.{cap}
use Rattle.office_tables.specs.Schema.{Version}
use Rattle.office_tables.proofs.Common.{FindsFirst, IfOk-weaker, Int, IsUnlimited, Means, Misses, Null, Program, Row}
use Rattle.office_tables.proofs.Common.{Select, State, StoreFault, Table, Term, accepts_program, count_by, end, holds}
use Rattle.office_tables.proofs.Common.{inner, list_all, reads_as, schema}
use Rattle.office_tables.proofs.Causes.{read_cause, none_refuse, counts_always}
use Rattle.office_tables.proofs.Counts.{summary_query, count_rows, counts}
use Rattle.office_tables.proofs.RowReads.{all_caused}

-- SELECT count(*) of the rows that the terms find
abbrev pub counting : Table → List Term → Program
counting table where_terms = record { lets = []; body = summary_query (inner table.tree end) where_terms count_rows }

abbrev number_cells : ℕ → Row
number_cells n = Int (pos n) ∷ []

uncapped : (n : ℕ) → n < 2 ^ 32 → cap n ≡ n
uncapped n few = omega (arith, few)

module _ (v : Version) (table : Table) (sql : List ℕ) (where_terms : List Term) (names : List (List ℕ)) (params : Row) (means : Means v sql (length params) (Select (counting table where_terms) names)) (old new : State) (has : old.now.schema ≡ schema v)
    {A : Type 0} (row : A → Row) (xs : List A) (stored : old.now.trees table.tree ≡ map row xs) (keep : A → Bool) (keeps : (x : A) → list_all (holds (params ∷ row x ∷ [])) where_terms ≡ keep x) (few : length xs < 2 ^ 32) where
  is_few : count_by keep xs < 2 ^ 32
  is_few = let most = count_by-le-length keep xs in omega (arith, most, few)

  one_row : (rows : List Row) → Shown sql params old new rows → rows ≡ map number_cells (count_by keep xs ∷ [])
  one_row rows shown =
      let read = reads_as sql params old new (schema v) has (Select (counting table where_terms) names) means.is means.plain means.unlisted rows shown in
      counts table.tree where_terms old.now.trees params row xs keep stored keeps rows (read.answer Null)
      ∙ ap (λ n. number_cells (cap n) ∷ []) (length-filter keep xs)
      ∙ ap (λ n. number_cells n ∷ []) (uncapped (count_by keep xs) is_few)

  pub count_finds : (r : Result ℕ StoreFault) → IfOk r (FindsFirst sql params old new)
      → IfOk r (λ n. n ≡ count_by keep xs)
  count_finds r found = IfOk-weaker r _ _ (λ n it. it.is (count_by keep xs ∷ []) (one_row it.rows it.shown)) found

  pub count_faults : accepts_program (schema v) [] (summary_query (inner table.tree end) where_terms count_rows) params ≡ true
      → IsUnlimited old
      → (r : Result ℕ StoreFault) → IfErr r (Misses number_cells (λ n. n < 2 ^ 32) sql params old new)
      → IfErr r (HasCause old new)
  count_faults typed free r missed =
      all_caused number_cells (λ n. n < 2 ^ 32) sql params old new r missed
      (read_cause sql params old new (schema v) has (counting table where_terms) names means.is means.plain means.whole means.unlisted (λ db e refused. none_refuse refused (λ t. both_ways _ t typed) (counts_always _ _)) free)
      (λ rows shown. (count_by keep xs ∷ [], one_row rows shown, (is_few, tt)))
