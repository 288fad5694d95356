-- A query that counts the rows of a table: what it told, and why it failed.
use Rattle.std.proofs.Common.{◌≡◌, ℕ, pos, List, [], ◌∷◌, length, map, slice_get, true, Option, Some, Ok, Result, IfErr}
use Rattle.std.proofs.Common.{refl, sym, ap, ◌∙◌, codes}
use Rattle.std.proofs.lemmas.Bool.{both_ways}
use Rattle.std.specs.Bool.{⊤}
use Rattle.sqlite_trees.specs.declared.store.Store as store
use Rattle.office_tables.proofs.Counts.{counts}
use Rattle.office_tables.specs.RowCounts.{cap}
use Rattle.catalogue_statements.specs.CountQuery.{CountsRows, counting}
use Rattle.catalogue_statements.proofs.Common.{Finds, FoundInside, HasCause, Held, Holds, IfOk-weaker, Int, IsQuery}
use Rattle.catalogue_statements.proofs.Common.{IsUnlimited, LooksUp, Misses, Null, Row, Select, Shown, State}
use Rattle.catalogue_statements.proofs.Common.{StoreFault, Table, Version, all_caused, caused, counts_always, found_in}
use Rattle.catalogue_statements.proofs.Common.{kept_all, known_query, length-map, map-id, none_refuse, read_cause}
use Rattle.catalogue_statements.proofs.Common.{reads_as, schema}

abbrev number_cells : ℕ → Row
number_cells n = Int (pos n) ∷ []

module _ (old new : State) (v : Version) (table : Table) (sql : List ℕ) (counts_rows : CountsRows v table sql) (rows : List Row) (stored : old.now.trees table.tree ≡ map (λ row. row) rows) where
  -- what the query shows first, and why it fails
  abbrev Found : Option ℕ → Type 0
  Found first = (all : List ℕ) × Finds number_cells sql [] old new all × (first ≡ slice_get all 0)

  abbrev Missed : StoreFault → Type 0
  Missed = Misses number_cells (λ _. ⊤) sql [] old new

  abbrev names : List (List ℕ)
  names = codes "count(*)" ∷ []

  counted : old.now.schema ≡ schema v → (seen : List Row) → Shown sql [] old new seen
      → seen ≡ map number_cells (cap (length rows) ∷ [])
  counted has seen shown =
      let means = counts_rows.means in
      let read = reads_as sql [] old new (schema v) has (Select (counting table) names) means.is means.plain means.unlisted seen shown in
      counts table.tree [] old.now.trees [] (λ row. row) rows (λ _. true) stored (λ _. refl) seen (read.answer Null) ∙ ap (λ (l : List Row). number_cells (cap (length l)) ∷ []) (kept_all rows)

  -- the first number is the count
  pub count_told : (first : Option ℕ) → FoundInside v old Found Missed (Ok first) → first ≡ Some (cap (length rows))
  count_told first ran =
      let it = found_in old first ran in
      let found = it.1.1 in
      it.1.2 ∙ ap (λ (l : List ℕ). slice_get l 0) (found.are (cap (length rows) ∷ []) (counted it.0 found.rows found.shown))

  pub count_caused : (r : Result (Option ℕ) StoreFault) → FoundInside v old Found Missed r → IsUnlimited old
      → IfErr r (HasCause old new)
  count_caused r ran free = caused old new r ran (λ it.
      let means = counts_rows.means in
      all_caused number_cells (λ _. ⊤) sql [] old new r it.2
      (read_cause sql [] old new (schema v) it.0 (counting table) names means.is means.plain means.whole means.unlisted (λ db e refused. none_refuse refused (λ t. both_ways _ t counts_rows.typed) (counts_always _ _)) free)
      (λ seen shown. (cap (length rows) ∷ [], counted it.0 seen shown, (tt, tt))))

pub known : {v : Version} {table : Table} {sql : List ℕ} → CountsRows v table sql → IsQuery v sql
known counts_rows = known_query counts_rows.means

-- who counts the rows counts the records
pub records_counted : {S A : Type 0} {g : store.Ghosts S} {before after : Held S} (table : Table) (cells : A → Row) (r : Result ℕ StoreFault)
    → LooksUp g (Holds table (λ row. row)) before after r (λ _. ⊤) (λ _. ⊤) (λ rows n. n ≡ cap (length rows))
    → LooksUp g (Holds table cells) before after r (λ _. ⊤) (λ _. ⊤) (λ xs n. n ≡ cap (length xs))
records_counted table cells r looked = record {
  reads = looked.reads;
  answers = λ clean xs stored any.
      IfOk-weaker r _ _ (λ n is. is ∙ ap cap (length-map xs cells)) (looked.answers clean (map cells xs) (stored ∙ sym (map-id _)) any);
  faults = λ xs stored any. looked.faults (map cells xs) (stored ∙ sym (map-id _)) any;
}
