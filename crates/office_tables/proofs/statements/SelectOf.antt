-- What a SELECT of one table tells, and why it fails, for any of our texts and any records.
use Rattle.std.proofs.Common.{◌≡◌, ℕ, List, [], ◌∷◌, length, map, filter, Bool, true, Result, IfOk, IfErr, Ordering}
use Rattle.std.proofs.Common.{◌∙◌, sym}
use Rattle.std.proofs.lemmas.Bool.{both_ways}
use Rattle.sqlite.specs.State.{Shown}
use Rattle.office_tables.specs.Faults.{HasCause}
use Rattle.office_tables.specs.Schema.{Version}
use Rattle.office_tables.proofs.Common.{AllByRecursion, Finds, IfOk-weaker, IsOrdered, IsUnlimited, Key, Means, Misses}
use Rattle.office_tables.proofs.Common.{Null, Row, Select, State, StoreFault, Table, Term, accepts_program, end}
use Rattle.office_tables.proofs.Common.{eval_all, holds, inner, key_cmp, list_all, map-map, reads_as, schema}
use Rattle.office_tables.proofs.Causes.{read_cause, none_refuse, sums_nothing}
use Rattle.office_tables.proofs.Queries.{plain_query, asking, answers}
use Rattle.office_tables.proofs.Reading.{all_found}
use Rattle.office_tables.proofs.RowReads.{all_caused}

-- what is told of legible records is legible
pub each_legible : {A B : Type 0} (tell : A → B) (P : B → Type 0) (xs : List A) → AllByRecursion (λ x. P (tell x)) xs
    → AllByRecursion P (map tell xs)
each_legible tell P [] h = tt
each_legible tell P (x ∷ xs) h = (h.0, each_legible tell P xs h.1)

module _ (v : Version) (table : Table) (sql : List ℕ) (where_terms project : List Term) (order : List (Term × Key)) (names : List (List ℕ)) (params : Row)
    (means : Means v sql (length params) (Select (asking table where_terms project order) names)) (old new : State) (has : old.now.schema ≡ schema v)
    {A : Type 0} (row : A → Row) (xs : List A) (stored : old.now.trees table.tree ≡ map row xs)
    (keep : A → Bool) (keeps : (x : A) → list_all (holds (params ∷ row x ∷ [])) where_terms ≡ keep x)
    (show key : A → Row) (represents : (x : A) → eval_all project (params ∷ row x ∷ []) ≡ show x)
    (cmp : A → A → Ordering) (keyed : (x : A) → eval_all (map (λ k. k.0) order) (params ∷ row x ∷ []) ≡ key x) (compares : (x y : A) → key_cmp 0 (map (λ k. k.1) order) (key x) (key y) ≡ cmp x y) where
  -- the rows are those of the records that are kept, in the order that is asked for
  pub select_rows : (rows : List Row) → Shown sql params old new rows
      → (ys : List A) × IsOrdered cmp (filter keep xs) ys × (rows ≡ map show ys)
  select_rows rows shown =
      let read = reads_as sql params old new (schema v) has (Select (asking table where_terms project order) names) means.is means.plain means.unlisted rows shown in
      let got = answers table.tree where_terms project order old.now.trees params row xs keep show key cmp stored keeps represents keyed compares rows (read.answer Null) in
      (got.0, (got.1, got.2), got.3)

  module _ {T X : Type 0} (cells : T → Row) (items : X → List T) (tell : A → T) (tells : (x : A) → show x ≡ cells (tell x)) where
    told : (ys : List A) → map show ys ≡ map cells (map tell ys)
    told ys = (λ i. map (λ y. tells y i) ys) ∙ sym (map-map cells tell ys)

    -- what is found is told of these records
    pub select_finds : (r : Result X StoreFault) → IfOk r (λ found. Finds cells sql params old new (items found))
        → IfOk r (λ found. (ys : List A) × IsOrdered cmp (filter keep xs) ys × (items found ≡ map tell ys))
    select_finds r found = IfOk-weaker r _ _ (λ all it. let got = select_rows it.rows it.shown in (got.0, got.1, it.are (map tell got.0) (got.2 ∙ told got.0))) found

    -- every fault has its cause, where the values type and the records are legible
    pub select_faults : (IsLegible : T → Type 0)
        → accepts_program (schema v) [] (plain_query (inner table.tree end) where_terms project order) params ≡ true
        → IsUnlimited old → AllByRecursion (λ x. IsLegible (tell x)) xs
        → (r : Result X StoreFault) → IfErr r (Misses cells IsLegible sql params old new) → IfErr r (HasCause old new)
    select_faults IsLegible typed free legible r missed =
        all_caused cells IsLegible sql params old new r missed
        (read_cause sql params old new (schema v) has (asking table where_terms project order) names means.is means.plain means.whole means.unlisted (λ db e refused. none_refuse refused (λ t. both_ways _ t typed) (sums_nothing _)) free)
        (λ rows shown. let got = select_rows rows shown in (map tell got.0, got.2 ∙ told got.0, each_legible tell IsLegible got.0 (all_found (λ x. IsLegible (tell x)) _ xs got.0 got.1.0 legible)))
