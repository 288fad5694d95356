-- What a query on one table answers that stops after some rows.
use Rattle.std.proofs.Common.{◌≡◌, ℕ, pos, List, [], ◌∷◌, filter, map, take, Bool, Ordering, refl, ap, ◌∙◌}
use Rattle.office_tables.proofs.Common.{Int, IsAnswer, IsPermutation, IsSorted, Join, Key, Output, Query, Row, Term}
use Rattle.office_tables.proofs.Common.{Trees, end, eval_all, holds, inner, key_cmp, list_all, lit, overlay, take-map}
use Rattle.office_tables.proofs.Queries.{plain_query, answers}

-- SELECT project FROM from WHERE filter ORDER BY order LIMIT count
abbrev pub limited_query : Join → List Term → List Term → List (Term × Key) → ℕ → Query
limited_query from filter project order count =
    record (plain_query from filter project order) { limit = lit (Int (pos count)) }

module _ (t : ℕ) (where_terms project : List Term) (order : List (Term × Key)) (db : Trees) (params : Row) {A : Type 0} (row : A → Row) (xs : List A) (keep : A → Bool) (show key : A → Row) (cmp : A → A → Ordering)
    (stored : db t ≡ map row xs)
    (keeps : (x : A) → list_all (holds (params ∷ row x ∷ [])) where_terms ≡ keep x)
    (represents : (x : A) → eval_all project (params ∷ row x ∷ []) ≡ show x)
    (keyed : (x : A) → eval_all (map (λ k. k.0) order) (params ∷ row x ∷ []) ≡ key x)
    (compares : (x y : A) → key_cmp 0 (map (λ k. k.1) order) (key x) (key y) ≡ cmp x y) where
  -- the first records of an order that ORDER BY allows
  pub first_answers : (count : ℕ) (rows : List Row)
      → IsAnswer (limited_query (inner t end) where_terms project order count) (overlay db []) params rows
      → (ys : List A) × IsPermutation (filter keep xs) ys × IsSorted cmp ys × (rows ≡ map show (take count ys))
  first_answers count rows a =
      let all : IsAnswer (plain_query (inner t end) where_terms project order) (overlay db []) params (map (λ (o : Output). o.1) a.ordered) =
      record { staged = a.staged; grouped = a.grouped; kept = a.kept; distinct = a.distinct; ordered = a.ordered; same = a.same; sorted = a.sorted; shown = refl } in
      let got = answers t where_terms project order db params row xs keep show key cmp stored keeps represents keyed compares (map (λ (o : Output). o.1) a.ordered) all in
      (got.0, got.1, got.2, a.shown ∙ ap (take count) got.3 ∙ take-map show count got.0)
