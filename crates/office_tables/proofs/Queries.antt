-- What a query on one table answers, for typed records.
use Rattle.std.proofs.Common.{◌≡◌, ℕ, ◌+◌, pos, negsuc, List, [], ◌∷◌, ◌++◌, filter, map, flat_map, get_or, Bool, true}
use Rattle.std.proofs.Common.{false, cond, None, unwrap_or, Ordering, Equal, refl, sym, ap, subst, ◌∙◌, arith, nat_le}
use Rattle.office_tables.proofs.Common.{Env, Int, IsAnswer, IsPermutation, IsSorted, Join, Key, Output, Program, Query}
use Rattle.office_tables.proofs.Common.{Row, Table, Term, Trees, all_of, end, eval_all, filter-map, filter_same}
use Rattle.office_tables.proofs.Common.{get_or-map, holds, inner, is_lt, key_cmp, length-map, list_all, lit, map-map}
use Rattle.office_tables.proofs.Common.{matches, output, output_cmp, overlay, pull_back}

-- SELECT project FROM from WHERE filter ORDER BY order
abbrev pub plain_query : Join → List Term → List Term → List (Term × Key) → Query
plain_query from filter project order =
    record { from = from; filter = filter; group = None; project = project; distinct = false; collations = []; order = order; limit = lit (Int (negsuc 0)); offset = lit (Int (pos 0)) }

-- a program that finds the rows of one table: what a SELECT tells
abbrev pub asking : Table → List Term → List Term → List (Term × Key) → Program
asking table where_terms project order =
    record { lets = []; body = plain_query (inner table.tree end) where_terms project order }

-- and what an UPDATE or a DELETE does, in whatever order
abbrev pub choosing : Table → List Term → List Term → Program
choosing table where_terms project = asking table where_terms project []

pub overlay_none : (db : Trees) (t : ℕ) → overlay db [] t ≡ db t
overlay_none db t = elim (nat_le 2147483648 t) as (λ b. unwrap_or (cond b None None) (db t) ≡ db t) [ true ↦ refl | false ↦ refl ]

pub each_match : (p : Row → Bool) (f : Row → Env) (rows : List Row)
    → flat_map (λ r. cond (p r) (f r ∷ []) []) rows ≡ map f (filter p rows)
each_match p f [] = refl
each_match p f (r ∷ rows) = elim (p r) as (λ b. cond b (f r ∷ []) [] ++ flat_map (λ r. cond (p r) (f r ∷ []) []) rows ≡ map f (cond b (r ∷ filter p rows) (filter p rows))) [
  | true ↦ ap (λ l. f r ∷ l) (each_match p f rows)
  | false ↦ each_match p f rows
]

module _ (t : ℕ) (where_terms project : List Term) (order : List (Term × Key)) (db : Trees) (params : Row) where
  abbrev q : Query
  q = plain_query (inner t end) where_terms project order

  module _ {A : Type 0} (row : A → Row) (xs : List A) (keep : A → Bool) (show key : A → Row) (cmp : A → A → Ordering)
      (stored : db t ≡ map row xs)
      (keeps : (x : A) → list_all (holds (params ∷ row x ∷ [])) where_terms ≡ keep x)
      (represents : (x : A) → eval_all project (params ∷ row x ∷ []) ≡ show x)
      (keyed : (x : A) → eval_all (map (λ k. k.0) order) (params ∷ row x ∷ []) ≡ key x)
      (compares : (x y : A) → key_cmp 0 (map (λ k. k.1) order) (key x) (key y) ≡ cmp x y) where
    out : A → Output
    out x = (key x, show x)

    test : Row → Bool
    test r = list_all (holds (params ∷ r ∷ [])) where_terms

    pub found : matches (overlay db []) where_terms (inner t end) (params ∷ []) ≡ map (λ x. params ∷ row x ∷ []) (filter keep xs)
    unfolding test
    found =
        each_match test (λ r. params ∷ r ∷ []) (overlay db [] t)
        ∙ ap (λ rows. map (λ r. params ∷ r ∷ []) (filter test rows)) (overlay_none db t ∙ stored)
        ∙ ap (map (λ r. params ∷ r ∷ [])) (filter-map test row xs ∙ ap (map row) (filter_same (λ x. test (row x)) keep xs (all_of (λ x. test (row x) ≡ keep x) keeps xs)))
        ∙ map-map (λ r. params ∷ r ∷ []) row (filter keep xs)

    -- the answer shows the records that are kept, in an order that ORDER BY allows
    pub answers : (rows : List Row) → IsAnswer q (overlay db []) params rows
        → (ys : List A) × IsPermutation (filter keep xs) ys × IsSorted cmp ys × (rows ≡ map show ys)
    unfolding out
    answers rows a =
        let staged : a.staged ≡ map (λ x. params ∷ row x ∷ []) (filter keep xs) = a.grouped ∙ found in
        let kept : a.kept ≡ map out (filter keep xs) =
        a.distinct ∙ ap (map (output q)) staged ∙ map-map (output q) (λ x. params ∷ row x ∷ []) (filter keep xs) ∙ (λ i. map (λ x. (let o : Output = (keyed x i, represents x i) in o)) (filter keep xs)) in
        let back = pull_back out a.kept a.ordered a.same (filter keep xs) kept in
        let ys = back.0 in
        let sorted : IsSorted cmp ys = λ k d low high.
        let ordered = subst (IsSorted (output_cmp q)) back.2 a.sorted in
        let there = ordered k (out d) low (rw (length-map ys out) high) in
        let near = rw (get_or-map out ys (k + 1) d (out d) high, get_or-map out ys k d (out d) (omega (arith, high))) at there in
        ap is_lt (sym (compares (get_or ys (k + 1) d) (get_or ys k d))) ∙ near in
        (ys, back.1, sorted, a.shown ∙ ap (λ (os : List Output). map (λ o. o.1) os) back.2 ∙ map-map (λ (o : Output). o.1) out ys)

-- the records that are kept, in whatever order they are found
pub chosen : {A : Type 0} (t : ℕ) (where_terms project : List Term) (db : Trees) (params : Row) (row source : A → Row) (xs : List A) (keep : A → Bool)
    → db t ≡ map row xs
    → ((x : A) → list_all (holds (params ∷ row x ∷ [])) where_terms ≡ keep x)
    → ((x : A) → eval_all project (params ∷ row x ∷ []) ≡ source x)
    → (rows : List Row) → IsAnswer (plain_query (inner t end) where_terms project []) (overlay db []) params rows
    → (ys : List A) × IsPermutation (filter keep xs) ys × (rows ≡ map source ys)
chosen t where_terms project db params row source xs keep stored keeps represents rows answer =
    let got = answers t where_terms project [] db params row xs keep source (λ _. []) (λ _ _. Equal) stored keeps represents (λ _. refl) (λ _ _. refl) rows answer in
    (got.0, got.1, got.3)
