-- A SELECT of the greatest number of a table whose rows are numbered one after another: it is how many there are.
use Rattle.std.proofs.Common.{◌≡◌, ℕ, ◌+◌, ◌≤◌, ◌<◌, ◌^◌, pos, true, false, cond, List, [], ◌∷◌, length, map, take}
use Rattle.std.proofs.Common.{slice_index_or, Result, IfOk, IfErr, Less, Equal, Greater, Ordering, inl, inr, refl, sym}
use Rattle.std.proofs.Common.{ap, subst, ◌∙◌, arith}
use Rattle.std.proofs.lemmas.Bool.{both_ways}
use Rattle.std.proofs.lemmas.Cmp.{back_total}
use Rattle.std.specs.Prelude.{nat_lt}
use Rattle.sqlite.specs.State.{Shown}
use Rattle.office_tables.specs.Faults.{HasCause}
use Rattle.office_tables.specs.Schema.{Version}
use Rattle.office_tables.proofs.Common.{AllByRecursion, AreCounted, Binary, FindsFirst, Has, IfOk-weaker, Int}
use Rattle.office_tables.proofs.Common.{IsPermutation, IsPermutation-sym, IsSorted, IsTotalOrder, IsUnlimited, Key}
use Rattle.office_tables.proofs.Common.{Means, Misses, Null, Program, Row, Select, State, StoreFault, Table, Term}
use Rattle.office_tables.proofs.Common.{accepts_program, all_has, all_weaker, cases_Bool, col, end, eval_all, inner}
use Rattle.office_tables.proofs.Common.{int_cmp, int_cmp_total, is_lt, key_cmp, length_permutation, ltb-false, map-map}
use Rattle.office_tables.proofs.Common.{on_total, reads_as, schema, then-Equal, value_cmp-Int}
use Rattle.office_tables.proofs.Causes.{read_cause, none_refuse, sums_nothing}
use Rattle.office_tables.proofs.Limits.{limited_query, first_answers}
use Rattle.office_tables.proofs.Reading.{all_found}
use Rattle.office_tables.proofs.RowReads.{all_caused}
use Rattle.office_tables.proofs.Rows.{had, kept_all}
use Rattle.office_tables.proofs.Sorted.{head_below}
use Rattle.office_tables.proofs.numbered.Counted.{counted_within, counted_last}

abbrev descending : Key
descending = record { collation = Binary; descending = true }

abbrev falling : List (Term × Key)
falling = (col 1 0, descending) ∷ []

-- SELECT the number of the last row
abbrev pub last_of : Table → Program
last_of table = record { lets = []; body = limited_query (inner table.tree end) [] (col 1 0 ∷ []) falling 1 }

abbrev number_cells : ℕ → Row
number_cells n = Int (pos n) ∷ []

by_falling : (a b : ℕ) → key_cmp 0 (descending ∷ []) (Int (pos a) ∷ []) (Int (pos b) ∷ []) ≡ int_cmp (pos b) (pos a)
by_falling a b = then-Equal _ ∙ value_cmp-Int (pos b) (pos a)

-- no greater number comes before
pub not_below : (m n : ℕ) → is_lt (int_cmp (pos n) (pos m)) ≡ false → m ≤ n
not_below m n h = elim (cases_Bool (nat_lt n m)) [
  | inl less ↦ absurd (let e : true ≡ false = ap (λ b. is_lt (cond b Less (cond (nat_lt m n) Greater Equal))) (sym less) ∙ h in cc)
  | inr not ↦ ltb-false n m not
]

module _ {A : Type 0} (number : A → ℕ) where
  abbrev from_the_last : A → A → Ordering
  from_the_last a b = int_cmp (pos (number b)) (pos (number a))

  from_the_last_total : IsTotalOrder from_the_last
  from_the_last_total = back_total (on_total (λ x. pos (number x)) int_cmp_total)

  greatest : (xs ys : List A) → AreCounted number xs → IsPermutation xs ys → IsSorted from_the_last ys
      → slice_index_or (map number (take 1 ys)) 0 0 ≡ length xs
  greatest xs [] counted same sorted = length_permutation xs [] same
  greatest [] (y ∷ ys) counted same sorted = absurd (omega (arith, length_permutation [] (y ∷ ys) same))
  greatest (x ∷ xs) (y ∷ ys) counted same sorted =
      let most = all_has (λ z. number z < 1 + length (x ∷ xs)) (x ∷ xs) y (counted_within number 1 (x ∷ xs) counted) (had (x ∷ xs) (y ∷ ys) same y (inl refl)) in
      let last = counted_last number 1 x xs counted in
      let is = last.2 in
      let there : Has (y ∷ ys) last.0 =
      had (y ∷ ys) (x ∷ xs) (IsPermutation-sym (x ∷ xs) (y ∷ ys) same) last.0 last.1 in
      let least : 1 + length xs ≤ number y = elim there [
        | inl e ↦ let k = ap number e in omega (arith, k, is)
        | inr h ↦ let k = not_below (number last.0) (number y) (all_has (λ z. is_lt (from_the_last z y) ≡ false) ys last.0 (head_below from_the_last from_the_last_total y ys sorted) h) in omega (arith, k, is)
      ] in
      omega (arith, most, least)

  module _ (v : Version) (table : Table) (sql : List ℕ) (names : List (List ℕ)) (means : Means v sql 0 (Select (last_of table) names)) (old new : State) (has : old.now.schema ≡ schema v)
      (row : A → Row) (represents : (x : A) → eval_all (col 1 0 ∷ []) ([] ∷ row x ∷ []) ≡ number_cells (number x)) (xs : List A) (stored : old.now.trees table.tree ≡ map row xs) (counted : AreCounted number xs) where
    first_row : (rows : List Row) → Shown sql [] old new rows
        → (ys : List A) × IsPermutation xs ys × IsSorted from_the_last ys × (rows ≡ map number_cells (map number (take 1 ys)))
    first_row rows shown =
        let read = reads_as sql [] old new (schema v) has (Select (last_of table) names) means.is means.plain means.unlisted rows shown in
        let got = first_answers table.tree [] (col 1 0 ∷ []) falling old.now.trees [] row xs (λ _. true) (λ x. number_cells (number x)) (λ x. number_cells (number x)) from_the_last
        stored (λ _. refl) represents represents (λ a b. by_falling (number a) (number b)) 1 rows (read.answer Null) in
        (got.0, subst (λ l. IsPermutation l got.0) (kept_all xs) got.1, got.2, got.3 ∙ sym (map-map number_cells number (take 1 got.0)))

    pub last_finds : (r : Result ℕ StoreFault) → IfOk r (FindsFirst sql [] old new) → IfOk r (λ n. n ≡ length xs)
    last_finds r found = IfOk-weaker r _ _ (λ n it. let got = first_row it.rows it.shown in it.is (map number (take 1 got.0)) got.3 ∙ greatest xs got.0 counted got.1 got.2) found

    small : (ys : List A) → AllByRecursion (λ y. number y < 2 ^ 32) ys
        → AllByRecursion (λ n. n < 2 ^ 32) (map number (take 1 ys))
    small [] all = tt
    small (y ∷ ys) all = (all.0, tt)

    pub last_faults : accepts_program (schema v) [] (limited_query (inner table.tree end) [] (col 1 0 ∷ []) falling 1) [] ≡ true
        → length xs < 2 ^ 31 → IsUnlimited old
        → (r : Result ℕ StoreFault) → IfErr r (Misses number_cells (λ n. n < 2 ^ 32) sql [] old new)
        → IfErr r (HasCause old new)
    last_faults typed few free r missed =
        all_caused number_cells (λ n. n < 2 ^ 32) sql [] old new r missed
        (read_cause sql [] old new (schema v) has (last_of table) names means.is means.plain means.whole means.unlisted (λ db e refused. none_refuse refused (λ t. both_ways _ t typed) (sums_nothing _)) free)
        (λ rows shown. let got = first_row rows shown in (
          map number (take 1 got.0),
          got.3,
          small got.0 (all_found (λ x. number x < 2 ^ 32) (λ _. true) xs got.0 (subst (λ l. IsPermutation l got.0) (sym (kept_all xs)) got.1)
              (all_weaker (λ x. number x < 1 + length xs) (λ x. number x < 2 ^ 32) (λ x h. omega (arith, h, few)) xs (counted_within number 1 xs counted))),
        ))
