-- The containers are judged in the order of their numbers.
use Rattle.std.proofs.Common.{length-append, inl, inr, ◌≡◌, ℕ, suc, pos, ◌+◌, List, [], ◌∷◌, ◌++◌, length, map, Bool}
use Rattle.std.proofs.Common.{true, false, cond, not, ◌&&◌, ◌||◌, nat_eq, nat_le, Option, Some, None, is_none}
use Rattle.std.proofs.Common.{filter_map, refl, sym, ap, ap₂, ◌∙◌, arith, codes}
use Rattle.sqlite.specs.Listing.{understood}
use Rattle.sqlite_tied.specs.Compute.{everything}
use Rattle.isad_core.specs.Texts.{is_blank_text}
use Rattle.office_tables.specs.Schema as tables
use Rattle.row_decoding.specs.TableRows.{by}
use Rattle.integrity_checks.specs.ScanAnswers.{is_numbered}
use Rattle.integrity_checks.proofs.Common.{Binary, ContainerRow, Int, IsPermutation, IsSorted, Key, Means, Row, Select}
use Rattle.integrity_checks.proofs.Common.{Shown, State, Term, Trees, Version, alike_then, all_alike, and-false}
use Rattle.integrity_checks.proofs.Common.{and-true, and_assoc, are_container_answers, are_good_container_rows}
use Rattle.integrity_checks.proofs.Common.{are_numbered_from, ascending, asking, by_rowid, cases_Bool, col, column}
use Rattle.integrity_checks.proofs.Common.{cons_option, containers_in, from_first, good_containers_in, has_unread}
use Rattle.integrity_checks.proofs.Common.{in_table, is_container_answer, is_number, le_refl, length-map}
use Rattle.integrity_checks.proofs.Common.{length_ordered, length_permutation, length_read, list_all}
use Rattle.integrity_checks.proofs.Common.{list_any-IsPermutation, number_in, number_of_containers, option_map_or}
use Rattle.integrity_checks.proofs.Common.{ordered_alike, read_alike, read_by_number, read_container, show, text_in}
use Rattle.integrity_checks.proofs.Common.{then-Equal}

-- ---- one row more

one_more : (n : ℕ) (rows : List Row) (row : Row)
    → are_container_answers n (rows ++ row ∷ []) ≡ (are_container_answers n rows && is_container_answer (n + length rows) row)
one_more n [] row = and-true (is_container_answer n row) ∙ ap (λ k. is_container_answer k row) (let same : n ≡ n + 0 = omega arith in same)
one_more n (r ∷ rows) row =
    elim (is_container_answer n r) as (λ b. (b && are_container_answers (suc n) (rows ++ row ∷ [])) ≡ ((b && are_container_answers (suc n) rows) && is_container_answer (n + suc (length rows)) row)) [
      | true ↦ one_more (suc n) rows row ∙ ap (λ k. are_container_answers (suc n) rows && is_container_answer k row) (omega arith)
      | false ↦ refl
    ]

taken : (count : ℕ) (good answer : Bool) (rows : List Row) (row : Row) → count ≡ length rows
    → good ≡ are_container_answers 1 rows → answer ≡ is_container_answer (count + 1) row
    → (count + 1 ≡ length (rows ++ row ∷ [])) × ((good && answer) ≡ are_container_answers 1 (rows ++ row ∷ []))
taken count good answer rows row counted so_far is =
    (omega (arith, counted, length-append rows (row ∷ [])), ap₂ ◌&&◌ so_far (is ∙ ap (λ k. is_container_answer k row) (let same : count + 1 ≡ 1 + length rows = omega (arith, counted) in same)) ∙ sym (one_more 1 rows row))

pub taken_bad : (count : ℕ) (good answer : Bool) (rows : List Row) (row : Row) → answer ≡ false → count ≡ length rows
    → good ≡ are_container_answers 1 rows → answer ≡ is_container_answer (count + 1) row
    → (count + 1 ≡ length (rows ++ row ∷ [])) × (false ≡ are_container_answers 1 (rows ++ row ∷ []))
taken_bad count good answer rows row fails counted so_far is = let all = taken count good answer rows row counted so_far is in (all.0, sym (and-false good) ∙ ap (λ b. good && b) (sym fails) ∙ all.1)

pub taken_good : (count : ℕ) (good answer : Bool) (rows : List Row) (row : Row) → answer ≡ true → count ≡ length rows
    → good ≡ are_container_answers 1 rows → answer ≡ is_container_answer (count + 1) row
    → (count + 1 ≡ length (rows ++ row ∷ [])) × (good ≡ are_container_answers 1 (rows ++ row ∷ []))
taken_good count good answer rows row passes counted so_far is = let all = taken count good answer rows row counted so_far is in (all.0, sym (and-true good) ∙ ap (λ b. good && b) (sym passes) ∙ all.1)

-- ---- the text

abbrev pub containers_text : List ℕ
containers_text = codes "SELECT id, name, location, kind FROM container ORDER BY id"

abbrev pub containers_terms : List Term
containers_terms = col 1 0 ∷ col 1 2 ∷ col 1 3 ∷ col 1 4 ∷ []

abbrev pub by_id : List (Term × Key)
by_id = (col 1 0, ascending Binary) ∷ []

abbrev pub containers_names : List (List ℕ)
containers_names = codes "id" ∷ codes "name" ∷ codes "location" ∷ codes "kind" ∷ []

pub containers_mean : (v : Version)
    → Means v containers_text 0 (Select (asking tables.container [] containers_terms by_id) containers_names)
unfolding understood everything
containers_mean v = record { is = refl; plain = (refl, refl); whole = (le_refl _, refl, refl); unlisted = refl }

abbrev pub show_container : Row → Row
show_container = show containers_terms

-- ---- what the rows tell

abbrev id_of : ContainerRow → ℕ
id_of row = row.id

abbrev named : ContainerRow → Bool
named row = not (is_blank_text row.name)

keyed : (row : Row) (x : ContainerRow) → read_container row ≡ Some x → column row 0 ≡ Int (pos x.id)
keyed row x h =
    let a = from_first (number_in (column row 0)) _ x h in
    let b = from_first (text_in (column row 2)) _ x a.2 in
    let c = from_first (text_in (column row 3)) _ x b.2 in
    let d = from_first (text_in (column row 4)) _ x c.2 in
    let made : a.0 ≡ x.id = ap (λ (o : Option ContainerRow). option_map_or id_of o 0) d.2 in
    is_number (column row 0) a.0 a.1 ∙ ap (λ n. Int (pos n)) made

pub mixed : (a m u n l : Bool) → ((a && m) && (u && (n && l))) ≡ (u && ((a && n) && (m && l)))
mixed true true true n l = refl
mixed true true false n l = refl
mixed true false true true l = refl
mixed true false true false l = refl
mixed true false false n l = refl
mixed false m true n l = refl
mixed false m false n l = refl

answers_read : (n : ℕ) (ys : List Row) → are_container_answers n (map show_container ys)
    ≡ (not (has_unread read_container ys) && (are_numbered_from id_of n (filter_map read_container ys) && list_all named (filter_map read_container ys)))
answers_read n [] = refl
answers_read n (y ∷ ys) = at (answers_read (suc n) ys) (read_container y)
  where
    at : are_container_answers (suc n) (map show_container ys) ≡ (not (has_unread read_container ys) && (are_numbered_from id_of (suc n) (filter_map read_container ys) && list_all named (filter_map read_container ys)))
        → (o : Option ContainerRow)
        → (option_map_or (is_numbered n) o false && are_container_answers (suc n) (map show_container ys))
        ≡ (not (is_none o || has_unread read_container ys) && (are_numbered_from id_of n (cons_option o (filter_map read_container ys)) && list_all named (cons_option o (filter_map read_container ys))))
    at more None = refl
    at more (Some c) = ap (λ b. is_numbered n c && b) more
        ∙ mixed (nat_eq c.id n) (named c) (not (has_unread read_container ys)) (are_numbered_from id_of (suc n) (filter_map read_container ys)) (list_all named (filter_map read_container ys))

module _ (db : Trees) (ys rows : List Row) (count : ℕ) (good : Bool) (same : IsPermutation (db tables.container.tree) ys) (sorted : IsSorted by_rowid ys) (shown : rows ≡ map show_container ys)
    (counted : count ≡ length rows) (is : good ≡ are_container_answers 1 rows) where
  abbrev table : List Row
  table = db tables.container.tree

  unread : has_unread read_container ys ≡ has_unread read_container table
  unread = sym (list_any-IsPermutation (λ row. is_none (read_container row)) table ys same)

  all_told : good ≡ (not (has_unread read_container table) && (are_numbered_from id_of 1 (filter_map read_container ys) && list_all named (filter_map read_container ys)))
  all_told =
      is ∙ ap (are_container_answers 1) shown ∙ answers_read 1 ys
      ∙ ap (λ u. not u && (are_numbered_from id_of 1 (filter_map read_container ys) && list_all named (filter_map read_container ys))) unread

  same_named : list_all named (filter_map read_container ys) ≡ list_all named (containers_in db)
  same_named = sym (all_alike named (containers_in db) (filter_map read_container ys)
      (alike_then (containers_in db) (filter_map read_container table) (filter_map read_container ys) (ordered_alike (by id_of) (filter_map read_container table)) (read_alike read_container table ys same)))

  module _ (none : has_unread read_container table ≡ false) where
    as_many : count ≡ length (containers_in db)
    as_many =
        counted ∙ ap length shown ∙ length-map ys show_container ∙ length_permutation table ys same ∙ sym (length_read read_container table none)
        ∙ sym (length_ordered id_of (by id_of) (filter_map read_container table))

  containers_judged : (good && nat_le count 100000) ≡ good_containers_in db
  containers_judged = elim (cases_Bool (has_unread read_container table)) [
    | inl some ↦
        ap (λ b. b && nat_le count 100000) (all_told ∙ ap (λ u. not u && (are_numbered_from id_of 1 (filter_map read_container ys) && list_all named (filter_map read_container ys))) some)
        ∙ sym (ap (λ u. not u && are_good_container_rows (containers_in db)) some)
    | inr none ↦
        ap (λ b. b && nat_le count 100000) (all_told ∙ ap (λ u. not u && (are_numbered_from id_of 1 (filter_map read_container ys) && list_all named (filter_map read_container ys))) none)
        ∙ ap₂ ◌&&◌ (ap₂ ◌&&◌ (read_by_number read_container id_of keyed table ys same sorted none) same_named) (ap (λ n. nat_le n 100000) (as_many none))
        ∙ and_assoc (are_numbered_from id_of 1 (containers_in db)) (list_all named (containers_in db)) (nat_le (length (containers_in db)) 100000)
        ∙ sym (ap (λ u. not u && are_good_container_rows (containers_in db)) none)
  ]

  pub so_many : (good && nat_le count 100000) ≡ true → Some count ≡ number_of_containers db
  so_many fine =
      let sound : good_containers_in db ≡ true = sym containers_judged ∙ fine in
      let none : has_unread read_container table ≡ false = all_of (has_unread read_container table) sound in
      ap Some (as_many none) ∙ sym (ap (λ b. cond b (Some (length (containers_in db))) None) sound)
    where
      all_of : (u : Bool) → (not u && are_good_container_rows (containers_in db)) ≡ true → u ≡ false
      all_of true h = absurd cc
      all_of false h = refl

  pub not_good : (good && nat_le count 100000) ≡ false → None ≡ number_of_containers db
  not_good bad = sym (ap (λ b. cond b (Some (length (containers_in db))) None) (sym containers_judged ∙ bad))

-- what was gathered tells how many there are
pub numbered_so : (v : Version) (old new : State) (rows : List Row) (count : ℕ) (good known : Bool) → old.now.schema ≡ tables.schema v
    → Shown containers_text [] old new rows → count ≡ length rows → good ≡ are_container_answers 1 rows
    → (good && nat_le count 100000) ≡ known → cond known (Some count) None ≡ number_of_containers old.now.trees
numbered_so v old new rows count good true has shown counted is fine =
    let got = in_table tables.container containers_terms by_id containers_names containers_text v (containers_mean v) by_rowid (λ a b. then-Equal _) old new has rows shown in
    so_many old.now.trees got.0 rows count good got.1 got.2 got.3 counted is fine
numbered_so v old new rows count good false has shown counted is bad =
    let got = in_table tables.container containers_terms by_id containers_names containers_text v (containers_mean v) by_rowid (λ a b. then-Equal _) old new has rows shown in
    not_good old.now.trees got.0 rows count good got.1 got.2 got.3 counted is bad
