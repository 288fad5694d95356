-- The readers are judged in the order of their tickets.
use Rattle.std.proofs.Common.{length-append, inl, inr, ◌≡◌, ℕ, suc, pos, ◌+◌, List, [], ◌∷◌, ◌++◌, length, map, Bool}
use Rattle.std.proofs.Common.{true, false, cond, not, ◌&&◌, ◌||◌, nat_eq, nat_le, Option, Some, None, is_none}
use Rattle.std.proofs.Common.{filter_map, refl, sym, ap, ap₂, ◌∙◌, arith, codes}
use Rattle.sqlite.specs.Listing.{understood}
use Rattle.sqlite_tied.specs.Compute.{everything}
use Rattle.office_tables.proofs.ByNumber.{by}
use Rattle.office_tables.specs.Schema.{reader, schema}
use Rattle.integrity_checks.proofs.Common.{Binary, Int, IsPermutation, IsSorted, Key, Means, ReaderRow, Row, Select}
use Rattle.integrity_checks.proofs.Common.{Shown, State, Term, Trees, Version, all_as_any, and-false, and-true}
use Rattle.integrity_checks.proofs.Common.{any_ordered, any_read, are_numbered_from, are_reader_answers}
use Rattle.integrity_checks.proofs.Common.{are_registered_well, ascending, asking, by_key, cases_Bool, col, column}
use Rattle.integrity_checks.proofs.Common.{cons_option, from_first, has_unread, in_order, in_table, is_good_reader}
use Rattle.integrity_checks.proofs.Common.{is_number, is_reader_answer, is_reader_with, le_refl, length-map}
use Rattle.integrity_checks.proofs.Common.{length_ordered, length_permutation, length_read, list_all}
use Rattle.integrity_checks.proofs.Common.{list_any-IsPermutation, number_in, number_registered, option_map_or}
use Rattle.integrity_checks.proofs.Common.{or_parts, read_by_number, read_reader, readers_are_defective, readers_in}
use Rattle.integrity_checks.proofs.Common.{text_in, then-Equal, whole_in}
use Rattle.integrity_checks.proofs.JudgedContainers.{mixed}

-- ---- one row more

pub one_more : (n : ℕ) (rows : List Row) (row : Row)
    → are_reader_answers n (rows ++ row ∷ []) ≡ (are_reader_answers n rows && is_reader_answer (n + length rows) row)
one_more n [] row = and-true (is_reader_answer n row) ∙ ap (λ k. is_reader_answer k row) (let same : n ≡ n + 0 = omega arith in same)
one_more n (r ∷ rows) row =
    elim (is_reader_answer n r) as (λ b. (b && are_reader_answers (suc n) (rows ++ row ∷ [])) ≡ ((b && are_reader_answers (suc n) rows) && is_reader_answer (n + suc (length rows)) row)) [
      | true ↦ one_more (suc n) rows row ∙ ap (λ k. are_reader_answers (suc n) rows && is_reader_answer k row) (omega arith)
      | false ↦ refl
    ]

taken : (count : ℕ) (good answer : Bool) (rows : List Row) (row : Row) → count ≡ length rows
    → good ≡ are_reader_answers 1 rows → answer ≡ is_reader_answer (count + 1) row
    → (count + 1 ≡ length (rows ++ row ∷ [])) × ((good && answer) ≡ are_reader_answers 1 (rows ++ row ∷ []))
taken count good answer rows row counted so_far is =
    (omega (arith, counted, length-append rows (row ∷ [])), ap₂ ◌&&◌ so_far (is ∙ ap (λ k. is_reader_answer k row) (let same : count + 1 ≡ 1 + length rows = omega (arith, counted) in same)) ∙ sym (one_more 1 rows row))

pub taken_bad : (count : ℕ) (good answer : Bool) (rows : List Row) (row : Row) → answer ≡ false → count ≡ length rows
    → good ≡ are_reader_answers 1 rows → answer ≡ is_reader_answer (count + 1) row
    → (count + 1 ≡ length (rows ++ row ∷ [])) × (false ≡ are_reader_answers 1 (rows ++ row ∷ []))
taken_bad count good answer rows row fails counted so_far is = let all = taken count good answer rows row counted so_far is in (all.0, sym (and-false good) ∙ ap (λ b. good && b) (sym fails) ∙ all.1)

pub taken_good : (count : ℕ) (good answer : Bool) (rows : List Row) (row : Row) → answer ≡ true → count ≡ length rows
    → good ≡ are_reader_answers 1 rows → answer ≡ is_reader_answer (count + 1) row
    → (count + 1 ≡ length (rows ++ row ∷ [])) × (good ≡ are_reader_answers 1 (rows ++ row ∷ []))
taken_good count good answer rows row passes counted so_far is = let all = taken count good answer rows row counted so_far is in (all.0, sym (and-true good) ∙ ap (λ b. good && b) (sym passes) ∙ all.1)

-- ---- the text

abbrev pub all_readers_text : List ℕ
all_readers_text = codes "SELECT ticket, until, name FROM reader ORDER BY ticket"

abbrev pub all_readers_terms : List Term
all_readers_terms = col 1 0 ∷ col 1 3 ∷ col 1 2 ∷ []

abbrev pub by_ticket : List (Term × Key)
by_ticket = (col 1 0, ascending Binary) ∷ []

abbrev pub all_readers_names : List (List ℕ)
all_readers_names = codes "ticket" ∷ codes "until" ∷ codes "name" ∷ []

pub all_readers_means : (v : Version)
    → Means v all_readers_text 0 (Select (asking reader [] all_readers_terms by_ticket) all_readers_names)
unfolding understood everything
all_readers_means v = record { is = refl; plain = (refl, refl); whole = (le_refl _, refl, refl); unlisted = refl }

abbrev pub shown_reader : Row → Row
shown_reader row = column row 0 ∷ column row 3 ∷ column row 2 ∷ []

abbrev pub ticket_of : ReaderRow → ℕ
ticket_of row = row.ticket

pub keyed : (row : Row) (x : ReaderRow) → read_reader row ≡ Some x → column row 0 ≡ Int (pos x.ticket)
keyed row x h =
    let a = from_first (number_in (column row 0)) _ x h in
    let b = from_first (whole_in (column row 3)) _ x a.2 in
    let c = from_first (text_in (column row 2)) _ x b.2 in
    let made : a.0 ≡ x.ticket = ap (λ (o : Option ReaderRow). option_map_or ticket_of o 0) c.2 in
    is_number (column row 0) a.0 a.1 ∙ ap (λ n. Int (pos n)) made

-- ---- what the rows that are shown tell

answers_read : (n : ℕ) (ys : List Row) → are_reader_answers n (map shown_reader ys)
    ≡ (not (has_unread read_reader ys) && (are_numbered_from ticket_of n (filter_map read_reader ys) && list_all is_good_reader (filter_map read_reader ys)))
answers_read n [] = refl
answers_read n (y ∷ ys) = at (answers_read (suc n) ys) (read_reader y)
  where
    at : are_reader_answers (suc n) (map shown_reader ys) ≡ (not (has_unread read_reader ys) && (are_numbered_from ticket_of (suc n) (filter_map read_reader ys) && list_all is_good_reader (filter_map read_reader ys)))
        → (o : Option ReaderRow)
        → (option_map_or (is_reader_with n) o false && are_reader_answers (suc n) (map shown_reader ys))
        ≡ (not (is_none o || has_unread read_reader ys) && (are_numbered_from ticket_of n (cons_option o (filter_map read_reader ys)) && list_all is_good_reader (cons_option o (filter_map read_reader ys))))
    at more None = refl
    at more (Some c) = ap (λ b. is_reader_with n c && b) more
        ∙ mixed (nat_eq c.ticket n) (is_good_reader c) (not (has_unread read_reader ys)) (are_numbered_from ticket_of (suc n) (filter_map read_reader ys)) (list_all is_good_reader (filter_map read_reader ys))

same_all : (table ys : List Row) → IsPermutation table ys
    → list_all is_good_reader (filter_map read_reader ys) ≡ list_all is_good_reader (in_order (by ticket_of) (filter_map read_reader table))
same_all table ys same =
    let p = λ (c : ReaderRow). not (is_good_reader c) in
    all_as_any is_good_reader (filter_map read_reader ys) ∙ ap not (any_read read_reader p ys
    ∙ sym (list_any-IsPermutation (λ row. option_map_or p (read_reader row) false) table ys same)
    ∙ sym (any_read read_reader p table)
    ∙ sym (any_ordered ticket_of p (by ticket_of) (filter_map read_reader table)))
    ∙ sym (all_as_any is_good_reader (in_order (by ticket_of) (filter_map read_reader table)))

three : (a b c : Bool) → ((a && b) && c) ≡ (a && (c && b))
three true true true = refl
three true true false = refl
three true false true = refl
three true false false = refl
three false b c = refl

pub readers_judged : (db : Trees) (ys rows : List Row) (count : ℕ) (good : Bool) → IsPermutation (db 0) ys
    → IsSorted (by_key read_reader ticket_of keyed) ys → rows ≡ map shown_reader ys
    → count ≡ length rows → good ≡ are_reader_answers 1 rows
    → not (good && nat_le count 1000000) ≡ readers_are_defective db
readers_judged db ys rows count good same sorted shown counted is = elim (cases_Bool (has_unread read_reader (db 0))) [
  | inl some ↦
      let bad : good ≡ false =
      all_told
      ∙ ap (λ b. not b && (are_numbered_from ticket_of 1 (filter_map read_reader ys) && list_all is_good_reader (filter_map read_reader ys))) (unread ∙ some) in
      ap (λ b. not (b && nat_le count 1000000)) bad ∙ sym (ap (λ b. b || not (are_registered_well (readers_in db))) some)
  | inr none ↦
      let told : good ≡ (are_numbered_from ticket_of 1 (filter_map read_reader ys) && list_all is_good_reader (filter_map read_reader ys)) =
      all_told ∙ ap (λ b. not b && (are_numbered_from ticket_of 1 (filter_map read_reader ys) && list_all is_good_reader (filter_map read_reader ys))) (unread ∙ none) in
      let numbers = read_by_number read_reader ticket_of keyed (db 0) ys same sorted none in
      let long : count ≡ length (readers_in db) =
      counted ∙ ap length shown ∙ length-map ys shown_reader ∙ length_permutation (db 0) ys same ∙ sym (length_read read_reader (db 0) none) ∙ sym (length_ordered ticket_of (by ticket_of) (filter_map read_reader (db 0))) in
      ap not (ap₂ ◌&&◌ (told ∙ ap₂ ◌&&◌ numbers (same_all (db 0) ys same)) (ap (λ n. nat_le n 1000000) long)
      ∙ three (are_numbered_from ticket_of 1 (readers_in db)) (list_all is_good_reader (readers_in db)) (nat_le (length (readers_in db)) 1000000))
      ∙ sym (ap (λ b. b || not (are_registered_well (readers_in db))) none)
]
  where
    unread : has_unread read_reader ys ≡ has_unread read_reader (db 0)
    unread = sym (list_any-IsPermutation (λ row. is_none (read_reader row)) (db 0) ys same)

    all_told : good ≡ (not (has_unread read_reader ys) && (are_numbered_from ticket_of 1 (filter_map read_reader ys) && list_all is_good_reader (filter_map read_reader ys)))
    all_told = is ∙ ap (are_reader_answers 1) shown ∙ answers_read 1 ys

-- as many are counted as there are, where all of them can be read
counted_all : (db : Trees) (ys rows : List Row) (count : ℕ) → IsPermutation (db 0) ys → rows ≡ map shown_reader ys
    → count ≡ length rows → has_unread read_reader (db 0) ≡ false → count ≡ length (readers_in db)
counted_all db ys rows count same shown counted none =
    counted ∙ ap length shown ∙ length-map ys shown_reader ∙ length_permutation (db 0) ys same ∙ sym (length_read read_reader (db 0) none) ∙ sym (length_ordered ticket_of (by ticket_of) (filter_map read_reader (db 0)))

module _ (db : Trees) (ys rows : List Row) (count : ℕ) (good : Bool) (same : IsPermutation (db 0) ys) (sorted : IsSorted (by_key read_reader ticket_of keyed) ys) (shown : rows ≡ map shown_reader ys)
    (counted : count ≡ length rows) (is : good ≡ are_reader_answers 1 rows) where
  judged : not (good && nat_le count 1000000) ≡ readers_are_defective db
  judged = readers_judged db ys rows count good same sorted shown counted is

  pub registered_so_many : (good && nat_le count 1000000) ≡ true → Some count ≡ number_registered db
  registered_so_many fine =
      let sound : readers_are_defective db ≡ false = sym judged ∙ ap not fine in
      let none = (or_parts (has_unread read_reader (db 0)) (not (are_registered_well (readers_in db))) sound).0 in
      ap Some (counted_all db ys rows count same shown counted none) ∙ sym (ap (λ b. cond b None (Some (length (readers_in db)))) sound)

  pub registered_badly : (good && nat_le count 1000000) ≡ false → None ≡ number_registered db
  registered_badly bad = sym (ap (λ b. cond b None (Some (length (readers_in db)))) (sym judged ∙ ap not bad))

-- what was gathered tells how many there are
pub registered_so : (v : Version) (old new : State) (rows : List Row) (count : ℕ) (good known : Bool) → old.now.schema ≡ schema v
    → Shown all_readers_text [] old new rows → count ≡ length rows → good ≡ are_reader_answers 1 rows
    → (good && nat_le count 1000000) ≡ known → cond known (Some count) None ≡ number_registered old.now.trees
registered_so v old new rows count good true has shown counted is fine =
    let got = in_table reader all_readers_terms by_ticket all_readers_names all_readers_text v (all_readers_means v) (by_key read_reader ticket_of keyed) (λ a b. then-Equal _) old new has rows shown in
    registered_so_many old.now.trees got.0 rows count good got.1 got.2 got.3 counted is fine
registered_so v old new rows count good false has shown counted is bad =
    let got = in_table reader all_readers_terms by_ticket all_readers_names all_readers_text v (all_readers_means v) (by_key read_reader ticket_of keyed) (λ a b. then-Equal _) old new has rows shown in
    registered_badly old.now.trees got.0 rows count good got.1 got.2 got.3 counted is bad
