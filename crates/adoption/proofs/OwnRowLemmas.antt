-- The office's own row is judged as the list of causes has it.
use Rattle.std.proofs.Common.{◌≡◌, inl, inr, ℕ, pos, ◌+◌, List, [], ◌∷◌, ◌++◌, length, map, codes, Bool, true, false}
use Rattle.std.proofs.Common.{cond, not, ◌&&◌, ◌||◌, nat_eq, Option, Some, None, is_none, filter_map, unwrap_or, refl}
use Rattle.std.proofs.Common.{sym, ap, subst, subst₂, ◌∙◌, arith, length-append, ℤ}
use Rattle.std.proofs.Math.Nat.{le_refl}
use Rattle.std.proofs.lemmas.List.{length-map}
use Rattle.std.specs.declared.cmp.Ordering.TheVariants.{Less, Equal}
use Rattle.sqlite.proofs.Callers.{one_permutation}
use Rattle.sqlite.specs.Collation.TheVariants.{Binary}
use Rattle.sqlite.specs.Command.TheVariants.{Select}
use Rattle.sqlite.specs.Listing.{understood}
use Rattle.sqlite.specs.State.{State, Shown}
use Rattle.sqlite.specs.Term.{Term, col}
use Rattle.sqlite_tied.specs.Compute.{everything}
use Rattle.sqlite_value.specs.declared.keys.Key.{Key}
use Rattle.isad_core.specs.Days.{is_day_number}
use Rattle.isad_core.specs.Limits.{most_unit_numbers, most_seats, most_daily, most_hands, most_run_size}
use Rattle.isad_core.specs.Texts.{Bytes}
use Rattle.office_tables.proofs.Queries.{asking}
use Rattle.office_tables.specs.StatementMeaning.{Means}
use Rattle.row_decoding.proofs.TableReads.{in_table, was_open}
use Rattle.row_decoding.specs.Readings.{by_rowid}
use Rattle.office_core.specs.Words.{first}
use Rattle.adoption.specs.declared.own_row.Numbers.{Numbers}
use Rattle.adoption.proofs.Common.{AllByRecursion, AreOwnRows, Database, First, Int, IsDatabase, IsLive, IsPermutation}
use Rattle.adoption.proofs.Common.{IsTable, OfficeRow, OwnRow, Row, Schema, Second, StandInOrder, StandsInOrder, Table}
use Rattle.adoption.proofs.Common.{Version, are_good_numbers, ascending, cases_Bool, column, cons_option, eqb-true}
use Rattle.adoption.proofs.Common.{from, from_first, has_unread, is_between, is_country, is_good_office, is_number}
use Rattle.adoption.proofs.Common.{is_repository, length_permutation, no_office, number_in, office, office_cells_back}
use Rattle.adoption.proofs.Common.{office_numbers, option_map_or, or_parts, own_from, own_judged, own_of, read_office}
use Rattle.adoption.proofs.Common.{schema, text_in, then-Equal, value_cmp, value_cmp-Int, version_number, whole_in}

-- ---- one row

-- what a row of the table tells, where it is good
abbrev own_told : Version → Row → Option OwnRow
own_told version row = from (read_office row) (λ office. cond (is_good_office version office) (Some (own_of office)) None)

mixed : (v c r rest : Bool) (n : Numbers) (own : OwnRow) (judge : Numbers → Option OwnRow)
    → judge n ≡ cond (v && rest) (Some own) None
    → cond (v && (c && (r && rest))) (Some own) None ≡ from (cond (c && r) (Some n) None) judge
mixed v true true rest n own judge is = sym is
mixed true true false rest n own judge is = refl
mixed false true false rest n own judge is = refl
mixed true false r rest n own judge is = refl
mixed false false r rest n own judge is = refl

module _ (v : Version) where
  abbrev tell : OfficeRow → Option OwnRow
  tell office = cond (is_good_office v office) (Some (own_of office)) None

  abbrev judge : Numbers → Option OwnRow
  judge n = cond (are_good_numbers (version_number v) n) (Some (own_from n)) None

  abbrev has_texts : Option Bytes → Option Bytes → Bool
  has_texts country repo = option_map_or is_country country false && option_map_or is_repository repo false

  -- the office of these numbers, with texts
  abbrev office_with : Option Bytes → Option Bytes → Numbers → Option OfficeRow
  office_with country repo n =
      from country (λ country. from repo (λ repo.
      Some (record { version = n.version; country = country; repo = repo; seats = n.seats; daily = n.daily; hands = n.hands; run_size = n.run_size; day = n.day; next_unit = n.next_unit })))

  told_with : (country repo : Option Bytes) (n : Numbers)
      → from (office_with country repo n) tell ≡ from (cond (has_texts country repo) (Some n) None) judge
  told_with None repo n = refl
  told_with (Some country) None n = elim (is_country country) as (λ b. None ≡ from (cond (b && false) (Some n) None) judge) [ true ↦ refl | false ↦ refl ]
  told_with (Some country) (Some repo) n =
      mixed (nat_eq n.version (version_number v)) (is_country country) (is_repository repo)
      (is_between 1 most_seats n.seats && (is_between 1 most_daily n.daily && (is_between 1 most_hands n.hands && (is_between 1 most_run_size n.run_size && (is_day_number n.day && is_between 1 (most_unit_numbers + 1) n.next_unit)))))
      n (own_from n) judge refl

  -- the numbers behind the row's own, one by one
  abbrev numbers_of : Option ℕ → Option ℕ → Option ℕ → Option ℕ → Option ℕ → Option ℤ → Option ℕ → Option Numbers
  numbers_of version seats daily hands run_size day next_unit =
      from version (λ version. from seats (λ seats. from daily (λ daily. from hands (λ hands. from run_size (λ run_size. from day (λ day. from next_unit (λ next_unit.
      Some (record { version = version; seats = seats; daily = daily; hands = hands; run_size = run_size; day = day; next_unit = next_unit }))))))))

  abbrev office_of_cells : Option ℕ → Option ℕ → Option ℕ → Option ℕ → Option ℕ → Option ℤ → Option ℕ → Option Bytes
      → Option Bytes → Option OfficeRow
  office_of_cells version seats daily hands run_size day next_unit country repo =
      from version (λ version. from seats (λ seats. from daily (λ daily. from hands (λ hands. from run_size (λ run_size. from day (λ day. from next_unit (λ next_unit.
      from country (λ country. from repo (λ repo.
      Some (record { version = version; country = country; repo = repo; seats = seats; daily = daily; hands = hands; run_size = run_size; day = day; next_unit = next_unit }))))))))))

  told_of : (version seats daily hands run_size : Option ℕ) (day : Option ℤ) (next_unit : Option ℕ) (country repo : Option Bytes)
      → from (office_of_cells version seats daily hands run_size day next_unit country repo) tell
      ≡ from (from (numbers_of version seats daily hands run_size day next_unit) (λ n. cond (has_texts country repo) (Some n) None)) judge
  told_of None s d h r y n c p = refl
  told_of (Some v) None d h r y n c p = refl
  told_of (Some v) (Some s) None h r y n c p = refl
  told_of (Some v) (Some s) (Some d) None r y n c p = refl
  told_of (Some v) (Some s) (Some d) (Some h) None y n c p = refl
  told_of (Some v) (Some s) (Some d) (Some h) (Some r) None n c p = refl
  told_of (Some v) (Some s) (Some d) (Some h) (Some r) (Some y) None c p = refl
  told_of (Some v) (Some s) (Some d) (Some h) (Some r) (Some y) (Some n) c p =
      told_with c p (record { version = v; seats = s; daily = d; hands = h; run_size = r; day = y; next_unit = n })

  -- behind a row number that is 1
  told_behind : (one : Option ℕ) (said : Option OfficeRow) (numbers : Option Numbers) (texts : Bool)
      → from said tell ≡ from (from numbers (λ n. cond texts (Some n) None)) judge
      → from (from one (λ one. from (cond (nat_eq one 1) (Some one) None) (λ _. said))) tell
      ≡ from (from (from one (λ one. from (cond (nat_eq one 1) (Some one) None) (λ _. numbers))) (λ n. cond texts (Some n) None)) judge
  told_behind None said numbers texts is = refl
  told_behind (Some one) said numbers texts is =
      elim (nat_eq one 1) as (λ b. from (from (cond b (Some one) None) (λ _. said)) tell ≡ from (from (from (cond b (Some one) None) (λ _. numbers)) (λ n. cond texts (Some n) None)) judge)
      [ true ↦ is | false ↦ refl ]

  told_so : (cells : Row) → own_told v (office_cells_back cells) ≡ own_judged (version_number v) (office_numbers cells)
  told_so cells =
      let version = number_in (column cells 1) in
      let seats = number_in (column cells 2) in
      let daily = number_in (column cells 3) in
      let hands = number_in (column cells 4) in
      let run_size = number_in (column cells 5) in
      let day = whole_in (column cells 6) in
      let next_unit = number_in (column cells 7) in
      let country = text_in (column cells 8) in
      let repo = text_in (column cells 9) in
      told_behind (number_in (column cells 0)) (office_of_cells version seats daily hands run_size day next_unit country repo) (numbers_of version seats daily hands run_size day next_unit)
      (has_texts country repo) (told_of version seats daily hands run_size day next_unit country repo)

-- ---- a table

abbrev office_in : List Row → OfficeRow
office_in table = unwrap_or (first (filter_map read_office table)) no_office

-- what the rows of the table tell, where they are not defective
abbrev own_of_table : Version → List Row → Option OwnRow
own_of_table version table =
    cond (has_unread read_office table || not (is_good_office version (office_in table))) None (Some (own_of (office_in table)))

none_there : (version : Version) → own_of_table version [] ≡ None
none_there First = refl
none_there Second = refl

flip : (b : Bool) (x : OwnRow) → cond (not b) None (Some x) ≡ cond b (Some x) None
flip true x = refl
flip false x = refl

one_there : (version : Version) (row : Row) → own_of_table version (row ∷ []) ≡ own_told version row
one_there version row = at (read_office row)
  where
    at : (o : Option OfficeRow)
        → cond ((is_none o || false) || not (is_good_office version (unwrap_or (first (cons_option o [])) no_office))) None (Some (own_of (unwrap_or (first (cons_option o [])) no_office)))
        ≡ from o (λ office. cond (is_good_office version office) (Some (own_of office)) None)
    at None = refl
    at (Some office) = flip (is_good_office version office) (own_of office)

is_first : (n m : ℕ) → cond (nat_eq n 1) (Some n) None ≡ Some m → n ≡ 1
is_first n m h = elim (cases_Bool (nat_eq n 1)) [
  | inl same ↦ eqb-true n 1 same
  | inr other ↦ absurd (let clash : None ≡ Some m = sym (ap (λ b. cond b (Some n) None) other) ∙ h in cc)
]

-- a row that can be read has the number 1
numbered_one : (row : Row) → is_none (read_office row) ≡ false → column row 0 ≡ Int (pos 1)
numbered_one row read = at (read_office row) refl read
  where
    at : (o : Option OfficeRow) → read_office row ≡ o → is_none o ≡ false → column row 0 ≡ Int (pos 1)
    at None is h = absurd (let clash : true ≡ false = h in cc)
    at (Some office) is h =
        let a = from_first (number_in (column row 0)) _ office is in
        let b = from_first (cond (nat_eq a.0 1) (Some a.0) None) _ office a.2 in
        is_number (column row 0) a.0 a.1 ∙ ap (λ n. Int (pos n)) (is_first a.0 b.0 b.1)

-- and no two rows have one number
many_there : (version : Version) (a b : Row) (more : List Row) → IsTable (a ∷ b ∷ more)
    → own_of_table version (a ∷ b ∷ more) ≡ None
many_there version a b more risen = elim (cases_Bool (has_unread read_office (a ∷ b ∷ more))) [
  | inl some ↦ ap (λ u. cond (u || not (is_good_office version (office_in (a ∷ b ∷ more)))) None (Some (own_of (office_in (a ∷ b ∷ more))))) some
  | inr none ↦
      let parts = or_parts (is_none (read_office a)) (has_unread read_office (b ∷ more)) none in
      let rest = or_parts (is_none (read_office b)) (has_unread read_office more) parts.1 in
      let less : value_cmp (Int (pos 1)) (Int (pos 1)) ≡ Less =
      subst₂ (λ x y. value_cmp x y ≡ Less) (numbered_one a parts.0) (numbered_one b rest.0) risen.0.0 in
      let clash : Equal ≡ Less = sym (value_cmp-Int (pos 1) (pos 1)) ∙ less in
      absurd (cc)
]

-- ---- as it was gathered

abbrev pub own_text : List ℕ
own_text = codes "SELECT one, version, seats, daily, hands, run_size, day, next_unit, country, repo FROM office ORDER BY one"

abbrev pub own_terms : List Term
own_terms = col 1 0 ∷ col 1 2 ∷ col 1 5 ∷ col 1 6 ∷ col 1 7 ∷ col 1 8 ∷ col 1 9 ∷ col 1 10 ∷ col 1 3 ∷ col 1 4 ∷ []

abbrev pub by_one : List (Term × Key)
by_one = (col 1 0, ascending Binary) ∷ []

abbrev pub own_names : List (List ℕ)
own_names =
    codes "one" ∷ codes "version" ∷ codes "seats" ∷ codes "daily" ∷ codes "hands" ∷ codes "run_size" ∷ codes "day" ∷ codes "next_unit" ∷ codes "country"
    ∷ codes "repo" ∷ []

pub own_means : (v : Version) → Means v own_text 0 (Select (asking office [] own_terms by_one) own_names)
unfolding understood everything
own_means v = record { is = refl; plain = (refl, refl); whole = (le_refl _, refl, refl); unlisted = refl }

-- the row numbers of the office's table rise
pub office_risen : (v : Version) (db : Database) → db.schema ≡ schema v → StandInOrder db → IsTable (db.trees 14)
office_risen v db has ordered =
    let all = subst (λ (s : Schema). AllByRecursion (λ (table : Table). StandsInOrder (db.trees table.tree)) s.tables) has ordered in
    all.1.1.1.1.1.1.1.0.rise

abbrev shown_office : Row → Row
shown_office row =
    column row 0 ∷ column row 2 ∷ column row 5 ∷ column row 6 ∷ column row 7 ∷ column row 8 ∷ column row 9 ∷ column row 10 ∷ column row 3 ∷ column row 4 ∷ []

-- the tables keep their rules, and these are the rows
pub scanned_office : (old new : State) (rows : List Row) (v : Version) → old.now.schema ≡ schema v → IsLive old
    → Shown own_text [] old new rows
    → IsDatabase old.now × (ys : List Row) × IsPermutation (old.now.trees 14) ys × (rows ≡ map shown_office ys)
scanned_office old new rows v has live shown =
    let got = in_table office own_terms by_one own_names own_text v (own_means v) by_rowid (λ a b. then-Equal _) old new has rows shown in
    ((live (was_open office own_terms by_one own_names own_text v (own_means v) old new has rows shown)).0, got.0, got.1, got.3)

module _ (version : Version) (ys rows : List Row) (count : ℕ) (told : Option Numbers) (shown : rows ≡ map shown_office ys) (held : AreOwnRows rows count told) where
  counted : (table : List Row) → IsPermutation table ys → count ≡ length table
  counted table same = held.counted ∙ ap length shown ∙ length-map ys shown_office ∙ length_permutation table ys same

  pub judged_one : (table : List Row) → IsPermutation table ys → count ≡ 1
      → own_judged (version_number version) told ≡ own_of_table version table
  judged_one [] same one = absurd (omega (arith, one, counted [] same))
  judged_one (row ∷ []) same one =
      let alone : rows ≡ shown_office row ∷ [] = shown ∙ ap (map shown_office) (one_permutation row ys same) in
      ap (own_judged (version_number version)) (held.is (shown_office row) alone) ∙ sym (told_so version (shown_office row)) ∙ sym (one_there version row)
  judged_one (a ∷ b ∷ more) same one = absurd (omega (arith, one, counted (a ∷ b ∷ more) same))

  pub judged_not_one : (table : List Row) → IsPermutation table ys → IsTable table → (count ≡ 1 → ⊥)
      → None ≡ own_of_table version table
  judged_not_one [] same risen not_one = sym (none_there version)
  judged_not_one (row ∷ []) same risen not_one = absurd (not_one (counted (row ∷ []) same))
  judged_not_one (a ∷ b ∷ more) same risen not_one = sym (many_there version a b more risen)

-- ---- one row more

pub taken_more : (rows : List Row) (row : Row) (count : ℕ) (told : Option Numbers) (new : Option Numbers)
    → new ≡ office_numbers row → AreOwnRows rows count told → AreOwnRows (rows ++ row ∷ []) (count + 1) new
taken_more rows row count told new is held = record {
  counted = omega (arith, held.counted, length-append rows (row ∷ []));
  is = λ cells alone. is ∙ ap office_numbers (last rows cells alone);
}
  where
    last : (rows : List Row) (cells : Row) → rows ++ row ∷ [] ≡ cells ∷ [] → row ≡ cells
    last [] cells alone = ap head_or alone
      where
        head_or : List Row → Row
        head_or [] = row
        head_or (x ∷ xs) = x
    last (x ∷ []) cells alone = absurd (cc)
    last (x ∷ y ∷ more) cells alone = absurd (cc)
