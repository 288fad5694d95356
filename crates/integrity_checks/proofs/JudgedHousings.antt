-- What lies in containers is judged in the order of the units.
use Rattle.std.proofs.Common.{inl, inr, ◌≡◌, ℕ, suc, pos, ◌+◌, ◌<◌, List, [], ◌∷◌, ◌++◌, length, map, Bool, true, false}
use Rattle.std.proofs.Common.{cond, not, ◌&&◌, ◌||◌, nat_eq, nat_le, Option, Some, None, is_none, filter_map, get_or}
use Rattle.std.proofs.Common.{Ordering, Less, Equal, Greater, refl, sym, ap, ap₂, subst, ◌∙◌, arith, codes}
use Rattle.std.proofs.lemmas.List.{append-nil}
use Rattle.std.proofs.lemmas.List.Elements.{filter_map-append}
use Rattle.sqlite.specs.Listing.{understood}
use Rattle.sqlite.specs.Query.{key_cmp}
use Rattle.sqlite_tied.specs.Compute.{everything}
use Rattle.office_tables.specs.Schema as tables
use Rattle.integrity_checks.proofs.Common.{Alike, AllByRecursion, AreSummedUp, Binary, HousingRow, Int, IsLive}
use Rattle.integrity_checks.proofs.Common.{IsPermutation, IsSorted, Key, Means, Null, Row, Select, Shown, State, Term}
use Rattle.integrity_checks.proofs.Common.{Trees, Up, Version, alike_then, all_alike, are_filled, ascending, asking}
use Rattle.integrity_checks.proofs.Common.{by_rowid, cases_Bool, catalogue_in, col, column, cons_option, containers_in}
use Rattle.integrity_checks.proofs.Common.{eq-eqb, filter_alike, from_first, get_or-map, good_housings_in, has_unread}
use Rattle.integrity_checks.proofs.Common.{higher, housing_in_answer, in_table, is_between, is_good_housing, is_lt}
use Rattle.integrity_checks.proofs.Common.{is_placed, le_refl, length-map, list_all, list_all-append, list_any-append}
use Rattle.integrity_checks.proofs.Common.{ne_eqb, option_map_or, ordered_alike, ordering_then, permuted, read_alike}
use Rattle.integrity_checks.proofs.Common.{read_housing, read_placed, read_unit, same_rows, show, stands, then-Equal}
use Rattle.integrity_checks.proofs.Common.{then_by, unit_numbers, up_read, value_cmp, was_open}
use Rattle.integrity_checks.proofs.FilledUnits.{unit_of, rows_of, higher_is, filled_judged}
use Rattle.integrity_checks.proofs.Tested.{all_same, said_shown, unread_shown, passes, judged, unread_tested}
use Rattle.integrity_checks.proofs.Tested.{same_tested}
use Rattle.integrity_checks.proofs.UnitsThere.{HasUnit, housing_unit, housing_has_unit, housings_have_units}

-- ---- one row more

or_false : (b : Bool) → (b || (false || false)) ≡ b
or_false true = refl
or_false false = refl

or_true : (b : Bool) → (b || (true || false)) ≡ true
or_true true = refl
or_true false = refl

put_last : {A : Type 0} (xs : List A) (x : A) (ys : List A) → (xs ++ x ∷ []) ++ ys ≡ xs ++ x ∷ ys
put_last [] x ys = refl
put_last (z ∷ xs) x ys = ap (λ l. z ∷ l) (put_last xs x ys)

abbrev within : ℕ → HousingRow → Bool
within n row = nat_le row.container n

module _ (rows : List Row) (row : Row) where
  unread_more : has_unread housing_in_answer (rows ++ row ∷ []) ≡ (has_unread housing_in_answer rows || (is_none (housing_in_answer row) || false))
  unread_more = list_any-append (λ r. is_none (housing_in_answer r)) rows (row ∷ [])

  said_more : filter_map housing_in_answer (rows ++ row ∷ []) ≡ filter_map housing_in_answer rows ++ cons_option (housing_in_answer row) []
  said_more = filter_map-append housing_in_answer rows (row ∷ [])

  module _ (good : Bool) (unit count highest last : ℕ) (so_far : AreSummedUp rows good unit count highest last) where
    pub one_unread : housing_in_answer row ≡ None → AreSummedUp (rows ++ row ∷ []) false unit count highest last
    one_unread none = record {
      filled = λ more. ap (λ b. not b && are_filled 0 0 0 (filter_map housing_in_answer (rows ++ row ∷ []) ++ more)) (unread_more ∙ ap (λ o. has_unread housing_in_answer rows || (is_none o || false)) none ∙ or_true (has_unread housing_in_answer rows));
      contained = λ n. so_far.contained n ∙ ap (list_all (within n)) (sym (said_more ∙ ap (λ o. filter_map housing_in_answer rows ++ cons_option o []) none ∙ append-nil (filter_map housing_in_answer rows)));
    }

    module _ (it : HousingRow) (is : housing_in_answer row ≡ Some it) (last_now : ℕ) (last_is : last_now ≡ higher last it.container) where
      none_more : has_unread housing_in_answer (rows ++ row ∷ []) ≡ has_unread housing_in_answer rows
      none_more = unread_more ∙ ap (λ o. has_unread housing_in_answer rows || (is_none o || false)) is ∙ or_false (has_unread housing_in_answer rows)

      it_more : filter_map housing_in_answer (rows ++ row ∷ []) ≡ filter_map housing_in_answer rows ++ it ∷ []
      it_more = said_more ∙ ap (λ o. filter_map housing_in_answer rows ++ cons_option o []) is

      then_it : (more : List HousingRow)
          → (not (has_unread housing_in_answer (rows ++ row ∷ [])) && are_filled 0 0 0 (filter_map housing_in_answer (rows ++ row ∷ []) ++ more)) ≡ (good && are_filled unit count highest (it ∷ more))
      then_it more =
          ap₂ (λ b l. not b && are_filled 0 0 0 l) none_more (ap (λ l. l ++ more) it_more ∙ put_last (filter_map housing_in_answer rows) it more)
          ∙ so_far.filled (it ∷ more)

      then_contained : (n : ℕ) → nat_le last_now n ≡ list_all (within n) (filter_map housing_in_answer (rows ++ row ∷ []))
      then_contained n =
          ap (λ m. nat_le m n) last_is ∙ higher_is last it.container n ∙ ap₂ ◌&&◌ (so_far.contained n) (and_true (nat_le it.container n)) ∙ sym (list_all-append (within n) (filter_map housing_in_answer rows) (it ∷ [])) ∙ ap (list_all (within n)) (sym it_more)
        where
          and_true : (b : Bool) → b ≡ (b && true)
          and_true true = refl
          and_true false = refl

      pub same_unit : it.unit ≡ unit → (highest_now : ℕ) → highest_now ≡ higher highest it.ord
          → AreSummedUp (rows ++ row ∷ []) good unit (count + 1) highest_now last_now
      same_unit h highest_now highest_is = record {
        filled =
            λ more. then_it more
            ∙ ap (λ b. good && cond b (are_filled unit (suc count) (higher highest it.ord) more) (nat_le highest count && are_filled it.unit 1 it.ord more)) (eq-eqb it.unit unit h)
            ∙ ap₂ (λ n m. good && are_filled unit n m more) (let one : suc count ≡ count + 1 = omega arith in one) (sym highest_is);
        contained = then_contained;
      }

      next_unit : (it.unit ≡ unit → ⊥) → (good_now : Bool) → good_now ≡ (good && nat_le highest count)
          → AreSummedUp (rows ++ row ∷ []) good_now it.unit 1 it.ord last_now
      next_unit h good_now now = record {
        filled =
            λ more. then_it more
            ∙ ap (λ b. good && cond b (are_filled unit (suc count) (higher highest it.ord) more) (nat_le highest count && are_filled it.unit 1 it.ord more)) (ne_eqb it.unit unit h)
            ∙ regroup good (nat_le highest count) (are_filled it.unit 1 it.ord more) ∙ ap (λ b. b && are_filled it.unit 1 it.ord more) (sym now);
        contained = then_contained;
      }
        where
          regroup : (a b c : Bool) → (a && (b && c)) ≡ ((a && b) && c)
          regroup true b c = refl
          regroup false b c = refl

      pub next_filled : (it.unit ≡ unit → ⊥) → nat_le highest count ≡ true
          → AreSummedUp (rows ++ row ∷ []) good it.unit 1 it.ord last_now
      next_filled h full = next_unit h good (sym (ap (λ b. good && b) full ∙ only good))
        where
          only : (b : Bool) → (b && true) ≡ b
          only true = refl
          only false = refl

      pub next_above : (it.unit ≡ unit → ⊥) → nat_le highest count ≡ false
          → AreSummedUp (rows ++ row ∷ []) false it.unit 1 it.ord last_now
      next_above h above = next_unit h false (sym (ap (λ b. good && b) above ∙ never good))
        where
          never : (b : Bool) → (b && false) ≡ false
          never true = refl
          never false = refl

-- ---- the text

abbrev pub housings_text : List ℕ
housings_text = codes "SELECT unit, ord, container FROM housing ORDER BY unit, ord"

abbrev pub housings_terms : List Term
housings_terms = col 1 1 ∷ col 1 2 ∷ col 1 3 ∷ []

abbrev pub by_unit_and_ord : List (Term × Key)
by_unit_and_ord = (col 1 1, ascending Binary) ∷ (col 1 2, ascending Binary) ∷ []

abbrev pub housings_names : List (List ℕ)
housings_names = codes "unit" ∷ codes "ord" ∷ codes "container" ∷ []

pub housings_mean : (v : Version)
    → Means v housings_text 0 (Select (asking tables.housing [] housings_terms by_unit_and_ord) housings_names)
unfolding understood everything
housings_mean v = record { is = refl; plain = (refl, refl); whole = (le_refl _, refl, refl); unlisted = refl }

abbrev pub show_housing : Row → Row
show_housing = show housings_terms

-- ---- by their units

abbrev pub by_unit : Row → Row → Ordering
by_unit a b = ordering_then (value_cmp (column a 1) (column b 1)) (value_cmp (column a 2) (column b 2))

pub compares : (a b : Row)
    → key_cmp 0 (ascending Binary ∷ ascending Binary ∷ []) (column a 1 ∷ column a 2 ∷ []) (column b 1 ∷ column b 2 ∷ []) ≡ by_unit a b
compares a b = ap (ordering_then (value_cmp (column a 1) (column b 1))) (then-Equal (value_cmp (column a 2) (column b 2)))

not_less : (o p : Ordering) → is_lt (ordering_then o p) ≡ false → is_lt o ≡ false
not_less Less p h = h
not_less Equal p h = refl
not_less Greater p h = refl

sorted_shown : (ys : List Row) → IsSorted by_unit ys → IsSorted by_rowid (map show_housing ys)
sorted_shown ys up = λ k d low high.
    let far : k + 1 < length ys = subst (λ n. k + 1 < n) (length-map ys show_housing) high in
    let near : k < length ys = omega (arith, far) in
    ap₂ (λ a b. is_lt (by_rowid a b)) (get_or-map show_housing ys (k + 1) [] d far) (get_or-map show_housing ys k [] d near)
    ∙ not_less (value_cmp (column (get_or ys (k + 1) []) 1) (column (get_or ys k []) 1)) (value_cmp (column (get_or ys (k + 1) []) 2) (column (get_or ys k []) 2)) (up k [] low far)

same_row : (b : Bool) (y x : HousingRow) → cond b (Some y) None ≡ Some x → y.unit ≡ x.unit
same_row true y x h = ap (λ (o : Option HousingRow). option_map_or unit_of o 0) h
same_row false y x h = absurd cc

keyed : (cells : Row) (x : HousingRow) → housing_in_answer cells ≡ Some x → column cells 0 ≡ Int (pos x.unit)
keyed cells x h =
    let a = from_first (read_housing (Null ∷ column cells 0 ∷ column cells 1 ∷ column cells 2 ∷ [])) _ x h in
    housing_unit (Null ∷ column cells 0 ∷ column cells 1 ∷ column cells 2 ∷ []) a.0 a.1 ∙ ap (λ n. Int (pos n)) (same_row (is_placed a.0) a.0 x a.2)

-- ---- what the rows tell

and_true : (a b : Bool) → a ≡ true → (a && b) ≡ b
and_true true b h = refl
and_true false b h = absurd cc

twice : (b : Bool) → b ≡ not (not b)
twice true = refl
twice false = refl

both : (u g : Bool) → (not u && g) ≡ not (u || not g)
both true g = refl
both false g = twice g

-- what is held against the containers, and what against the places
split : (one below here there : Bool) → ((one && below) && (here && there)) ≡ ((here && one) && (below && there))
split true true here there = shuffled here there
  where
    shuffled : (a b : Bool) → (a && b) ≡ ((a && true) && b)
    shuffled true b = refl
    shuffled false b = refl
split true false true there = refl
split true false false there = refl
split false below true there = refl
split false below false there = refl

all_split : (p c w : HousingRow → Bool) (good : HousingRow → Bool) (rows : List HousingRow)
    → ((row : HousingRow) → good row ≡ (p row && (c row && w row)))
    → list_all good rows ≡ (list_all p rows && (list_all c rows && list_all w rows))
all_split p c w good [] is = refl
all_split p c w good (row ∷ rows) is =
    ap₂ ◌&&◌ (is row) (all_split p c w good rows is)
    ∙ crossed (p row) (c row) (w row) (list_all p rows) (list_all c rows) (list_all w rows)
  where
    crossed : (a b c d e f : Bool) → ((a && (b && c)) && (d && (e && f))) ≡ ((a && d) && ((b && e) && (c && f)))
    crossed true true true d e f = refl
    crossed true true false true true f = refl
    crossed true true false true false f = refl
    crossed true true false false e f = refl
    crossed true false c true e f = refl
    crossed true false c false e f = refl
    crossed false b c d e f = refl

ends : (untold unread placed c w good filled last : Bool) → untold ≡ (unread || not placed)
    → (good && filled) ≡ (not untold && w) → last ≡ c
    → ((good && filled) && last) ≡ not (unread || not (placed && (c && w)))
ends untold unread placed c w good filled last is kept fits =
    ap₂ ◌&&◌ (kept ∙ ap (λ b. not b && w) is) fits ∙ told unread placed
  where
    turned : (x y : Bool) → (x && y) ≡ not (not (y && x))
    turned true true = refl
    turned true false = refl
    turned false true = refl
    turned false false = refl

    told : (u p : Bool) → ((not (u || not p) && w) && c) ≡ not (u || not (p && (c && w)))
    told true p = refl
    told false true = turned w c
    told false false = refl

module _ (v : Version) (db : Trees) (units_read : has_unread read_unit (db tables.unit.tree) ≡ false) (ys rows : List Row) (good : Bool) (unit count highest last : ℕ) (held : AreSummedUp rows good unit count highest last)
    (same : IsPermutation (db tables.housing.tree) ys) (sorted : IsSorted by_unit ys) (shown : rows ≡ map show_housing ys) (kept : AllByRecursion (HasUnit v db) (db tables.housing.tree))
    (containers : ℕ) (as_many : length (containers_in db) ≡ containers) where
  abbrev table : List Row
  table = db tables.housing.tree

  -- as they were read
  abbrev housings : List HousingRow
  housings = filter_map read_housing ys

  abbrev said : List HousingRow
  said = filter_map housing_in_answer rows

  abbrev in_catalogue : List HousingRow
  in_catalogue = (catalogue_in v db).housings

  from_catalogue : Alike in_catalogue housings
  from_catalogue =
      alike_then in_catalogue (filter_map read_housing table) housings
      (ordered_alike (then_by (λ (row : HousingRow). row.unit) (λ (row : HousingRow). row.ord)) (filter_map read_housing table)) (read_alike read_housing table ys same)

  -- a row whose unit is there
  abbrev fits : HousingRow → Bool
  fits row = is_between 1 containers row.container && is_between 1 (rows_of row.unit in_catalogue) row.ord

  abbrev good_row : HousingRow → Bool
  good_row = is_good_housing (catalogue_in v db)

  same_test : (row : Row) → HasUnit v db row → passes read_housing good_row row ≡ passes read_housing fits row
  same_test row has = at (read_housing row) refl
    where
      at : (o : Option HousingRow) → read_housing row ≡ o → option_map_or good_row o false ≡ option_map_or fits o false
      at None read = refl
      at (Some h) read =
          and_true (stands h.unit (unit_numbers (catalogue_in v db))) (is_between 1 (length (containers_in db)) h.container && is_between 1 (rows_of h.unit in_catalogue) h.ord) (housing_has_unit v db units_read row h read has)
          ∙ ap (λ n. is_between 1 n h.container && is_between 1 (rows_of h.unit in_catalogue) h.ord) as_many

  same_tests : (rows : List Row) → AllByRecursion (HasUnit v db) rows
      → AllByRecursion (λ row. passes read_housing good_row row ≡ passes read_housing fits row) rows
  same_tests [] h = tt
  same_tests (row ∷ rows) h = (same_test row h.0, same_tests rows h.1)

  abbrev lies_low : HousingRow → Bool
  lies_low row = nat_le row.ord (rows_of row.unit housings)

  same_fits : list_all fits housings ≡ (list_all is_placed housings && (list_all (within containers) housings && list_all lies_low housings))
  same_fits = all_split is_placed (within containers) lies_low fits housings
      (λ row. ap (λ n. is_between 1 containers row.container && is_between 1 n row.ord) (filter_alike (λ (other : HousingRow). nat_eq other.unit row.unit) in_catalogue housings from_catalogue)
      ∙ split (nat_le 1 row.container) (nat_le row.container containers) (nat_le 1 row.ord) (lies_low row))

  judged_so : good_housings_in v db ≡ not (has_unread read_housing ys || not (list_all is_placed housings && (list_all (within containers) housings && list_all lies_low housings)))
  judged_so =
      ap (λ b. not (has_unread read_housing table) && b) (all_alike good_row in_catalogue (filter_map read_housing table) (ordered_alike (then_by (λ (row : HousingRow). row.unit) (λ (row : HousingRow). row.ord)) (filter_map read_housing table)))
      ∙ both (has_unread read_housing table) (list_all good_row (filter_map read_housing table))
      ∙ ap not (judged read_housing good_row table)
      ∙ ap (λ b. not (not b)) (all_same (passes read_housing good_row) (passes read_housing fits) table (same_tests table kept) ∙ all_alike (passes read_housing fits) table ys (permuted table ys same))
      ∙ ap not (sym (judged read_housing fits ys)) ∙ ap (λ b. not (has_unread read_housing ys || not b)) same_fits

  untold : has_unread housing_in_answer rows ≡ (has_unread read_housing ys || not (list_all is_placed housings))
  untold =
      ap (has_unread housing_in_answer) shown ∙ unread_shown housing_in_answer read_placed show_housing (λ _. refl) ys
      ∙ unread_tested read_housing is_placed (λ row. row) ys

  told : has_unread housing_in_answer rows ≡ false → said ≡ housings
  told none =
      ap (filter_map housing_in_answer) shown ∙ said_shown housing_in_answer read_placed show_housing (λ _. refl) ys
      ∙ same_tested read_housing is_placed (λ row. row) ys (sym (ap (has_unread housing_in_answer) shown ∙ unread_shown housing_in_answer read_placed show_housing (λ _. refl) ys) ∙ none)
      ∙ sym (same_rows housings)

  up : Up unit_of said
  up = subst (λ rs. Up unit_of (filter_map housing_in_answer rs)) (sym shown) (up_read housing_in_answer unit_of keyed (map show_housing ys) (sorted_shown ys sorted))

  pub housings_judged : ((good && nat_le highest count) && nat_le last containers) ≡ good_housings_in v db
  housings_judged = elim (cases_Bool (has_unread housing_in_answer rows)) [
    | inl some ↦
        ap (λ b. b && nat_le last containers) (sym (held.filled []) ∙ ap (λ b. not b && are_filled 0 0 0 (said ++ [])) some)
        ∙ sym (judged_so ∙ never (has_unread read_housing ys) (list_all is_placed housings) (list_all (within containers) housings && list_all lies_low housings) (sym untold ∙ some))
    | inr none ↦
        let is = told none in
        ends (has_unread housing_in_answer rows) (has_unread read_housing ys) (list_all is_placed housings) (list_all (within containers) housings) (list_all lies_low housings) good (nat_le highest count) (nat_le last containers)
        untold
        (sym (held.filled []) ∙ ap (λ l. not (has_unread housing_in_answer rows) && are_filled 0 0 0 l) (append-nil said)
        ∙ ap (λ b. not (has_unread housing_in_answer rows) && b) (filled_judged said up ∙ ap (λ l. list_all (λ (row : HousingRow). nat_le row.ord (rows_of row.unit l)) l) is))
        (held.contained containers ∙ ap (list_all (within containers)) is)
        ∙ sym judged_so
  ]
    where
      never : (u p x : Bool) → (u || not p) ≡ true → not (u || not (p && x)) ≡ false
      never true p x h = refl
      never false true x h = absurd cc
      never false false x h = refl

-- what was gathered judges the table
pub housings_told : (v : Version) (old new : State) (rows : List Row) (good : Bool) (unit count highest last containers : ℕ) → old.now.schema ≡ tables.schema v
    → Shown housings_text [] old new rows → AreSummedUp rows good unit count highest last → IsLive old
    → has_unread read_unit (old.now.trees tables.unit.tree) ≡ false → length (containers_in old.now.trees) ≡ containers
    → ((good && nat_le highest count) && nat_le last containers) ≡ good_housings_in v old.now.trees
housings_told v old new rows good unit count highest last containers has shown held live units_read as_many =
    let got = in_table tables.housing housings_terms by_unit_and_ord housings_names housings_text v (housings_mean v) by_unit compares old new has rows shown in
    let kept = housings_have_units old v has live (was_open tables.housing housings_terms by_unit_and_ord housings_names housings_text v (housings_mean v) old new has rows shown) in
    housings_judged v old.now.trees units_read got.0 rows good unit count highest last held got.1 got.2 got.3 kept containers as_many
