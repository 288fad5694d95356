-- The units are judged beside the places.
use Rattle.std.proofs.Common.{◌≡◌, ℕ, List, [], ◌∷◌, length, map, Bool, true, false, not, ◌&&◌, ◌||◌, nat_eq, nat_le}
use Rattle.std.proofs.Common.{nat_lt, is_none, filter_map, refl, sym, ap, ap₂, ◌∙◌, codes}
use Rattle.sqlite.specs.Listing.{understood}
use Rattle.sqlite_tied.specs.Compute.{everything}
use Rattle.office_tables.specs.Schema as tables
use Rattle.row_decoding.specs.TableRows.{by}
use Rattle.integrity_checks.proofs.Common.{Alike, AreGathered, AreUnitsPlaced, IsPermutation, Means, Row, Select, Shown}
use Rattle.integrity_checks.proofs.Common.{State, Term, Trees, UnitRow, Version, alike_back, alike_then, all_alike}
use Rattle.integrity_checks.proofs.Common.{all_stand_in, any_alike, are_good_unit_numbers, asking, catalogue_in, col}
use Rattle.integrity_checks.proofs.Common.{described_in_answer, encoding, has_unread, height, in_any_order, in_table}
use Rattle.integrity_checks.proofs.Common.{is_described, le_refl, length-map, length_alike, length_permutation}
use Rattle.integrity_checks.proofs.Common.{list_all, list_all-map, list_any-IsPermutation, list_any-map, most_deep}
use Rattle.integrity_checks.proofs.Common.{most_units, ordered_alike, permuted, place_numbers, places_in, places_said}
use Rattle.integrity_checks.proofs.Common.{read_alike, read_described, read_unit, same_rows, show, stands, unit_numbers}
use Rattle.integrity_checks.proofs.Common.{units_are_defective}
use Rattle.integrity_checks.proofs.Tested.{said_shown, unread_shown, unread_tested, same_tested}

-- ---- the text

abbrev pub units_text : List ℕ
units_text = codes "SELECT id, source, legacy, level, draft, until FROM unit"

abbrev pub units_terms : List Term
units_terms = col 1 0 ∷ col 1 2 ∷ col 1 3 ∷ col 1 4 ∷ col 1 6 ∷ col 1 5 ∷ []

abbrev pub units_names : List (List ℕ)
units_names = codes "id" ∷ codes "source" ∷ codes "legacy" ∷ codes "level" ∷ codes "draft" ∷ codes "until" ∷ []

pub units_mean : (v : Version) → Means v units_text 0 (Select (asking tables.unit [] units_terms []) units_names)
unfolding understood everything
units_mean v = record { is = refl; plain = (refl, refl); whole = (le_refl _, refl, refl); unlisted = refl }

abbrev pub show_unit : Row → Row
show_unit = show units_terms

-- ---- what the rows tell

abbrev id_of : UnitRow → ℕ
id_of row = row.id

all_both : {X : Type 0} (p q : X → Bool) (xs : List X)
    → list_all (λ x. p x && q x) xs ≡ (list_all p xs && list_all q xs)
all_both p q [] = refl
all_both p q (x ∷ xs) = ap (λ b. (p x && q x) && b) (all_both p q xs) ∙ crossed (p x) (q x) (list_all p xs) (list_all q xs)
  where
    crossed : (a b c d : Bool) → ((a && b) && (c && d)) ≡ ((a && c) && (b && d))
    crossed true true c d = refl
    crossed true false true d = refl
    crossed true false false d = refl
    crossed false b c d = refl

judged_both : (unread described below rest good fine : Bool) → good ≡ not (unread || not described)
    → (unread ≡ false → described ≡ true → fine ≡ (below && rest))
    → (good && fine) ≡ not (unread || not ((below && described) && rest))
judged_both true d l r good fine is fit = ap (λ b. b && fine) is
judged_both false false true r good fine is fit = ap (λ b. b && fine) is
judged_both false false false r good fine is fit = ap (λ b. b && fine) is
judged_both false true true r good fine is fit = ap₂ ◌&&◌ is (fit refl refl) ∙ twice r
  where
    twice : (b : Bool) → b ≡ not (not b)
    twice true = refl
    twice false = refl
judged_both false true false r good fine is fit = ap₂ ◌&&◌ is (fit refl refl)

-- ---- numbers in another order

all_stand_alike : (xs sorted ys others : List ℕ) → IsPermutation xs sorted → IsPermutation ys others
    → all_stand_in sorted others ≡ all_stand_in xs ys
all_stand_alike xs sorted ys others same alike =
    sym (λ i. list_all (λ n. list_any-IsPermutation (nat_eq n) xs sorted same i) others) ∙ sym (all_alike (λ n. stands n xs) ys others (permuted ys others alike))

pub numbers_alike : (next deep : ℕ) (numbers units placed places : List ℕ) → IsPermutation numbers units
    → IsPermutation placed places
    → are_good_unit_numbers next places deep units ≡ are_good_unit_numbers next placed deep numbers
numbers_alike next deep numbers units placed places same alike =
    ap₂ ◌&&◌ (sym (all_alike (λ n. nat_lt n next) numbers units (permuted numbers units same)))
    (ap₂ ◌&&◌ (all_stand_alike placed places numbers units alike same) (ap₂ ◌&&◌ (all_stand_alike numbers units placed places same alike)
    (ap (λ n. nat_le n most_units && nat_le deep most_deep) (length_permutation numbers units same))))

module _ (v : Version) (next : ℕ) (db : Trees) (ys rows : List Row) (numbers : List ℕ) (good : Bool) (gathered : AreGathered (λ n. n) described_in_answer rows numbers good)
    (same : IsPermutation (db tables.unit.tree) ys) (shown : rows ≡ map show_unit ys) where
  abbrev table : List Row
  table = db tables.unit.tree

  -- as they were read
  abbrev units : List UnitRow
  units = filter_map read_unit ys

  abbrev in_catalogue : List UnitRow
  in_catalogue = (catalogue_in v db).units

  alike : Alike units in_catalogue
  alike = alike_back in_catalogue units
      (alike_then in_catalogue (filter_map read_unit table) units (ordered_alike (by id_of) (filter_map read_unit table)) (read_alike read_unit table ys same))

  unread : has_unread described_in_answer rows ≡ (has_unread read_unit table || not (list_all is_described in_catalogue))
  unread =
      ap (has_unread described_in_answer) shown ∙ unread_shown described_in_answer read_described show_unit (λ _. refl) ys ∙ unread_tested read_unit is_described id_of ys
      ∙ ap₂ (λ a b. a || not b) (sym (list_any-IsPermutation (λ row. is_none (read_unit row)) table ys same)) (all_alike is_described units in_catalogue alike)

  module _ (none : has_unread read_unit table ≡ false) (all : list_all is_described in_catalogue ≡ true) where
    all_read : has_unread described_in_answer rows ≡ false
    all_read = unread ∙ ap₂ (λ a b. a || not b) none all

    are_numbers : numbers ≡ map id_of units
    are_numbers =
        same_rows numbers ∙ gathered.are ∙ ap (filter_map described_in_answer) shown ∙ said_shown described_in_answer read_described show_unit (λ _. refl) ys
        ∙ same_tested read_unit is_described id_of ys (sym (ap (has_unread described_in_answer) shown ∙ unread_shown described_in_answer read_described show_unit (λ _. refl) ys) ∙ all_read)

    below : list_all (λ n. nat_lt n next) numbers ≡ list_all (λ (row : UnitRow). nat_lt row.id next) in_catalogue
    below =
        ap (list_all (λ n. nat_lt n next)) are_numbers ∙ list_all-map (λ n. nat_lt n next) id_of units
        ∙ all_alike (λ (row : UnitRow). nat_lt row.id next) units in_catalogue alike

    stand : (n : ℕ) → stands n numbers ≡ stands n (unit_numbers (catalogue_in v db))
    stand n =
        ap (stands n) are_numbers ∙ list_any-map (nat_eq n) id_of units
        ∙ any_alike (λ (row : UnitRow). nat_eq n row.id) units in_catalogue alike
        ∙ sym (list_any-map (nat_eq n) id_of in_catalogue)

    as_many : length numbers ≡ length in_catalogue
    as_many = ap length are_numbers ∙ length-map units id_of ∙ length_alike units in_catalogue alike

    module _ (places : List ℕ) (deep : ℕ) (placed : AreUnitsPlaced (places_in (encoding v) db) places) (depth : deep ≡ height (places_said (places_in (encoding v) db))) where
      abbrev in_places : List ℕ
      in_places = place_numbers (places_in (encoding v) db)

      stand_placed : (n : ℕ) → stands n places ≡ stands n in_places
      stand_placed n = sym (list_any-IsPermutation (nat_eq n) in_places places placed.same)

      all_placed : all_stand_in places numbers ≡ all_stand_in in_places (unit_numbers (catalogue_in v db))
      all_placed =
          (λ i. list_all (λ n. stand_placed n i) numbers) ∙ ap (list_all (λ n. stands n in_places)) are_numbers ∙ list_all-map (λ n. stands n in_places) id_of units
          ∙ all_alike (λ (row : UnitRow). stands row.id in_places) units in_catalogue alike
          ∙ sym (list_all-map (λ n. stands n in_places) id_of in_catalogue)

      all_there : all_stand_in numbers places ≡ all_stand_in (unit_numbers (catalogue_in v db)) in_places
      all_there =
          (λ i. list_all (λ n. stand n i) places) ∙ sym (all_alike (λ n. stands n (unit_numbers (catalogue_in v db))) in_places places (permuted in_places places placed.same))

      fits : are_good_unit_numbers next places deep numbers
          ≡ (list_all (λ (row : UnitRow). nat_lt row.id next) in_catalogue && (all_stand_in in_places (unit_numbers (catalogue_in v db)) && (all_stand_in (unit_numbers (catalogue_in v db)) in_places
          && (nat_le (length in_catalogue) most_units && nat_le (height (places_said (places_in (encoding v) db))) most_deep))))
      fits = ap₂ ◌&&◌ below (ap₂ ◌&&◌ all_placed (ap₂ ◌&&◌ all_there (ap₂ ◌&&◌ (ap (λ n. nat_le n most_units) as_many) (ap (λ n. nat_le n most_deep) depth))))

  pub units_judged : (places : List ℕ) (deep : ℕ) → AreUnitsPlaced (places_in (encoding v) db) places
      → deep ≡ height (places_said (places_in (encoding v) db)) → (fine : Bool)
      → fine ≡ are_good_unit_numbers next places deep numbers
      → (good && fine) ≡ not (units_are_defective v next db)
  units_judged places deep placed depth fine is =
      let rest = all_stand_in (place_numbers (places_in (encoding v) db)) (unit_numbers (catalogue_in v db)) && (all_stand_in (unit_numbers (catalogue_in v db)) (place_numbers (places_in (encoding v) db))
      && (nat_le (length in_catalogue) most_units && nat_le (height (places_said (places_in (encoding v) db))) most_deep)) in
      judged_both (has_unread read_unit table) (list_all is_described in_catalogue) (list_all (λ (row : UnitRow). nat_lt row.id next) in_catalogue) rest good fine
      (gathered.all ∙ ap not unread) (λ none all. is ∙ fits none all places deep placed depth)
      ∙ ap (λ b. not (has_unread read_unit table || not (b && rest))) (sym (all_both (λ (row : UnitRow). nat_lt row.id next) is_described in_catalogue))

-- what was gathered judges the table
pub units_told : (v version : Version) (next : ℕ) (old new : State) (rows : List Row) (numbers : List ℕ) (good : Bool) (places : List ℕ) (deep : ℕ) (fine : Bool)
    → old.now.schema ≡ tables.schema v → Shown units_text [] old new rows → AreGathered (λ n. n) described_in_answer rows numbers good
    → AreUnitsPlaced (places_in (encoding version) old.now.trees) places → deep ≡ height (places_said (places_in (encoding version) old.now.trees))
    → fine ≡ are_good_unit_numbers next places deep numbers → (good && fine) ≡ not (units_are_defective version next old.now.trees)
units_told v version next old new rows numbers good places deep fine has shown gathered placed depth is =
    let got = in_table tables.unit units_terms [] units_names units_text v (units_mean v) in_any_order (λ a b. refl) old new has rows shown in
    units_judged version next old.now.trees got.0 rows numbers good gathered got.1 got.3 places deep placed depth fine is
