-- The elements are judged row by row.
use Rattle.std.proofs.Common.{◌≡◌, ℕ, List, [], ◌∷◌, map, Bool, true, false, not, ◌&&◌, ◌||◌, nat_eq, Option, Some}
use Rattle.std.proofs.Common.{None, filter_map, refl, sym, ap, ◌∙◌, codes}
use Rattle.sqlite.specs.Listing.{understood}
use Rattle.sqlite_tied.specs.Compute.{everything}
use Rattle.isad_core.specs.Texts.{is_blank_text}
use Rattle.office_tables.specs.Schema as tables
use Rattle.integrity_checks.proofs.Common.{AllByRecursion, ElementRow, IsPermutation, Means, Row, Select, Term, Trees}
use Rattle.integrity_checks.proofs.Common.{Version, all_alike, asking, catalogue_in, col, elements_are_defective}
use Rattle.integrity_checks.proofs.Common.{has_unread, in_order, is_between, is_element_answer, is_good_element}
use Rattle.integrity_checks.proofs.Common.{is_good_value, le_refl, list_all, list_all-map, not-not, option_map_or}
use Rattle.integrity_checks.proofs.Common.{ordered_alike, permuted, read_element, read_unit, show, then_by}
use Rattle.integrity_checks.proofs.Common.{unit_numbers}
use Rattle.integrity_checks.proofs.Tested.{all_same, passes, judged}
use Rattle.integrity_checks.proofs.UnitsThere.{HasUnit, element_has_unit}

-- ---- the text

abbrev pub elements_text : List ℕ
elements_text = codes "SELECT unit, k, value FROM element"

abbrev pub elements_terms : List Term
elements_terms = col 1 1 ∷ col 1 2 ∷ col 1 3 ∷ []

abbrev pub elements_names : List (List ℕ)
elements_names = codes "unit" ∷ codes "k" ∷ codes "value" ∷ []

pub elements_mean : (v : Version)
    → Means v elements_text 0 (Select (asking tables.element [] elements_terms []) elements_names)
unfolding understood everything
elements_mean v = record { is = refl; plain = (refl, refl); whole = (le_refl _, refl, refl); unlisted = refl }

-- ---- what the rows tell

and_true : (a b c d : Bool) → d ≡ true → (a && (b && (c && d))) ≡ (a && (b && c))
and_true true true true d h = h
and_true true true false d h = refl
and_true true false c d h = refl
and_true false b c d h = refl

module _ (v : Version) (db : Trees) (units_read : has_unread read_unit (db tables.unit.tree) ≡ false) where
  abbrev table : List Row
  table = db tables.element.tree

  abbrev good : ElementRow → Bool
  good = is_good_element (unit_numbers (catalogue_in v db))

  same_test : (row : Row) → HasUnit v db row → passes read_element good row ≡ passes read_element is_good_value row
  same_test row held = at (read_element row) refl
    where
      at : (o : Option ElementRow) → read_element row ≡ o
          → option_map_or good o false ≡ option_map_or is_good_value o false
      at None read = refl
      at (Some e) read = and_true (is_between 1 26 e.k) (not (nat_eq e.k 4)) (not (is_blank_text e.value)) _ (element_has_unit v db units_read row e read held)

  same_tests : (rows : List Row) → AllByRecursion (HasUnit v db) rows
      → AllByRecursion (λ row. passes read_element good row ≡ passes read_element is_good_value row) rows
  same_tests [] h = tt
  same_tests (row ∷ rows) h = (same_test row h.0, same_tests rows h.1)

  pub elements_judged : AllByRecursion (HasUnit v db) table → (ys rows : List Row) → IsPermutation table ys
      → rows ≡ map (show elements_terms) ys → list_all is_element_answer rows ≡ not (elements_are_defective v db)
  elements_judged kept ys rows same shown =
      let fits = passes read_element is_good_value in
      let by_key = then_by (λ (row : ElementRow). row.unit) (λ (row : ElementRow). row.k) in
      ap (list_all is_element_answer) shown
      ∙ list_all-map is_element_answer (show elements_terms) ys
      ∙ sym (all_alike fits table ys (permuted table ys same))
      ∙ sym (all_same (passes read_element good) fits table (same_tests table kept))
      ∙ sym (not-not (list_all (passes read_element good) table)) ∙ ap not (sym (judged read_element good table))
      ∙ ap (λ b. not (has_unread read_element table || not b)) (sym (all_alike good (in_order by_key (filter_map read_element table)) (filter_map read_element table) (ordered_alike by_key (filter_map read_element table))))
