-- Rows that are judged as they are entered are counted as they would be on the forest before.
use Rattle.std.proofs.Common.{◌≡◌, ℕ, ◌+◌, Bool, true, false, not, cond, ◌&&◌, ◌||◌, List, [], ◌∷◌, ◌++◌, length, map}
use Rattle.std.proofs.Common.{Option, Some, None, refl, sym, ap, ap₂, subst, ◌∙◌, arith}
use Rattle.std.proofs.lemmas.List.Sums.{length-filter}
use Rattle.std.specs.Prelude.{filter}
use Rattle.catalogue_core.proofs.Common.{AllByRecursion, AllDiffer, AreGoodUnits, Bytes, Catalogue, CountsAlike, Empty}
use Rattle.catalogue_core.proofs.Common.{Forest, New, Node, Row, Unit, and_parts, branches, bytes_eq, catalogued_unit}
use Rattle.catalogue_core.proofs.Common.{cause_at, count_by, count_rows, depth_under, distinct, each, faults_below}
use Rattle.catalogue_core.proofs.Common.{find, grown, has, if_ok, is_changed, is_from, is_new, is_same, is_some, join}
use Rattle.catalogue_core.proofs.Common.{list_any, merged_forest, new_unit, new_units, nodes, nodes-each, numbered_from}
use Rattle.catalogue_core.proofs.Common.{option_map, option_map_or, option_to_list, revised, same_values, unless_cause}
use Rattle.catalogue_core.proofs.Common.{unwrap_or, with_new, with_row, with_row_at}
use Rattle.catalogue_core.proofs.DistinctLists.{all_so}
use Rattle.catalogue_core.proofs.EachOf.{all_true, none_found, some_found}
use Rattle.catalogue_core.proofs.EachRow.{none_with, onto, onto-more}
use Rattle.catalogue_core.proofs.EnteredUnits.{find-append, or_else}
use Rattle.catalogue_core.proofs.Imported.{first_ok, new_rows}
use Rattle.catalogue_core.proofs.ImportedAgain.{all_each, is_from_revised, numbered_rows, one_text, other_way}
use Rattle.catalogue_core.proofs.OneMoreRow.{all_branched}
use Rattle.catalogue_core.proofs.Rooted.{nodes-join}
use Rattle.catalogue_core.proofs.RowByRow.{IsApart, StandsSo, depth_same, further, known_more, known_number}
use Rattle.catalogue_core.proofs.RowByRow.{known_stands, new_more, new_stands, no_such_number, some_depth}
use Rattle.catalogue_core.proofs.RowsMerged.{begins, none_merged, row_by_row}

count_one : {X : Type 0} (p : X → Bool) (x : X) (xs : List X) → cond (p x) 1 0 + count_by p xs ≡ count_by p (x ∷ xs)
count_one p x xs = ap (λ n. cond (p x) 1 0 + n) (sym (length-filter p xs)) ∙ (at (p x) ∙ length-filter p (x ∷ xs))
  where
    at : (b : Bool) → cond b 1 0 + length (filter p xs) ≡ length (cond b (x ∷ filter p xs) (filter p xs))
    at true = omega arith
    at false = omega arith

-- ---- a unit that no row so far is of is found as it was

nothing : (is : Unit → Bool) (us : List Unit) → AllByRecursion (λ (u : Unit). is u ≡ false) us → find is us ≡ None
nothing is [] h = refl
nothing is (u ∷ us) h = ap (λ (b : Bool). cond b (Some u) (find is us)) h.0 ∙ nothing is us h.1

no_more : {X : Type 0} (r : Option X) → or_else r None ≡ r
no_more None = refl
no_more (Some x) = refl

find_mapped : (is : Unit → Bool) (g : Unit → Unit) (us : List Unit) → ((u : Unit) → is (g u) ≡ is u)
    → ((u : Unit) → is u ≡ true → g u ≡ u) → find is (map g us) ≡ find is us
find_mapped is g [] same stays = refl
find_mapped is g (u ∷ us) same stays =
    ap (λ (b : Bool). cond b (Some (g u)) (find is (map g us))) (same u)
    ∙ at (is u) refl (find_mapped is g us same stays)
  where
    at : (b : Bool) → is u ≡ b → find is (map g us) ≡ find is us
        → cond b (Some (g u)) (find is (map g us)) ≡ cond b (Some u) (find is us)
    at true it e = ap Some (stays u it)
    at false it e = e

module _ (is : Unit → Bool) (source : Bytes) (new : List New) (others : AllByRecursion (λ (x : New). is (new_unit source x) ≡ false) new) where
  find_new : (p : Option ℕ) → find is (nodes (new_units source p new)) ≡ None
  find_new p = nothing is (nodes (new_units source p new)) (all_each (λ (u : Unit). is u ≡ false) (new_unit source) (branches p new) (all_branched (λ (x : New). is (new_unit source x) ≡ false) p new others))

  find_beside : (f : Forest Unit) (p : Option ℕ) → find is (nodes (join f (new_units source p new))) ≡ find is (nodes f)
  find_beside f p =
      ap (find is) (nodes-join f (new_units source p new))
      ∙ (find-append is (nodes f) (nodes (new_units source p new)) ∙ (ap (or_else (find is (nodes f))) (find_new p) ∙ no_more (find is (nodes f))))

  find_grown : (f : Forest Unit) → find is (nodes (grown source new f)) ≡ find is (nodes f)
  find_grown Empty = refl
  find_grown (Node u l o) =
      ap (cond (is u) (Some u))
      (find-append is (nodes (join (grown source new l) (new_units source (Some u.id) new))) (nodes (grown source new o))
      ∙ (ap₂ or_else (find_beside (grown source new l) (Some u.id) ∙ find_grown l) (find_grown o) ∙ sym (find-append is (nodes l) (nodes o))))

found_some : (is : Unit → Bool) (us : List Unit) → list_any is us ≡ is_some (find is us)
found_some is [] = refl
found_some is (u ∷ us) = at (is u) (found_some is us)
  where
    at : (b : Bool) → list_any is us ≡ is_some (find is us)
        → (b || list_any is us) ≡ is_some (cond b (Some u) (find is us))
    at true e = refl
    at false e = e

-- a test of a row that looks at its unit alone
abbrev pub LooksAtUnit : (Forest Unit → Bytes → Row → Bool) → Type 0
LooksAtUnit test = (f g : Forest Unit) (source : Bytes) (row : Row) → catalogued_unit f source row ≡ catalogued_unit g source row → test f source row ≡ test g source row

same_looks : LooksAtUnit is_same
same_looks f g source row e = ap (λ r. option_map_or (λ (unit : Unit). same_values unit.values row.values) r false) e

new_looks : LooksAtUnit is_new
new_looks f g source row e =
    ap not (found_some (is_from source row.legacy) (nodes f) ∙ (ap is_some e ∙ sym (found_some (is_from source row.legacy) (nodes g))))

changed_looks : LooksAtUnit is_changed
changed_looks f g source row e =
    ap₂ (λ a b. a && not b) (found_some (is_from source row.legacy) (nodes f) ∙ (ap is_some e ∙ sym (found_some (is_from source row.legacy) (nodes g)))) (same_looks f g source row e)

module _ (c : Catalogue) (source : Bytes) (good : AreGoodUnits c) (test : Forest Unit → Bytes → Row → Bool) (looks : LooksAtUnit test) where
  abbrev numbered : List Row → List New
  numbered nb = numbered_from c.forest source c.next [] nb

  abbrev forest : List Row → List Row → Forest Unit
  forest before nb = merged_forest source before (numbered_from c.forest source c.next [] nb) c.forest

  abbrev so_far : List Row → List Row → Catalogue
  so_far before nb = Rattle.catalogue_core.specs.CatalogueMerge.merged c source before (numbered_from c.forest source c.next [] nb)

  unit_stays : (before nb : List Row) (row : Row) → StandsSo c source good before nb → IsApart row before
      → catalogued_unit (forest before nb) source row ≡ catalogued_unit c.forest source row
  unit_stays before nb row s apart =
      find_beside is source (numbered nb) come (grown source (numbered nb) (each (revised source before) c.forest)) None
      ∙ (find_grown is source (numbered nb) come (each (revised source before) c.forest)
      ∙ (ap (find is) (nodes-each (revised source before) c.forest)
      ∙ find_mapped is (revised source before) (nodes c.forest) (λ u. is_from_revised source row.legacy source before u) stays))
    where
      is : Unit → Bool
      is u = bytes_eq u.source source && bytes_eq u.legacy row.legacy

      no : (a b : Bool) → b ≡ false → (a && b) ≡ false
      no true b e = e
      no false b e = refl

      come : AllByRecursion (λ (x : New). is_from source row.legacy (new_unit source x) ≡ false) (numbered nb)
      come =
          all_so (λ (x : New). bytes_eq row.legacy x.row.legacy ≡ false) (λ (x : New). is_from source row.legacy (new_unit source x) ≡ false) (λ x h. no (bytes_eq source source) (bytes_eq x.row.legacy row.legacy) (other_way row.legacy x.row.legacy h)) (numbered nb)
          (numbered_rows c.forest source c.next [] nb (λ (r : Row). bytes_eq row.legacy r.legacy ≡ false) (s.part row apart))

      stays : (u : Unit) → is_from source row.legacy u ≡ true → revised source before u ≡ u
      stays u it =
          let parts = and_parts (bytes_eq u.source source) (bytes_eq u.legacy row.legacy) it in
          let same = one_text u.legacy row.legacy parts.1 in
          ap₂ (λ (b : Bool) r. cond b (record u { values = unwrap_or (option_map (λ (r : Row). r.values) r) u.values }) u) parts.0
          (none_with u.legacy before (subst (λ l. AllByRecursion (λ (r : Row). bytes_eq l r.legacy ≡ false) before) (sym same) apart))

  counted : (before nb : List Row) (row : Row) → StandsSo c source good before nb → IsApart row before
      → test (forest before nb) source row ≡ test c.forest source row
  counted before nb row s apart = looks (forest before nb) c.forest source row (unit_stays before nb row s apart)

  counts : (rest before nb : List Row) → StandsSo c source good before nb
      → AllByRecursion (λ (r : Row). IsApart r before) rest → AllDiffer (λ (a b : Row). bytes_eq a.legacy b.legacy) rest
      → faults_below c.forest source (onto [] nb) (new_rows c source rest) ≡ []
      → count_rows test source rest (so_far before nb) ≡ count_by (test c.forest source) rest
  counts [] before nb s far once none = refl
  counts (row ∷ rest) before nb s far once none =
      ap (λ (b : Bool). cond b 1 0 + if_ok (count_rows test source rest) (with_row source row (so_far before nb))) (counted before nb row s far.0)
      ∙ (ap (λ n. cond (test c.forest source row) 1 0 + n) (at (find (is_from source row.legacy) (nodes c.forest)) refl (counts rest)) ∙ count_one (test c.forest source) row rest)
    where
      later : (b : Bool) → has (is_from source row.legacy) c.forest ≡ b
          → new_rows c source (row ∷ rest) ≡ cond (not b) (row ∷ new_rows c source rest) (new_rows c source rest)
      later b e = ap (λ (k : Bool). cond (not k) (row ∷ new_rows c source rest) (new_rows c source rest)) e

      at : (r : Option Unit) → find (is_from source row.legacy) (nodes c.forest) ≡ r
          → ((b n : List Row) → StandsSo c source good b n → AllByRecursion (λ (r : Row). IsApart r b) rest → AllDiffer (λ (a b : Row). bytes_eq a.legacy b.legacy) rest
          → faults_below c.forest source (onto [] n) (new_rows c source rest) ≡ []
          → count_rows test source rest (so_far b n) ≡ count_by (test c.forest source) rest)
          → if_ok (count_rows test source rest) (with_row source row (so_far before nb)) ≡ count_by (test c.forest source) rest
      at (Some v) e more =
          ap (λ n. if_ok (count_rows test source rest) (with_row_at n source row (so_far before nb))) (known_number c source good before nb row v s far.0 e)
          ∙ (ap (count_rows test source rest) (known_more c source good before nb row v s far.0 e)
          ∙ more (before ++ row ∷ []) nb (known_stands c source good before nb row v s far.0 e) (further c source good before rest row far.1 once.0) once.1
          (sym (ap (faults_below c.forest source (onto [] nb)) (later true (some_found (is_from source row.legacy) (nodes c.forest) v e))) ∙ none))
      at None e more =
          ap (λ n. if_ok (count_rows test source rest) (with_row_at n source row (so_far before nb))) (no_such_number c source good before nb row s far.0 e)
          ∙ (ap (λ d. if_ok (count_rows test source rest) (unless_cause row (cause_at d) (with_new source row (so_far before nb)))) (depth_same c source good before nb row s far.0 e row.parent)
          ∙ by (cause_at (depth_under c.forest source row.parent (onto [] nb))) refl
          (sym (ap (faults_below c.forest source (onto [] nb)) (later false (none_found (is_from source row.legacy) (nodes c.forest) e))) ∙ none))
        where
          by : (r : Option ℕ) → cause_at (depth_under c.forest source row.parent (onto [] nb)) ≡ r
              → option_to_list (option_map (λ cause. (row.row, cause)) (cause_at (depth_under c.forest source row.parent (onto [] nb)))) ++ faults_below c.forest source (row ∷ onto [] nb) (new_rows c source rest) ≡ []
              → if_ok (count_rows test source rest) (unless_cause row (cause_at (depth_under c.forest source row.parent (onto [] nb))) (with_new source row (so_far before nb))) ≡ count_by (test c.forest source) rest
          by (Some cause) f h =
              absurd (let some : (row.row, cause) ∷ faults_below c.forest source (row ∷ onto [] nb) (new_rows c source rest) ≡ [] = sym (ap (λ r. option_to_list (option_map (λ cause. (row.row, cause)) r) ++ faults_below c.forest source (row ∷ onto [] nb) (new_rows c source rest)) f) ∙ h in cc)
          by None f h =
              let k = some_depth (depth_under c.forest source row.parent (onto [] nb)) f in
              ap (λ r. if_ok (count_rows test source rest) (unless_cause row r (with_new source row (so_far before nb)))) f
              ∙ (ap (count_rows test source rest) (new_more c source good before nb row s far.0 e)
              ∙ more (before ++ row ∷ []) (nb ++ row ∷ []) (new_stands c source good before nb row s far.0 e k.0 k.1) (further c source good before rest row far.1 once.0) once.1
              (ap (λ above. faults_below c.forest source above (new_rows c source rest)) (onto-more [] nb row)
              ∙ (sym (ap (λ r. option_to_list (option_map (λ cause. (row.row, cause)) r) ++ faults_below c.forest source (row ∷ onto [] nb) (new_rows c source rest)) f) ∙ h)))

  all_counts : (rows : List Row) → distinct c.containers ≡ c.containers
      → AllDiffer (λ (a b : Row). bytes_eq a.legacy b.legacy) rows → CountsAlike c source rows test
  all_counts rows apart once after e =
      let made = sym (row_by_row c source rows good apart once) ∙ e in
      let no_fault = (first_ok (faults_below c.forest source [] (new_rows c source rows)) _ after made).0 in
      ap (count_rows test source rows) (sym (none_merged c source apart))
      ∙ counts rows [] [] (begins c source good apart) (all_true (λ (r : Row). IsApart r []) (λ r. tt) rows) once no_fault

pub changed_counts : (c : Catalogue) (source : Bytes) (rows : List Row) → AreGoodUnits c
    → distinct c.containers ≡ c.containers → AllDiffer (λ (a b : Row). bytes_eq a.legacy b.legacy) rows
    → CountsAlike c source rows is_changed
changed_counts c source rows good = all_counts c source good is_changed changed_looks rows

pub new_counts : (c : Catalogue) (source : Bytes) (rows : List Row) → AreGoodUnits c
    → distinct c.containers ≡ c.containers → AllDiffer (λ (a b : Row). bytes_eq a.legacy b.legacy) rows
    → CountsAlike c source rows is_new
new_counts c source rows good = all_counts c source good is_new new_looks rows

pub same_counts : (c : Catalogue) (source : Bytes) (rows : List Row) → AreGoodUnits c
    → distinct c.containers ≡ c.containers → AllDiffer (λ (a b : Row). bytes_eq a.legacy b.legacy) rows
    → CountsAlike c source rows is_same
same_counts c source rows good = all_counts c source good is_same same_looks rows
