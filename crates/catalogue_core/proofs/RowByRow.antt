-- Going row by row gives what merging all rows gives, or the same first fault.
use Rattle.std.proofs.Common.{◌≡◌, ℕ, suc, ◌+◌, ◌-◌, ◌<◌, ◌≤◌, Bool, true, false, not, cond, ◌&&◌, List, [], ◌∷◌, ◌++◌}
use Rattle.std.proofs.Common.{length, map, Option, Some, None, Ok, refl, sym, ap, ap₂, subst, ◌∙◌, nat_eq, arith}
use Rattle.std.proofs.Common.{append_assoc, append-nil, length-append}
use Rattle.catalogue_core.proofs.Common.{AllByRecursion, AllDiffer, AreGoodUnits, Bytes, Catalogue, Empty, Forest, New}
use Rattle.catalogue_core.proofs.Common.{Node, Row, Unit, add, and_then, bytes_eq, cause_at, depth, depth_there}
use Rattle.catalogue_core.proofs.Common.{depth_under, each, faults_below, find, has, has_id, has_place, is_from}
use Rattle.catalogue_core.proofs.Common.{list_any, merged, merged_forest, ne_eqb, new_at, new_unit, nodes, nodes-each}
use Rattle.catalogue_core.proofs.Common.{number_there, numbered_from, option_and_then, option_map, or_first}
use Rattle.catalogue_core.proofs.Common.{parent_number, path, revised, unless_cause, with_new, with_row_at, with_rows}
use Rattle.catalogue_core.proofs.Common.{with_unit, with_values}
use Rattle.catalogue_core.proofs.DistinctLists.{all_so}
use Rattle.catalogue_core.proofs.EachOf.{all_append, all_of_found, all_split, none_found, some_found}
use Rattle.catalogue_core.proofs.EnteredUnits.{Alike, Placed, Same, alike_each, placed_added, same_added}
use Rattle.catalogue_core.proofs.EachRow.{onto, onto-more, all_onto, numbered-more, length-numbered, numbers_high}
use Rattle.catalogue_core.proofs.EachRow.{numbers_apart, number_past, found_numbers, revised_past, revised_by}
use Rattle.catalogue_core.proofs.Imported.{new_rows}
use Rattle.catalogue_core.proofs.ImportedAgain.{one_text, other_way, same_text}
use Rattle.catalogue_core.proofs.ImportedNumbers.{distinct_numbers}
use Rattle.catalogue_core.proofs.OneMoreRow.{AreAlone, CanGrow, merged_known, merged_new, valued}
use Rattle.catalogue_core.proofs.Rooted.{revised_id}
use Rattle.catalogue_core.proofs.UnitPlaces.{same_depth}
use Rattle.catalogue_core.proofs.UnitsAfter.{each_there}

-- no row of these has the row's number
abbrev pub IsApart : Row → List Row → Type 0
IsApart row = AllByRecursion (λ (r : Row). bytes_eq row.legacy r.legacy ≡ false)

no_number : (r : Option Unit) → option_map (λ (u : Unit). u.id) r ≡ None → r ≡ None
no_number None e = refl
no_number (Some u) e = absurd (cc)

pub some_depth : (d : Option ℕ) → cause_at d ≡ None → (k : ℕ) × (d ≡ Some k)
some_depth None e = absurd (cc)
some_depth (Some k) e = (k, refl)

module _ (c : Catalogue) (source : Bytes) (good : AreGoodUnits c) where
  abbrev numbered : List Row → List New
  numbered nb = numbered_from c.forest source c.next [] nb

  -- after these rows, of which those were new
  abbrev so_far : List Row → List Row → Catalogue
  so_far before nb = merged c source before (numbered_from c.forest source c.next [] nb)

  abbrev grown_to : List Row → List Row → Forest Unit
  grown_to before nb = merged_forest source before (numbered_from c.forest source c.next [] nb) c.forest

  below_next : AllByRecursion (λ (u : Unit). u.id < c.next) (nodes c.forest)
  below_next = all_so (λ (u : Unit). (1 ≤ u.id) × (u.id < c.next)) (λ (u : Unit). u.id < c.next) (λ u h. h.1) (nodes c.forest) good.given

  -- what is found in the forest so far is what is found in the first one and among the new rows above
  pub record StandsSo (before nb : List Row) : Type 0 where
    pub part : (row : Row) → IsApart row before → IsApart row nb
    pub depths : (legacy : Bytes)
        → depth_under (grown_to before nb) source (Some legacy) [] ≡ depth_under c.forest source (Some legacy) (onto [] nb)
    pub numbers : (legacy : Bytes)
        → option_map (λ (u : Unit). u.id) (find (is_from source legacy) (nodes (grown_to before nb))) ≡ parent_number c.forest source (c.next + length nb) (onto [] nb) legacy

  -- ---- a row of a unit that was there

  module _ (before nb : List Row) (row : Row) (v : Unit) (s : StandsSo before nb) (apart : IsApart row before) (e : find (is_from source row.legacy) (nodes c.forest) ≡ Some v) where
    pub known_number : number_there (so_far before nb) source row.legacy ≡ Some v.id
    known_number =
        s.numbers row.legacy
        ∙ (number_past c.forest source (c.next + length nb) (onto [] nb) row.legacy (all_onto (λ (r : Row). bytes_eq row.legacy r.legacy ≡ false) [] nb tt (s.part row apart))
        ∙ ap (option_map (λ (u : Unit). u.id)) e)

    low : v.id < c.next
    low = all_of_found (λ (u : Unit). u.id < c.next) (is_from source row.legacy) (nodes c.forest) v e below_next

    others : AllByRecursion (λ (x : New). nat_eq v.id x.id ≡ false) (numbered nb)
    others = all_so (λ (x : New). c.next ≤ x.id) (λ (x : New). nat_eq v.id x.id ≡ false) (λ x h. ne_eqb v.id x.id (λ i. let same = i in let l = low in absurd (omega (arith, h, l, same)))) (numbered nb) (numbers_high c.forest source c.next c.next [] nb (omega arith))

    revises_one : (u : Unit) → has_id v.id u ≡ is_from source row.legacy u
        → valued source row v.id (revised source before u) ≡ revised source (before ++ row ∷ []) u
    revises_one u h =
        ap (λ (b : Bool). cond b (record (revised source before u) { values = row.values }) (revised source before u)) (ap (nat_eq v.id) (revised_id source before u) ∙ h)
        ∙ at (is_from source row.legacy u) refl
      where
        at : (b : Bool) → is_from source row.legacy u ≡ b
            → cond b (record (revised source before u) { values = row.values }) (revised source before u) ≡ revised source (before ++ row ∷ []) u
        at true it = sym (revised_by source before row u it apart)
        at false it = sym (revised_past source before row u it)

    revises : AllByRecursion (λ (u : Unit). valued source row v.id (revised source before u) ≡ revised source (before ++ row ∷ []) u) (nodes c.forest)
    revises = all_so (λ (u : Unit). has_id v.id u ≡ is_from source row.legacy u) (λ (u : Unit). valued source row v.id (revised source before u) ≡ revised source (before ++ row ∷ []) u) revises_one (nodes c.forest) (found_numbers source row.legacy (nodes c.forest) v good.ids good.pairs e)

    pub known_more : with_values v.id row.values (so_far before nb) ≡ so_far (before ++ row ∷ []) nb
    known_more = sym (merged_known c source before row v.id (numbered nb) others revises)

    known_alike : (legacy : Bytes)
        → Alike (is_from source legacy) (grown_to before nb) (grown_to (before ++ row ∷ []) nb)
    known_alike legacy =
        subst (Alike (is_from source legacy) (grown_to before nb)) (ap (λ (d : Catalogue). d.forest) known_more)
        (alike_each (is_from source legacy) (λ (u : Unit). cond (has_id v.id u) (record u { values = row.values }) u) (λ u. same (has_id v.id u) u) (λ u. number (has_id v.id u) u) (grown_to before nb))
      where
        same : (b : Bool) (u : Unit)
            → is_from source legacy (cond b (record u { values = row.values }) u) ≡ is_from source legacy u
        same true u = refl
        same false u = refl

        number : (b : Bool) (u : Unit) → (cond b (record u { values = row.values }) u).id ≡ u.id
        number true u = refl
        number false u = refl

    pub known_stands : StandsSo (before ++ row ∷ []) nb
    known_stands = record {
      part = λ other h. s.part other (all_split (λ (r : Row). bytes_eq other.legacy r.legacy ≡ false) before (row ∷ []) h).0;
      depths = λ legacy. ap₂ (λ (b : Bool) n. cond b (Some (n + 1)) None) (known_alike legacy).there (known_alike legacy).deep ∙ s.depths legacy;
      numbers = λ legacy. (known_alike legacy).number ∙ s.numbers legacy;
    }

  -- ---- a new row

  alone_in : (f : Forest Unit) → Rattle.catalogue_core.proofs.UnitPlaces.HaveOwnNumbers (nodes f) → AreAlone f
  unfolding Rattle.std.specs.List.IsDistinct
  alone_in Empty d = tt
  alone_in (Node u l o) d =
      let parts = Rattle.catalogue_core.proofs.DistinctLists.distinct_parts nat_eq (map (λ (w : Unit). w.id) (nodes l)) (map (λ (w : Unit). w.id) (nodes o)) (subst (Rattle.std.specs.List.IsDistinct nat_eq) (Rattle.std.proofs.lemmas.List.map-append (λ (w : Unit). w.id) (nodes l) (nodes o)) d.1) in
      (Rattle.catalogue_core.proofs.DistinctLists.all_unmapped (λ n. nat_eq u.id n ≡ false) (λ (w : Unit). w.id) (nodes l) (all_split (λ n. nat_eq u.id n ≡ false) (map (λ (w : Unit). w.id) (nodes l)) (map (λ (w : Unit). w.id) (nodes o)) (subst (AllByRecursion (λ n. nat_eq u.id n ≡ false)) (Rattle.std.proofs.lemmas.List.map-append (λ (w : Unit). w.id) (nodes l) (nodes o)) d.0)).0, alone_in l parts.0, alone_in o parts.1)

  each_alone : (rows : List Row) (f : Forest Unit) → AreAlone f → AreAlone (each (revised source rows) f)
  each_alone rows Empty h = tt
  each_alone rows (Node u d o) h =
      (subst (AllByRecursion (λ (v : Unit). nat_eq (revised source rows u).id v.id ≡ false)) (sym (nodes-each (revised source rows) d)) (below (nodes d) h.0), each_alone rows d h.1, each_alone rows o h.2)
    where
      below : (vs : List Unit) → AllByRecursion (λ (v : Unit). nat_eq u.id v.id ≡ false) vs
          → AllByRecursion (λ (v : Unit). nat_eq (revised source rows u).id v.id ≡ false) (map (revised source rows) vs)
      below [] k = tt
      below (v ∷ vs) k = (ap₂ nat_eq (revised_id source rows u) (revised_id source rows v) ∙ k.0, below vs k.1)

  each_past : (rows : List Row) (row : Row) (f : Forest Unit)
      → AllByRecursion (λ (u : Unit). is_from source row.legacy u ≡ false) (nodes f)
      → each (revised source (rows ++ row ∷ [])) f ≡ each (revised source rows) f
  each_past rows row Empty h = refl
  each_past rows row (Node u d o) h =
      let parts = all_split (λ (u : Unit). is_from source row.legacy u ≡ false) (nodes d) (nodes o) h.1 in
      ap (λ w. Node w (each (revised source (rows ++ row ∷ [])) d) (each (revised source (rows ++ row ∷ [])) o)) (revised_past source rows row u h.0)
      ∙ ap₂ (λ a b. Node (revised source rows u) a b) (each_past rows row d parts.0) (each_past rows row o parts.1)

  none_is : (is : Unit → Bool) (us : List Unit) → list_any is us ≡ false
      → AllByRecursion (λ (u : Unit). is u ≡ false) us
  none_is is [] h = tt
  none_is is (u ∷ us) h = let r = Rattle.std.proofs.lemmas.Bool.or_parts (is u) (list_any is us) h in (r.0, none_is is us r.1)

  others_new : (us : List Unit) (ns : List New) → AllByRecursion (λ (u : Unit). u.id < c.next) us
      → AllByRecursion (λ (x : New). c.next ≤ x.id) ns
      → AllByRecursion (λ (u : Unit). AllByRecursion (λ (x : New). nat_eq u.id x.id ≡ false) ns) us
  others_new [] ns h k = tt
  others_new (u ∷ us) ns h k =
      (all_so (λ (x : New). c.next ≤ x.id) (λ (x : New). nat_eq u.id x.id ≡ false) (λ x l. ne_eqb u.id x.id (λ i. let same = i in let low = h.0 in absurd (omega (arith, l, low, same)))) ns k, others_new us ns h.1 k)

  module _ (before nb : List Row) (row : Row) (s : StandsSo before nb) (apart : IsApart row before) (e : find (is_from source row.legacy) (nodes c.forest) ≡ None) where
    abbrev above : List Row
    above = onto [] nb

    abbrev come : New
    come = record { id = c.next + length nb; parent = option_and_then (parent_number c.forest source (c.next + length nb) (onto [] nb)) row.parent; row = row }

    pub no_such_number : number_there (so_far before nb) source row.legacy ≡ None
    no_such_number =
        s.numbers row.legacy
        ∙ (number_past c.forest source (c.next + length nb) (onto [] nb) row.legacy (all_onto (λ (r : Row). bytes_eq row.legacy r.legacy ≡ false) [] nb tt (s.part row apart))
        ∙ ap (option_map (λ (u : Unit). u.id)) e)

    not_there : has (is_from source row.legacy) (grown_to before nb) ≡ false
    not_there = none_found (is_from source row.legacy) (nodes (grown_to before nb)) (no_number (find (is_from source row.legacy) (nodes (grown_to before nb))) no_such_number)

    its_parent : (p : Option Bytes)
        → option_and_then (number_there (so_far before nb) source) p ≡ option_and_then (parent_number c.forest source (c.next + length nb) (onto [] nb)) p
    its_parent None = refl
    its_parent (Some legacy) = s.numbers legacy

    its_number : c.next + length (numbered nb) ≡ c.next + length nb
    its_number = ap (λ n. c.next + n) (length-numbered c.forest source c.next [] nb)

    is_come : new_at (so_far before nb) source row ≡ come
    is_come = ap₂ (λ n p. record { id = n; parent = p; row = row }) its_number (its_parent row.parent)

    can : CanGrow c source before row (numbered nb)
    can = record {
      apart = numbers_apart c.forest source c.next [] nb;
      new = subst (AllByRecursion (λ (u : Unit). AllByRecursion (λ (x : New). nat_eq u.id x.id ≡ false) (numbered nb))) (sym (nodes-each (revised source before) c.forest))
          (others_new (map (revised source before) (nodes c.forest)) (numbered nb) (low (nodes c.forest) below_next) (numbers_high c.forest source c.next c.next [] nb (omega arith)));
      alone = each_alone before c.forest (alone_in c.forest good.ids);
      other = each_past before row c.forest (none_is (is_from source row.legacy) (nodes c.forest) (none_found (is_from source row.legacy) (nodes c.forest) e));
    }
      where
        low : (us : List Unit) → AllByRecursion (λ (u : Unit). u.id < c.next) us
            → AllByRecursion (λ (u : Unit). u.id < c.next) (map (revised source before) us)
        low [] h = tt
        low (u ∷ us) h = (let l = h.0 in let i = revised_id source before u in omega (arith, l, i), low us h.1)

    pub new_more : with_new source row (so_far before nb) ≡ so_far (before ++ row ∷ []) (nb ++ row ∷ [])
    new_more =
        ap (λ (n : New). with_unit n.parent (new_unit source n) (so_far before nb)) is_come
        ∙ (sym (merged_new c source before (numbered nb) come can)
        ∙ ap (merged c source (before ++ row ∷ [])) (sym (numbered-more c.forest source c.next [] nb row)))

    forest_is : add has_id (option_and_then (parent_number c.forest source (c.next + length nb) (onto [] nb)) row.parent) (new_unit source come) (grown_to before nb) ≡ grown_to (before ++ row ∷ []) (nb ++ row ∷ [])
    forest_is = ap (λ (d : Catalogue). d.forest) (sym (ap (λ (n : New). with_unit n.parent (new_unit source n) (so_far before nb)) is_come) ∙ new_more)

    -- the parent is there, and the row lies one deeper
    record ParentStands (p : Option ℕ) (k : ℕ) : Type 0 where
      place : has_place has_id p (grown_to before nb) ≡ true
      deep : k ≡ depth p (grown_to before nb) + 1

    own_numbers : Rattle.catalogue_core.proofs.UnitPlaces.HaveOwnNumbers (nodes (grown_to before nb))
    own_numbers = distinct_numbers source before c.next nb c.forest good.ids below_next

    parent_at : (legacy : Bytes) (k : ℕ) (r : Option Unit)
        → find (is_from source legacy) (nodes (grown_to before nb)) ≡ r
        → depth_under (grown_to before nb) source (Some legacy) [] ≡ Some k
        → ParentStands (option_map (λ (u : Unit). u.id) r) k
    parent_at legacy k None f d = absurd (let no : None ≡ Some k = sym (ap (λ (b : Bool). cond b (Some (length (path (is_from source legacy) (grown_to before nb)) + 1)) None) (none_found (is_from source legacy) (nodes (grown_to before nb)) f)) ∙ d in cc)
    parent_at legacy k (Some w) f d =
        let it : Some (length (path (is_from source legacy) (grown_to before nb)) + 1) ≡ Some k =
        sym (ap (λ (b : Bool). cond b (Some (length (path (is_from source legacy) (grown_to before nb)) + 1)) None) (some_found (is_from source legacy) (nodes (grown_to before nb)) w f))
        ∙ d in
        let same : length (path (is_from source legacy) (grown_to before nb)) + 1 ≡ k = cc in
        record {
          place = all_of_found (λ (u : Unit). list_any (has_id u.id) (nodes (grown_to before nb)) ≡ true) (is_from source legacy) (nodes (grown_to before nb)) w f (each_there (nodes (grown_to before nb)) (nodes (grown_to before nb)) (λ n h. h));
          deep = sym same ∙ ap (λ n. n + 1) (sym (same_depth (is_from source legacy) (grown_to before nb) w own_numbers f));
        }

    parent_stands : (p : Option Bytes) (k : ℕ) → depth_under c.forest source p (onto [] nb) ≡ Some k
        → ParentStands (option_and_then (parent_number c.forest source (c.next + length nb) (onto [] nb)) p) k
    parent_stands None k d = record { place = refl; deep = (let one : 1 ≡ k = cc in sym one) }
    parent_stands (Some legacy) k d =
        subst (λ p. ParentStands p k) (s.numbers legacy)
        (parent_at legacy k (find (is_from source legacy) (nodes (grown_to before nb))) refl (s.depths legacy ∙ d))

    module _ (k : ℕ) (d : depth_under c.forest source row.parent (onto [] nb) ≡ Some k) where
      stands_parent : ParentStands (option_and_then (parent_number c.forest source (c.next + length nb) (onto [] nb)) row.parent) k
      stands_parent = parent_stands row.parent k d

      abbrev after_it : Forest Unit
      after_it = add has_id (option_and_then (parent_number c.forest source (c.next + length nb) (onto [] nb)) row.parent) (new_unit source come) (grown_to before nb)

      placed : Placed (is_from source row.legacy) (new_unit source come) after_it (depth (option_and_then (parent_number c.forest source (c.next + length nb) (onto [] nb)) row.parent) (grown_to before nb))
      placed =
          placed_added (is_from source row.legacy) (new_unit source come) (Rattle.std.proofs.lemmas.Bool.and_from (bytes_eq source source) (bytes_eq row.legacy row.legacy) (same_text source) (same_text row.legacy)) _ (grown_to before nb) not_there stands_parent.place

      stayed : (legacy : Bytes) → bytes_eq legacy row.legacy ≡ false
          → Same (is_from source legacy) (grown_to before nb) after_it
      stayed legacy h =
          same_added (is_from source legacy) (new_unit source come) (and_no (bytes_eq source source) (bytes_eq row.legacy legacy) (other_way legacy row.legacy h)) _ (grown_to before nb)
        where
          and_no : (a b : Bool) → b ≡ false → (a && b) ≡ false
          and_no true b h = h
          and_no false b h = refl

      depth_now : (legacy : Bytes) (b : Bool) → bytes_eq legacy row.legacy ≡ b
          → depth_under after_it source (Some legacy) [] ≡ cond b (option_map suc (depth_under c.forest source row.parent (onto [] nb))) (depth_under c.forest source (Some legacy) (onto [] nb))
      depth_now legacy true h =
          let same = one_text legacy row.legacy h in
          let deep = stands_parent.deep in
          let long = placed.deep in
          ap (λ l. depth_under after_it source (Some l) []) same
          ∙ (ap (λ (b : Bool). cond b (Some (length (path (is_from source row.legacy) after_it) + 1)) None) placed.there
          ∙ (ap Some (omega (arith, deep, long)) ∙ sym (ap (option_map suc) d)))
      depth_now legacy false h =
          ap₂ (λ (b : Bool) (way : List Unit). cond b (Some (length way + 1)) None) (stayed legacy h).there (stayed legacy h).way
          ∙ s.depths legacy

      one_less : c.next + length (nb ++ row ∷ []) - 1 ≡ c.next + length nb
      one_less = let n = length-append nb (row ∷ []) in omega (arith, n)

      number_now : (legacy : Bytes) (b : Bool) → bytes_eq legacy row.legacy ≡ b
          → option_map (λ (u : Unit). u.id) (find (is_from source legacy) (nodes after_it)) ≡ cond b (Some (c.next + length nb)) (parent_number c.forest source (c.next + length nb) (onto [] nb) legacy)
      number_now legacy true h =
          ap (λ l. option_map (λ (u : Unit). u.id) (find (is_from source l) (nodes after_it))) (one_text legacy row.legacy h) ∙ ap (option_map (λ (u : Unit). u.id)) placed.found
      number_now legacy false h = ap (option_map (λ (u : Unit). u.id)) (stayed legacy h).found ∙ s.numbers legacy

      pub new_stands : StandsSo (before ++ row ∷ []) (nb ++ row ∷ [])
      new_stands = record {
        part = λ other h. (let r = all_split (λ (r : Row). bytes_eq other.legacy r.legacy ≡ false) before (row ∷ []) h in all_append (λ (r : Row). bytes_eq other.legacy r.legacy ≡ false) nb (row ∷ []) (s.part other r.0) r.1);
        depths = λ legacy.
            ap (λ f. depth_under f source (Some legacy) []) (sym forest_is)
            ∙ (depth_now legacy (bytes_eq legacy row.legacy) refl
            ∙ ap (depth_under c.forest source (Some legacy)) (sym (onto-more [] nb row)));
        numbers = λ legacy.
            ap (λ f. option_map (λ (u : Unit). u.id) (find (is_from source legacy) (nodes f))) (sym forest_is)
            ∙ (number_now legacy (bytes_eq legacy row.legacy) refl
            ∙ (ap (λ n. cond (bytes_eq legacy row.legacy) (Some n) (parent_number c.forest source n (onto [] nb) legacy)) (sym one_less)
            ∙ ap (λ above. parent_number c.forest source (c.next + length (nb ++ row ∷ [])) above legacy) (sym (onto-more [] nb row))));
      }

    pub depth_same : (p : Option Bytes)
        → depth_there (so_far before nb) source p ≡ depth_under c.forest source p (onto [] nb)
    depth_same None = refl
    depth_same (Some legacy) = s.depths legacy

  -- ---- all rows

  -- the rows that come have other numbers than those that came
  abbrev AreFurther : List Row → List Row → Type 0
  AreFurther before = AllByRecursion (λ (r : Row). IsApart r before)

  pub further : (before rest : List Row) (row : Row) → AreFurther before rest
      → AllByRecursion (λ (r : Row). bytes_eq row.legacy r.legacy ≡ false) rest → AreFurther (before ++ row ∷ []) rest
  further before [] row h k = tt
  further before (r ∷ rest) row h k =
      (all_append (λ (b : Row). bytes_eq r.legacy b.legacy ≡ false) before (row ∷ []) h.0 (other_way row.legacy r.legacy k.0, tt), further before rest row h.1 k.1)

  pub goes : (rest before nb : List Row) → StandsSo before nb → AreFurther before rest
      → AllDiffer (λ (a b : Row). bytes_eq a.legacy b.legacy) rest
      → with_rows source rest (so_far before nb) ≡ or_first (faults_below c.forest source (onto [] nb) (new_rows c source rest)) (so_far (before ++ rest) (nb ++ new_rows c source rest))
  goes [] before nb s far once = ap₂ (λ b n. Ok (so_far b n)) (sym (append-nil before)) (sym (append-nil nb))
  goes (row ∷ rest) before nb s far once = at (find (is_from source row.legacy) (nodes c.forest)) refl (goes rest)
    where
      later : (b : Bool) → has (is_from source row.legacy) c.forest ≡ b
          → new_rows c source (row ∷ rest) ≡ cond (not b) (row ∷ new_rows c source rest) (new_rows c source rest)
      later b e = ap (λ (k : Bool). cond (not k) (row ∷ new_rows c source rest) (new_rows c source rest)) e

      at : (r : Option Unit) → find (is_from source row.legacy) (nodes c.forest) ≡ r
          → ((b n : List Row) → StandsSo b n → AreFurther b rest → AllDiffer (λ (a b : Row). bytes_eq a.legacy b.legacy) rest
          → with_rows source rest (so_far b n) ≡ or_first (faults_below c.forest source (onto [] n) (new_rows c source rest)) (so_far (b ++ rest) (n ++ new_rows c source rest)))
          → with_rows source (row ∷ rest) (so_far before nb) ≡ or_first (faults_below c.forest source (onto [] nb) (new_rows c source (row ∷ rest))) (so_far (before ++ row ∷ rest) (nb ++ new_rows c source (row ∷ rest)))
      at (Some v) e more =
          ap (λ n. and_then (with_rows source rest) (with_row_at n source row (so_far before nb))) (known_number before nb row v s far.0 e)
          ∙ (ap (with_rows source rest) (known_more before nb row v s far.0 e)
          ∙ (more (before ++ row ∷ []) nb (known_stands before nb row v s far.0 e) (further before rest row far.1 once.0) once.1
          ∙ (ap (λ b. or_first (faults_below c.forest source (onto [] nb) (new_rows c source rest)) (so_far b (nb ++ new_rows c source rest))) (append_assoc before (row ∷ []) rest)
          ∙ ap (λ news. or_first (faults_below c.forest source (onto [] nb) news) (so_far (before ++ row ∷ rest) (nb ++ news))) (sym (later true (some_found (is_from source row.legacy) (nodes c.forest) v e))))))
      at None e more =
          ap (λ n. and_then (with_rows source rest) (with_row_at n source row (so_far before nb))) (no_such_number before nb row s far.0 e)
          ∙ (ap (λ d. and_then (with_rows source rest) (unless_cause row (cause_at d) (with_new source row (so_far before nb)))) (depth_same before nb row s far.0 e row.parent)
          ∙ (by (cause_at (depth_under c.forest source row.parent (onto [] nb))) refl
          ∙ ap (λ news. or_first (faults_below c.forest source (onto [] nb) news) (so_far (before ++ row ∷ rest) (nb ++ news))) (sym (later false (none_found (is_from source row.legacy) (nodes c.forest) e)))))
        where
          by : (r : Option ℕ) → cause_at (depth_under c.forest source row.parent (onto [] nb)) ≡ r
              → and_then (with_rows source rest) (unless_cause row (cause_at (depth_under c.forest source row.parent (onto [] nb))) (with_new source row (so_far before nb)))
              ≡ or_first (faults_below c.forest source (onto [] nb) (row ∷ new_rows c source rest)) (so_far (before ++ row ∷ rest) (nb ++ row ∷ new_rows c source rest))
          by (Some cause) f =
              ap (λ r. and_then (with_rows source rest) (unless_cause row r (with_new source row (so_far before nb)))) f
              ∙ sym (ap (λ r. or_first (Rattle.std.specs.Option.option_to_list (option_map (λ cause. (row.row, cause)) r) ++ faults_below c.forest source (row ∷ onto [] nb) (new_rows c source rest)) (so_far (before ++ row ∷ rest) (nb ++ row ∷ new_rows c source rest))) f)
          by None f =
              let k = some_depth (depth_under c.forest source row.parent (onto [] nb)) f in
              ap (λ r. and_then (with_rows source rest) (unless_cause row r (with_new source row (so_far before nb)))) f
              ∙ (ap (with_rows source rest) (new_more before nb row s far.0 e)
              ∙ (more (before ++ row ∷ []) (nb ++ row ∷ []) (new_stands before nb row s far.0 e k.0 k.1) (further before rest row far.1 once.0) once.1
              ∙ (ap₂ (λ b n. or_first (faults_below c.forest source (onto [] (nb ++ row ∷ [])) (new_rows c source rest)) (so_far b n)) (append_assoc before (row ∷ []) rest) (append_assoc nb (row ∷ []) (new_rows c source rest))
              ∙ (ap (λ above. or_first (faults_below c.forest source above (new_rows c source rest)) (so_far (before ++ row ∷ rest) (nb ++ row ∷ new_rows c source rest))) (onto-more [] nb row)
              ∙ sym (ap (λ r. or_first (Rattle.std.specs.Option.option_to_list (option_map (λ cause. (row.row, cause)) r) ++ faults_below c.forest source (row ∷ onto [] nb) (new_rows c source rest)) (so_far (before ++ row ∷ rest) (nb ++ row ∷ new_rows c source rest))) f)))))
