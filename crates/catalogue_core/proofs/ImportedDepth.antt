-- After an import no unit lies deeper than one may.
use Rattle.std.proofs.Common.{◌≡◌, ℕ, suc, ◌+◌, ◌-◌, ◌<◌, ◌≤◌, Bool, true, false, cond, List, [], ◌∷◌, ◌++◌, length}
use Rattle.std.proofs.Common.{Option, Some, None, refl, sym, ap, ◌∙◌, arith}
use Rattle.std.specs.Prelude.{nat_eq}
use Rattle.catalogue_core.proofs.Common.{AllByRecursion, Bytes, Empty, Forest, New, Node, Row, Unit, branches, cause_at}
use Rattle.catalogue_core.proofs.Common.{depth_under, each, eq-eqb, faults_below, find, grown, has, has_id, has_legacy}
use Rattle.catalogue_core.proofs.Common.{height, is_from, ltb-false, merged_forest, most_deep, nat_lt, ne_eqb, new_unit}
use Rattle.catalogue_core.proofs.Common.{new_units, nodes, numbered_from, option_and_then, option_eq, option_map}
use Rattle.catalogue_core.proofs.Common.{option_to_list, parent_number, path, revised}
use Rattle.catalogue_core.proofs.Heights.{height-join}
use Rattle.catalogue_core.proofs.EachOf.{all_true, all_split, all_of_found, none_found, some_found}
use Rattle.catalogue_core.proofs.Rooted.{revised_id}
use Rattle.catalogue_core.proofs.MergedNodes.{IsBefore, same_place}
use Rattle.catalogue_core.proofs.UnitPlaces.{HaveOwnNumbers, LieDeep, same_depth, lie_deep}

-- how deep the catalogued unit with this number lies
abbrev depth_of : Forest Unit → ℕ → ℕ
depth_of f k = length (path (has_id k) f)

-- how deep the unit with this number lies, where the rows above get the numbers before n, the nearest the last
abbrev number_depth : Forest Unit → Bytes → ℕ → List Row → ℕ → Option ℕ
number_depth f source n [] k = Some (depth_of f k)
number_depth f source n (row ∷ above) k =
    cond (nat_eq k (n - 1)) (depth_under f source row.parent above) (number_depth f source (n - 1) above k)

-- the same of the place below that unit, or above the tops
abbrev place_depth : Forest Unit → Bytes → ℕ → List Row → Option ℕ → Option ℕ
place_depth f source n above None = Some 0
place_depth f source n above (Some k) = number_depth f source n above k

module _ (f : Forest Unit) (source : Bytes) (low : ℕ) (own : HaveOwnNumbers (nodes f)) (known : AllByRecursion (λ (u : Unit). u.id < low) (nodes f)) where
  -- ---- the number of a parent

  number_before : (n : ℕ) (above : List Row) (legacy : Bytes) (k : ℕ) → n ≡ low + length above
      → parent_number f source n above legacy ≡ Some k → k < n
  number_before n [] legacy k e h = at (find (is_from source legacy) (nodes f)) refl h
    where
      at : (r : Option Unit) → find (is_from source legacy) (nodes f) ≡ r → option_map (λ unit. unit.id) r ≡ Some k
          → k < n
      at None g i = absurd (cc)
      at (Some v) g i =
          let same : v.id ≡ k = cc in
          let l = all_of_found (λ u. u.id < low) (is_from source legacy) (nodes f) v g known in
          omega (arith, same, l, e)
  number_before n (row ∷ above) legacy k e h =
      let back : n - 1 ≡ low + length above = omega (arith, e) in
      at (has_legacy legacy row) h (number_before (n - 1) above legacy k back)
    where
      at : (b : Bool) → cond b (Some (n - 1)) (parent_number f source (n - 1) above legacy) ≡ Some k
          → (parent_number f source (n - 1) above legacy ≡ Some k → k < n - 1) → k < n
      at true g i = let same : n - 1 ≡ k = cc in omega (arith, same, e)
      at false g i = let l = i g in omega (arith, l)

  -- a row lies one deeper than the parent that it names
  one_deeper : (n : ℕ) (above : List Row) (legacy : Bytes) (k : ℕ) → n ≡ low + length above
      → parent_number f source n above legacy ≡ Some k
      → depth_under f source (Some legacy) above ≡ option_map suc (number_depth f source n above k)
  one_deeper n [] legacy k e h = at (find (is_from source legacy) (nodes f)) refl h
    where
      at : (r : Option Unit) → find (is_from source legacy) (nodes f) ≡ r → option_map (λ unit. unit.id) r ≡ Some k
          → cond (has (is_from source legacy) f) (Some (length (path (is_from source legacy) f) + 1)) None ≡ Some (suc (depth_of f k))
      at None g i = absurd (cc)
      at (Some v) g i =
          let same : v.id ≡ k = cc in
          let l = same_depth (is_from source legacy) f v own g in
          let m : length (path (is_from source legacy) f) + 1 ≡ suc (depth_of f v.id) = omega (arith, l) in
          ap (λ (b : Bool). cond b (Some (length (path (is_from source legacy) f) + 1)) None) (some_found (is_from source legacy) (nodes f) v g) ∙ (ap Some m ∙ ap (λ j. Some (suc (depth_of f j))) same)
  one_deeper n (row ∷ above) legacy k e h =
      let back : n - 1 ≡ low + length above = omega (arith, e) in
      at (has_legacy legacy row) h (one_deeper (n - 1) above legacy k back) (number_before (n - 1) above legacy k back)
    where
      at : (b : Bool) → cond b (Some (n - 1)) (parent_number f source (n - 1) above legacy) ≡ Some k
          → (parent_number f source (n - 1) above legacy ≡ Some k → depth_under f source (Some legacy) above ≡ option_map suc (number_depth f source (n - 1) above k))
          → (parent_number f source (n - 1) above legacy ≡ Some k → k < n - 1)
          → cond b (option_map suc (depth_under f source row.parent above)) (depth_under f source (Some legacy) above) ≡ option_map suc (cond (nat_eq k (n - 1)) (depth_under f source row.parent above) (number_depth f source (n - 1) above k))
      at true g i j =
          let same : n - 1 ≡ k = cc in
          ap (λ (b : Bool). option_map suc (cond b (depth_under f source row.parent above) (number_depth f source (n - 1) above k))) (sym (eq-eqb k (n - 1) (sym same)))
      at false g i j =
          let l = j g in
          i g ∙ ap (λ (b : Bool). option_map suc (cond b (depth_under f source row.parent above) (number_depth f source (n - 1) above k))) (sym (ne_eqb k (n - 1) (λ s. omega (arith, s, l))))

  -- a parent that is not there has no depth
  no_depth : (n : ℕ) (above : List Row) (legacy : Bytes) → parent_number f source n above legacy ≡ None
      → depth_under f source (Some legacy) above ≡ None
  no_depth n [] legacy h = at (find (is_from source legacy) (nodes f)) refl h
    where
      at : (r : Option Unit) → find (is_from source legacy) (nodes f) ≡ r → option_map (λ unit. unit.id) r ≡ None
          → cond (has (is_from source legacy) f) (Some (length (path (is_from source legacy) f) + 1)) None ≡ None
      at None g i = ap (λ (b : Bool). cond b (Some (length (path (is_from source legacy) f) + 1)) None) (none_found (is_from source legacy) (nodes f) g)
      at (Some v) g i = absurd (cc)
  no_depth n (row ∷ above) legacy h = at (has_legacy legacy row) h (no_depth (n - 1) above legacy)
    where
      at : (b : Bool) → cond b (Some (n - 1)) (parent_number f source (n - 1) above legacy) ≡ None
          → (parent_number f source (n - 1) above legacy ≡ None → depth_under f source (Some legacy) above ≡ None)
          → cond b (option_map suc (depth_under f source row.parent above)) (depth_under f source (Some legacy) above) ≡ None
      at true g i = absurd (cc)
      at false g i = i g

  row_deeper : (n : ℕ) (above : List Row) (parent : Option Bytes) (e : ℕ) → n ≡ low + length above
      → depth_under f source parent above ≡ Some e
      → Some e ≡ option_map suc (place_depth f source n above (option_and_then (parent_number f source n above) parent))
  row_deeper n above None e k h = sym h
  row_deeper n above (Some legacy) e k h = at (parent_number f source n above legacy) refl
    where
      at : (r : Option ℕ) → parent_number f source n above legacy ≡ r
          → Some e ≡ option_map suc (place_depth f source n above r)
      at None g = let none = no_depth n above legacy g in absurd (cc)
      at (Some j) g = sym h ∙ one_deeper n above legacy j k g

  -- ---- rows without a fault

  no_cause : (r : Option ℕ) → cause_at r ≡ None → (e : ℕ) × (r ≡ Some e) × (e ≤ most_deep)
  no_cause None h = absurd (cc)
  no_cause (Some e) h = (e, refl, at (nat_lt 64 e) refl h)
    where
      at : (b : Bool) → nat_lt 64 e ≡ b → cond {A = Option ℕ} b (Some 12) None ≡ None → e ≤ most_deep
      at true g i = absurd (cc)
      at false g i = ltb-false 64 e g

  no_first : (row : ℕ) (r : Option ℕ) (rest : List (ℕ × ℕ))
      → option_to_list (option_map {U = ℕ × ℕ} (λ cause. (row, cause)) r) ++ rest ≡ [] → (r ≡ None) × (rest ≡ [])
  no_first row None rest h = (refl, h)
  no_first row (Some cause) rest h = absurd (cc)

  other_number : (n : ℕ) (above : List Row) (row : Row) (p : Option ℕ) → IsBefore n p
      → place_depth f source (n + 1) (row ∷ above) p ≡ place_depth f source n above p
  other_number n above row None h = refl
  other_number n above row (Some k) h =
      let back : n + 1 - 1 ≡ n = omega arith in
      ap (λ m. cond (nat_eq k m) (depth_under f source row.parent above) (number_depth f source m above k)) back
      ∙ ap (λ (b : Bool). cond b (depth_under f source row.parent above) (number_depth f source n above k)) (ne_eqb k n (λ s. omega (arith, s, h)))

  this_number : (n : ℕ) (above : List Row) (row : Row)
      → place_depth f source (n + 1) (row ∷ above) (Some n) ≡ depth_under f source row.parent above
  this_number n above row =
      let back : n ≡ n + 1 - 1 = omega arith in
      ap (λ (b : Bool). cond b (depth_under f source row.parent above) (number_depth f source (n + 1 - 1) above n)) (eq-eqb n (n + 1 - 1) back)

  still_before : (n : ℕ) (p : Option ℕ) → IsBefore n p → IsBefore (n + 1) p
  still_before n None h = tt
  still_before n (Some k) h = omega (arith, h)

  -- what comes below a place lies no deeper than it may
  below_place : (n : ℕ) (above rows : List Row) (p : Option ℕ) (d : ℕ) → n ≡ low + length above → IsBefore n p
      → place_depth f source n above p ≡ Some d → d ≤ most_deep → faults_below f source above rows ≡ []
      → d + height (new_units source p (numbered_from f source n above rows)) ≤ most_deep
  below_place n above [] p d e b h l k = omega (arith, l)
  below_place n above (row ∷ rows) p d e b h l k =
      let q = option_and_then (parent_number f source n above) row.parent in
      let r = no_first row.row (cause_at (depth_under f source row.parent above)) (faults_below f source (row ∷ above) rows) k in
      let s = no_cause (depth_under f source row.parent above) r.0 in
      let on : n + 1 ≡ low + length (row ∷ above) = omega (arith, e) in
      let here : n < n + 1 = omega arith in
      at q s.0 s.2 (row_deeper n above row.parent s.0 e s.1)
      (below_place (n + 1) (row ∷ above) rows (Some n) s.0 on here (this_number n above row ∙ s.1) s.2 r.1)
      (below_place (n + 1) (row ∷ above) rows p d on (still_before n p b) (other_number n above row p b ∙ h) l r.1)
    where
      new : List New
      new = numbered_from f source (n + 1) (row ∷ above) rows

      at : (q : Option ℕ) (s : ℕ) → s ≤ most_deep → Some s ≡ option_map suc (place_depth f source n above q)
          → s + height (new_units source (Some n) (numbered_from f source (n + 1) (row ∷ above) rows)) ≤ most_deep
          → d + height (new_units source p (numbered_from f source (n + 1) (row ∷ above) rows)) ≤ most_deep
          → d + height (each (new_unit source) (cond (option_eq nat_eq q p) (Node (record { id = n; parent = q; row = row }) (branches (Some n) (numbered_from f source (n + 1) (row ∷ above) rows)) (branches p (numbered_from f source (n + 1) (row ∷ above) rows))) (branches p (numbered_from f source (n + 1) (row ∷ above) rows)))) ≤ most_deep
      at q s m w x y = split (option_eq nat_eq q p) refl
        where
          split : (c : Bool) → option_eq nat_eq q p ≡ c
              → d + height (each (new_unit source) (cond c (Node (record { id = n; parent = q; row = row }) (branches (Some n) new) (branches p new)) (branches p new))) ≤ most_deep
          split true g =
              let same = same_place q p g in
              let deep : Some s ≡ Some (suc d) =
              w ∙ (ap (λ z. option_map suc (place_depth f source n above z)) same ∙ ap (option_map suc) h) in
              let next : s ≡ suc d = cc in
              omega (arith, next, x, y)
          split false g = y

  -- ---- the catalogued units

  below_known : (rows : List Row) (news : List Row) (d : ℕ) (g : Forest Unit) → faults_below f source [] news ≡ []
      → LieDeep (depth_of f) d g → AllByRecursion (λ (u : Unit). u.id < low) (nodes g) → d + height g ≤ most_deep
      → d ≤ most_deep
      → d + height (grown source (numbered_from f source low [] news) (each (revised source rows) g)) ≤ most_deep
  below_known rows news d Empty k h b l m = omega (arith, m)
  below_known rows news d (Node u c o) k h b l m =
      let r = all_split (λ (u : Unit). u.id < low) (nodes c) (nodes o) b.1 in
      let start : low ≡ low + 0 = omega arith in
      let deep : d + 1 ≤ most_deep = omega (arith, l) in
      let x = below_known rows news (d + 1) c k h.1 r.0 (omega (arith, l)) deep in
      let y = below_known rows news d o k h.2 r.1 (omega (arith, l)) m in
      let z = below_place low [] news (Some u.id) (d + 1) start b.0 (ap Some h.0) deep k in
      let j = height-join (grown source new (each (revised source rows) c)) (new_units source (Some (revised source rows u).id) new) in
      let same = ap (λ n. height (new_units source (Some n) new)) (revised_id source rows u) in
      omega (arith, x, y, z, j, same)
    where
      new : List New
      new = numbered_from f source low [] news

  pub merged_depth : (rows news : List Row) → faults_below f source [] news ≡ [] → height f ≤ most_deep
      → height (merged_forest source rows (numbered_from f source low [] news) f) ≤ most_deep
  merged_depth rows news k l =
      let new = numbered_from f source low [] news in
      let start : low ≡ low + 0 = omega arith in
      let deep = lie_deep (depth_of f) 0 f own (all_true (λ v. depth_of f v.id ≡ 0 + length (path (has_id v.id) f)) (λ v. omega arith) (nodes f)) in
      let x = below_known rows news 0 f k deep known (omega (arith, l)) (omega arith) in
      let y = below_place low [] news None 0 start tt refl (omega arith) k in
      let j = height-join (grown source new (each (revised source rows) f)) (new_units source None new) in
      omega (arith, x, y, j)
