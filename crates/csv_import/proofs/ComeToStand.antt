-- The units that rows bring come to stand all at once where they come to stand row by row.
use Rattle.std.proofs.Common.{◌≡◌, ℕ, ◌+◌, Bool, true, false, not, cond, List, [], ◌∷◌, ◌++◌, length, length-append}
use Rattle.std.proofs.Common.{Option, Some, None, Result, Ok, refl, sym, ap, ap₂, subst, ◌∙◌, nat_eq, arith}
use Rattle.std.specs.List.{IsDistinct}
use Rattle.tree_core.specs.Arrivals.{CanJoin, added}
use Rattle.catalogue_core.proofs.EachOf.{none_found}
use Rattle.catalogue_core.proofs.EachRow.{length-numbered}
use Rattle.catalogue_core.proofs.RowByRow.{IsApart, StandsSo, depth_same, further, known_more, known_number}
use Rattle.catalogue_core.proofs.RowByRow.{known_stands, new_more, new_stands, no_such_number, some_depth}
use Rattle.catalogue_core.proofs.RowsMerged.{begins}
use Rattle.catalogue_core.specs.Bounds.{IsKept}
use Rattle.catalogue_statements.proofs.Statuses.{each_each}
use Rattle.tree_places.proofs.Joiners.{size_added}
use Rattle.tree_places.specs.Arrivals.{MayJoin}
use Rattle.csv_import.proofs.Common.{AllByRecursion, AreGoodUnits, AreToCome, Arrival, BringUnits, Bytes, Catalogue}
use Rattle.csv_import.proofs.Common.{Forest, HasDistinctIds, Row, Unit, add, add-each, all_true, and_then, arrival_of}
use Rattle.csv_import.proofs.Common.{arrivals_from, arrivals_of, catalogue_after, cause_at, depth_under, each, find}
use Rattle.csv_import.proofs.Common.{has, has-each, has_id, has_place, has_place-each, is_from, kept_within, merged}
use Rattle.csv_import.proofs.Common.{new_at, new_of, new_unit, nodes, nodes-each, none_merged, number_there}
use Rattle.csv_import.proofs.Common.{numbered_from, onto, onto-more, option_and_then, or_as_before, parent_number, size}
use Rattle.csv_import.proofs.Common.{size-each, some_found, with_new, with_row_at, with_rows, with_values}
use Rattle.csv_import.proofs.OneRow.{entered_new, may_come, none_against}
use Rattle.csv_import.proofs.RowsToCome.{OneEntered, one_entered}

-- the places of the units
abbrev pub ids : Forest Unit → Forest ℕ
ids f = each (λ (u : Unit). u.id) f

-- the units may join the one forest, and make the other of it
pub record Joins (new : List Arrival) (f g : Forest ℕ) : Type 0 where
  pub can : CanJoin new f
  pub ends : added new f ≡ g
  pub many : size f + length new ≡ size g

joins_first : (one : Arrival) (more : List Arrival) (f h g : Forest ℕ) → HasDistinctIds f
    → has_place nat_eq one.parent f ≡ true → has (nat_eq one.unit) f ≡ false → h ≡ add nat_eq one.parent one.unit f
    → Joins more h g → Joins (one ∷ more) f g
joins_first one more f h g distinct place new is it =
    let now = subst (λ k. Joins more k g) is it in
    let longer = size_added one.parent one.unit f distinct place in
    let many = now.many in
    record { can = (place, new, now.can); ends = now.ends; many = omega (arith, longer, many) }

own_ids : (c : Catalogue) → AreGoodUnits c → HasDistinctIds (ids c.forest)
own_ids c good = subst (IsDistinct nat_eq) (sym (nodes-each (λ (u : Unit). u.id) c.forest)) good.ids

-- other values leave all units in their places
same_places : (id : ℕ) (values : _) (c : Catalogue) → ids (with_values id values c).forest ≡ ids c.forest
same_places id values c =
    each_each (λ (u : Unit). cond (has_id id u) (record u { values = values }) u) (λ (u : Unit). u.id) (λ (u : Unit). u.id) (λ u. same (has_id id u) u) c.forest
  where
    same : (b : Bool) (u : Unit) → (cond b (record u { values = values }) u).id ≡ u.id
    same true u = refl
    same false u = refl

module _ (c : Catalogue) (source : Bytes) (good : AreGoodUnits c) where
  -- after these rows, of which those were new
  abbrev so_far : List Row → List Row → Catalogue
  so_far before nb = merged c source before (numbered_from c.forest source c.next [] nb)

  -- the units of the new ones of these rows
  abbrev coming : List Row → List Row → List Arrival
  coming nb rest = arrivals_from c.forest source (c.next + length nb) (onto [] nb) (new_of c.forest source rest)

  abbrev sorted : Bool → List Row → Row → List Row → List Arrival
  sorted known nb row rest =
      arrivals_from c.forest source (c.next + length nb) (onto [] nb) (cond (not known) (row ∷ new_of c.forest source rest) (new_of c.forest source rest))

  -- what holds of fewer rows
  abbrev Later : List Row → Type 0
  Later rest = (before nb : List Row) (n : ℕ) (t : Catalogue) → StandsSo c source good before nb → AllByRecursion (λ (r : Row). IsApart r before) rest → AreToCome source rest n (so_far before nb)
      → with_rows source rest (so_far before nb) ≡ Ok t
      → Joins (coming nb rest) (ids (so_far before nb).forest) (ids t.forest)

  ok_is : (x y : Catalogue) → ◌≡◌ {A = Result Catalogue (ℕ × ℕ)} (Ok x) (Ok y) → x ≡ y
  ok_is x y e = cc

  pub joins : (rest before nb : List Row) (n : ℕ) (t : Catalogue) → StandsSo c source good before nb
      → AllByRecursion (λ (r : Row). IsApart r before) rest → AreToCome source rest n (so_far before nb)
      → with_rows source rest (so_far before nb) ≡ Ok t
      → Joins (coming nb rest) (ids (so_far before nb).forest) (ids t.forest)
  joins [] before nb n t s far come e =
      let same = ok_is (so_far before nb) t e in
      record { can = tt; ends = ap (λ (d : Catalogue). ids d.forest) same; many = (let many = ap (λ (d : Catalogue). size (ids d.forest)) same in omega (arith, many)) }
  joins (row ∷ rest) before nb n t s far come e =
      at (find (is_from source row.legacy) (nodes c.forest)) refl (joins rest)
    where
      it : OneEntered source row rest n (so_far before nb)
      it = one_entered source row rest n (so_far before nb) come

      left : with_rows source rest it.after ≡ Ok t
      left = sym (ap (and_then (with_rows source rest)) it.placed) ∙ e

      others : AllByRecursion (λ (r : Row). IsApart r (before ++ row ∷ [])) rest
      others = further c source good before rest row far.1 come.told.once.0

      at : (r : Option Unit) → find (is_from source row.legacy) (nodes c.forest) ≡ r → Later rest
          → Joins (coming nb (row ∷ rest)) (ids (so_far before nb).forest) (ids t.forest)
      at (Some v) found later =
          let number = known_number c source good before nb row v s far.0 found in
          let is : it.after ≡ so_far (before ++ row ∷ []) nb =
          ok_is it.after _ (sym it.placed ∙ ap (λ o. with_row_at o source row (so_far before nb)) number)
          ∙ known_more c source good before nb row v s far.0 found in
          let more = later (before ++ row ∷ []) nb (n + cond (Rattle.catalogue_core.specs.Intake.is_new (so_far before nb).forest source row) 1 0) t (known_stands c source good before nb row v s far.0 found) others
          (subst (AreToCome source rest (n + cond (Rattle.catalogue_core.specs.Intake.is_new (so_far before nb).forest source row) 1 0)) is it.rest) (ap (with_rows source rest) (sym is) ∙ left) in
          let stay : ids (so_far (before ++ row ∷ []) nb).forest ≡ ids (so_far before nb).forest =
          ap (λ (k : Catalogue). ids k.forest) (sym (known_more c source good before nb row v s far.0 found))
          ∙ same_places v.id row.values (so_far before nb) in
          let none_new : coming nb (row ∷ rest) ≡ coming nb rest =
          ap (λ b. sorted b nb row rest) (some_found (is_from source row.legacy) (nodes c.forest) v found) in
          subst (λ f. Joins (coming nb (row ∷ rest)) f (ids t.forest)) stay (subst (λ l. Joins l (ids (so_far (before ++ row ∷ []) nb).forest) (ids t.forest)) (sym none_new) more)
      at None found later =
          let none = no_such_number c source good before nb row s far.0 found in
          let comes = may_come it.turn none in
          let new = new_at (so_far before nb) source row in
          let made : it.after ≡ with_new source row (so_far before nb) =
          sym (ap (λ r. or_as_before (so_far before nb) (and_then (with_rows source []) r)) it.placed)
          ∙ entered_new it.turn none in
          let is : it.after ≡ so_far (before ++ row ∷ []) (nb ++ row ∷ []) =
          made ∙ new_more c source good before nb row s far.0 found in
          let deep = some_depth (depth_under c.forest source row.parent (onto [] nb)) (sym (ap cause_at (depth_same c source good before nb row s far.0 found row.parent)) ∙ none_against it.turn none) in
          let more = later (before ++ row ∷ []) (nb ++ row ∷ []) (n + cond (Rattle.catalogue_core.specs.Intake.is_new (so_far before nb).forest source row) 1 0) t (new_stands c source good before nb row s far.0 found deep.0 deep.1) others
          (subst (AreToCome source rest (n + cond (Rattle.catalogue_core.specs.Intake.is_new (so_far before nb).forest source row) 1 0)) is it.rest) (ap (with_rows source rest) (sym is) ∙ left) in
          let first : coming nb (row ∷ rest) ≡ arrival_of new ∷ coming (nb ++ row ∷ []) rest =
          ap (λ b. sorted b nb row rest) (none_found (is_from source row.legacy) (nodes c.forest) found)
          ∙ ap₂ (λ (x : Arrival) (l : List Arrival). x ∷ l) (sym is_first) (next_coming) in
          let grown : ids (so_far (before ++ row ∷ []) (nb ++ row ∷ [])).forest ≡ add nat_eq new.parent new.id (ids (so_far before nb).forest) =
          ap (λ (k : Catalogue). ids k.forest) (sym (new_more c source good before nb row s far.0 found)) ∙ add-each nat_eq (λ (u : Unit). u.id) new.parent (new_unit source new) (so_far before nb).forest in
          subst (λ l. Joins l (ids (so_far before nb).forest) (ids t.forest)) (sym first)
          (joins_first (arrival_of new) (coming (nb ++ row ∷ []) rest) (ids (so_far before nb).forest) (ids (so_far (before ++ row ∷ []) (nb ++ row ∷ [])).forest) (ids t.forest)
          (own_ids (so_far before nb) it.turn.units)
          (has_place-each nat_eq (λ (u : Unit). u.id) new.parent (so_far before nb).forest ∙ comes.place.place)
          (has-each (nat_eq new.id) (λ (u : Unit). u.id) (so_far before nb).forest ∙ comes.new.number)
          grown more)
        where
          its_parent : (p : Option Bytes)
              → option_and_then (number_there (so_far before nb) source) p ≡ option_and_then (parent_number c.forest source (c.next + length nb) (onto [] nb)) p
          its_parent None = refl
          its_parent (Some legacy) = s.numbers legacy

          is_first : arrival_of (new_at (so_far before nb) source row) ≡ record { unit = c.next + length nb; parent = option_and_then (parent_number c.forest source (c.next + length nb) (onto [] nb)) row.parent }
          is_first = ap₂ (λ m p. record { unit = m; parent = p }) (ap (λ k. c.next + k) (length-numbered c.forest source c.next [] nb)) (its_parent row.parent)

          next_coming : arrivals_from c.forest source (c.next + length nb + 1) (row ∷ onto [] nb) (new_of c.forest source rest) ≡ coming (nb ++ row ∷ []) rest
          next_coming =
              let longer = length-append nb (row ∷ []) in
              let up : c.next + length nb + 1 ≡ c.next + length (nb ++ row ∷ []) = omega (arith, longer) in
              ap₂ (λ m above. arrivals_from c.forest source m above (new_of c.forest source rest)) up (sym (onto-more [] nb row))

-- all rows
pub come_to_stand : (source : Bytes) (rows : List Row) (next : ℕ) (c : Catalogue) → AreToCome source rows next c
    → Joins (arrivals_of c.forest source next rows) (ids c.forest) (ids (catalogue_after source rows c).forest)
come_to_stand source rows next c it =
    let none = none_merged c source it.apart in
    let all = joins c source it.units rows [] [] next it.room.after (begins c source it.units it.apart) (all_true (λ (r : Row). IsApart r []) (λ r. tt) rows)
    (subst (AreToCome source rows next) (sym none) it) (ap (with_rows source rows) none ∙ it.room.placed) in
    let from : c.next + 0 ≡ next = (let number = it.number in omega (arith, number)) in
    let at_end : it.room.after ≡ catalogue_after source rows c = sym (ap (or_as_before c) it.room.placed) in
    subst (λ (d : Catalogue). Joins (arrivals_of c.forest source next rows) (ids c.forest) (ids d.forest)) at_end
    (subst (λ (d : Catalogue). Joins (arrivals_of c.forest source next rows) (ids d.forest) (ids it.room.after.forest)) none
    (subst (λ n. Joins (arrivals_from c.forest source n [] (new_of c.forest source rows)) (ids (merged c source [] []).forest) (ids it.room.after.forest)) from all))

-- an office keeps so many
pub may_join : (source : Bytes) (rows : List Row) (next : ℕ) (c : Catalogue) → AreToCome source rows next c
    → MayJoin (arrivals_of c.forest source next rows) (ids c.forest)
may_join source rows next c it =
    let all = come_to_stand source rows next c it in
    let many = all.many in
    let same = size-each (λ (u : Unit). u.id) (catalogue_after source rows c).forest in
    let is = ap (λ r. size (or_as_before c r).forest) it.room.placed in
    let few = it.room.few in
    (all.can, omega (arith, many, same, is, few))

-- the units that rows bring
module _ {source : Bytes} {rows : List Row} {numbers : Bytes → Option ℕ} {next : ℕ} {units : List ℕ} {arrivals : List Arrival} {c : Catalogue} (bring : BringUnits source rows numbers next units arrivals c) where
  pub brought_join : MayJoin arrivals (ids c.forest)
  brought_join = subst (λ l. MayJoin l (ids c.forest)) (sym bring.new) (may_join source rows next c bring.come)

  pub brought_stand : added arrivals (ids c.forest) ≡ ids (catalogue_after source rows c).forest
  brought_stand = ap (λ l. added l (ids c.forest)) bring.new ∙ (come_to_stand source rows next c bring.come).ends

  pub brought_kept : IsKept c
  brought_kept =
      let few = bring.come.few_boxes in
      kept_within c bring.come.units (omega (arith, few)) bring.come.days bring.come.legible
