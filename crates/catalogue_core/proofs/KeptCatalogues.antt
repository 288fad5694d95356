-- A good catalogue whose texts are UTF-8 is within the limits of the tables that keep it.
use Rattle.std.proofs.Common.{◌≡◌, ◌+◌, ◌<◌, ◌≤◌, Bool, true, false, cond, [], ◌∷◌, length, Option, Some, None, sym, ap}
use Rattle.std.proofs.Common.{subst, ◌∙◌, arith}
use Rattle.std.specs.Prelude.{ℤ, nat_eq}
use Rattle.isad_core.proofs.DayLemmas.{is_day_number-true}
use Rattle.isad_core.specs.Days.{is_day_number}
use Rattle.catalogue_core.specs.Bounds.{IsBounded, IsLegibleUnit, IsKept}
use Rattle.catalogue_core.specs.LegibleCatalogues.{HasLegibleTexts, IsLegibleCatalogue}
use Rattle.catalogue_core.proofs.Common.{AllByRecursion, AreGoodContainers, AreGoodUnits, Catalogue, Empty, Forest}
use Rattle.catalogue_core.proofs.Common.{HasAllPlaces, IfSome, IsGoodUnit, IsNumber, IsSomeDay, KnowsItsContainers}
use Rattle.catalogue_core.proofs.Common.{Node, Unit, distinct, each, has, height, length-map, max, most_units, nodes}
use Rattle.catalogue_core.proofs.Common.{nodes-each, path, path-each, size-each, ◌^◌}
use Rattle.catalogue_core.proofs.DistinctLists.{all_so, all_mapped}
use Rattle.catalogue_core.proofs.EachOf.{all_and}

-- a path is no longer than the forest is high
path_high : (is : Unit → Bool) (f : Forest Unit) → length (path is f) ≤ height f
path_high is Empty = omega arith
path_high is (Node a c o) = at (is a) (has is c) (path_high is c) (path_high is o)
  where
    at : (b d : Bool) → length (path is c) ≤ height c → length (path is o) ≤ height o
        → length (cond b (a ∷ []) (cond d (a ∷ path is c) (path is o))) ≤ max (1 + height c) (height o)
    at true d x y = omega arith
    at false true x y = omega (arith, x)
    at false false x y = omega (arith, y)

bounded : (c : Catalogue) → AreGoodUnits c → IsBounded (each (λ (u : Unit). u.id) c.forest)
bounded c g = record {
  few = subst (λ n. n ≤ most_units) (sym (size-each (λ (u : Unit). u.id) c.forest)) g.few;
  low = subst (AllByRecursion IsNumber) (sym (nodes-each (λ (u : Unit). u.id) c.forest))
      (all_mapped IsNumber (λ (u : Unit). u.id) (nodes c.forest)
      (all_so (λ (u : Unit). (1 ≤ u.id) × (u.id < c.next)) (λ (u : Unit). IsNumber u.id) (λ u h. let below = h.1 in let top = g.next.1 in omega (arith, below, top)) (nodes c.forest) g.given));
  shallow = λ id.
      let deep = path_high (λ (u : Unit). nat_eq id u.id) c.forest in
      let same =
      ap length (path-each (nat_eq id) (λ (u : Unit). u.id) c.forest)
      ∙ length-map (path (λ (u : Unit). nat_eq id u.id) c.forest) (λ (u : Unit). u.id) in
      let high = g.depth in
      omega (arith, deep, same, high);
}

some_day : (until : Option ℤ) → IsSomeDay until → IfSome until (λ day. is_day_number day ≡ true)
some_day None h = tt
some_day (Some day) h = is_day_number-true day h

pub kept_within : (c : Catalogue) → AreGoodUnits c → length c.containers < 2 ^ 62
    → AllByRecursion (λ (u : Unit). IsSomeDay u.until) (nodes c.forest) → IsLegibleCatalogue c → IsKept c
kept_within c g few days texts = record {
  places = bounded c g;
  units = all_and HasLegibleTexts (λ (u : Unit). IsSomeDay u.until) IsLegibleUnit (λ u t d. record { level = t.values.level; texts = t.values.texts; until = some_day u.until d }) (nodes c.forest) texts.units days;
  boxes = texts.containers;
  few_boxes = few;
}

pub kept : (c : Catalogue) → AreGoodUnits c → AreGoodContainers c
    → AllByRecursion (λ (u : Unit). IsSomeDay u.until) (nodes c.forest) → IsLegibleCatalogue c → IsKept c
kept c g boxes days texts = kept_within c g (let few = boxes.few in omega (arith, few)) days texts

pub knows : (c : Catalogue) → AreGoodUnits c → distinct c.containers ≡ c.containers → KnowsItsContainers c
knows c g apart = record { apart = apart; known = all_so (IsGoodUnit c.containers) _ (λ u h. h.known) (nodes c.forest) g.each }

pub all_places : (c : Catalogue) → AreGoodUnits c → HasAllPlaces c
all_places c g = all_so (IsGoodUnit c.containers) _ (λ u h. h.texts_count) (nodes c.forest) g.each
