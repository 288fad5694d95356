-- A catalogue that knows its containers knows them after a unit was added or was given other values.
use Rattle.std.proofs.Common.{◌≡◌, ℕ, List, [], ◌∷◌, ◌++◌, Bool, true, false, if◌then◌else◌, cond, Option, Some, None}
use Rattle.std.proofs.Common.{sym, subst}
use Rattle.catalogue_core.proofs.Imported.{distinct_again}
use Rattle.catalogue_core.proofs.NodeLemmas.{nodes_join}
use Rattle.catalogue_statements.proofs.BoxNumbers.{all_known, still_known}
use Rattle.catalogue_store.proofs.Common.{AllByRecursion, BoxKey, Catalogue, Empty, Forest, KnowsItsContainers, Node}
use Rattle.catalogue_store.proofs.Common.{Unit, Values, add, all-append, all_map, all_weaker, distinct, has_id}
use Rattle.catalogue_store.proofs.Common.{is_same_box, join, list_all, list_any, nodes, nodes-each, put_below}
use Rattle.catalogue_store.proofs.Common.{test_from, test_has, with_boxes, with_unit, with_values}

module _ {A : Type 0} (P : A → Type 0) where
  both : (xs ys : List A) → AllByRecursion P (xs ++ ys) → AllByRecursion P xs × AllByRecursion P ys
  both [] ys h = (tt, h)
  both (x ∷ xs) ys h = let rest = both xs ys h.1 in ((h.0, rest.0), rest.1)

  all_put : (is : A → Bool) (g f : Forest A) → AllByRecursion P (nodes g) → AllByRecursion P (nodes f)
      → AllByRecursion P (nodes (put_below is g f))
  all_put is g Empty new old = tt
  all_put is g (Node a c o) new old =
      let parts = both (nodes c) (nodes o) old.1 in
      let children : AllByRecursion P (nodes (if is a then join c g else put_below is g c)) =
      elim (is a) as (λ b. AllByRecursion P (nodes (cond b (join c g) (put_below is g c)))) [
        | true ↦ subst (AllByRecursion P) (sym (nodes_join c g)) (all-append P (nodes c) (nodes g) parts.0 new)
        | false ↦ all_put is g c new parts.0
      ] in
      (old.0, all-append P (nodes (if is a then join c g else put_below is g c)) (nodes (put_below is g o)) children (all_put is g o new parts.1))

  all_added : (is : ℕ → A → Bool) (p : Option ℕ) (a : A) (f : Forest A) → P a → AllByRecursion P (nodes f)
      → AllByRecursion P (nodes (add is p a f))
  all_added is None a f new old =
      subst (AllByRecursion P) (sym (nodes_join f (Node a Empty Empty))) (all-append P (nodes f) (a ∷ []) old (new, tt))
  all_added is (Some p) a f new old = all_put (is p) (Node a Empty Empty) f (new, tt) old

abbrev IsKnown : List BoxKey → Unit → Type 0
IsKnown boxes u = list_all (λ box. list_any (is_same_box box) boxes) u.values.boxes ≡ true

known_still : (cs bs : List BoxKey) → distinct cs ≡ cs → (u : Unit) → IsKnown cs u → IsKnown (with_boxes cs bs) u
known_still cs bs apart u all =
    test_from (λ box. list_any (is_same_box box) (with_boxes cs bs)) u.values.boxes (λ b h. still_known cs bs b apart (test_has (λ box. list_any (is_same_box box) cs) u.values.boxes b all h))

pub known_added : (c : Catalogue) (parent : Option ℕ) (u : Unit) → KnowsItsContainers c
    → KnowsItsContainers (with_unit parent u c)
known_added c parent u knows =
    let cs = c.containers in
    let bs = u.values.boxes in
    record {
      apart = distinct_again (cs ++ bs);
      known = all_added (IsKnown (with_boxes cs bs)) has_id parent u c.forest (all_known cs bs)
          (all_weaker (IsKnown cs) (IsKnown (with_boxes cs bs)) (known_still cs bs knows.apart) (nodes c.forest) knows.known);
    }

pub known_valued : (c : Catalogue) (unit : ℕ) (values : Values) → KnowsItsContainers c
    → KnowsItsContainers (with_values unit values c)
known_valued c unit values knows =
    let cs = c.containers in
    let bs = values.boxes in
    let all = with_boxes cs bs in
    let valued = λ (u : Unit). if has_id unit u then record u { values = values } else u in
    record {
      apart = distinct_again (cs ++ bs);
      known = subst (AllByRecursion (IsKnown all)) (sym (nodes-each valued c.forest))
          (all_map valued (IsKnown all) (IsKnown cs) (λ u h. elim (has_id unit u) as (λ b. IsKnown all (cond b (record u { values = values }) u)) [
            | true ↦ all_known cs bs
            | false ↦ known_still cs bs knows.apart u h
          ]) (nodes c.forest) knows.known);
    }
