-- A sound office can be judged, and so can one of whose units some were changed.
use Rattle.std.proofs.Common.{◌≡◌, ℕ, true, false, Option, Some, None, refl, sym, ap, subst, ◌∙◌, nat_eq}
use Rattle.tree_core.proofs.EachLemmas.{nodes-each}
use Rattle.catalogue_core.proofs.KeptCatalogues.{kept, knows}
use Rattle.catalogue_core.proofs.KeptUnits.{same_containers}
use Rattle.catalogue_core.specs.GoodCatalogues.{AreGoodUnits, IsSomeDay}
use Rattle.catalogue_core.specs.LegibleCatalogues.{IsLegibleCatalogue}
use Rattle.office_core.specs.State.{State}
use Rattle.refinement.specs.AccessConditions.{CanBeJudged}
use Rattle.refinement.proofs.Common.{AllByRecursion, AreFiled, Catalogue, Forest, HasDistinctIds, IsDistinct, IsFiled}
use Rattle.refinement.proofs.Common.{IsSoundOffice, Order, Unit, container_of, desk_legible, each, false≢true}
use Rattle.refinement.proofs.Common.{is_out_for, is_some, nodes, nth, option_map, order_out, same_number, stands}

-- what is out is so by an order that is there
pub orders_there : (s : State) → AreFiled s → (c o : ℕ) → order_out (s.place c) ≡ Some o
    → is_some (nth s.orders o) ≡ true
orders_there s filed c o out = at (nth s.orders o) refl
  where
    at : (x : Option Order) → nth s.orders o ≡ x → is_some x ≡ true
    at (Some order) e = refl
    at None e =
        let none : container_of s o ≡ None = ap (option_map (λ (order : Order). order.container)) e in
        let nowhere = subst (λ k. IsFiled k (λ c. stands o (s.queue c)) (λ c. is_out_for o (s.place c)) (s.past o)) none (filed.each o) in
        let not_out : is_out_for o (s.place c) ≡ false = nowhere.1 c in
        let is_out : is_out_for o (s.place c) ≡ true = rw out (same_number o) in
        absurd (false≢true (sym not_out ∙ is_out))

pub distinct_ids : (c : Catalogue) → AreGoodUnits c → HasDistinctIds (each (λ (unit : Unit). unit.id) c.forest)
distinct_ids c units = subst (IsDistinct nat_eq) (sym (nodes-each (λ (unit : Unit). unit.id) c.forest)) units.ids

-- the catalogue has other units, or has them in other places
pub judged_with : (s : State) → IsSoundOffice s → (f : Forest Unit) → AreGoodUnits (record s.catalogue { forest = f })
    → AllByRecursion (λ (unit : Unit). IsSomeDay unit.until) (nodes f)
    → IsLegibleCatalogue (record s.catalogue { forest = f })
    → CanBeJudged (record s { catalogue = record s.catalogue { forest = f } })
judged_with s g f units closures texts =
    let c : Catalogue = record s.catalogue { forest = f } in
    record {
      catalogue = kept c units (same_containers s.catalogue f g.sound.containers) closures texts;
      containers = knows c units g.sound.desk.boxes;
      units = distinct_ids c units;
      desk = λ version. desk_legible version s g;
      permits = g.sound.desk.permits.known;
      orders = orders_there s g.sound.desk.filed;
    }

pub judged_now : (s : State) → IsSoundOffice s → CanBeJudged s
judged_now s g = judged_with s g s.catalogue.forest g.sound.units g.sound.days.closures g.texts.catalogue
