-- Units keep all but what a change of status or closure names.
use Rattle.std.proofs.Common.{◌≡◌, ℕ, Bool, true, false, cond, List, Option, refl}
use Rattle.std.specs.Prelude.{ℤ}
use Rattle.catalogue_core.specs.Statuses.{is_chosen}
use Rattle.catalogue_core.proofs.Common.{AreGoodContainers, Catalogue, Forest, Unit, has_id}
use Rattle.catalogue_core.proofs.GoodChanges.{KeepsUnits}

-- ---- commands that leave the catalogue

pub same_containers : (c : Catalogue) (f : Forest Unit) → AreGoodContainers c
    → AreGoodContainers (record c { forest = f })
same_containers c f h = record { named = h.named; few = h.few }

-- ---- commands that change it

pub status_keeps : (ids : List ℕ) (draft : Bool)
    → KeepsUnits (λ (unit : Unit). cond (is_chosen ids unit) (record unit { draft = draft }) unit)
status_keeps ids draft =
    record {
      id = λ unit. (at (is_chosen ids unit) unit).0;
      source = λ unit. (at (is_chosen ids unit) unit).1;
      legacy = λ unit. (at (is_chosen ids unit) unit).2;
      values = λ unit. (at (is_chosen ids unit) unit).3;
    }
  where
    at : (b : Bool) (unit : Unit) → let new : Unit = cond b (record unit { draft = draft }) unit in (new.id ≡ unit.id) × (new.source ≡ unit.source) × (new.legacy ≡ unit.legacy) × (new.values ≡ unit.values)
    at true unit = (refl, refl, refl, refl)
    at false unit = (refl, refl, refl, refl)

pub closure_keeps : (until : Option ℤ) (u : ℕ)
    → KeepsUnits (λ (unit : Unit). cond (has_id u unit) (record unit { until = until }) unit)
closure_keeps until u =
    record {
      id = λ unit. (at (has_id u unit) unit).0;
      source = λ unit. (at (has_id u unit) unit).1;
      legacy = λ unit. (at (has_id u unit) unit).2;
      values = λ unit. (at (has_id u unit) unit).3;
    }
  where
    at : (b : Bool) (unit : Unit) → let new : Unit = cond b (record unit { until = until }) unit in (new.id ≡ unit.id) × (new.source ≡ unit.source) × (new.legacy ≡ unit.legacy) × (new.values ≡ unit.values)
    at true unit = (refl, refl, refl, refl)
    at false unit = (refl, refl, refl, refl)
