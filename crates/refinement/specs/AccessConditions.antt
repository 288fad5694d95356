-- When the tables of a state determine who may see what. The state need not be sound: after a change of the catalogue,
-- the question is whether everything that is out is still open to the readers who have it.
use Rattle.std.specs.Prelude.{◌≡◌, ⊤, ℕ, true, false, [], Some, is_some}
use Rattle.sqlite.specs.Effect.{Database}
use Rattle.sqlite.specs.Tree.{Trees}
use Rattle.tree_core.specs.Forest.{Forest, HasDistinctIds, each}
use Rattle.office_tables.specs.Versions.{Version}
use Rattle.desk_core.specs.LegibleDesks.{IsLegible}
use Rattle.catalogue_core.specs.Bounds.{IsKept}
use Rattle.catalogue_core.specs.Descriptions.{KnowsItsContainers}
use Rattle.desk_core.specs.Decisions.{order_out}
use Rattle.office_core.specs.State.{State, is_ticket}
use Rattle.office_core.specs.Words.{nth}
use Rattle.state_encoding.specs.OfficeRows.{tables}
use Rattle.refinement.specs.Representation.{RepresentsState}

-- Its rows can be read back, its units and containers are distinct, only readers have permits, and every container that
-- is out is out with an order that exists.
pub record CanBeJudged (s : State) : Type 0 where
  pub catalogue : IsKept s.catalogue
  pub containers : KnowsItsContainers s.catalogue
  pub units : HasDistinctIds (each (λ unit. unit.id) s.catalogue.forest)
  pub desk : (version : Version) → IsLegible (tables version s).desk
  pub permits : (t : ℕ) → is_ticket s t ≡ false → s.permits t ≡ []
  pub orders : (c o : ℕ) → order_out (s.place c) ≡ Some o → is_some (nth s.orders o) ≡ true

-- the tables represent the state, in the form that calls cite
abbrev pub RepresentsWhole : (Trees → Forest ℕ → Type 0) → Version → Database → ⊤ → State → Type 0
RepresentsWhole places version db beside s = RepresentsState places version db s
