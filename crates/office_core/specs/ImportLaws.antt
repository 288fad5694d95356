-- What an import must keep of a state's soundness, apart from that of the desk and of the days, and what it adds.
use Rattle.std.specs.Prelude.{◌≡◌, ℕ, ◌+◌, true, List, Ok}
use Rattle.isad_core.specs.Texts.{Bytes}
use Rattle.tree_core.specs.Forest.{size}
use Rattle.office_core.specs.declared.command.Command.TheVariants as command
use Rattle.office_core.specs.declared.done.Done.TheVariants as done
use Rattle.office_core.specs.declared.done.Remark.{Remark}
use Rattle.office_core.specs.State.{State}
use Rattle.catalogue_core.specs.UnitLookup.{has_unit}
use Rattle.office_core.specs.Rules.{step}
use Rattle.catalogue_core.specs.GoodCatalogues.{AreGoodUnits, AreGoodContainers}
use Rattle.office_core.specs.Soundness.{ArePermitsOfUnits}

-- the part of soundness that is about the catalogue
pub record HasGoodCatalogue (s : State) : Type 0 where
  pub units : AreGoodUnits s.catalogue
  pub containers : AreGoodContainers s.catalogue
  pub permits : ArePermitsOfUnits s

-- for any file from any source, accepted or refused
abbrev pub ImportsKeepTheCatalogue : State → Type 0
ImportsKeepTheCatalogue s = (source file : Bytes) → HasGoodCatalogue (step s (command.Import source file)).0

-- each unit that existed still exists
abbrev pub KeepsEachUnit : State → State → Type 0
KeepsEachUnit s t = (u : ℕ) → has_unit s.catalogue.forest u ≡ true → has_unit t.catalogue.forest u ≡ true

-- An accepted import removes no unit, and adds as many as its reply counts as new: each unit that existed still exists,
-- there are that many more units, and that many unit numbers are given.
abbrev pub ImportsBringTheNew : State → Type 0
ImportsBringTheNew s =
    (source file : Bytes) (changed new : ℕ) (remarks : List Remark) (same translations : ℕ)
    → (step s (command.Import source file)).1 ≡ Ok (done.Import changed new remarks same translations)
    → KeepsEachUnit s (step s (command.Import source file)).0
    × (size (step s (command.Import source file)).0.catalogue.forest ≡ size s.catalogue.forest + new)
    × ((step s (command.Import source file)).0.catalogue.next ≡ s.catalogue.next + new)
