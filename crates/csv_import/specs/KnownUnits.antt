-- The units of a file's rows and their parents, known by their numbers in the source.
use Rattle.std.specs.Prelude.{◌≡◌, ℕ, ◌+◌, Bool, true, cond, List, [], ◌∷◌, Option, Some, None, IfSome, is_some}
use Rattle.std.specs.Prelude.{unwrap_or}
use Rattle.std.specs.List.{AllByRecursion}
use Rattle.isad_core.specs.Texts.{Bytes}
use Rattle.atom_csv.specs.declared.file.Row.{Row}
use Rattle.catalogue_core.specs.CatalogueMerge.{Catalogue}
use Rattle.catalogue_core.specs.EntryByRow.{number_there}

-- any number that `numbers` gives is that of a catalogued unit
abbrev pub AreRight : Catalogue → Bytes → (Bytes → Option ℕ) → Type 0
AreRight c source numbers = (legacy : Bytes) → IfSome (numbers legacy) (λ unit. number_there c source legacy ≡ Some unit)

-- for each of these rows, `numbers` gives the number of its unit, or none if the unit is not catalogued
abbrev pub TellsUnits : Catalogue → Bytes → List Row → (Bytes → Option ℕ) → Type 0
TellsUnits c source rows numbers = AllByRecursion (λ row. numbers row.legacy ≡ number_there c source row.legacy) rows

-- for the parent that a row names, `numbers` gives its number, or none if it is not catalogued
abbrev pub TellsParent : Catalogue → Bytes → (Bytes → Option ℕ) → Row → Type 0
TellsParent c source numbers row = IfSome row.parent (λ parent. numbers parent ≡ number_there c source parent)

-- the same, if the row is new: a row whose unit is catalogued is not placed
abbrev pub TellsParentOfNew : Catalogue → Bytes → (Bytes → Option ℕ) → Row → Type 0
TellsParentOfNew c source numbers row = number_there c source row.legacy ≡ None → TellsParent c source numbers row

-- what the catalogue has of the units of these rows, and of the parents of those that are new
pub record KnowsUnits (c : Catalogue) (source : Bytes) (rows : List Row) (numbers : Bytes → Option ℕ) : Type 0 where
  pub sound : (legacy : Bytes) → IfSome (numbers legacy) (λ unit. number_there c source legacy ≡ Some unit)
  pub each : TellsUnits c source rows numbers
  pub parents : AllByRecursion (TellsParentOfNew c source numbers) rows

-- for each number that was asked for, `numbers` gives what the catalogue has
pub record KnowsAsked (c : Catalogue) (source : Bytes) (asked : Bytes → Bool) (numbers : Bytes → Option ℕ) : Type 0 where
  pub right : AreRight c source numbers
  pub told : (legacy : Bytes) → asked legacy ≡ true → numbers legacy ≡ number_there c source legacy

-- the row's unit was asked for, and if the row is new, the parent that it names
pub record IsAsked (c : Catalogue) (source : Bytes) (asked : Bytes → Bool) (row : Row) : Type 0 where
  pub unit : asked row.legacy ≡ true
  pub parent : number_there c source row.legacy ≡ None → IfSome row.parent (λ parent. asked parent ≡ true)

-- the units of rows in their order: those that are known, and new ones with the numbers from n on
abbrev pub units_from : (Bytes → Option ℕ) → ℕ → List Row → List ℕ
units_from numbers n [] = []
units_from numbers n (row ∷ rows) = unwrap_or (numbers row.legacy) n ∷ units_from numbers (n + cond (is_some (numbers row.legacy)) 0 1) rows
