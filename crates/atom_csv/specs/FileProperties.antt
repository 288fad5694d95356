-- Properties of every file that is read.
use Rattle.std.specs.Prelude.{◌≡◌, Bool, false, List, [], ◌∷◌, IfSome, IsUtf8}
use Rattle.std.specs.List.{AllByRecursion}
use Rattle.std.specs.Str.{bytes_eq}
use Rattle.isad_core.specs.Texts.{Bytes, is_blank_text}
use Rattle.isad_core.specs.declared.values.Values.{Values}
use Rattle.isad_core.specs.Boxes.{is_same_box}
use Rattle.isad_core.specs.LegibleValues.{AreLegibleValues}
use Rattle.atom_csv.specs.declared.file.File.{File}
use Rattle.atom_csv.specs.declared.file.Row.{Row}

-- a text that is not blank
abbrev pub IsNotBlank : Bytes → Type 0
IsNotBlank text = is_blank_text text ≡ false

-- any two of them differ
abbrev pub AllDiffer : {X : Type 0} → (X → X → Bool) → List X → Type 0
AllDiffer same [] = Unit {0}
AllDiffer same (x ∷ xs) = AllByRecursion (λ y. same x y ≡ false) xs × AllDiffer same xs

-- no text of an element and no name of a container is blank, and no container occurs twice
pub record AreValues (values : Values) : Type 0 where
  pub texts : AllByRecursion (λ text. IfSome text IsNotBlank) values.texts
  pub names : AllByRecursion (λ b. IsNotBlank b.name) values.boxes
  pub boxes : AllDiffer is_same_box values.boxes

-- no legacyId is blank or occurs twice, and the values satisfy `AreValues`
pub record HasProperRows (file : File) : Type 0 where
  pub there : AllByRecursion (λ row. IsNotBlank row.legacy) file.rows
  pub once : AllDiffer (λ a b. bytes_eq a.legacy b.legacy) file.rows
  pub values : AllByRecursion (λ row. AreValues row.values) file.rows

-- the row's texts are UTF-8
pub record IsLegibleRow (row : Row) : Type 0 where
  pub legacy : IsUtf8 row.legacy
  pub parent : IfSome row.parent IsUtf8
  pub values : AreLegibleValues row.values

abbrev pub HasLegibleRows : File → Type 0
HasLegibleRows file = AllByRecursion IsLegibleRow file.rows
