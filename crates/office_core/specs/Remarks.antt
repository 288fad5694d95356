-- Which rows of a file get a remark: a level that belongs above that of the unit right above, and a top that lacks an
-- essential element.
use Rattle.std.specs.Prelude.{◌≡◌, ◌⊎◌, ℕ, ◌<◌, true, false, List, [], ◌∷◌, ◌++◌, Some, Ok, is_some}
use Rattle.isad_core.specs.Texts.{Bytes, is_blank_text}
use Rattle.isad_core.specs.Levels.{rank_of}
use Rattle.isad_core.specs.Values.{text_of}
use Rattle.isad_core.specs.declared.element.Element.TheVariants.{ReferenceCode, Title, Dates, Extent, Creator}
use Rattle.isad_core.specs.declared.values.Values.{Values}
use Rattle.atom_csv.specs.FileContents.{file_of}
use Rattle.atom_csv.specs.declared.file.File.{File}
use Rattle.atom_csv.specs.declared.file.Row.{Row}
use Rattle.tree_core.specs.Forest.{Forest, path}
use Rattle.catalogue_core.specs.Units.{Unit, is_from}
use Rattle.catalogue_core.specs.Pages.{before_last}
use Rattle.catalogue_core.specs.PublishedUnits.{last_of}
use Rattle.office_core.specs.declared.command.Command.TheVariants as command
use Rattle.office_core.specs.declared.done.Done.TheVariants as done
use Rattle.office_core.specs.declared.done.Remark.{Remark}
use Rattle.office_core.specs.declared.done.Remark.TheVariants.{LevelTooHigh, LacksEssential}
use Rattle.office_core.specs.State.{State}
use Rattle.office_core.specs.Rules.{step}

-- the path of the unit of a row, from its top down
abbrev pub way_of : Forest Unit → Bytes → Row → List Unit
way_of f source row = path (is_from source row.legacy) f

-- The level of the row's unit belongs above that of the unit right above: both have a rank, and its own is the smaller.
pub record BelongsAbove (way : List Unit) : Type 0 where
  pub unit : Unit
  pub parent : Unit
  pub is_last : last_of way ≡ Some unit
  pub is_above : last_of (before_last way) ≡ Some parent
  pub rank : ℕ
  pub rank_above : ℕ
  pub level : rank_of unit.values.level ≡ Some rank
  pub level_above : rank_of parent.values.level ≡ Some rank_above
  pub smaller : rank < rank_above

-- the six elements that are essential for international exchange (ISAD(G) I.12)
pub record HasEssentials (values : Values) : Type 0 where
  pub code : is_some (text_of ReferenceCode values) ≡ true
  pub title : is_some (text_of Title values) ≡ true
  pub creators : is_some (text_of Creator values) ≡ true
  pub dates : is_some (text_of Dates values) ≡ true
  pub extent : is_some (text_of Extent values) ≡ true
  pub level : is_blank_text values.level ≡ false

-- The row's unit is a top, and lacks one of the six.
pub record IsPoorTop (way : List Unit) : Type 0 where
  pub top : Unit
  pub is : way ≡ top ∷ []
  pub lacks : HasEssentials top.values → ⊥

-- The remarks on a row: one of kind 1, one of kind 2, or none. Each kind is given exactly if its sentence is true.
abbrev pub IsToldOf : List Unit → ℕ → List Remark → Type 0
IsToldOf way row told =
    ((told ≡ LevelTooHigh row ∷ []) × BelongsAbove way × (IsPoorTop way → ⊥))
    ⊎ (((told ≡ LacksEssential row ∷ []) × IsPoorTop way × (BelongsAbove way → ⊥))
    ⊎ ((told ≡ []) × (BelongsAbove way → ⊥) × (IsPoorTop way → ⊥)))

-- the remarks on these rows are those on each row in turn
abbrev pub AreToldOf : Forest Unit → Bytes → List Row → List Remark → Type 0
AreToldOf f source [] told = told ≡ []
AreToldOf f source (row ∷ rows) told =
    (own : List Remark) × (others : List Remark) × (told ≡ own ++ others)
    × IsToldOf (way_of f source row) row.row own
    × AreToldOf f source rows others

-- The remarks of an accepted import are those on its rows, in their order, judged on the tree after it.
abbrev pub RemarksOnRows : State → Type 0
RemarksOnRows s =
    (source file : Bytes) (changed new : ℕ) (remarks : List Remark) (same translations : ℕ)
    → (step s (command.Import source file)).1 ≡ Ok (done.Import changed new remarks same translations)
    → (read : File)
    × (file_of file ≡ Ok read)
    × AreToldOf (step s (command.Import source file)).0.catalogue.forest source read.rows remarks
