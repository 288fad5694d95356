-- What the code has read of a file so far, and the fault at which it stops.
use Rattle.std.specs.Prelude.{◌≡◌, ℕ, false, Option, List, []}
use Rattle.std.specs.BTreeMap.{get_by_text}
use Rattle.isad_core.specs.Texts.{Bytes}
use Rattle.atom_csv.specs.Fields.{Fields, has_no_bytes}
use Rattle.atom_csv.specs.FileContents.{line_faults, first_culture, rows, translations}
use Rattle.atom_csv.specs.declared.file.FileFault.{FileFault}
use Rattle.atom_csv.specs.declared.file.FileFault.TheVariants.{Memory, Bad}
use Rattle.atom_csv.specs.declared.rows.Rows.{Rows}

-- if the fault is that of a row, `told` holds of its row and its cause
abbrev pub IfBad : FileFault → (ℕ → ℕ → Type 0) → Type 0
IfBad Memory told = Unit {0}
IfBad (Bad row cause) told = told row cause

-- for each legacyId that is not blank, `get` returns the culture of the first of these records with it
abbrev pub Knows : Fields → List Fields → (Bytes → Option Bytes) → Type 0
Knows header above get = (id : Bytes) → has_no_bytes id ≡ false → get id ≡ first_culture header id above

-- the rows are those of these records below the header, and none of the records has a cause
pub record TellsRows (header : Fields) (above : List Fields) (r : Rows) : Type 0 where
  pub none : line_faults header above ≡ []
  pub rows : r.rows ≡ rows header above
  pub translations : r.translations ≡ translations header above
  pub known : Knows header above (get_by_text r.cultures)
