-- An import that goes row by row.
use Rattle.std.specs.Prelude.{◌≡◌, ℕ, Ok, Err}
use Rattle.isad_core.specs.Texts.{Bytes}
use Rattle.atom_csv.specs.FileContents.{file_of}
use Rattle.atom_csv.specs.declared.file.File.{File}
use Rattle.catalogue_core.specs.Intake.{is_changed, is_new, is_same}
use Rattle.catalogue_core.specs.CatalogueMerge.{Catalogue}
use Rattle.catalogue_core.specs.EntryByRow.{count_rows, with_rows}
use Rattle.office_core.specs.ImportReply.{remarks, told_of}
use Rattle.office_core.specs.Rules.{intake_of}
use Rattle.office_core.specs.State.{State}
use Rattle.office_core.specs.declared.done.Done.TheVariants as done

-- If all its rows can be placed, the file is taken with the catalogue that the rows make one by one. The reply counts
-- each row when its turn comes, and has the remarks on the catalogue after the last row.
abbrev pub TakesRowByRow : State → Type 0
TakesRowByRow s =
    (source file : Bytes) (read : File) (made : Catalogue) → file_of file ≡ Ok read → with_rows source read.rows s.catalogue ≡ Ok made
    → (intake_of s source file ≡ Ok (record { file = read; catalogue = made }))
    × (told_of s.catalogue.forest source (intake_of s source file)
    ≡ done.Import (count_rows is_changed source read.rows s.catalogue) (count_rows is_new source read.rows s.catalogue) (remarks made.forest source read.rows) (count_rows is_same source read.rows s.catalogue) read.translations)

-- The first row that cannot be placed is the file's fault.
abbrev pub FaultsRowByRow : State → Type 0
FaultsRowByRow s =
    (source file : Bytes) (read : File) (fault : ℕ × ℕ) → file_of file ≡ Ok read → with_rows source read.rows s.catalogue ≡ Err fault → intake_of s source file ≡ Err fault
