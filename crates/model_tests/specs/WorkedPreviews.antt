-- Previews of small files, byte for byte, and the places of rows below one another. The expected results were written by hand.
use Rattle.std.specs.Prelude.{◌≡◌, ◌++◌, ℕ, List, [], ◌∷◌, Some, None, Result, Ok, Err, codes}
use Rattle.isad_core.specs.Texts.{Bytes}
use Rattle.tree_core.specs.Forest.{Empty}
use Rattle.tree_core.specs.WorkedExamples.{leaf}
use Rattle.atom_csv.specs.FileContents.{rows}
use Rattle.atom_csv.specs.declared.file.Row.{Row}
use Rattle.catalogue_core.specs.PublicForest.{PublicUnit}
use Rattle.finding_aids.specs.Places.{depth_below, faults, index_of, place_at, place_below}
use Rattle.finding_aids.specs.Preview.{preview_of}
use Rattle.finding_aids.specs.RowTrees.{highest, side_by_side_backwards, side_by_side}
use Rattle.finding_aids.specs.declared.previews.places.RowPosition.{RowPosition}

-- what a file shows under the repository GB 0999: its aids, or the row and the cause of its first fault
abbrev pub Shows : Bytes → Result Bytes (ℕ × ℕ) → Type 0
Shows file told = preview_of (record { country = codes "GB"; repo = codes "0999" }) file ≡ told

abbrev pub header : Bytes
header = codes "legacyId,parentId,publicationStatus,levelOfDescription,identifier,title\n"

abbrev pub fonds_row : Bytes
fonds_row = codes "1,,Published,Fonds,HUL,Hull Dock Company\n"

abbrev pub fonds_line : Bytes
fonds_line = codes "GB 0999 HUL [Fonds] Hull Dock Company\n"

pub record Previewed : Type 0 where
  pub nothing : Shows header (Ok [])
  pub one_fonds : Shows (header ++ fonds_row) (Ok fonds_line)
  pub series : Shows (header ++ fonds_row ++ codes "2,1,Published,Series,1,Minutes\n3,2,Published,File,7,Letters\n")
      (Ok (fonds_line ++ codes "  GB 0999 HUL/1 [Series] Minutes\n    GB 0999 HUL/1/7 [File] Letters\n"))
  pub two_fonds : Shows (header ++ fonds_row ++ codes "2,,Published,Fonds,WIL,Wilson Line\n") (Ok (fonds_line ++ codes "GB 0999 WIL [Fonds] Wilson Line\n"))
  pub draft : Shows (header ++ fonds_row ++ codes "2,1,Draft,Series,1,Minutes\n3,2,Published,File,7,Letters\n") (Ok fonds_line)
  pub no_id : Shows (codes "title\nMinutes\n") (Err (1, 3))
  pub blank_id : Shows (header ++ fonds_row ++ codes ",1,Published,Series,1,Minutes\n") (Err (3, 6))
  pub no_parent : Shows (header ++ codes "2,1,Published,Series,1,Minutes\n") (Err (2, 11))

-- ---- the places of rows

-- the rows a, b below it, and c below nothing that is there
abbrev pub first_rows : List Row
first_rows = rows (codes "legacyId" ∷ codes "parentId" ∷ [])
    ((codes "a" ∷ [] ∷ []) ∷ (codes "b" ∷ codes "a" ∷ []) ∷ (codes "c" ∷ codes "x" ∷ []) ∷ [])

abbrev pub top : RowPosition
top = record { parent = None; depth = 1 }

pub record PlacedRows : Type 0 where
  pub nearest : index_of (codes "a") first_rows ≡ Some 2
  pub farthest : index_of (codes "c") first_rows ≡ Some 0
  pub unknown : index_of (codes "x") first_rows ≡ None
  pub depth : depth_below first_rows (Some (codes "a")) ≡ Some 2
  pub lacking : faults first_rows ≡ (4, 11) ∷ []
  pub below_first : place_at (top ∷ []) 0 ≡ Some (record { parent = Some 0; depth = 2 })
  pub at_top : place_below (λ legacy. None) [] None ≡ Some top
  pub nowhere : place_below (λ legacy. None) (top ∷ []) (Some (codes "x")) ≡ None
  pub in_turn : (a b : PublicUnit) → side_by_side (leaf a Empty ∷ leaf b Empty ∷ []) ≡ leaf a (leaf b Empty)
  pub last_first : (a b : PublicUnit) → side_by_side_backwards (leaf a Empty ∷ leaf b Empty ∷ []) ≡ leaf b (leaf a Empty)
  pub most : highest (2 ∷ 5 ∷ 3 ∷ []) ≡ 5
