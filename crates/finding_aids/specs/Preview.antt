-- What a file would show if it were published: the finding aids of all its top units.
use Rattle.std.specs.Prelude.{ℕ, pos, Result, Ok, Err, []}
use Rattle.isad_core.specs.Texts.{Bytes}
use Rattle.isad_core.specs.PrintedDescriptions.{aid}
use Rattle.atom_csv.specs.FileContents.{file_of}
use Rattle.atom_csv.specs.declared.file.File.{File}
use Rattle.catalogue_core.specs.CatalogueMerge.{Catalogue, empty_catalogue, merge}
use Rattle.catalogue_core.specs.PublicForest.{public_of}
use Rattle.catalogue_core.specs.Aids.{Repository, shown_below}

-- the finding aids of a catalogue without closures, so that the day does not matter
abbrev pub aids_of : Repository → Catalogue → Bytes
aids_of at s = aid (shown_below at s.containers [] 0 (public_of (pos 0) s.forest))

abbrev pub after_merging : Repository → Result Catalogue (ℕ × ℕ) → Result Bytes (ℕ × ℕ)
after_merging at (Ok s) = Ok (aids_of at s)
after_merging at (Err fault) = Err fault

abbrev pub after_reading : Repository → Result File (ℕ × ℕ) → Result Bytes (ℕ × ℕ)
after_reading at (Ok file) = after_merging at (merge empty_catalogue [] file.rows)
after_reading at (Err fault) = Err fault

-- the finding aids of a file in an office that has nothing yet, or the row and the cause of the
-- first fault of the file or of its merge
abbrev pub preview_of : Repository → Bytes → Result Bytes (ℕ × ℕ)
preview_of at bytes = after_reading at (file_of bytes)
