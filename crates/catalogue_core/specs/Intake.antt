-- What a file makes of a catalogue, and which of its rows are new or change a unit.
use Rattle.std.specs.Prelude.{ℕ, ◌+◌, Bool, false, not, ◌&&◌, ◌||◌, length, find, Option, Result, Ok, Err, nat_lt}
use Rattle.std.specs.Option.{option_eq, option_map_or}
use Rattle.std.specs.Str.{bytes_eq}
use Rattle.std.specs.Cmp.Lexicographic.{pointwise}
use Rattle.isad_core.specs.Limits.{most_units, most_unit_numbers, most_containers}
use Rattle.isad_core.specs.Texts.{Bytes}
use Rattle.isad_core.specs.declared.values.Values.{Values}
use Rattle.atom_csv.specs.FileContents.{file_of}
use Rattle.atom_csv.specs.declared.file.File.{File}
use Rattle.atom_csv.specs.declared.file.Row.{Row}
use Rattle.tree_core.specs.Forest.{Forest, nodes, size}
use Rattle.catalogue_core.specs.Units.{Unit, is_from}
use Rattle.catalogue_core.specs.CatalogueMerge.{Catalogue, merge, is_known}
use Rattle.isad_core.specs.Boxes.{is_same_box}

-- ---- how much the catalogue may have

abbrev pub is_full : Catalogue → Bool
is_full c =
    nat_lt most_units (size c.forest)
    || (nat_lt (most_unit_numbers + 1) c.next || nat_lt most_containers (length c.containers))

-- ---- what a file makes of a catalogue

-- the file that was read, and the catalogue after it
pub record Intake : Type 0 where
  pub file : File
  pub catalogue : Catalogue

abbrev pub Taken : Type 0
Taken = Result Intake (ℕ × ℕ)

abbrev pub with_file : File → Result Catalogue (ℕ × ℕ) → Taken
with_file file (Ok catalogue) = Ok (record { file = file; catalogue = catalogue })
with_file file (Err fault) = Err fault

abbrev pub take_rows : Catalogue → Bytes → Result File (ℕ × ℕ) → Taken
take_rows catalogue source (Ok file) = with_file file (merge catalogue source file.rows)
take_rows catalogue source (Err fault) = Err fault

-- The bytes are read as a file, and its rows are placed. On failure, the result is the first faulty row of the file
-- with its cause or, if there is none, the first row that cannot be placed.
unfoldable pub take : Catalogue → Bytes → Bytes → Taken
take catalogue source file = take_rows catalogue source (file_of file)

-- ---- rows that change nothing

abbrev pub same_values : Values → Values → Bool
same_values a b =
    bytes_eq a.level b.level
    && (pointwise (option_eq bytes_eq) a.texts b.texts && pointwise is_same_box a.boxes b.boxes)

-- the unit of a row, if it is catalogued
abbrev pub catalogued_unit : Forest Unit → Bytes → Row → Option Unit
catalogued_unit f source row = find (is_from source row.legacy) (nodes f)

abbrev pub is_same : Forest Unit → Bytes → Row → Bool
is_same f source row = option_map_or (λ unit. same_values unit.values row.values) (catalogued_unit f source row) false

abbrev pub is_new : Forest Unit → Bytes → Row → Bool
is_new f source row = not (is_known f source row)

abbrev pub is_changed : Forest Unit → Bytes → Row → Bool
is_changed f source row = is_known f source row && not (is_same f source row)
