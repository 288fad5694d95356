-- The contents of a file: its rows, or the position and the cause of its first fault.
use Rattle.std.specs.Prelude.{ℕ, Bool, false, Option, Some, None, is_some, find, ◌&&◌, ◌||◌, Result, Ok, Err}
use Rattle.std.specs.Prelude.{option_map, slice_get, ◌==◌, ◌+◌, ◌++◌, not, nat_lt, if◌then◌else◌, List, [], ◌∷◌, length}
use Rattle.std.specs.Prelude.{map, filter_map, count_by, codes}
use Rattle.std.specs.List.{list_any}
use Rattle.std.specs.Option.{option_map_or}
use Rattle.std.specs.Str.{bytes_eq, is_utf8, str_eq_ignore_ascii_case}
use Rattle.csv.specs.Reading.{default_config, records, strip_bom}
use Rattle.isad_core.specs.Limits.{most_bytes, most_rows}
use Rattle.isad_core.specs.Texts.{Bytes}
use Rattle.atom_csv.specs.Columns.{columns, column_name}
use Rattle.atom_csv.specs.Causes.{cause_number}
use Rattle.atom_csv.specs.Fields.{Fields, is_blank, has_no_bytes, is_column_name, trimmed, value}
use Rattle.atom_csv.specs.Values.{nonblank, values_of}
use Rattle.atom_csv.specs.declared.column.Column.TheVariants as column
use Rattle.atom_csv.specs.declared.cause.Cause.{Cause}
use Rattle.atom_csv.specs.declared.cause.Cause.TheVariants as cause
use Rattle.atom_csv.specs.declared.file.File.{File}
use Rattle.atom_csv.specs.declared.file.Row.{Row}

-- ---- lines: the records below the header, each with all those between it and the header

pub record FileLine : Type 0 where
  pub above : List Fields
  pub fields : Fields

abbrev pub lines_below : List Fields → List Fields → List FileLine
lines_below above [] = []
lines_below above (fields ∷ rest) =
    record { above = above; fields = fields } ∷ lines_below (above ++ fields ∷ []) rest

abbrev pub lines : List Fields → List FileLine
lines = lines_below []

-- the header is row 1
abbrev pub row_number : FileLine → ℕ
row_number line = length line.above + 2

-- ---- causes

-- a cause, if it holds
abbrev pub cause_if : Bool → Cause → List Cause
cause_if holds cause = if holds then cause ∷ [] else []

-- a column that is read occurs twice
abbrev pub has_column_twice : Fields → Bool
has_column_twice header = list_any (λ k. nat_lt 1 (count_by (is_column_name (column_name k)) header)) columns

-- a column with this name exists
abbrev pub has_column : Bytes → Fields → Bool
has_column name = list_any (is_column_name name)

abbrev pub header_causes : Fields → List Cause
header_causes header = cause_if (not (has_column (codes "legacyId") header)) cause.NoLegacyId
    ++ cause_if (has_column_twice header) cause.HeaderTwice

abbrev pub legacy : Fields → Fields → Bytes
legacy = value column.LegacyId

abbrev pub culture : Fields → Fields → Bytes
culture = value column.Culture

-- the culture of the first of these records with this legacyId, if there is one
abbrev pub first_culture : Fields → Bytes → List Fields → Option Bytes
first_culture header id above =
    option_map (culture header) (find (λ fields. bytes_eq (legacy header fields) id) above)

-- the culture of the first record above with the line's legacyId; none for a blank legacyId
abbrev pub stood_above : Fields → FileLine → Option Bytes
stood_above header line = if has_no_bytes (legacy header line.fields) then None
    else first_culture header (legacy header line.fields) line.above

-- two cultures that are not blank and differ
abbrev pub differ : Bytes → Bytes → Bool
differ a b = not (has_no_bytes a) && (not (has_no_bytes b) && not (bytes_eq a b))

-- the record describes a unit again in another language; it is compared with the first record with its legacyId, whose
-- culture is `stood`
abbrev pub is_translation : Fields → Fields → Option Bytes → Bool
is_translation header fields stood =
    option_map_or (λ first. differ first (culture header fields)) stood false

abbrev pub has_other_width : Fields → Fields → Bool
has_other_width header fields = not (length fields == length header)

-- the parent is named only by its slug
abbrev pub has_slug_alone : Fields → Fields → Bool
has_slug_alone header fields = not (has_no_bytes (value column.QubitParentSlug header fields))
    && has_no_bytes (value column.ParentId header fields)

-- the header is row 1, and as many rows as a file may have follow it; later ones are too late
abbrev pub is_late : ℕ → Bool
is_late row = nat_lt (most_rows + 1) row

-- a field that is read is longer than a text may be
abbrev pub is_long : Fields → Fields → Bool
is_long header fields = list_any (λ k. nat_lt most_bytes (length (value k header fields))) columns

-- The causes of a record in this row, lowest first; `stood` is the culture of the first record with its legacyId. A
-- blank record can only be too late, and a translation can also have another number of fields.
abbrev pub row_causes : Fields → Fields → Option Bytes → ℕ → List Cause
row_causes header fields stood row = if is_blank fields then cause_if (is_late row) cause.TooManyRows
    else if is_translation header fields stood then cause_if (has_other_width header fields) cause.FieldCount
    ++ cause_if (is_late row) cause.TooManyRows
    else cause_if (has_other_width header fields) cause.FieldCount
    ++ (cause_if (has_no_bytes (legacy header fields)) cause.BlankLegacyId
    ++ (cause_if (is_some stood) cause.Repeated
    ++ (cause_if (has_slug_alone header fields) cause.Slug
    ++ (cause_if (is_late row) cause.TooManyRows
    ++ cause_if (is_long header fields) cause.TooLong))))

abbrev pub causes : Fields → FileLine → List Cause
causes header line = row_causes header line.fields (stood_above header line) (row_number line)

-- ---- rows

abbrev pub row_of : Fields → Fields → ℕ → Row
row_of header fields row = record {
  row = row;
  legacy = legacy header fields;
  parent = nonblank (value column.ParentId header fields);
  published = str_eq_ignore_ascii_case (value column.PublicationStatus header fields)
      (codes "Published");
  values = values_of header fields;
}

-- the line describes the unit of a line above again
abbrev pub is_told_again : Fields → FileLine → Bool
is_told_again header line = is_translation header line.fields (stood_above header line)

abbrev pub is_counted : Fields → FileLine → Bool
is_counted header line = not (is_blank line.fields) && is_told_again header line

abbrev pub row_told : Fields → FileLine → Option Row
row_told header line = if is_blank line.fields || is_told_again header line
    then None else Some (row_of header line.fields (row_number line))

-- ---- the file

-- a row and the number of its lowest cause
abbrev pub Fault : Type 0
Fault = ℕ × ℕ

-- the causes are in ascending order, so the first is the lowest
abbrev pub lowest : List Cause → Option Cause
lowest causes = slice_get causes 0

abbrev pub line_fault : Fields → FileLine → Option Fault
line_fault header line =
    option_map (λ cause. (row_number line, cause_number cause)) (lowest (causes header line))

-- the rows with a cause, each with its lowest cause
abbrev pub line_faults : Fields → List Fields → List Fault
line_faults header rest = filter_map (line_fault header) (lines rest)

abbrev pub rows : Fields → List Fields → List Row
rows header rest = filter_map (row_told header) (lines rest)

abbrev pub translations : Fields → List Fields → ℕ
translations header rest = count_by (is_counted header) (lines rest)

-- the first fault, or the file if there is none
abbrev pub or_fault : List Fault → File → Result File Fault
or_fault [] file = Ok file
or_fault (fault ∷ later) file = Err fault

-- the records below a header that has no cause
abbrev pub file_below : Fields → List Fields → Result File Fault
file_below header rest = or_fault (line_faults header rest)
    (record { rows = rows header rest; translations = translations header rest })

abbrev pub under : Fields → List Cause → List Fields → Result File Fault
under header [] rest = file_below header rest
under header (cause ∷ more) rest = Err (1, cause_number cause)

abbrev pub of_records : List Fields → Result File Fault
of_records [] = Err (1, cause_number cause.NoHeader)
of_records (header ∷ rest) = under header (header_causes header) rest

-- the records of a text after a byte order mark, with no white space at the ends of fields
abbrev pub records_of : Bytes → List Fields
records_of bytes = map (map trimmed) (records default_config (strip_bom bytes))

-- the file that the bytes encode, or the row and the cause of its first fault
abbrev pub file_of : Bytes → Result File Fault
file_of bytes = if is_utf8 bytes then of_records (records_of bytes)
    else Err (0, cause_number cause.NotUtf8)
