-- The fields of a record, by the columns of a header.
use Rattle.std.specs.Prelude.{ℕ, Bool, Option, Some, None, slice_get, unwrap_or, ◌==◌, if◌then◌else◌, List, [], ◌∷◌}
use Rattle.std.specs.Prelude.{reverse, length, map, position}
use Rattle.std.specs.List.{list_all}
use Rattle.std.specs.Borrow.{Bor}
use Rattle.std.specs.Str.{bytes_eq}
use Rattle.csv.specs.Records.{Row, fields_of}
use Rattle.isad_core.specs.Texts.{Bytes, is_space}
use Rattle.atom_csv.specs.declared.column.Column.{Column}
use Rattle.atom_csv.specs.Columns.{columns, column_name}

-- a text without white space at its start
abbrev pub trim_start : Bytes → Bytes
trim_start [] = []
trim_start (b ∷ rest) = if is_space b then trim_start rest else b ∷ rest

-- a text without white space at its end
abbrev pub trim_end : Bytes → Bytes
trim_end text = reverse (trim_start (reverse text))

-- a text without white space at either end; nothing is left of a blank text
abbrev pub trimmed : Bytes → Bytes
trimmed text = trim_end (trim_start text)

-- the text is empty
abbrev pub has_no_bytes : Bytes → Bool
has_no_bytes text = length text == 0

-- the fields of one record, without white space at their ends
abbrev pub Fields : Type 0
Fields = List Bytes

-- this field of the header is the name of the column
abbrev pub is_column_name : Bytes → Bytes → Bool
is_column_name name field = bytes_eq field name

-- the field under the first column with this name; empty if there is none
abbrev pub field_under : Bytes → Fields → Fields → Bytes
field_under name [] fields = []
field_under name (head ∷ heads) [] = []
field_under name (head ∷ heads) (field ∷ fields) =
    if is_column_name name head then field else field_under name heads fields

-- the field of a record in a column
abbrev pub value : Column → Fields → Fields → Bytes
value column = field_under (column_name column)

-- each field is blank
abbrev pub is_blank : Fields → Bool
is_blank = list_all has_no_bytes

-- ---- the places of columns

-- the index of the first column with this name
abbrev pub column_index : Bytes → Fields → Option ℕ
column_index name = position (is_column_name name)

-- the index of each column that is read
abbrev pub column_indices : Fields → List (Option ℕ)
column_indices header = map (λ column. column_index (column_name column) header) columns

-- the field at an index
abbrev pub field_at_place : Option ℕ → Fields → Bytes
field_at_place None fields = []
field_at_place (Some i) fields = unwrap_or (slice_get fields i) []

-- the fields that the code holds by reference
abbrev pub borrowed_fields : List (Bor Bytes) → Fields
borrowed_fields = map (λ field. field.now)

-- the fields of a record of the reader, without white space at their ends
abbrev pub trimmed_fields : Row → Fields
trimmed_fields row = map trimmed (fields_of row)
