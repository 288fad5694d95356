-- The values of the description in a record.
use Rattle.std.specs.Prelude.{ℕ, Bool, true, false, not, if◌then◌else◌, Option, Some, None, slice_get, unwrap_or, List}
use Rattle.std.specs.Prelude.{[], ◌∷◌, map, filter}
use Rattle.std.specs.List.{enumerate_from, flat_map}
use Rattle.isad_core.specs.Texts.{Bytes}
use Rattle.isad_core.specs.Boxes.{distinct}
use Rattle.isad_core.specs.Elements.{elements}
use Rattle.isad_core.specs.declared.element.Element.{Element}
use Rattle.isad_core.specs.declared.element.Element.TheVariants as element
use Rattle.isad_core.specs.declared.values.BoxKey.{BoxKey}
use Rattle.isad_core.specs.declared.values.Values.{Values}
use Rattle.atom_csv.specs.declared.column.Column.{Column}
use Rattle.atom_csv.specs.declared.column.Column.TheVariants as column
use Rattle.atom_csv.specs.Columns.{columns_of, is_split}
use Rattle.atom_csv.specs.Fields.{Fields, has_no_bytes, value}
use Rattle.atom_csv.specs.Entries.{entries, nonblank_entries, entries_joined}

-- a text, or none if it is empty
abbrev pub nonblank : Bytes → Option Bytes
nonblank text = if has_no_bytes text then None else Some text

-- ---- elements (ISAD(G) 3.1 to 3.7)

-- the entries of a split column, or the one text of another column
abbrev pub told_by : Column → Bytes → List Bytes
told_by k text = if is_split k then entries text else text ∷ []

-- the text of an element: the non-blank entries of its columns, in their order, joined
abbrev pub text_in_columns : Fields → Fields → Element → Bytes
text_in_columns header fields e = entries_joined (nonblank_entries (flat_map (λ k. told_by k (value k header fields)) (columns_of e)))

-- the level of description is stored apart from the other elements
abbrev pub is_level : Element → Bool
is_level element.Level = true
is_level _ = false

-- the 25 other elements, in the standard's order
unfoldable pub text_elements : List Element
text_elements = filter (λ e. not (is_level e)) elements

-- ---- containers

-- the entry at a place, or a blank one if there is none
abbrev pub entry_at : List Bytes → ℕ → Bytes
entry_at entries i = unwrap_or (slice_get entries i) []

-- the container with a name and the entries at the same place in the other columns
abbrev pub triple : List Bytes → List Bytes → ℕ × Bytes → BoxKey
triple locations kinds (i, name) =
    record { name = name; location = entry_at locations i; kind = entry_at kinds i }

-- entry i of the three columns makes triple i; there are as many triples as names
abbrev pub triples : List Bytes → List Bytes → List Bytes → List BoxKey
triples names locations kinds = map (triple locations kinds) (enumerate_from 0 names)

-- the container has a name
abbrev pub is_named_box : BoxKey → Bool
is_named_box b = not (has_no_bytes b.name)

-- the containers of three columns; a blank name makes no container and does not shift the others
abbrev pub boxes_of : Bytes → Bytes → Bytes → List BoxKey
boxes_of names locations kinds =
    distinct (filter is_named_box (triples (entries names) (entries locations) (entries kinds)))

-- ---- all of them

abbrev pub values_of : Fields → Fields → Values
values_of header fields = record {
  level = text_in_columns header fields element.Level;
  texts = map (λ e. nonblank (text_in_columns header fields e)) text_elements;
  boxes = boxes_of (value column.PhysicalObjectName header fields)
      (value column.PhysicalObjectLocation header fields)
      (value column.PhysicalObjectType header fields);
}
