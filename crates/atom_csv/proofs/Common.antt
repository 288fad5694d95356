-- The names that several proofs of this crate cite, passed on from one place. Declares nothing.
pub use Rattle.std.proofs.Math.Seq.{take-length, take-suc}
pub use Rattle.std.proofs.lemmas.Bool.{and_parts, eqb-true, false≢true, le-ltb, ltb-true, ne_eqb}
pub use Rattle.std.proofs.lemmas.List.{length-map, map-append, reverse-append, reverse-reverse, take_all}
pub use Rattle.std.proofs.lemmas.List.Elements.{filter-append, filter_map-append}
pub use Rattle.std.proofs.lemmas.List.Sums.{fold-append, sum_by-append}
pub use Rattle.std.proofs.lemmas.Str.{IsCharBoundary-after_ascii, IsCharBoundary-before_ascii, IsCharBoundary-end}
pub use Rattle.std.proofs.lemmas.Str.{IsCharBoundary-start, IsUtf8-append, IsUtf8-drop, IsUtf8-from_ascii}
pub use Rattle.std.proofs.lemmas.Str.{IsUtf8-from_is_utf8, IsUtf8-nil, IsUtf8-past_char, IsUtf8-take, encode_ascii}
pub use Rattle.std.proofs.lemmas.Str.{is_utf8-from_IsUtf8}
pub use Rattle.std.specs.List.{AllByRecursion, cons_option, enumerate_from, flat_map, list_all, list_any, onto_first}
pub use Rattle.std.specs.List.{position_from}
pub use Rattle.std.specs.Prelude.{IfSome, count_by, filter_map, find, if◌then◌else◌, is_some, position, slice_get}
pub use Rattle.std.specs.Prelude.{slice_index, unwrap_or, ⊤, ◌&&◌, ◌==◌, ◌||◌}
pub use Rattle.std.specs.Str.{IsCharBoundary, bytes_eq}
pub use Rattle.std.specs.String.{string_bytes}
pub use Rattle.csv.specs.Machine.{Read, ends_at_end, field_after, fields_after, in_field, is_end, start_field}
pub use Rattle.csv.specs.Machine.{start_record, step}
pub use Rattle.csv.specs.Reading.{ExplainsRead, NextIs, ReadRecord, ReadsNext, builder_is_flexible, default_config}
pub use Rattle.csv.specs.Reading.{error_kind, is_bom, is_flexible, pending_of, records, records_next, took_first}
pub use Rattle.csv.specs.Records.{fields_of}
pub use Rattle.csv.specs.declared.parser.State.{State}
pub use denote.Enum.Declared.{tag_of}
pub use Rattle.isad_core.specs.Boxes.{distinct, is_same_box}
pub use Rattle.isad_core.specs.Texts.{Bytes, is_blank_text, is_line_break, is_space}
pub use Rattle.isad_core.specs.declared.values.BoxKey.{BoxKey}
pub use Rattle.atom_csv.specs.Causes.{cause_number}
pub use Rattle.atom_csv.specs.Columns.{column_name, columns_of, is_split}
pub use Rattle.atom_csv.specs.Entries.{entries, entries_joined, nonblank_entries, parts_of, trimmed_entry, with_entry}
pub use Rattle.atom_csv.specs.Fields.{Fields, borrowed_fields, column_index, column_indices, field_at_place}
pub use Rattle.atom_csv.specs.Fields.{field_under, has_no_bytes, is_blank, is_column_name, trim_end, trim_start}
pub use Rattle.atom_csv.specs.Fields.{trimmed, trimmed_fields, value}
pub use Rattle.atom_csv.specs.FileContents.{Fault, FileLine, cause_if, causes, culture, file_below, file_of}
pub use Rattle.atom_csv.specs.FileContents.{first_culture, has_column, has_column_twice, has_other_width}
pub use Rattle.atom_csv.specs.FileContents.{has_slug_alone, header_causes, is_counted, is_late, is_long, is_told_again}
pub use Rattle.atom_csv.specs.FileContents.{is_translation, legacy, line_fault, line_faults, lines, lines_below, lowest}
pub use Rattle.atom_csv.specs.FileContents.{of_records, or_fault, records_of, row_causes, row_of, row_told, rows}
pub use Rattle.atom_csv.specs.FileContents.{stood_above, translations, under}
pub use Rattle.atom_csv.specs.KnownContainers.{HoldsContainers, box_with, has_box}
pub use Rattle.atom_csv.specs.ReadProgress.{IfBad, Knows, TellsRows}
pub use Rattle.atom_csv.specs.Source.{IsReading, Source, rows_left, unread_bytes}
pub use Rattle.atom_csv.specs.Values.{boxes_of, entry_at, is_named_box, nonblank, text_in_columns, told_by, triple}
pub use Rattle.atom_csv.specs.Values.{triples, values_of}
pub use Rattle.atom_csv.specs.contracts.column.Column.{the_type}
pub use Rattle.atom_csv.specs.declared.cause.Cause.{Cause}
pub use Rattle.atom_csv.specs.declared.column.Column.{Column}
