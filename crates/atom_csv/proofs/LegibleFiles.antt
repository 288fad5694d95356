-- The texts that the rows of a file tell are UTF-8.
use Rattle.std.proofs.Common.{◌+◌, ◌≡◌, ◌++◌, ◌∷◌, [], ℕ, zero, suc, Bool, true, false, List, Some, None, Ok, Err}
use Rattle.std.proofs.Common.{length, map, reverse, refl, sym, ap, subst, arith, cond}
use Rattle.std.specs.Prelude.{filter, not, IsUtf8, codes}
use Rattle.std.specs.Str.{is_utf8}
use Rattle.csv.specs.Reading.{strip_bom}
use Rattle.isad_core.specs.LegibleValues.{IsLegibleBox, AreLegibleValues}
use Rattle.isad_core.specs.declared.element.Element.{Element}
use Rattle.isad_core.specs.declared.element.Element.TheVariants as element
use Rattle.atom_csv.specs.FileProperties.{IsLegibleRow, HasLegibleRows}
use Rattle.atom_csv.specs.Values.{text_elements}
use Rattle.atom_csv.specs.declared.cause.Cause.TheVariants as cause
use Rattle.atom_csv.specs.declared.column.Column.TheVariants as column
use Rattle.atom_csv.specs.declared.file.File.{File}
use Rattle.atom_csv.proofs.Common.{AllByRecursion, Bytes, Cause, Column, Fault, Fields, IfSome, IsUtf8-append}
use Rattle.atom_csv.proofs.Common.{IsUtf8-from_is_utf8, IsUtf8-nil, boxes_of, bytes_eq, cause_number, column_name}
use Rattle.atom_csv.proofs.Common.{columns_of, cons_option, default_config, entries, entries_joined, entry_at}
use Rattle.atom_csv.proofs.Common.{enumerate_from, eqb-true, field_under, file_below, file_of, filter_map, flat_map}
use Rattle.atom_csv.proofs.Common.{has_no_bytes, header_causes, if◌then◌else◌, is_blank, is_column_name, is_named_box}
use Rattle.atom_csv.proofs.Common.{is_space, is_split, is_told_again, line_faults, lines_below, nonblank}
use Rattle.atom_csv.proofs.Common.{nonblank_entries, of_records, onto_first, or_fault, parts_of, records, records_of}
use Rattle.atom_csv.proofs.Common.{reverse-append, reverse-reverse, row_of, row_told, rows, text_in_columns, told_by}
use Rattle.atom_csv.proofs.Common.{translations, trim_start, trimmed, trimmed_entry, triple, triples, under, value}
use Rattle.atom_csv.proofs.Common.{values_of, ◌==◌, ◌||◌}
use Rattle.atom_csv.proofs.LegibleRecords.{cut_at_ascii, records_legible, past_mark}
use Rattle.atom_csv.proofs.LineLemmas.{line_at}
use Rattle.atom_csv.proofs.ToldLemmas.{all_append, all_filter, all_distinct}
use Rattle.atom_csv.proofs.TrimLemmas.{space_is_ascii}

-- ---- white space is ASCII

start_legible : (text : Bytes) → IsUtf8 text → IsUtf8 (trim_start text)
start_legible [] u = u
start_legible (b ∷ rest) u = at (is_space b) refl (start_legible rest)
  where
    at : (s : Bool) → is_space b ≡ s → (IsUtf8 rest → IsUtf8 (trim_start rest))
        → IsUtf8 (if s then trim_start rest else b ∷ rest)
    at true e later = later (cut_at_ascii [] rest b (space_is_ascii b e) u).1
    at false e later = u

-- from the last byte on
end_legible : (turned : Bytes) → IsUtf8 (reverse turned) → IsUtf8 (reverse (trim_start turned))
end_legible [] u = u
end_legible (b ∷ rest) u = at (is_space b) refl (end_legible rest)
  where
    at : (s : Bool) → is_space b ≡ s → (IsUtf8 (reverse rest) → IsUtf8 (reverse (trim_start rest)))
        → IsUtf8 (reverse (if s then trim_start rest else b ∷ rest))
    at true e later = later (cut_at_ascii (reverse rest) [] b (space_is_ascii b e) (subst IsUtf8 (reverse-append (b ∷ []) rest) u)).0
    at false e later = u

trimmed_legible : (text : Bytes) → IsUtf8 text → IsUtf8 (trimmed text)
trimmed_legible text u =
    let front = trim_start text in
    end_legible (reverse front) (subst IsUtf8 (sym (reverse-reverse front)) (start_legible text u))

-- ---- the parts of a split column are cut at a bar

-- the list of parts, with these bytes before the first
with_front : Bytes → List Bytes → List Bytes
with_front front [] = front ∷ []
with_front front (part ∷ parts) = (front ++ part) ∷ parts

no_front : (parts : List Bytes) → AllByRecursion IsUtf8 (with_front [] parts) → AllByRecursion IsUtf8 parts
unfolding with_front
no_front [] h = tt
no_front (part ∷ parts) h = h

one_more : (front : Bytes) (b : ℕ) (parts : List Bytes) → AllByRecursion IsUtf8 (with_front (front ++ b ∷ []) parts)
    → AllByRecursion IsUtf8 (with_front front (onto_first b parts))
unfolding with_front
one_more front b [] h = h
one_more front b (part ∷ parts) h = (subst IsUtf8 (append_over front b part) h.0, h.1)
  where
    append_over : (front : Bytes) (b : ℕ) (part : Bytes) → (front ++ b ∷ []) ++ part ≡ front ++ b ∷ part
    append_over [] b part = refl
    append_over (x ∷ front) b part = ap (λ l. x ∷ l) (append_over front b part)

parts_on : (text front : Bytes) → IsUtf8 (front ++ text) → AllByRecursion IsUtf8 (with_front front (parts_of text))
unfolding with_front
parts_on [] front u = (u, tt)
parts_on (b ∷ text) front u = at (b == 124) refl (parts_on text)
  where
    over : (xs : Bytes) → xs ++ b ∷ text ≡ (xs ++ b ∷ []) ++ text
    over [] = refl
    over (x ∷ xs) = ap (λ l. x ∷ l) (over xs)

    ends : (xs : Bytes) → xs ++ [] ≡ xs
    ends [] = refl
    ends (x ∷ xs) = ap (λ l. x ∷ l) (ends xs)

    at : (bar : Bool) → (b == 124) ≡ bar
        → ((front : Bytes) → IsUtf8 (front ++ text) → AllByRecursion IsUtf8 (with_front front (parts_of text)))
        → AllByRecursion IsUtf8 (with_front front (cond bar ([] ∷ parts_of text) (onto_first b (parts_of text))))
    at true e later =
        let same = eqb-true b 124 e in
        let c = cut_at_ascii front text b (omega (arith, same)) u in
        (subst IsUtf8 (sym (ends front)) c.0, no_front (parts_of text) (later [] c.1))
    at false e later = one_more front b (parts_of text) (later (front ++ b ∷ []) (subst IsUtf8 (over front) u))

entry_legible : (part : Bytes) → IsUtf8 part → IsUtf8 (trimmed_entry part)
entry_legible part u = at (bytes_eq (trimmed part) (codes "NULL"))
  where
    at : (b : Bool) → IsUtf8 (if b then [] else trimmed part)
    at true = IsUtf8-nil
    at false = trimmed_legible part u

each_entry : (parts : List Bytes) → AllByRecursion IsUtf8 parts → AllByRecursion IsUtf8 (map trimmed_entry parts)
each_entry [] h = tt
each_entry (part ∷ parts) h = (entry_legible part h.0, each_entry parts h.1)

entries_legible : (text : Bytes) → IsUtf8 text → AllByRecursion IsUtf8 (entries text)
entries_legible text u = each_entry (parts_of text) (no_front (parts_of text) (parts_on text [] u))

-- ---- the texts of elements

separator : IsUtf8 (codes "; ")
unfolding lib.Utf8.encode
separator = (codes "; ", (refl, refl))

joined_legible : (texts : List Bytes) → AllByRecursion IsUtf8 texts → IsUtf8 (entries_joined texts)
joined_legible [] h = IsUtf8-nil
joined_legible (e ∷ []) h = h.0
joined_legible (e ∷ f ∷ rest) h =
    IsUtf8-append (e ++ codes "; ") (entries_joined (f ∷ rest)) (IsUtf8-append e (codes "; ") h.0 separator) (joined_legible (f ∷ rest) h.1)

value_legible : (name : Bytes) (header fields : Fields) → AllByRecursion IsUtf8 fields
    → IsUtf8 (field_under name header fields)
value_legible name [] fields h = IsUtf8-nil
value_legible name (head ∷ heads) [] h = IsUtf8-nil
value_legible name (head ∷ heads) (field ∷ fields) h = at (is_column_name name head) (value_legible name heads fields h.1)
  where
    at : (b : Bool) → IsUtf8 (field_under name heads fields)
        → IsUtf8 (if b then field else field_under name heads fields)
    at true later = h.0
    at false later = later

told_legible : (k : Column) (text : Bytes) → IsUtf8 text → AllByRecursion IsUtf8 (told_by k text)
told_legible k text u = at (is_split k)
  where
    at : (b : Bool) → AllByRecursion IsUtf8 (if b then entries text else text ∷ [])
    at true = entries_legible text u
    at false = (u, tt)

columns_legible : (header fields : Fields) → AllByRecursion IsUtf8 fields → (ks : List Column)
    → AllByRecursion IsUtf8 (flat_map (λ k. told_by k (value k header fields)) ks)
columns_legible header fields h [] = tt
columns_legible header fields h (k ∷ ks) =
    all_append IsUtf8 (told_by k (value k header fields)) (flat_map (λ j. told_by j (value j header fields)) ks)
    (told_legible k (value k header fields) (value_legible (column_name k) header fields h)) (columns_legible header fields h ks)

text_legible : (header fields : Fields) (e : Element) → AllByRecursion IsUtf8 fields → IsUtf8 (text_in_columns header fields e)
text_legible header fields e h =
    let told = flat_map (λ k. told_by k (value k header fields)) (columns_of e) in
    joined_legible (nonblank_entries told) (all_filter IsUtf8 (λ entry. not (has_no_bytes entry)) told (columns_legible header fields h (columns_of e)))

some_legible : (text : Bytes) → IsUtf8 text → IfSome (nonblank text) IsUtf8
some_legible text u = at (has_no_bytes text)
  where
    at : (b : Bool) → IfSome (if b then None else Some text) IsUtf8
    at true = tt
    at false = u

texts_legible : (header fields : Fields) → AllByRecursion IsUtf8 fields → (es : List Element)
    → AllByRecursion (λ text. IfSome text IsUtf8) (map (λ e. nonblank (text_in_columns header fields e)) es)
texts_legible header fields h [] = tt
texts_legible header fields h (e ∷ es) =
    (some_legible (text_in_columns header fields e) (text_legible header fields e h), texts_legible header fields h es)

-- ---- containers

at_legible : (texts : List Bytes) (i : ℕ) → AllByRecursion IsUtf8 texts → IsUtf8 (entry_at texts i)
at_legible [] i h = IsUtf8-nil
at_legible (text ∷ texts) zero h = h.0
at_legible (text ∷ texts) (suc i) h = at_legible texts i h.1

triples_legible : (names locations kinds : List Bytes) (n : ℕ) → AllByRecursion IsUtf8 names
    → AllByRecursion IsUtf8 locations → AllByRecursion IsUtf8 kinds
    → AllByRecursion IsLegibleBox (map (triple locations kinds) (enumerate_from n names))
triples_legible [] locations kinds n h l k = tt
triples_legible (name ∷ names) locations kinds n h l k =
    (record { name = h.0; location = at_legible locations n l; kind = at_legible kinds n k }, triples_legible names locations kinds (n + 1) h.1 l k)

boxes_legible : (names locations kinds : Bytes) → IsUtf8 names → IsUtf8 locations → IsUtf8 kinds
    → AllByRecursion IsLegibleBox (boxes_of names locations kinds)
boxes_legible names locations kinds n l k =
    let all = triples (entries names) (entries locations) (entries kinds) in
    all_distinct IsLegibleBox (filter is_named_box all) (all_filter IsLegibleBox is_named_box all
    (triples_legible (entries names) (entries locations) (entries kinds) 0 (entries_legible names n) (entries_legible locations l) (entries_legible kinds k)))

-- ---- rows

values_legible : (header fields : Fields) → AllByRecursion IsUtf8 fields → AreLegibleValues (values_of header fields)
values_legible header fields h =
    let in_column = λ (k : Column). value_legible (column_name k) header fields h in
    record {
      level = text_legible header fields element.Level h;
      texts = texts_legible header fields h text_elements;
      boxes = boxes_legible (value column.PhysicalObjectName header fields) (value column.PhysicalObjectLocation header fields) (value column.PhysicalObjectType header fields) (in_column column.PhysicalObjectName) (in_column column.PhysicalObjectLocation) (in_column column.PhysicalObjectType);
    }

row_legible : (header fields : Fields) (n : ℕ) → AllByRecursion IsUtf8 fields → IsLegibleRow (row_of header fields n)
row_legible header fields n h = record {
  legacy = value_legible (column_name column.LegacyId) header fields h;
  parent = some_legible (value column.ParentId header fields) (value_legible (column_name column.ParentId) header fields h);
  values = values_legible header fields h;
}

rows_below : (header : Fields) (above rest : List Fields) → AllByRecursion (AllByRecursion IsUtf8) rest
    → AllByRecursion IsLegibleRow (filter_map (row_told header) (lines_below above rest))
rows_below header above [] h = tt
rows_below header above (fields ∷ rest) h = at (is_blank fields || is_told_again header (line_at above fields)) (rows_below header (above ++ fields ∷ []) rest h.1)
  where
    at : (b : Bool)
        → AllByRecursion IsLegibleRow (filter_map (row_told header) (lines_below (above ++ fields ∷ []) rest))
        → AllByRecursion IsLegibleRow (cons_option (if b then None else Some (row_of header fields (length above + 2))) (filter_map (row_told header) (lines_below (above ++ fields ∷ []) rest)))
    at true later = later
    at false later = (row_legible header fields (length above + 2) h.0, later)

-- ---- the file

below_legible : (header : Fields) (rest : List Fields) (file : File) → AllByRecursion (AllByRecursion IsUtf8) rest
    → file_below header rest ≡ Ok file → HasLegibleRows file
below_legible header rest file h e = at (line_faults header rest) e
  where
    at : (fs : List Fault)
        → or_fault fs (record { rows = rows header rest; translations = translations header rest }) ≡ Ok file
        → HasLegibleRows file
    at [] e =
        let same : record { rows = rows header rest; translations = translations header rest } ≡ file = cc in
        subst HasLegibleRows same (rows_below header [] rest h)
    at (f ∷ fs) e = absurd (cc)

under_legible : (header : Fields) (cs : List Cause) (rest : List Fields) (file : File)
    → AllByRecursion (AllByRecursion IsUtf8) rest → under header cs rest ≡ Ok file → HasLegibleRows file
under_legible header [] rest file h e = below_legible header rest file h e
under_legible header (c ∷ cs) rest file h e = absurd (cc)

records_legible_in : (all : List Fields) (file : File) → AllByRecursion (AllByRecursion IsUtf8) all
    → of_records all ≡ Ok file → HasLegibleRows file
records_legible_in [] file h e = absurd (cc)
records_legible_in (header ∷ rest) file h e = under_legible header (header_causes header) rest file h.1 e

each_trimmed : (fields : List Bytes) → AllByRecursion IsUtf8 fields → AllByRecursion IsUtf8 (map trimmed fields)
each_trimmed [] h = tt
each_trimmed (field ∷ fields) h = (trimmed_legible field h.0, each_trimmed fields h.1)

all_trimmed : (all : List (List Bytes)) → AllByRecursion (AllByRecursion IsUtf8) all
    → AllByRecursion (AllByRecursion IsUtf8) (map (map trimmed) all)
all_trimmed [] h = tt
all_trimmed (fields ∷ all) h = (each_trimmed fields h.0, all_trimmed all h.1)

pub file_legible : (bytes : Bytes) (file : File) → file_of bytes ≡ Ok file → HasLegibleRows file
file_legible bytes file e = at (is_utf8 bytes) refl e
  where
    at : (b : Bool) → is_utf8 bytes ≡ b
        → (if b then of_records (records_of bytes) else Err (0, cause_number cause.NotUtf8)) ≡ Ok file
        → HasLegibleRows file
    at true u e =
        let text = past_mark bytes (IsUtf8-from_is_utf8 bytes u) in
        records_legible_in (records_of bytes) file (all_trimmed (records default_config (strip_bom bytes)) (records_legible (strip_bom bytes) text)) e
    at false u e = absurd (cc)
