-- How many rows a file that was read has, and how many containers these name.
use Rattle.std.proofs.Common.{◌≡◌, ◌≤◌, ◌<◌, ◌+◌, ◌*◌, ◌^◌, ◌⊎◌, inl, inr, ℕ, suc, Bool, true, false, not, cond, List}
use Rattle.std.proofs.Common.{[], ◌∷◌, ◌++◌, length, length-append, Option, Some, None, Ok, refl, sym, subst, arith}
use Rattle.std.proofs.lemmas.List.FromFn.{length-enumerate_from}
use Rattle.std.proofs.lemmas.List.Splits.{length-slice_split}
use Rattle.std.proofs.lemmas.List.Sums.{length-filter}
use Rattle.atom_csv.specs.Columns.{columns}
use Rattle.atom_csv.specs.Entries.{entries, trimmed_entry, parts_of}
use Rattle.atom_csv.specs.Fields.{Fields, value}
use Rattle.atom_csv.specs.FileContents.{row_told}
use Rattle.atom_csv.specs.Values.{boxes_of, is_named_box, triple, triples}
use Rattle.atom_csv.specs.declared.column.Column.TheVariants as column
use Rattle.catalogue_core.proofs.GoodRows.{any_at}
use Rattle.csv_import.proofs.Common.{AllByRecursion, BoxKey, Bytes, File, Row, answers, boxes_named, cons_option}
use Rattle.csv_import.proofs.Common.{count_by, distinct, enumerate_from, file_of, filter, filter_map, flat_map, is_long}
use Rattle.csv_import.proofs.Common.{is_same_box, length-map, line_at, line_fault, lines_below, ltb-false, most_bytes}
use Rattle.csv_import.proofs.Common.{most_rows, nat_lt, no_fault_cons, read_from, row_number, row_of, slice_get, ◌==◌}

-- ---- one row

length_kept : {X : Type 0} (p : X → Bool) (xs : List X) → length (filter p xs) ≤ length xs
length_kept p [] = omega arith
length_kept p (x ∷ xs) = at (p x) (length_kept p xs)
  where
    at : (b : Bool) → length (filter p xs) ≤ length xs
        → length (cond b (x ∷ filter p xs) (filter p xs)) ≤ suc (length xs)
    at true h = omega (arith, h)
    at false h = omega (arith, h)

counted_within : {X : Type 0} (p : X → Bool) (xs : List X) → count_by p xs ≤ length xs
counted_within p xs = (let kept = length_kept p xs in let count = length-filter p xs in omega (arith, kept, count))

length_distinct : (bs : List BoxKey) → length (distinct bs) ≤ length bs
length_distinct [] = omega arith
length_distinct (b ∷ bs) =
    let kept = length_kept (λ later. not (is_same_box b later)) (distinct bs) in
    let rest = length_distinct bs in
    omega (arith, kept, rest)

length_boxes : (names locations kinds : Bytes) → length (boxes_of names locations kinds) ≤ length names + 1
length_boxes names locations kinds =
    let all = triples (entries names) (entries locations) (entries kinds) in
    let once = length_distinct (filter is_named_box all) in
    let named = length_kept is_named_box all in
    let made = length-map (enumerate_from 0 (entries names)) (triple (entries locations) (entries kinds)) in
    let numbered = length-enumerate_from 0 (entries names) in
    let told = length-map (parts_of names) trimmed_entry in
    let parts = length-slice_split (λ b. b == 124) names in
    let bars = counted_within (λ b. b == 124) names in
    omega (arith, once, named, made, numbered, told, parts, bars)

name_column : slice_get columns 5 ≡ Some column.PhysicalObjectName
unfolding columns
name_column = refl

-- a field that is read is not long, so it names no more containers than this
abbrev HasFewBoxes : Row → Type 0
HasFewBoxes row = length row.values.boxes ≤ 65536

few_boxes : (header fields : Fields) (n : ℕ) → is_long header fields ≡ false → HasFewBoxes (row_of header fields n)
few_boxes header fields n short =
    let named = length_boxes (value column.PhysicalObjectName header fields) (value column.PhysicalObjectLocation header fields) (value column.PhysicalObjectType header fields) in
    let within = ltb-false most_bytes (length (value column.PhysicalObjectName header fields)) (any_at (λ k. nat_lt most_bytes (length (value k header fields))) columns 5 column.PhysicalObjectName short name_column) in
    omega (arith, named, within)

-- ---- the rows below a header

-- there is none, or they and the records above are so few
abbrev AreFewBelow : List Fields → List Row → Type 0
AreFewBelow above rows = (length rows ≡ 0) ⊎ (length rows + length above ≤ most_rows)

-- what is known of the rows below these records
record AreBoundedBelow (above : List Fields) (rows : List Row) : Type 0 where
  few : AreFewBelow above rows
  boxes : AllByRecursion HasFewBoxes rows

bounded_below : (header : Fields) (above rest : List Fields)
    → filter_map (line_fault header) (lines_below above rest) ≡ []
    → AreBoundedBelow above (filter_map (row_told header) (lines_below above rest))
bounded_below header above [] none = record { few = inl refl; boxes = tt }
bounded_below header above (fields ∷ rest) none =
    let x = no_fault_cons header above fields rest none in
    let more = length-append above (fields ∷ []) in
    at (row_told header (line_at above fields)) refl (bounded_below header (above ++ fields ∷ []) rest x.1)
  where
    later : List Row
    later = filter_map (row_told header) (lines_below (above ++ fields ∷ []) rest)

    longer : length (above ++ fields ∷ []) ≡ length above + 1
    longer = length-append above (fields ∷ [])

    fewer : AreFewBelow (above ++ fields ∷ []) later → AreFewBelow above later
    fewer (inl none_there) = inl none_there
    fewer (inr few) = inr (omega (arith, few, longer))

    one_more : (row : Row) → length above + 2 ≤ most_rows + 1 → AreFewBelow (above ++ fields ∷ []) later
        → AreFewBelow above (row ∷ later)
    one_more row early (inl none_there) = inr (omega (arith, early, none_there))
    one_more row early (inr few) = inr (omega (arith, few, longer))

    at : (told : Option Row) → row_told header (line_at above fields) ≡ told
        → AreBoundedBelow (above ++ fields ∷ []) later → AreBoundedBelow above (cons_option told later)
    at None e below = record { few = fewer below.few; boxes = below.boxes }
    at (Some row) e below =
        let it = answers header (line_at above fields) row (no_fault_cons header above fields rest none).0 e in
        record {
          few = one_more row (ltb-false (most_rows + 1) (row_number (line_at above fields)) it.late) below.few;
          boxes = (subst HasFewBoxes (sym it.is) (few_boxes header fields (row_number (line_at above fields)) it.long), below.boxes);
        }

-- ---- the file

few_at_top : (rows : List Row) → AreFewBelow [] rows → length rows ≤ most_rows
few_at_top rows (inl none_there) = omega (arith, none_there)
few_at_top rows (inr few) = omega (arith, few)

named_within : (rows : List Row) → AllByRecursion HasFewBoxes rows → boxes_named rows ≤ 65536 * length rows
named_within [] h = omega arith
named_within (row ∷ rows) h =
    let first = h.0 in
    let others = named_within rows h.1 in
    let both = length-append row.values.boxes (flat_map (λ (row : Row). row.values.boxes) rows) in
    omega (arith, first, others, both)

pub record IsBoundedFile (file : File) : Type 0 where
  pub rows : length file.rows ≤ most_rows
  pub boxes : boxes_named file.rows < 2 ^ 61

pub file_bounded : (bytes : Bytes) (file : File) → file_of bytes ≡ Ok file → IsBoundedFile file
file_bounded bytes file e =
    let read = read_from bytes file e in
    let below = subst (λ (f : File). AreBoundedBelow [] f.rows) (sym read.is) (bounded_below read.header [] read.rest read.no_fault) in
    let few = few_at_top file.rows below.few in
    let named = named_within file.rows below.boxes in
    record { rows = few; boxes = omega (arith, few, named) }
