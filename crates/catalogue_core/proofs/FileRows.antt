-- What holds of the rows of a file that was read.
use Rattle.std.proofs.Common.{◌≡◌, ℕ, Bool, true, false, cond, ◌||◌, List, [], ◌∷◌, ◌++◌, Option, Some, None, Ok, Err}
use Rattle.std.proofs.Common.{refl, sym, ◌∙◌, subst}
use Rattle.atom_csv.specs.Causes.{cause_number}
use Rattle.atom_csv.specs.Fields.{Fields, is_blank, has_no_bytes}
use Rattle.atom_csv.specs.declared.cause.Cause.{Cause}
use Rattle.atom_csv.specs.declared.cause.Cause.TheVariants as cause
use Rattle.catalogue_core.proofs.Common.{AllByRecursion, Bytes, File, FileLine, Row, bytes_eq, cause_if, causes}
use Rattle.catalogue_core.proofs.Common.{cons_option, culture, false≢true, file_of, filter_map, find, first_culture}
use Rattle.catalogue_core.proofs.Common.{has_other_width, has_slug_alone, header_causes, is_late, is_long, is_some}
use Rattle.catalogue_core.proofs.Common.{is_told_again, is_utf8, legacy, line_fault, line_faults, lines_below, list_any}
use Rattle.catalogue_core.proofs.Common.{list_any-append, of_records, option_map, or_fault, or_parts, records_of}
use Rattle.catalogue_core.proofs.Common.{row_number, row_of, row_told, rows, slice_get, stood_above, translations}
use Rattle.catalogue_core.proofs.Common.{under}
use Rattle.catalogue_core.proofs.EachOf.{none_found}
use Rattle.catalogue_core.proofs.DistinctLists.{all_so}

-- no two rows have one legacyId
abbrev pub AreApartRows : List Row → Type 0
AreApartRows [] = Unit {0}
AreApartRows (row ∷ rows) = AllByRecursion (λ later. bytes_eq row.legacy later.legacy ≡ false) rows × AreApartRows rows

-- the records that a file was read from, none of them at fault
pub record IsRead (file : File) : Type 0 where
  pub header : Fields
  pub rest : List Fields
  pub no_fault : line_faults header rest ≡ []
  pub is : file ≡ record { rows = rows header rest; translations = translations header rest }

read_at : (file : File) (header : Fields) (rest : List Fields) (fs : List (ℕ × ℕ)) → line_faults header rest ≡ fs
    → or_fault fs (record { rows = rows header rest; translations = translations header rest }) ≡ Ok file → IsRead file
read_at file header rest [] f e = record { header = header; rest = rest; no_fault = f; is = (let same : record { rows = rows header rest; translations = translations header rest } ≡ file = cc in sym same) }
read_at file header rest (fault ∷ fs) f e = absurd (cc)

read_under : (file : File) (header : Fields) (cs : List Cause) (rest : List Fields) → under header cs rest ≡ Ok file
    → IsRead file
read_under file header [] rest e = read_at file header rest (line_faults header rest) refl e
read_under file header (c ∷ cs) rest e = absurd (cc)

read_records : (file : File) (records : List Fields) → of_records records ≡ Ok file → IsRead file
read_records file [] e = absurd (cc)
read_records file (header ∷ rest) e = read_under file header (header_causes header) rest e

pub read_from : (bytes : Bytes) (file : File) → file_of bytes ≡ Ok file → IsRead file
read_from bytes file e = at (is_utf8 bytes) e
  where
    at : (b : Bool) → cond b (of_records (records_of bytes)) (Err (0, cause_number cause.NotUtf8)) ≡ Ok file → IsRead file
    at true h = read_records file (records_of bytes) h
    at false h = absurd (cc)

-- a line that tells a row, and has no cause

pub record TellsRow (header : Fields) (line : FileLine) (row : Row) : Type 0 where
  pub is : row ≡ row_of header line.fields (row_number line)
  pub told : has_no_bytes (legacy header line.fields) ≡ false
  pub first : stood_above header line ≡ None
  pub late : is_late (row_number line) ≡ false
  pub long : is_long header line.fields ≡ false

none_when : (b : Bool) (c : Cause) (cs : List Cause) → cause_if b c ++ cs ≡ [] → (b ≡ false) × (cs ≡ [])
none_when true c cs e = absurd (cc)
none_when false c cs e = (refl, e)

none_alone : (b : Bool) (c : Cause) → cause_if b c ≡ [] → b ≡ false
none_alone true c e = absurd (cc)
none_alone false c e = refl

no_lowest : (cs : List Cause) (n : ℕ) → option_map {U = ℕ × ℕ} (λ c. (n, cause_number c)) (slice_get cs 0) ≡ None → cs ≡ []
no_lowest [] n e = refl
no_lowest (c ∷ cs) n e = absurd (cc)

none_stood : (x : Option Bytes) → is_some x ≡ false → x ≡ None
none_stood None e = refl
none_stood (Some culture) e = absurd (false≢true (sym e))

tells_at : (header : Fields) (line : FileLine) (row : Row) (blank again : Bool)
    → cond (blank || again) None (Some (row_of header line.fields (row_number line))) ≡ Some row
    → cond blank (cause_if (is_late (row_number line)) cause.TooManyRows) (cond again (cause_if (has_other_width header line.fields) cause.FieldCount ++ cause_if (is_late (row_number line)) cause.TooManyRows) (cause_if (has_other_width header line.fields) cause.FieldCount ++ (cause_if (has_no_bytes (legacy header line.fields)) cause.BlankLegacyId ++ (cause_if (is_some (stood_above header line)) cause.Repeated ++ (cause_if (has_slug_alone header line.fields) cause.Slug ++ (cause_if (is_late (row_number line)) cause.TooManyRows ++ cause_if (is_long header line.fields) cause.TooLong)))))) ≡ []
    → TellsRow header line row
tells_at header line row true again e c = absurd (cc)
tells_at header line row false true e c = absurd (cc)
tells_at header line row false false e c =
    let same : row_of header line.fields (row_number line) ≡ row = cc in
    let a = none_when (has_other_width header line.fields) cause.FieldCount _ c in
    let b = none_when (has_no_bytes (legacy header line.fields)) cause.BlankLegacyId _ a.1 in
    let d = none_when (is_some (stood_above header line)) cause.Repeated _ b.1 in
    let f = none_when (has_slug_alone header line.fields) cause.Slug _ d.1 in
    let g = none_when (is_late (row_number line)) cause.TooManyRows _ f.1 in
    record {
      is = sym same;
      told = b.0;
      first = none_stood (stood_above header line) d.0;
      late = g.0;
      long = none_alone (is_long header line.fields) cause.TooLong g.1;
    }

pub answers : (header : Fields) (line : FileLine) (row : Row) → line_fault header line ≡ None
    → row_told header line ≡ Some row → TellsRow header line row
answers header line row f e =
    tells_at header line row (is_blank line.fields) (is_told_again header line) e (no_lowest (causes header line) (row_number line) f)

-- nobody above has its legacyId

none_mapped : {X Y : Type 0} (g : X → Y) (x : Option X) → option_map g x ≡ None → x ≡ None
none_mapped g None e = refl
none_mapped g (Some x) e = absurd (cc)

-- a record has this legacyId
abbrev pub has_id : Fields → Bytes → Fields → Bool
has_id header id fields = bytes_eq (legacy header fields) id

first_there : (header : Fields) (id : Bytes) (above : List Fields) (b : Bool) → b ≡ false
    → cond b None (first_culture header id above) ≡ None → list_any (has_id header id) above ≡ false
first_there header id above true h e = absurd (false≢true (sym h))
first_there header id above false h e =
    none_found (has_id header id) above (none_mapped (culture header) (find (has_id header id) above) e)

pub stood_nowhere : (header : Fields) (line : FileLine) (row : Row) → TellsRow header line row
    → list_any (has_id header row.legacy) line.above ≡ false
stood_nowhere header line row t =
    subst (λ r. list_any (has_id header r.legacy) line.above ≡ false) (sym t.is)
    (first_there header (legacy header line.fields) line.above (has_no_bytes (legacy header line.fields)) t.told t.first)

-- the rows of lines without a fault

abbrev pub line_at : List Fields → Fields → FileLine
line_at above fields = record { above = above; fields = fields }

pub no_fault_cons : (header : Fields) (above : List Fields) (fields : Fields) (rest : List Fields)
    → filter_map (line_fault header) (lines_below above (fields ∷ rest)) ≡ []
    → (line_fault header (line_at above fields) ≡ None) × (filter_map (line_fault header) (lines_below (above ++ fields ∷ []) rest) ≡ [])
no_fault_cons header above fields rest e = at (line_fault header (line_at above fields)) e
  where
    at : (x : Option (ℕ × ℕ))
        → cons_option x (filter_map (line_fault header) (lines_below (above ++ fields ∷ []) rest)) ≡ []
        → (x ≡ None) × (filter_map (line_fault header) (lines_below (above ++ fields ∷ []) rest) ≡ [])
    at None h = (refl, h)
    at (Some fault) h = absurd (cc)

not_above_less : (header : Fields) (above : List Fields) (fields : Fields) (row : Row)
    → list_any (has_id header row.legacy) (above ++ fields ∷ []) ≡ false
    → (list_any (has_id header row.legacy) above ≡ false) × (bytes_eq (legacy header fields) row.legacy ≡ false)
not_above_less header above fields row h =
    let r = or_parts (list_any (has_id header row.legacy) above) (bytes_eq (legacy header fields) row.legacy || false) (sym (list_any-append (has_id header row.legacy) above (fields ∷ [])) ∙ h) in
    (r.0, (or_parts (bytes_eq (legacy header fields) row.legacy) false r.1).0)

none_above : (header : Fields) (above rest : List Fields) → filter_map (line_fault header) (lines_below above rest) ≡ []
    → AllByRecursion (λ row. list_any (has_id header row.legacy) above ≡ false) (filter_map (row_told header) (lines_below above rest))
none_above header above [] f = tt
none_above header above (fields ∷ rest) f =
    let x = no_fault_cons header above fields rest f in
    let later = all_so (λ row. list_any (has_id header row.legacy) (above ++ fields ∷ []) ≡ false) (λ row. list_any (has_id header row.legacy) above ≡ false) (λ row h. (not_above_less header above fields row h).0) (filter_map (row_told header) (lines_below (above ++ fields ∷ []) rest)) (none_above header (above ++ fields ∷ []) rest x.1) in
    at (row_told header (line_at above fields)) refl x.0 later
  where
    at : (r : Option Row) → row_told header (line_at above fields) ≡ r → line_fault header (line_at above fields) ≡ None
        → AllByRecursion (λ row. list_any (has_id header row.legacy) above ≡ false) (filter_map (row_told header) (lines_below (above ++ fields ∷ []) rest))
        → AllByRecursion (λ row. list_any (has_id header row.legacy) above ≡ false) (cons_option r (filter_map (row_told header) (lines_below (above ++ fields ∷ []) rest)))
    at None e g k = k
    at (Some row) e g k = (stood_nowhere header (line_at above fields) row (answers header (line_at above fields) row g e), k)

apart_below : (header : Fields) (above rest : List Fields) → filter_map (line_fault header) (lines_below above rest) ≡ []
    → AreApartRows (filter_map (row_told header) (lines_below above rest))
apart_below header above [] f = tt
apart_below header above (fields ∷ rest) f =
    let x = no_fault_cons header above fields rest f in
    at (row_told header (line_at above fields)) refl x.0 (none_above header (above ++ fields ∷ []) rest x.1) (apart_below header (above ++ fields ∷ []) rest x.1)
  where
    at : (r : Option Row) → row_told header (line_at above fields) ≡ r → line_fault header (line_at above fields) ≡ None
        → AllByRecursion (λ row. list_any (has_id header row.legacy) (above ++ fields ∷ []) ≡ false) (filter_map (row_told header) (lines_below (above ++ fields ∷ []) rest))
        → AreApartRows (filter_map (row_told header) (lines_below (above ++ fields ∷ []) rest))
        → AreApartRows (cons_option r (filter_map (row_told header) (lines_below (above ++ fields ∷ []) rest)))
    at None e g k a = a
    at (Some row) e g k a =
        let t = answers header (line_at above fields) row g e in (
          all_so (λ later. list_any (has_id header later.legacy) (above ++ fields ∷ []) ≡ false) (λ later. bytes_eq row.legacy later.legacy ≡ false)
              (λ later h. subst (λ r. bytes_eq r.legacy later.legacy ≡ false) (sym t.is) (not_above_less header above fields later h).1)
              (filter_map (row_told header) (lines_below (above ++ fields ∷ []) rest)) k,
          a,
        )

-- no legacyId stands in two rows of a file
pub apart_rows : (bytes : Bytes) (file : File) → file_of bytes ≡ Ok file → AreApartRows file.rows
apart_rows bytes file e =
    let r = read_from bytes file e in
    subst (λ f. AreApartRows f.rows) (sym r.is) (apart_below r.header [] r.rest r.no_fault)
