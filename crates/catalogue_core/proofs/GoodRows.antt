-- What the rows of a file tell is what a unit may have.
use Rattle.std.proofs.Common.{◌≡◌, ◌≤◌, ℕ, zero, suc, Bool, true, false, not, cond, List, [], ◌∷◌, ◌++◌, length, Option}
use Rattle.std.proofs.Common.{Some, None, Ok, refl, sym, ap, subst, arith, map}
use Rattle.std.specs.Prelude.{filter}
use Rattle.isad_core.specs.declared.element.Element.TheVariants as element
use Rattle.atom_csv.proofs.ToldLemmas.{file_sound}
use Rattle.atom_csv.specs.Columns.{columns}
use Rattle.atom_csv.specs.Entries.{entries, nonblank_entries, entries_joined}
use Rattle.atom_csv.specs.Fields.{Fields, has_no_bytes, value}
use Rattle.atom_csv.specs.Values.{nonblank, text_in_columns, text_elements, triples, is_named_box}
use Rattle.atom_csv.specs.declared.column.Column.{Column}
use Rattle.atom_csv.specs.declared.column.Column.TheVariants as column
use Rattle.catalogue_core.proofs.Common.{AllByRecursion, AreValues, Bytes, File, IfSome, IsGoodRow, IsNotBlank, Row}
use Rattle.catalogue_core.proofs.Common.{and_from, cons_option, distinct, file_of, filter_map, is_blank_text}
use Rattle.catalogue_core.proofs.Common.{is_good_text, is_long, line_fault, lines_below, list_all, list_any, ltb-false}
use Rattle.catalogue_core.proofs.Common.{most_bytes, nat_lt, or_parts, row_number, row_of, row_told, slice_get}
use Rattle.catalogue_core.proofs.EachOf.{all_and}
use Rattle.catalogue_core.proofs.FileRows.{read_from, answers, line_at, no_fault_cons}
use Rattle.catalogue_core.proofs.Imported.{distinct_again}

-- ---- how long and how many

pub record IsShortRow (row : Row) : Type 0 where
  pub legacy : length row.legacy ≤ most_bytes
  pub level : length row.values.level ≤ most_bytes
  pub texts : length row.values.texts ≡ 25
  pub apart : distinct row.values.boxes ≡ row.values.boxes

pub any_at : {X : Type 0} (p : X → Bool) (xs : List X) (i : ℕ) (x : X) → list_any p xs ≡ false → slice_get xs i ≡ Some x
    → p x ≡ false
any_at p [] i x e h = absurd (cc)
any_at p (y ∷ ys) zero x e h = subst (λ z. p z ≡ false) (let s : y ≡ x = cc in s) (or_parts (p y) (list_any p ys) e).0
any_at p (y ∷ ys) (suc i) x e h = any_at p ys i x (or_parts (p y) (list_any p ys) e).1 h

short_column : (header fields : Fields) (i : ℕ) (k : Column) → is_long header fields ≡ false
    → slice_get columns i ≡ Some k → length (value k header fields) ≤ most_bytes
short_column header fields i k e h =
    ltb-false most_bytes (length (value k header fields)) (any_at (λ k. nat_lt most_bytes (length (value k header fields))) columns i k e h)

legacy_at : slice_get columns 0 ≡ Some column.LegacyId
unfolding columns
legacy_at = refl

level_at : slice_get columns 11 ≡ Some column.LevelOfDescription
unfolding columns
level_at = refl

-- one column tells the level
one_text : (text : Bytes) → length (entries_joined (nonblank_entries (text ∷ []))) ≤ length text
one_text text = at (has_no_bytes text)
  where
    at : (b : Bool) → length (entries_joined (cond (not b) (text ∷ []) [])) ≤ length text
    at true = omega arith
    at false = omega arith

short_level : (header fields : Fields) → is_long header fields ≡ false
    → length (text_in_columns header fields element.Level) ≤ most_bytes
short_level header fields e =
    let a = one_text (value column.LevelOfDescription header fields) in
    let b = short_column header fields 11 column.LevelOfDescription e level_at in
    omega (arith, a, b)

described_count : (header fields : Fields) → length (map (λ e. nonblank (text_in_columns header fields e)) text_elements) ≡ 25
unfolding text_elements
described_count header fields = refl

short_row : (header fields : Fields) (n : ℕ) → is_long header fields ≡ false → IsShortRow (row_of header fields n)
short_row header fields n long =
    record {
      legacy = short_column header fields 0 column.LegacyId long legacy_at;
      level = short_level header fields long;
      texts = described_count header fields;
      apart = distinct_again (filter is_named_box (triples (entries (value column.PhysicalObjectName header fields)) (entries (value column.PhysicalObjectLocation header fields)) (entries (value column.PhysicalObjectType header fields))));
    }

short_below : (header : Fields) (above rest : List Fields) → filter_map (line_fault header) (lines_below above rest) ≡ []
    → AllByRecursion IsShortRow (filter_map (row_told header) (lines_below above rest))
short_below header above [] f = tt
short_below header above (fields ∷ rest) f =
    let x = no_fault_cons header above fields rest f in
    at (row_told header (line_at above fields)) refl x.0 (short_below header (above ++ fields ∷ []) rest x.1)
  where
    at : (r : Option Row) → row_told header (line_at above fields) ≡ r → line_fault header (line_at above fields) ≡ None
        → AllByRecursion IsShortRow (filter_map (row_told header) (lines_below (above ++ fields ∷ []) rest))
        → AllByRecursion IsShortRow (cons_option r (filter_map (row_told header) (lines_below (above ++ fields ∷ []) rest)))
    at None e g k = k
    at (Some row) e g k =
        let t = answers header (line_at above fields) row g e in
        (subst IsShortRow (sym t.is) (short_row header fields (row_number (line_at above fields)) t.long), k)

short_rows : (bytes : Bytes) (file : File) → file_of bytes ≡ Ok file → AllByRecursion IsShortRow file.rows
short_rows bytes file e =
    let r = read_from bytes file e in
    subst (λ f. AllByRecursion IsShortRow f.rows) (sym r.is) (short_below r.header [] r.rest r.no_fault)

-- ---- all of it

good_texts : (texts : List (Option Bytes)) → AllByRecursion (λ text. IfSome text IsNotBlank) texts
    → list_all is_good_text texts ≡ true
good_texts [] h = refl
good_texts (None ∷ texts) h = good_texts texts h.1
good_texts (Some text ∷ texts) h =
    and_from (not (is_blank_text text)) (list_all is_good_text texts) (ap not h.0) (good_texts texts h.1)

-- of each row of a file that is taken
pub good_rows : (bytes : Bytes) (file : File) → file_of bytes ≡ Ok file → AllByRecursion IsGoodRow file.rows
good_rows bytes file e =
    let t = file_sound bytes file e in
    all_and (λ row. IsNotBlank row.legacy) (λ row. AreValues row.values × IsShortRow row) IsGoodRow (λ row there k. good row there k.0 k.1) file.rows t.there
    (all_and (λ row. AreValues row.values) IsShortRow (λ row. AreValues row.values × IsShortRow row) (λ row v k. (v, k)) file.rows t.values (short_rows bytes file e))
  where
    good : (row : Row) → IsNotBlank row.legacy → AreValues row.values → IsShortRow row → IsGoodRow row
    good row there v k =
        record {
          legacy = there;
          legacy_short = k.legacy;
          level_short = k.level;
          texts = good_texts row.values.texts v.texts;
          texts_count = k.texts;
          named = v.names;
          apart = k.apart;
        }
