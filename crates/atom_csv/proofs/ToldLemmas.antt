-- What holds of every file that is told.
use Rattle.std.proofs.Common.{◌+◌, ◌≡◌, ◌∙◌, ◌++◌, ◌∷◌, [], ℕ, Bool, true, false, List, Option, Some, None, Ok, Err}
use Rattle.std.proofs.Common.{length, map, reverse, refl, sym, ap, ap₂, subst, cond, option_map}
use Rattle.std.proofs.lemmas.List.Folds.{list_all-append}
use Rattle.std.specs.Prelude.{filter, not, codes}
use Rattle.std.specs.Str.{is_utf8}
use Rattle.csv.specs.Reading.{strip_bom}
use Rattle.isad_core.specs.declared.element.Element.{Element}
use Rattle.atom_csv.specs.FileProperties.{AllDiffer, AreValues, IsNotBlank, HasProperRows}
use Rattle.atom_csv.specs.Values.{text_elements}
use Rattle.atom_csv.specs.declared.cause.Cause.TheVariants as cause
use Rattle.atom_csv.specs.declared.column.Column.TheVariants as column
use Rattle.atom_csv.specs.declared.file.File.{File}
use Rattle.atom_csv.specs.declared.file.Row.{Row}
use Rattle.atom_csv.proofs.Common.{AllByRecursion, BoxKey, Bytes, Cause, Column, Fault, Fields, IfSome, bytes_eq}
use Rattle.atom_csv.proofs.Common.{cause_if, cause_number, causes, column_name, columns_of, cons_option, culture}
use Rattle.atom_csv.proofs.Common.{default_config, distinct, entries, entries_joined, enumerate_from, field_under}
use Rattle.atom_csv.proofs.Common.{file_below, file_of, filter_map, find, first_culture, flat_map, has_no_bytes}
use Rattle.atom_csv.proofs.Common.{has_other_width, has_slug_alone, header_causes, if◌then◌else◌, is_blank}
use Rattle.atom_csv.proofs.Common.{is_blank_text, is_column_name, is_late, is_long, is_named_box, is_same_box, is_some}
use Rattle.atom_csv.proofs.Common.{is_space, is_split, is_told_again, is_translation, legacy, line_fault, line_faults}
use Rattle.atom_csv.proofs.Common.{lines_below, list_all, lowest, nonblank, nonblank_entries, of_records, or_fault}
use Rattle.atom_csv.proofs.Common.{parts_of, records, records_of, reverse-append, row_causes, row_of, row_told, rows}
use Rattle.atom_csv.proofs.Common.{stood_above, text_in_columns, told_by, translations, trim_start, trimmed}
use Rattle.atom_csv.proofs.Common.{trimmed_entry, triple, under, value, values_of, ◌&&◌, ◌||◌}
use Rattle.atom_csv.proofs.EntryLemmas.{cons_there}
use Rattle.atom_csv.proofs.LineLemmas.{line_at}

-- ---- a text without white space at its ends is blank where nothing is left

-- no white space stands first
Tight : List ℕ → Type 0
Tight [] = Unit {0}
Tight (b ∷ rest) = is_space b ≡ false

start_tight : (xs : List ℕ) → Tight (trim_start xs)
unfolding Tight
start_tight [] = tt
start_tight (b ∷ rest) = go (is_space b) refl (start_tight rest)
  where
    go : (s : Bool) → is_space b ≡ s → Tight (trim_start rest) → Tight (if s then trim_start rest else b ∷ rest)
    go true e later = later
    go false e later = e

and_false : (a : Bool) → (a && false) ≡ false
and_false true = refl
and_false false = refl

last_there : (xs : List ℕ) (b : ℕ) → has_no_bytes (xs ++ b ∷ []) ≡ false
last_there [] b = refl
last_there (x ∷ xs) b = cons_there x (xs ++ b ∷ [])

reversed_blank : (v : List ℕ) → Tight v → is_blank_text (reverse v) ≡ has_no_bytes (reverse v)
unfolding Tight
reversed_blank [] t = refl
reversed_blank (b ∷ rest) t =
    let turned : reverse (b ∷ rest) ≡ reverse rest ++ b ∷ [] = reverse-append (b ∷ []) rest in
    ap is_blank_text turned
    ∙ (list_all-append is_space (reverse rest) (b ∷ []) ∙ (ap (λ s. list_all is_space (reverse rest) && (s && true)) t ∙ and_false (list_all is_space (reverse rest))))
    ∙ sym (ap has_no_bytes turned ∙ last_there (reverse rest) b)

-- a text that is blank where nothing is there
abbrev pub IsTidy : Bytes → Type 0
IsTidy text = is_blank_text text ≡ has_no_bytes text

pub trimmed_tidy : (text : Bytes) → IsTidy (trimmed text)
trimmed_tidy text = reversed_blank (trim_start (reverse (trim_start text))) (start_tight (reverse (trim_start text)))

abbrev AreTidy : List Bytes → Type 0
AreTidy = AllByRecursion IsTidy

trimmed_all : (fs : List Bytes) → AreTidy (map trimmed fs)
trimmed_all [] = tt
trimmed_all (f ∷ fs) = (trimmed_tidy f, trimmed_all fs)

records_tidy : (rs : List (List Bytes)) → AllByRecursion AreTidy (map (map trimmed) rs)
records_tidy [] = tt
records_tidy (r ∷ rs) = (trimmed_all r, records_tidy rs)

field_tidy : (name : Bytes) (header fields : Fields) → AreTidy fields → IsTidy (field_under name header fields)
field_tidy name [] fields t = refl
field_tidy name (h ∷ hs) [] t = refl
field_tidy name (h ∷ hs) (f ∷ fs) t = go (is_column_name name h) t.0 (field_tidy name hs fs t.1)
  where
    go : (b : Bool) → IsTidy f → IsTidy (field_under name hs fs) → IsTidy (if b then f else field_under name hs fs)
    go true here later = here
    go false here later = later

-- ---- lists

pub all_append : {X : Type 0} (P : X → Type 0) (xs ys : List X) → AllByRecursion P xs → AllByRecursion P ys
    → AllByRecursion P (xs ++ ys)
all_append P [] ys p q = q
all_append P (x ∷ xs) ys p q = (p.0, all_append P xs ys p.1 q)

pub all_filter : {X : Type 0} (P : X → Type 0) (p : X → Bool) (xs : List X) → AllByRecursion P xs
    → AllByRecursion P (filter p xs)
all_filter P p [] h = tt
all_filter P p (x ∷ xs) h = go (p x) h.0 (all_filter P p xs h.1)
  where
    go : (b : Bool) → P x → AllByRecursion P (filter p xs) → AllByRecursion P (cond b (x ∷ filter p xs) (filter p xs))
    go true here later = (here, later)
    go false here later = later

all_weaker : {X : Type 0} (P Q : X → Type 0) → ((x : X) → P x → Q x) → (xs : List X) → AllByRecursion P xs
    → AllByRecursion Q xs
all_weaker P Q f [] h = tt
all_weaker P Q f (x ∷ xs) h = (f x h.0, all_weaker P Q f xs h.1)

-- what passes a filter passed its test
all_passed : {X : Type 0} (p : X → Bool) (xs : List X) → AllByRecursion (λ x. p x ≡ true) (filter p xs)
all_passed p [] = tt
all_passed p (x ∷ xs) = go (p x) refl (all_passed p xs)
  where
    go : (b : Bool) → p x ≡ b → AllByRecursion (λ x. p x ≡ true) (filter p xs)
        → AllByRecursion (λ x. p x ≡ true) (cond b (x ∷ filter p xs) (filter p xs))
    go true e later = (e, later)
    go false e later = later

differ_filter : {X : Type 0} (same : X → X → Bool) (p : X → Bool) (xs : List X) → AllDiffer same xs
    → AllDiffer same (filter p xs)
differ_filter same p [] h = tt
differ_filter same p (x ∷ xs) h = go (p x) (all_filter (λ y. same x y ≡ false) p xs h.0) (differ_filter same p xs h.1)
  where
    go : (b : Bool) → AllByRecursion (λ y. same x y ≡ false) (filter p xs) → AllDiffer same (filter p xs)
        → AllDiffer same (cond b (x ∷ filter p xs) (filter p xs))
    go true here later = (here, later)
    go false here later = later

-- ---- the texts of elements

entry_tidy : (part : Bytes) → IsTidy (trimmed_entry part)
entry_tidy part = go (bytes_eq (trimmed part) (codes "NULL"))
  where
    go : (b : Bool) → IsTidy (if b then [] else trimmed part)
    go true = refl
    go false = trimmed_tidy part

entries_tidy : (parts : List Bytes) → AreTidy (map trimmed_entry parts)
entries_tidy [] = tt
entries_tidy (p ∷ ps) = (entry_tidy p, entries_tidy ps)

told_tidy : (k : Column) (text : Bytes) → IsTidy text → AreTidy (told_by k text)
told_tidy k text t = go (is_split k)
  where
    go : (b : Bool) → AreTidy (if b then entries text else text ∷ [])
    go true = entries_tidy (parts_of text)
    go false = (t, tt)

columns_tidy : (header fields : Fields) → AreTidy fields → (ks : List Column)
    → AreTidy (flat_map (λ k. told_by k (value k header fields)) ks)
columns_tidy header fields t [] = tt
columns_tidy header fields t (k ∷ ks) =
    all_append IsTidy (told_by k (value k header fields)) (flat_map (λ j. told_by j (value j header fields)) ks)
    (told_tidy k (value k header fields) (field_tidy (column_name k) header fields t)) (columns_tidy header fields t ks)

joined_blank : (e : Bytes) (rest : List Bytes) → IsNotBlank e → IsNotBlank (entries_joined (e ∷ rest))
joined_blank e [] there = there
joined_blank e (f ∷ rest) there =
    list_all-append is_space (e ++ codes "; ") (entries_joined (f ∷ rest))
    ∙ ap (λ b. b && list_all is_space (entries_joined (f ∷ rest))) (list_all-append is_space e (codes "; ") ∙ ap (λ b. b && list_all is_space (codes "; ")) there)

filled_there : (es : List Bytes) → AreTidy es → AllByRecursion IsNotBlank (nonblank_entries es)
filled_there [] t = tt
filled_there (e ∷ es) t = go (has_no_bytes e) refl (filled_there es t.1)
  where
    go : (b : Bool) → has_no_bytes e ≡ b → AllByRecursion IsNotBlank (nonblank_entries es)
        → AllByRecursion IsNotBlank (cond (not b) (e ∷ nonblank_entries es) (nonblank_entries es))
    go true is later = later
    go false is later = (t.0 ∙ is, later)

-- joined entries that are there are a text that is there, or none
text_there : (es : List Bytes) → AllByRecursion IsNotBlank es → IfSome (nonblank (entries_joined es)) IsNotBlank
text_there [] t = tt
text_there (e ∷ es) t = go (has_no_bytes (entries_joined (e ∷ es)))
  where
    go : (b : Bool) → IfSome (if b then None else Some (entries_joined (e ∷ es))) IsNotBlank
    go true = tt
    go false = joined_blank e es t.0

texts_there : (header fields : Fields) → AreTidy fields → (es : List Element)
    → AllByRecursion (λ text. IfSome text IsNotBlank) (map (λ e. nonblank (text_in_columns header fields e)) es)
texts_there header fields t [] = tt
texts_there header fields t (e ∷ es) =
    (text_there (nonblank_entries (flat_map (λ k. told_by k (value k header fields)) (columns_of e))) (filled_there (flat_map (λ k. told_by k (value k header fields)) (columns_of e)) (columns_tidy header fields t (columns_of e))), texts_there header fields t es)

-- ---- containers

triples_tidy : (names locations kinds : List Bytes) (n : ℕ) → AreTidy names
    → AllByRecursion (λ (b : BoxKey). IsTidy b.name) (map (triple locations kinds) (enumerate_from n names))
triples_tidy [] locations kinds n t = tt
triples_tidy (name ∷ names) locations kinds n t = (t.0, triples_tidy names locations kinds (n + 1) t.1)

named_there : (bs : List BoxKey) → AllByRecursion (λ (b : BoxKey). IsTidy b.name) bs
    → AllByRecursion (λ (b : BoxKey). IsNotBlank b.name) (filter is_named_box bs)
named_there [] t = tt
named_there (b ∷ bs) t = go (has_no_bytes b.name) refl (named_there bs t.1)
  where
    go : (e : Bool) → has_no_bytes b.name ≡ e → AllByRecursion (λ (b : BoxKey). IsNotBlank b.name) (filter is_named_box bs)
        → AllByRecursion (λ (b : BoxKey). IsNotBlank b.name) (cond (not e) (b ∷ filter is_named_box bs) (filter is_named_box bs))
    go true is later = later
    go false is later = (t.0 ∙ is, later)

pub all_distinct : (P : BoxKey → Type 0) (bs : List BoxKey) → AllByRecursion P bs → AllByRecursion P (distinct bs)
all_distinct P [] h = tt
all_distinct P (b ∷ bs) h = (h.0, all_filter P (λ later. not (is_same_box b later)) (distinct bs) (all_distinct P bs h.1))

not_true : (b : Bool) → not b ≡ true → b ≡ false
not_true true e = cc
not_true false e = refl

distinct_differ : (bs : List BoxKey) → AllDiffer is_same_box (distinct bs)
distinct_differ [] = tt
distinct_differ (b ∷ bs) = (
  all_weaker (λ (y : BoxKey). not (is_same_box b y) ≡ true) (λ (y : BoxKey). is_same_box b y ≡ false) (λ y. not_true (is_same_box b y)) (filter (λ later. not (is_same_box b later)) (distinct bs))
      (all_passed (λ later. not (is_same_box b later)) (distinct bs)),
  differ_filter is_same_box (λ later. not (is_same_box b later)) (distinct bs) (distinct_differ bs),
)

-- the values of a record without white space at its ends
values_there : (header fields : Fields) → AreTidy fields → AreValues (values_of header fields)
values_there header fields t = record {
  texts = texts_there header fields t text_elements;
  names = all_distinct (λ (b : BoxKey). IsNotBlank b.name) _ (named_there _ (triples_tidy (entries (value column.PhysicalObjectName header fields)) _ _ 0 (entries_tidy (parts_of (value column.PhysicalObjectName header fields)))));
  boxes = distinct_differ _;
}

-- ---- rows

abbrev same_legacy : Row → Row → Bool
same_legacy a b = bytes_eq a.legacy b.legacy

-- what is known of a row below these records
record Below (header : Fields) (above : List Fields) (r : Row) : Type 0 where
  there : IsNotBlank r.legacy
  new : first_culture header r.legacy above ≡ None
  values : AreValues r.values

none_front : (p : Fields → Bool) (xs : List Fields) (x : Fields) → find p (xs ++ x ∷ []) ≡ None
    → (find p xs ≡ None) × (p x ≡ false)
none_front p [] x e = go (p x) e
  where
    go : (b : Bool) → cond b (Some x) None ≡ None → (find p [] ≡ None) × (b ≡ false)
    go true e = cc
    go false e = (refl, refl)
none_front p (z ∷ zs) x e = go (p z) (none_front p zs x) e
  where
    go : (b : Bool) → (find p (zs ++ x ∷ []) ≡ None → (find p zs ≡ None) × (p x ≡ false))
        → cond b (Some z) (find p (zs ++ x ∷ [])) ≡ None → (cond b (Some z) (find p zs) ≡ None) × (p x ≡ false)
    go true later e = cc
    go false later e = later e

none_found : (header : Fields) (o : Option Fields) → option_map (culture header) o ≡ None → o ≡ None
none_found header None e = refl
none_found header (Some x) e = cc

new_front : (header : Fields) (above : List Fields) (x : Fields) (id : Bytes)
    → first_culture header id (above ++ x ∷ []) ≡ None
    → (first_culture header id above ≡ None) × (bytes_eq (legacy header x) id ≡ false)
new_front header above x id e =
    let front = none_front (λ fields. bytes_eq (legacy header fields) id) above x (none_found header _ e) in
    (ap (option_map (culture header)) front.0, front.1)

-- a record with no cause has a legacyId that stood nowhere
clean : (w n s g l t : Bool)
    → (cause_if w cause.FieldCount ++ (cause_if n cause.BlankLegacyId ++ (cause_if s cause.Repeated ++ (cause_if g cause.Slug ++ (cause_if l cause.TooManyRows ++ cause_if t cause.TooLong))))) ≡ []
    → (n ≡ false) × (s ≡ false)
clean true n s g l t e = cc
clean false true s g l t e = cc
clean false false true g l t e = cc
clean false false false g l t e = (refl, refl)

no_causes : (cs : List Cause) (row : ℕ) → option_map {U = Fault} (λ c. (row, cause_number c)) (lowest cs) ≡ None → cs ≡ []
no_causes [] row e = refl
no_causes (c ∷ cs) row e = cc

first_none : (o : Option Fault) (later : List Fault) → cons_option o later ≡ [] → (o ≡ None) × (later ≡ [])
first_none None later e = (refl, e)
first_none (Some f) later e = cc

stood_nowhere : (header : Fields) (above : List Fields) (x : Fields) → has_no_bytes (legacy header x) ≡ false
    → is_some (stood_above header (line_at above x)) ≡ false → first_culture header (legacy header x) above ≡ None
stood_nowhere header above x there none = gone (first_culture header (legacy header x) above) (ap (λ (b : Bool). is_some (if b then None else first_culture header (legacy header x) above)) (sym there) ∙ none)
  where
    gone : (o : Option Bytes) → is_some o ≡ false → o ≡ None
    gone None e = refl
    gone (Some c) e = cc

both_false : (a b : Bool) → (a || b) ≡ false → (a ≡ false) × (b ≡ false)
both_false true b e = cc
both_false false b e = (refl, e)

clean_row : (header x : Fields) (stood : Option Bytes) (row : ℕ) → is_blank x ≡ false
    → is_translation header x stood ≡ false → row_causes header x stood row ≡ []
    → (has_no_bytes (legacy header x) ≡ false) × (is_some stood ≡ false)
clean_row header x stood row blank again e =
    clean _ _ _ _ _ _ (sym (ap₂ (λ (b t : Bool). if b then cause_if (is_late row) cause.TooManyRows
    else if t then cause_if (has_other_width header x) cause.FieldCount ++ cause_if (is_late row) cause.TooManyRows
    else cause_if (has_other_width header x) cause.FieldCount ++ (cause_if (has_no_bytes (legacy header x)) cause.BlankLegacyId ++ (cause_if (is_some stood) cause.Repeated
    ++ (cause_if (has_slug_alone header x) cause.Slug ++ (cause_if (is_late row) cause.TooManyRows ++ cause_if (is_long header x) cause.TooLong))))) blank again) ∙ e)

Facts : Fields → List Fields → List Row → Type 0
Facts header above rs = AllByRecursion (Below header above) rs × AllDiffer same_legacy rs

below_front : (header : Fields) (above : List Fields) (x : Fields) (r : Row) → Below header (above ++ x ∷ []) r
    → Below header above r
below_front header above x r b =
    record { there = b.there; new = (new_front header above x r.legacy b.new).0; values = b.values }

row_step : (header : Fields) (above : List Fields) (x : Fields) (rs : List Row) → AreTidy x
    → line_fault header (line_at above x) ≡ None → Facts header (above ++ x ∷ []) rs
    → Facts header above (cons_option (row_told header (line_at above x)) rs)
unfolding Facts
row_step header above x rs tidy none later = go (is_blank x || is_told_again header (line_at above x)) refl
  where
    fronts : AllByRecursion (Below header above) rs
    fronts = all_weaker (Below header (above ++ x ∷ [])) (Below header above) (below_front header above x) rs later.0

    others : AllByRecursion (λ (r : Row). bytes_eq (legacy header x) r.legacy ≡ false) rs
    others = all_weaker (Below header (above ++ x ∷ [])) (λ (r : Row). bytes_eq (legacy header x) r.legacy ≡ false) (λ r b. (new_front header above x r.legacy b.new).1) rs later.0

    go : (b : Bool) → (is_blank x || is_told_again header (line_at above x)) ≡ b
        → AllByRecursion (Below header above) (cons_option (if b then None else Some (row_of header x (length above + 2))) rs)
        × AllDiffer same_legacy (cons_option (if b then None else Some (row_of header x (length above + 2))) rs)
    go true e = (fronts, later.1)
    go false e =
        let parts = both_false (is_blank x) (is_told_again header (line_at above x)) e in
        let found = clean_row header x (stood_above header (line_at above x)) (length above + 2) parts.0 parts.1 (no_causes (causes header (line_at above x)) (length above + 2) none) in
        let first : Below header above (row_of header x (length above + 2)) = record {
          there = field_tidy (column_name column.LegacyId) header x tidy ∙ found.0;
          new = stood_nowhere header above x found.0 found.1;
          values = values_there header x tidy;
        } in
        ((first, fronts), (others, later.1))

told_rows : (header : Fields) (above xs : List Fields) → AllByRecursion AreTidy xs
    → filter_map (line_fault header) (lines_below above xs) ≡ []
    → Facts header above (filter_map (row_told header) (lines_below above xs))
unfolding Facts
told_rows header above [] t e = (tt, tt)
told_rows header above (x ∷ xs) t e =
    let parts = first_none (line_fault header (line_at above x)) (filter_map (line_fault header) (lines_below (above ++ x ∷ []) xs)) e in
    row_step header above x (filter_map (row_told header) (lines_below (above ++ x ∷ []) xs)) t.0 parts.0 (told_rows header (above ++ x ∷ []) xs t.1 parts.1)

rows_sound : (header : Fields) (rest : List Fields) (n : ℕ) → AllByRecursion AreTidy rest → line_faults header rest ≡ []
    → HasProperRows (record { rows = rows header rest; translations = n })
unfolding Facts
rows_sound header rest n t none =
    let told = told_rows header [] rest t none in
    record {
      there = all_weaker (Below header []) (λ r. IsNotBlank r.legacy) (λ r b. b.there) (rows header rest) told.0;
      once = told.1;
      values = all_weaker (Below header []) (λ r. AreValues r.values) (λ r b. b.values) (rows header rest) told.0;
    }

below_sound : (header : Fields) (rest : List Fields) (file : File) → AllByRecursion AreTidy rest
    → file_below header rest ≡ Ok file → HasProperRows file
below_sound header rest file t e = go (line_faults header rest) refl e
  where
    go : (fs : List Fault) → line_faults header rest ≡ fs
        → or_fault fs (record { rows = rows header rest; translations = translations header rest }) ≡ Ok file
        → HasProperRows file
    go [] none e =
        let same : record { rows = rows header rest; translations = translations header rest } ≡ file = cc in
        subst HasProperRows same (rows_sound header rest (translations header rest) t none)
    go (f ∷ fs) some e = cc

under_sound : (header : Fields) (cs : List Cause) (rest : List Fields) (file : File) → AllByRecursion AreTidy rest
    → under header cs rest ≡ Ok file → HasProperRows file
under_sound header [] rest file t e = below_sound header rest file t e
under_sound header (c ∷ cs) rest file t e = cc

records_sound : (rs : List Fields) (file : File) → AllByRecursion AreTidy rs → of_records rs ≡ Ok file → HasProperRows file
records_sound [] file t e = cc
records_sound (header ∷ rest) file t e = under_sound header (header_causes header) rest file t.1 e

pub file_sound : (bytes : Bytes) (file : File) → file_of bytes ≡ Ok file → HasProperRows file
file_sound bytes file e = go (is_utf8 bytes) e
  where
    go : (b : Bool) → (if b then of_records (records_of bytes) else Err (0, cause_number cause.NotUtf8)) ≡ Ok file
        → HasProperRows file
    go true e = records_sound (records_of bytes) file (records_tidy (records default_config (strip_bom bytes))) e
    go false e = cc
