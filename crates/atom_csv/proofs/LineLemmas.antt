-- What a loop over the records keeps.
use Rattle.std.proofs.Common.{◌≡◌, ◌∙◌, ◌+◌, ◌++◌, ◌∷◌, [], ℕ, Bool, true, false, List, length, Option, Some, None}
use Rattle.std.proofs.Common.{option_map, refl, sym, ap, ap₂, arith, cond, append_assoc, append-nil, zero-add}
use Rattle.std.proofs.lemmas.Slice.Eq.{bytes_eq-Decides}
use Rattle.std.specs.Prelude.{codes, Err}
use Rattle.atom_csv.proofs.Common.{Bytes, Cause, Fault, Fields, FileLine, Knows, and_parts, bytes_eq, cause_number}
use Rattle.atom_csv.proofs.Common.{causes, cons_option, count_by, culture, eqb-true, field_under, file_below}
use Rattle.atom_csv.proofs.Common.{filter_map, filter_map-append, find, first_culture, has_no_bytes, if◌then◌else◌}
use Rattle.atom_csv.proofs.Common.{is_blank, is_column_name, is_counted, is_some, is_translation, legacy, line_fault}
use Rattle.atom_csv.proofs.Common.{line_faults, lines, lines_below, lowest, or_fault, row_causes, row_of, row_told}
use Rattle.atom_csv.proofs.Common.{rows, stood_above, sum_by-append, translations, ◌||◌}

-- the lines of records one after another
lines_below-append : (above xs ys : List Fields)
    → lines_below above (xs ++ ys) ≡ lines_below above xs ++ lines_below (above ++ xs) ys
lines_below-append above [] ys = ap (λ zs. lines_below zs ys) (sym (append-nil above))
lines_below-append above (x ∷ xs) ys =
    ap (λ ls. record { above = above; fields = x } ∷ ls) (lines_below-append (above ++ x ∷ []) xs ys ∙ ap (λ zs. lines_below (above ++ x ∷ []) xs ++ lines_below zs ys) (append_assoc above (x ∷ []) xs))

abbrev pub line_at : List Fields → Fields → FileLine
line_at above fields = record { above = above; fields = fields }

-- a file's faults and rows, with what a further record adds
faults_more : (header : Fields) (xs : List Fields) (x : Fields) (ys : List Fields)
    → line_faults header (xs ++ x ∷ ys) ≡ line_faults header xs ++ filter_map (line_fault header) (line_at xs x ∷ lines_below (xs ++ x ∷ []) ys)
faults_more header xs x ys =
    ap (filter_map (line_fault header)) (lines_below-append [] xs (x ∷ ys))
    ∙ filter_map-append (line_fault header) (lines xs) _

rows_more : (header : Fields) (xs : List Fields) (x : Fields)
    → rows header (xs ++ x ∷ []) ≡ rows header xs ++ filter_map (row_told header) (line_at xs x ∷ [])
rows_more header xs x =
    ap (filter_map (row_told header)) (lines_below-append [] xs (x ∷ []))
    ∙ filter_map-append (row_told header) (lines xs) _

-- a blank record has no value
empty_nil : (text : Bytes) → has_no_bytes text ≡ true → text ≡ []
empty_nil [] e = refl
empty_nil (b ∷ text) e =
    let some : length (b ∷ text) ≡ 0 = eqb-true _ _ e in
    absurd (omega arith)

blank_value : (name : Bytes) (header fields : Fields) → is_blank fields ≡ true → field_under name header fields ≡ []
blank_value name [] fields e = refl
blank_value name (h ∷ hs) [] e = refl
blank_value name (h ∷ hs) (f ∷ fs) e =
    let parts = and_parts (has_no_bytes f) (is_blank fs) e in
    go (is_column_name name h) (empty_nil f parts.0) (blank_value name hs fs parts.1)
  where
    go : (b : Bool) → f ≡ [] → field_under name hs fs ≡ [] → (if b then f else field_under name hs fs) ≡ []
    go true a c = a
    go false a c = c

-- ---- the first record with a legacyId

find_more : (p : Fields → Bool) (xs : List Fields) (x y : Fields) → find p xs ≡ Some y → find p (xs ++ x ∷ []) ≡ Some y
find_more p [] x y e = cc
find_more p (z ∷ zs) x y e = go (p z) (find_more p zs x y) e
  where
    go : (b : Bool) → (find p zs ≡ Some y → find p (zs ++ x ∷ []) ≡ Some y) → cond b (Some z) (find p zs) ≡ Some y
        → cond b (Some z) (find p (zs ++ x ∷ [])) ≡ Some y
    go true later e = e
    go false later e = later e

find_last : (p : Fields → Bool) (xs : List Fields) (x : Fields) → find p xs ≡ None
    → find p (xs ++ x ∷ []) ≡ cond (p x) (Some x) None
find_last p [] x e = refl
find_last p (z ∷ zs) x e = go (p z) (find_last p zs x) e
  where
    go : (b : Bool) → (find p zs ≡ None → find p (zs ++ x ∷ []) ≡ cond (p x) (Some x) None)
        → cond b (Some z) (find p zs) ≡ None → cond b (Some z) (find p (zs ++ x ∷ [])) ≡ cond (p x) (Some x) None
    go true later e = cc
    go false later e = later e

-- a record without the legacyId changes nothing
first_other : (header : Fields) (id : Bytes) (xs : List Fields) (x : Fields) → bytes_eq (legacy header x) id ≡ false
    → first_culture header id (xs ++ x ∷ []) ≡ first_culture header id xs
first_other header id xs x other = go (find (λ fields. bytes_eq (legacy header fields) id) xs) refl
  where
    go : (o : Option Fields) → find (λ fields. bytes_eq (legacy header fields) id) xs ≡ o
        → first_culture header id (xs ++ x ∷ []) ≡ first_culture header id xs
    go (Some y) e = ap (option_map (culture header)) (find_more (λ fields. bytes_eq (legacy header fields) id) xs x y e ∙ sym e)
    go None e = ap (option_map (culture header)) (find_last (λ fields. bytes_eq (legacy header fields) id) xs x e ∙ (ap (λ b. cond b (Some x) None) other ∙ sym e))

-- and a further record with it changes nothing
first_again : (header : Fields) (id : Bytes) (xs : List Fields) (x : Fields)
    → is_some (first_culture header id xs) ≡ true → first_culture header id (xs ++ x ∷ []) ≡ first_culture header id xs
first_again header id xs x some = go (find (λ fields. bytes_eq (legacy header fields) id) xs) refl some
  where
    go : (o : Option Fields) → find (λ fields. bytes_eq (legacy header fields) id) xs ≡ o
        → is_some (option_map (culture header) o) ≡ true
        → first_culture header id (xs ++ x ∷ []) ≡ first_culture header id xs
    go (Some y) e s = ap (option_map (culture header)) (find_more (λ fields. bytes_eq (legacy header fields) id) xs x y e ∙ sym e)
    go None e s = cc

first_new : (header : Fields) (id : Bytes) (xs : List Fields) (x : Fields)
    → is_some (first_culture header id xs) ≡ false → bytes_eq (legacy header x) id ≡ true
    → first_culture header id (xs ++ x ∷ []) ≡ Some (culture header x)
first_new header id xs x none same = go (find (λ fields. bytes_eq (legacy header fields) id) xs) refl none
  where
    go : (o : Option Fields) → find (λ fields. bytes_eq (legacy header fields) id) xs ≡ o
        → is_some (option_map (culture header) o) ≡ false
        → first_culture header id (xs ++ x ∷ []) ≡ Some (culture header x)
    go (Some y) e s = cc
    go None e s = ap (option_map (culture header)) (find_last (λ fields. bytes_eq (legacy header fields) id) xs x e ∙ ap (λ b. cond b (Some x) None) same)

-- ---- what the code knows of the records so far

abbrev pub told : (Bytes → Option Bytes) → Bytes → Option Bytes
told get id = if has_no_bytes id then None else get id

pub told_is : (header : Fields) (xs : List Fields) (x : Fields) (get : Bytes → Option Bytes) → Knows header xs get
    → told get (legacy header x) ≡ stood_above header (line_at xs x)
told_is header xs x get known = go (has_no_bytes (legacy header x)) refl
  where
    go : (b : Bool) → has_no_bytes (legacy header x) ≡ b
        → (if b then None else get (legacy header x)) ≡ (if b then None else first_culture header (legacy header x) xs)
    go true e = refl
    go false e = known (legacy header x) e

nil_differs : (id : Bytes) → has_no_bytes id ≡ false → bytes_eq [] id ≡ false
nil_differs [] e = cc
nil_differs (b ∷ id) e = refl

pub knows_blank : (header : Fields) (xs : List Fields) (x : Fields) (get : Bytes → Option Bytes) → Knows header xs get
    → is_blank x ≡ true → Knows header (xs ++ x ∷ []) get
knows_blank header xs x get known blank = λ id some.
    let nil : legacy header x ≡ [] = blank_value (codes "legacyId") header x blank in
    known id some ∙ sym (first_other header id xs x (ap (λ t. bytes_eq t id) nil ∙ nil_differs id some))

-- the first record with the legacyId of a record that stood
stood_first : (header : Fields) (xs : List Fields) (x : Fields) → is_some (stood_above header (line_at xs x)) ≡ true
    → is_some (first_culture header (legacy header x) xs) ≡ true
stood_first header xs x some = go (has_no_bytes (legacy header x)) some
  where
    go : (b : Bool) → is_some (if b then None else first_culture header (legacy header x) xs) ≡ true
        → is_some (first_culture header (legacy header x) xs) ≡ true
    go true e = cc
    go false e = e

pub knows_stood : (header : Fields) (xs : List Fields) (x : Fields) (get : Bytes → Option Bytes) → Knows header xs get
    → is_some (stood_above header (line_at xs x)) ≡ true → Knows header (xs ++ x ∷ []) get
knows_stood header xs x get known stood = λ id some. known id some ∙ sym (go id (bytes_eq (legacy header x) id) refl)
  where
    go : (id : Bytes) (b : Bool) → bytes_eq (legacy header x) id ≡ b
        → first_culture header id (xs ++ x ∷ []) ≡ first_culture header id xs
    go id true e =
        let same : legacy header x ≡ id = (bytes_eq-Decides (legacy header x) id).0 e in
        first_again header id xs x (ap (λ t. is_some (first_culture header t xs)) (sym same) ∙ stood_first header xs x stood)
    go id false e = first_other header id xs x e

other_way : (a b : Bytes) → bytes_eq a b ≡ false → bytes_eq b a ≡ false
other_way a b e = go (bytes_eq b a) refl
  where
    go : (c : Bool) → bytes_eq b a ≡ c → c ≡ false
    go true is =
        let same : b ≡ a = (bytes_eq-Decides b a).0 is in
        let yes : bytes_eq a b ≡ true = (bytes_eq-Decides a b).1 (sym same) in
        cc
    go false is = refl

pub knows_new : (header : Fields) (xs : List Fields) (x : Fields) (get after : Bytes → Option Bytes)
    → Knows header xs get
    → has_no_bytes (legacy header x) ≡ false → is_some (stood_above header (line_at xs x)) ≡ false
    → ((q : Bytes) → after q ≡ (if bytes_eq q (legacy header x) then Some (culture header x) else get q))
    → Knows header (xs ++ x ∷ []) after
knows_new header xs x get after known there none next =
    λ id some. next id ∙ go id some (bytes_eq id (legacy header x)) refl
  where
    first_none : is_some (first_culture header (legacy header x) xs) ≡ false
    first_none = ap (λ (b : Bool). is_some (if b then None else first_culture header (legacy header x) xs)) (sym there) ∙ none

    go : (id : Bytes) → has_no_bytes id ≡ false → (b : Bool) → bytes_eq id (legacy header x) ≡ b
        → (if b then Some (culture header x) else get id) ≡ first_culture header id (xs ++ x ∷ [])
    go id some true e =
        let same : id ≡ legacy header x = (bytes_eq-Decides id (legacy header x)).0 e in
        sym (first_new header id xs x (ap (λ t. is_some (first_culture header t xs)) same ∙ first_none) ((bytes_eq-Decides (legacy header x) id).1 (sym same)))
    go id some false e = known id some ∙ sym (first_other header id xs x (other_way id (legacy header x) e))

-- ---- one more record

pub fault_step : (header : Fields) (xs : List Fields) (x : Fields) (ys : List Fields) (stood : Option Bytes) (n : ℕ) (c : Cause)
    → line_faults header xs ≡ [] → stood ≡ stood_above header (line_at xs x) → n ≡ length xs + 2
    → Some c ≡ lowest (row_causes header x stood n)
    → file_below header (xs ++ x ∷ ys) ≡ Err (n, cause_number c)
fault_step header xs x ys stood n c none are row is =
    let later = filter_map (line_fault header) (lines_below (xs ++ x ∷ []) ys) in
    let found : lowest (causes header (line_at xs x)) ≡ Some c =
    sym (is ∙ ap₂ (λ (s : Option Bytes) (m : ℕ). lowest (row_causes header x s m)) are row) in
    let pair : (length xs + 2, cause_number c) ≡ (n, cause_number c) = ap (λ (m : ℕ). (m, cause_number c)) (sym row) in
    ap (λ fs. or_fault fs (record { rows = rows header (xs ++ x ∷ ys); translations = translations header (xs ++ x ∷ ys) }))
    (faults_more header xs x ys ∙ (ap (λ fs. fs ++ cons_option (line_fault header (line_at xs x)) later) none
    ∙ (ap (λ o. cons_option (option_map (λ cause. (length xs + 2, cause_number cause)) o) later) found ∙ ap (λ (p : Fault). p ∷ later) pair)))

pub none_step : (header : Fields) (xs : List Fields) (x : Fields) (stood : Option Bytes) (n : ℕ) → line_faults header xs ≡ []
    → stood ≡ stood_above header (line_at xs x) → n ≡ length xs + 2
    → None ≡ lowest (row_causes header x stood n)
    → line_faults header (xs ++ x ∷ []) ≡ []
none_step header xs x stood n none are row is =
    let found : lowest (causes header (line_at xs x)) ≡ None =
    sym (is ∙ ap₂ (λ (s : Option Bytes) (m : ℕ). lowest (row_causes header x s m)) are row) in
    faults_more header xs x [] ∙ (ap (λ fs. fs ++ cons_option (line_fault header (line_at xs x)) []) none ∙ ap (λ o. cons_option (option_map (λ cause. (length xs + 2, cause_number cause)) o) []) found)

-- a record that is passed over, or is a row
pub rows_passed : (header : Fields) (xs : List Fields) (x : Fields)
    → (is_blank x || is_translation header x (stood_above header (line_at xs x))) ≡ true
    → rows header (xs ++ x ∷ []) ≡ rows header xs
rows_passed header xs x passed =
    rows_more header xs x ∙ (ap (λ (b : Bool). rows header xs ++ cons_option (if b then None else Some (row_of header x (length xs + 2))) []) passed ∙ append-nil (rows header xs))

pub rows_kept : (header : Fields) (xs : List Fields) (x : Fields) (n : ℕ)
    → (is_blank x || is_translation header x (stood_above header (line_at xs x))) ≡ false → n ≡ length xs + 2
    → rows header (xs ++ x ∷ []) ≡ rows header xs ++ row_of header x n ∷ []
rows_kept header xs x n passed row =
    rows_more header xs x ∙ (ap (λ (b : Bool). rows header xs ++ cons_option (if b then None else Some (row_of header x (length xs + 2))) []) passed ∙ ap (λ m. rows header xs ++ row_of header x m ∷ []) (sym row))

pub translations_step : (header : Fields) (xs : List Fields) (x : Fields) (b : Bool)
    → is_counted header (line_at xs x) ≡ b → translations header (xs ++ x ∷ []) ≡ translations header xs + cond b 1 0
translations_step header xs x b is =
    ap (count_by (is_counted header)) (lines_below-append [] xs (x ∷ [])) ∙ (sum_by-append (λ l. cond (is_counted header l) 1 0) (lines xs) (line_at xs x ∷ []) ∙ ap (λ n. translations header xs + n) (one ∙ ap (λ b. cond b 1 0) is))
  where
    one : count_by (is_counted header) (line_at xs x ∷ []) ≡ cond (is_counted header (line_at xs x)) 1 0
    one = zero-add _

-- ---- the file

pub translation_stood : (header : Fields) (x : Fields) (stood : Option Bytes) → is_translation header x stood ≡ true
    → is_some stood ≡ true
translation_stood header x None e = cc
translation_stood header x (Some first) e = refl
