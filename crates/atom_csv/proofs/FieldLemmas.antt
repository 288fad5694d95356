-- Where columns stand, and what a record has there.
use Rattle.std.proofs.Common.{◌≡◌, ◌∙◌, ◌+◌, ℕ, zero, suc, Bool, true, false, List, [], ◌∷◌, ◌++◌, take, Option, Some}
use Rattle.std.proofs.Common.{None, option_map, refl, sym, ap, ap₂, arith, Bor, cond, map, get_or}
use Rattle.std.proofs.lemmas.Iterator.Adapters.{position_from-zero}
use Rattle.std.proofs.lemmas.List.Folds.{list_all-append}
use Rattle.std.specs.Prelude.{fold, nat_lt}
use Rattle.csv.specs.Records.{field_at}
use Rattle.atom_csv.specs.Columns.{columns}
use Rattle.atom_csv.proofs.Common.{Bytes, Column, Fields, borrowed_fields, column_index, column_indices, column_name}
use Rattle.atom_csv.proofs.Common.{count_by, field_at_place, field_under, has_column_twice, has_no_bytes, if◌then◌else◌}
use Rattle.atom_csv.proofs.Common.{is_blank, is_column_name, list_any, map-append, position, position_from, slice_get}
use Rattle.atom_csv.proofs.Common.{tag_of, the_type, trimmed, unwrap_or, value, ◌&&◌, ◌||◌}
use Rattle.atom_csv.proofs.ColumnLemmas.{at_place}

shift : {X : Type 0} (p : X → Bool) (i : ℕ) (xs : List X)
    → position_from p (i + 1) xs ≡ option_map (λ k. k + 1) (position_from p i xs)
shift p i [] = refl
shift p i (x ∷ xs) = go (p x) (shift p (i + 1) xs)
  where
    go : (b : Bool) → position_from p (i + 1 + 1) xs ≡ option_map (λ k. k + 1) (position_from p (i + 1) xs)
        → cond b (Some (i + 1)) (position_from p (i + 1 + 1) xs) ≡ option_map (λ k. k + 1) (cond b (Some i) (position_from p (i + 1) xs))
    go true later = refl
    go false later = later

seen_from : (p : Bytes → Bool) (i : ℕ) (xs : List (Bor Bytes))
    → position_from (λ x. p x.now) i xs ≡ position_from p i (borrowed_fields xs)
seen_from p i [] = refl
seen_from p i (x ∷ xs) = ap (λ o. cond (p x.now) (Some i) o) (seen_from p (i + 1) xs)

place_seen : (name : Bytes) (xs : List (Bor Bytes))
    → position (λ x. is_column_name name x.now) xs ≡ column_index name (borrowed_fields xs)
place_seen name xs =
    position_from-zero (λ (x : Bor Bytes). is_column_name name x.now) xs ∙ (seen_from (is_column_name name) 0 xs ∙ sym (position_from-zero (is_column_name name) (borrowed_fields xs)))

places_from : (cs : List Column) (xs : List (Bor Bytes))
    → map (λ k. position (λ x. is_column_name (column_name k) x.now) xs) cs ≡ map (λ k. column_index (column_name k) (borrowed_fields xs)) cs
places_from [] xs = refl
places_from (k ∷ ks) xs = ap₂ (λ o os. o ∷ os) (place_seen (column_name k) xs) (places_from ks xs)

pub places_seen : (xs : List (Bor Bytes))
    → map (λ k. position (λ x. is_column_name (column_name k) x.now) xs) columns ≡ column_indices (borrowed_fields xs)
places_seen xs = places_from columns xs

-- the field in a column's place is the one under its name
value_from : (name : Bytes) (header fields : Fields)
    → field_at_place (position_from (is_column_name name) 0 header) fields ≡ field_under name header fields
value_from name [] fields = refl
value_from name (h ∷ hs) [] = go (position_from (is_column_name name) 0 (h ∷ hs))
  where
    go : (o : Option ℕ) → field_at_place o [] ≡ []
    go None = refl
    go (Some k) = refl
value_from name (h ∷ hs) (f ∷ fs) = go (is_column_name name h) ∙ ap (λ v. if is_column_name name h then f else v) (value_from name hs fs)
  where
    next : (o : Option ℕ) → field_at_place (option_map (λ k. k + 1) o) (f ∷ fs) ≡ field_at_place o fs
    next None = refl
    next (Some k) =
        let e : k + 1 ≡ suc k = omega arith in
        ap (λ n. unwrap_or (slice_get (f ∷ fs) n) []) e

    go : (b : Bool)
        → field_at_place (cond b (Some 0) (position_from (is_column_name name) 1 hs)) (f ∷ fs) ≡ (if b then f else field_at_place (position_from (is_column_name name) 0 hs) fs)
    go true = refl
    go false = ap (λ o. field_at_place o (f ∷ fs)) (shift (is_column_name name) 0 hs) ∙ next (position_from (is_column_name name) 0 hs)

pub value_in : (name : Bytes) (header fields : Fields)
    → field_at_place (column_index name header) fields ≡ field_under name header fields
value_in name header fields =
    ap (λ o. field_at_place o fields) (position_from-zero (is_column_name name) header) ∙ value_from name header fields

-- the field of a record at a place, without the white space at its ends
pub trimmed_at : (fs : List Bytes) (i : ℕ) → field_at_place (Some i) (map trimmed fs) ≡ trimmed (unwrap_or (field_at fs i) [])
unfolding field_at
trimmed_at [] i = refl
trimmed_at (f ∷ fs) zero = refl
trimmed_at (f ∷ fs) (suc i) = trimmed_at fs i

-- one more field of a record
pub take_field : (fs : List Bytes) (i : ℕ) (f : Bytes) → field_at fs i ≡ Some f → take (i + 1) fs ≡ take i fs ++ f ∷ []
unfolding field_at
take_field [] i f e = cc
take_field (x ∷ xs) zero f e =
    let same : x ≡ f = cc in
    ap (λ y. y ∷ []) same
take_field (x ∷ xs) (suc i) f e =
    let next : suc i + 1 ≡ suc (i + 1) = omega arith in
    ap (λ n. take n (x ∷ xs)) next ∙ ap (λ ys. x ∷ ys) (take_field xs i f e)

pub take_fields : (fs : List Bytes) (i : ℕ) → field_at fs i ≡ None → take i fs ≡ fs
unfolding field_at
take_fields [] zero e = refl
take_fields [] (suc i) e = refl
take_fields (x ∷ xs) zero e = cc
take_fields (x ∷ xs) (suc i) e = ap (λ ys. x ∷ ys) (take_fields xs i e)

-- what a record has in a column
pub value_at : (k : Column) (header fields : Fields) (places : List (Option ℕ)) (d : Option ℕ)
    → places ≡ column_indices header
    → field_at_place (get_or places (tag_of the_type k) d) fields ≡ value k header fields
value_at k header fields places d is =
    ap (λ ps. field_at_place (get_or ps (tag_of the_type k) d) fields) is ∙ (ap (λ o. field_at_place o fields) (at_place (λ k. column_index (column_name k) header) k d) ∙ value_in (column_name k) header fields)

-- a field that is not blank is one of a record that is not
pub blank_not : (fs : List Bytes) (i : ℕ) (f : Bytes) → field_at fs i ≡ Some f → has_no_bytes (trimmed f) ≡ false
    → is_blank (map trimmed fs) ≡ false
unfolding field_at
blank_not [] i f e there = cc
blank_not (x ∷ xs) zero f e there =
    let same : x ≡ f = cc in
    ap (λ b. b && is_blank (map trimmed xs)) (ap (λ y. has_no_bytes (trimmed y)) same ∙ there)
blank_not (x ∷ xs) (suc i) f e there =
    ap (λ b. has_no_bytes (trimmed x) && b) (blank_not xs i f e there) ∙ go (has_no_bytes (trimmed x))
  where
    go : (b : Bool) → (b && false) ≡ false
    go true = refl
    go false = refl

-- one more blank field
pub blank_more : (fs : List Bytes) (i : ℕ) (f : Bytes) → field_at fs i ≡ Some f → has_no_bytes (trimmed f) ≡ true
    → is_blank (map trimmed (take i fs)) ≡ true
    → is_blank (map trimmed (take (i + 1) fs)) ≡ true
blank_more fs i f e blank before =
    ap (λ xs. is_blank (map trimmed xs)) (take_field fs i f e)
    ∙ (ap is_blank (map-append trimmed (take i fs) (f ∷ []))
    ∙ (list_all-append has_no_bytes (map trimmed (take i fs)) (trimmed f ∷ []) ∙ ap₂ (λ a b. a && (b && true)) before blank))

-- ---- names in a header

pub column_seen : (p : Bytes → Bool) (xs : List (Bor Bytes))
    → list_any (λ x. p x.now) xs ≡ list_any p (borrowed_fields xs)
column_seen p [] = refl
column_seen p (x ∷ xs) = ap (λ b. p x.now || b) (column_seen p xs)

count_from : (p : Bytes → Bool) (n : ℕ) (xs : List (Bor Bytes))
    → fold (λ a x. a + cond (p x.now) 1 0) n xs ≡ fold (λ a x. a + cond (p x) 1 0) n (borrowed_fields xs)
count_from p n [] = refl
count_from p n (x ∷ xs) = count_from p (n + cond (p x.now) 1 0) xs

twice_from : (ks : List Column) (xs : List (Bor Bytes))
    → list_any (λ k. nat_lt 1 (count_by (λ x. is_column_name (column_name k) x.now) xs)) ks ≡ list_any (λ k. nat_lt 1 (count_by (is_column_name (column_name k)) (borrowed_fields xs))) ks
twice_from [] xs = refl
twice_from (k ∷ ks) xs = ap₂ (λ a b. nat_lt 1 a || b) (count_from (is_column_name (column_name k)) 0 xs) (twice_from ks xs)

pub twice_seen : (xs : List (Bor Bytes))
    → list_any (λ k. nat_lt 1 (count_by (λ x. is_column_name (column_name k) x.now) xs)) columns ≡ has_column_twice (borrowed_fields xs)
twice_seen xs = twice_from columns xs
