-- The texts of the first elements, among the rows of a unit that are read.
use Rattle.std.proofs.Common.{◌≡◌, ℕ, zero, suc, ◌+◌, ◌≤◌, ◌<◌, List, [], ◌∷◌, map, filter, get_or, slice_get, Bool}
use Rattle.std.proofs.Common.{true, false, cond, Option, Some, None, option_map, ◌&&◌, nat_eq, nat_le, refl, ap, subst}
use Rattle.std.proofs.Common.{◌∙◌, arith, inl, inr}
use Rattle.std.specs.List.{find}
use Rattle.std.specs.Prelude.{unwrap_or}
use Rattle.isad_core.specs.Values.{text_at_place}
use Rattle.isad_core.specs.declared.values.Values.{Values}
use Rattle.catalogue_statements.proofs.Common.{Bytes, Element, ElementRow, IsPermutation, IsPermutation-filter}
use Rattle.catalogue_statements.proofs.Common.{IsPermutation-map, IsPermutation-trans, cell_of, element_number}
use Rattle.catalogue_statements.proofs.Common.{elements_of, eq-eqb, eqb_comm, filter-map, filters, had}
use Rattle.catalogue_statements.proofs.Common.{length_permutation, map-map, nat_tests, numbered_texts, same_test}
use Rattle.catalogue_statements.proofs.Common.{texts_from}
use Rattle.catalogue_statements.proofs.TextReads.{other_number}

abbrev numbered : ℕ × Bytes → ℕ × Bytes
numbered t = (element_number t.0, t.1)

-- the texts among those of a unit that have this place
abbrev texts_for : ℕ → ℕ → List (Option Bytes) → List Bytes
texts_for place k texts =
    map (λ (c : ℕ × Bytes). c.1) (filter (λ (c : ℕ × Bytes). nat_eq (element_number place) c.0) (map numbered (texts_from k texts)))

abbrev told : ElementRow → Element
told e = record { k = e.k; value = e.value }

abbrev as_list : Option Bytes → List Bytes
as_list None = []
as_list (Some text) = text ∷ []

none_after : (k place : ℕ) (texts : List (Option Bytes)) → place < k → texts_for place k texts ≡ []
none_after k place [] h = refl
none_after k place (None ∷ texts) h = none_after (k + 1) place texts (omega (arith, h))
none_after k place (Some t ∷ texts) h =
    rw (other_number place k (λ e. omega (arith, e, h))) (none_after (k + 1) place texts (omega (arith, h)))

one_among : (k i : ℕ) (texts : List (Option Bytes)) → texts_for (k + i) k texts ≡ as_list (get_or texts i None)
one_among k i [] = refl
one_among k zero (None ∷ texts) = none_after (k + 1) (k + 0) texts (omega arith)
one_among k zero (Some t ∷ texts) =
    rw (eq-eqb (element_number (k + 0)) (element_number k) (ap element_number (omega arith))) (ap (λ l. t ∷ l) (none_after (k + 1) (k + 0) texts (omega arith)))
one_among k (suc i) (None ∷ texts) =
    ap (λ p. texts_for p (k + 1) texts) {x = k + suc i} {y = k + 1 + i} (omega arith) ∙ one_among (k + 1) i texts
one_among k (suc i) (Some t ∷ texts) =
    rw (other_number (k + suc i) k (λ e. omega (arith, e))) (ap (λ p. texts_for p (k + 1) texts) {x = k + suc i} {y = k + 1 + i} (omega arith) ∙ one_among (k + 1) i texts)

same_get : (texts : List (Option Bytes)) (i : ℕ) → get_or texts i None ≡ unwrap_or (slice_get texts i) None
same_get [] i = refl
same_get (t ∷ texts) zero = refl
same_get (t ∷ texts) (suc i) = same_get texts i

few_same : (text : Option Bytes) (ys : List Bytes) → IsPermutation (as_list text) ys → ys ≡ as_list text
few_same None [] h = refl
few_same None (y ∷ ys) h = absurd (omega (arith, length_permutation [] (y ∷ ys) h))
few_same (Some t) [] h = absurd (omega (arith, length_permutation (t ∷ []) [] h))
few_same (Some t) (y ∷ []) h = elim (had (t ∷ []) (y ∷ []) h y (inl refl)) [ inl e ↦ ap (λ n. n ∷ []) e | inr none ↦ absurd none ]
few_same (Some t) (y ∷ z ∷ ys) h = absurd (omega (arith, length_permutation (t ∷ []) (y ∷ z ∷ ys) h))

-- the rows of a unit with the number of an element tell its text, where it has one
one_text : (n place : ℕ) (values : Values) (xs ys : List ElementRow)
    → IsPermutation (numbered_texts values) (elements_of n xs)
    → IsPermutation (filter (λ (e : ElementRow). nat_eq n e.unit && nat_eq (element_number place) e.k) xs) ys
    → map (λ (e : ElementRow). e.value) ys ≡ as_list (text_at_place (Some place) values)
one_text n place values xs ys told same =
    let mine = λ (e : ElementRow). nat_eq n e.unit in
    let that = λ (c : ℕ × Bytes). nat_eq (element_number place) c.0 in
    let text = λ (c : ℕ × Bytes). c.1 in
    let among : filter that (map cell_of (filter mine xs)) ≡ map cell_of (filter (λ (e : ElementRow). mine e && nat_eq (element_number place) e.k) xs) =
    filter-map that cell_of (filter mine xs) ∙ ap (map cell_of) (filters mine (λ (e : ElementRow). nat_eq (element_number place) e.k) xs) in
    let cells : IsPermutation (filter that (numbered_texts values)) (map cell_of ys) =
    IsPermutation-trans (filter that (numbered_texts values)) (map cell_of (filter (λ (e : ElementRow). mine e && nat_eq (element_number place) e.k) xs)) (map cell_of ys)
    (subst (IsPermutation (filter that (numbered_texts values))) among (IsPermutation-filter that (numbered_texts values) (elements_of n xs) told))
    (IsPermutation-map cell_of (filter (λ (e : ElementRow). mine e && nat_eq (element_number place) e.k) xs) ys same) in
    let texts = IsPermutation-map text (filter that (numbered_texts values)) (map cell_of ys) cells in
    let is : map text (filter that (numbered_texts values)) ≡ as_list (text_at_place (Some place) values) =
    ap (λ p. texts_for p 0 values.texts) {x = place} {y = 0 + place} (omega arith) ∙ one_among 0 place values.texts
    ∙ ap as_list (same_get values.texts place) in
    few_same (text_at_place (Some place) values) (map (λ (e : ElementRow). e.value) ys)
    (subst (λ l. IsPermutation l (map (λ (e : ElementRow). e.value) ys)) is (subst (IsPermutation (map text (filter that (numbered_texts values)))) (map-map text cell_of ys) texts))

-- ---- the first element with a number, among those that are read

-- the first of at most one
first_is : (k : ℕ) (text : Option Bytes) (ys : List ElementRow)
    → map (λ (e : ElementRow). e.value) (filter (λ (e : ElementRow). nat_eq k e.k) ys) ≡ as_list text
    → option_map (λ (e : Element). e.value) (find (λ (e : Element). nat_eq e.k k) (map told ys)) ≡ text
first_is k None [] h = refl
first_is k (Some t) [] h = absurd (let e : [] ≡ t ∷ [] = h in cc)
first_is k text (y ∷ ys) h = here (nat_eq k y.k) (eqb_comm y.k k) (first_is k text ys) h
  where
    only_one : (text : Option Bytes) (rest : List Bytes) → y.value ∷ rest ≡ as_list text → Some y.value ≡ text
    only_one None rest h = absurd (let e : y.value ∷ rest ≡ [] = h in cc)
    only_one (Some t) rest h = let e : y.value ∷ rest ≡ t ∷ [] = h in cc

    here : (b : Bool) → nat_eq y.k k ≡ b
        → (map (λ (e : ElementRow). e.value) (filter (λ (e : ElementRow). nat_eq k e.k) ys) ≡ as_list text → option_map (λ (e : Element). e.value) (find (λ (e : Element). nat_eq e.k k) (map told ys)) ≡ text)
        → map (λ (e : ElementRow). e.value) (cond b (y ∷ filter (λ (e : ElementRow). nat_eq k e.k) ys) (filter (λ (e : ElementRow). nat_eq k e.k) ys)) ≡ as_list text
        → option_map (λ (e : Element). e.value) (find (λ (e : Element). nat_eq e.k k) (map told (y ∷ ys))) ≡ text
    here true e later h = rw e (only_one text _ h)
    here false e later h = rw e (later h)

still_that : (a : Bool) (n k most : ℕ) → n ≤ most → ((a && nat_le k most) && nat_eq n k) ≡ (a && nat_eq n k)
still_that true n k most h = grind (arith, nat_tests, h)
still_that false n k most h = refl

-- the elements up to a number tell the text of each element up to it
pub text_among_first : (n place most : ℕ) (values : Values) (xs ys : List ElementRow) → element_number place ≤ most
    → IsPermutation (numbered_texts values) (elements_of n xs)
    → IsPermutation (filter (λ (e : ElementRow). nat_eq n e.unit && nat_le e.k most) xs) ys
    → option_map (λ (e : Element). e.value) (find (λ (e : Element). nat_eq e.k (element_number place)) (map told ys)) ≡ text_at_place (Some place) values
text_among_first n place most values xs ys low told same =
    let mine = λ (e : ElementRow). nat_eq n e.unit in
    let read = λ (e : ElementRow). mine e && nat_le e.k most in
    let that = λ (e : ElementRow). nat_eq (element_number place) e.k in
    let those : filter that (filter read xs) ≡ filter (λ (e : ElementRow). mine e && that e) xs =
    filters read that xs ∙ same_test (λ e. read e && that e) (λ e. mine e && that e) (λ e. still_that (mine e) (element_number place) e.k most low) xs in
    first_is (element_number place) (text_at_place (Some place) values) ys
    (one_text n place values xs (filter that ys) told (subst (λ l. IsPermutation l (filter that ys)) those (IsPermutation-filter that (filter read xs) ys same)))
