-- Texts that are put at the places of their elements.
use Rattle.std.proofs.Common.{◌≡◌, ◌≢◌, ℕ, zero, suc, ◌+◌, ◌<◌, List, [], ◌∷◌, ◌++◌, length, map, get_or, set, Option}
use Rattle.std.proofs.Common.{Some, None, Bool, false, if◌then◌else◌, nat_eq, refl, sym, ap, subst, ◌∙◌, arith, inl}
use Rattle.std.proofs.Common.{inr}
use Rattle.std.proofs.lemmas.List.Sums.{fold_push}
use Rattle.isad_core.specs.declared.values.Values.{Values}
use Rattle.catalogue_statements.proofs.Common.{Bytes, Element, cases_lt, element_number, eq-eqb, ext_get_or, fold}
use Rattle.catalogue_statements.proofs.Common.{get_or-set_other, get_or-set_same, length-set, map-append, ne_eqb}
use Rattle.catalogue_statements.proofs.Common.{numbered_texts, texts_from}
use Rattle.catalogue_statements.proofs.CellReads.{number_rises}

-- the text at a place, where more cells tell of it
abbrev told_at : ℕ → Option Bytes → ℕ × Bytes → Option Bytes
told_at place text cell = if nat_eq (element_number place) cell.0 then Some cell.1 else text

abbrev pub text_told : ℕ → List (ℕ × Bytes) → Option Bytes
text_told place cells = fold (told_at place) None cells

pub other_number : (i j : ℕ) → i ≢ j → nat_eq (element_number i) (element_number j) ≡ false
other_number i j differs = ne_eqb (element_number i) (element_number j) (λ same. elim (cases_lt i j) [
  | inl below ↦ omega (arith, number_rises i j below, same)
  | inr above ↦ elim (cases_lt j i) [
    | inl after ↦ omega (arith, number_rises j i after, same)
    | inr not ↦ differs (omega (arith, above, not))
  ]
])

-- later texts stand at later places
none_later : (k place : ℕ) (text : Option Bytes) (texts : List (Option Bytes)) → place < k
    → fold (told_at place) text (map (λ (t : ℕ × Bytes). (let c : ℕ × Bytes = (element_number t.0, t.1) in c)) (texts_from k texts)) ≡ text
none_later k place text [] h = refl
none_later k place text (None ∷ texts) h = none_later (k + 1) place text texts (omega (arith, h))
none_later k place text (Some t ∷ texts) h =
    ap (λ (b : Bool). fold (told_at place) (if b then Some t else text) (map (λ (t : ℕ × Bytes). (let c : ℕ × Bytes = (element_number t.0, t.1) in c)) (texts_from (k + 1) texts))) (other_number place k (λ e. omega (arith, e, h))) ∙ none_later (k + 1) place text texts (omega (arith, h))

each_told : (k i : ℕ) (texts : List (Option Bytes))
    → fold (told_at (k + i)) None (map (λ (t : ℕ × Bytes). (let c : ℕ × Bytes = (element_number t.0, t.1) in c)) (texts_from k texts)) ≡ get_or texts i None
each_told k i [] = refl
each_told k zero (None ∷ texts) = none_later (k + 1) (k + 0) None texts (omega arith)
each_told k zero (Some t ∷ texts) =
    ap (λ (b : Bool). fold (told_at (k + 0)) (if b then Some t else None) (map (λ (t : ℕ × Bytes). (let c : ℕ × Bytes = (element_number t.0, t.1) in c)) (texts_from (k + 1) texts))) (eq-eqb (element_number (k + 0)) (element_number k) (ap element_number (omega arith))) ∙ none_later (k + 1) (k + 0) (Some t) texts (omega arith)
each_told k (suc i) (None ∷ texts) =
    ap (λ p. fold (told_at p) None (map (λ (t : ℕ × Bytes). (let c : ℕ × Bytes = (element_number t.0, t.1) in c)) (texts_from (k + 1) texts))) {x = k + suc i} {y = k + 1 + i} (omega arith) ∙ each_told (k + 1) i texts
each_told k (suc i) (Some t ∷ texts) =
    ap (λ (b : Bool). fold (told_at (k + suc i)) (if b then Some t else None) (map (λ (t : ℕ × Bytes). (let c : ℕ × Bytes = (element_number t.0, t.1) in c)) (texts_from (k + 1) texts))) (other_number (k + suc i) k (λ e. omega (arith, e)))
    ∙ (ap (λ p. fold (told_at p) None (map (λ (t : ℕ × Bytes). (let c : ℕ × Bytes = (element_number t.0, t.1) in c)) (texts_from (k + 1) texts))) {x = k + suc i} {y = k + 1 + i} (omega arith) ∙ each_told (k + 1) i texts)

texts_told : (values : Values) (place : ℕ) → text_told place (numbered_texts values) ≡ get_or values.texts place None
texts_told values place =
    ap (λ p. text_told p (numbered_texts values)) {x = place} {y = 0 + place} (omega arith) ∙ each_told 0 place values.texts

-- ---- one after another

abbrev pub cell_of : Element → ℕ × Bytes
cell_of e = (e.k, e.value)

-- the texts so far are what these elements tell
pub record AreTold (texts : List (Option Bytes)) (elements : List Element) : Type 0 where
  pub long : length texts ≡ 25
  pub each : (place : ℕ) → place < 25 → get_or texts place None ≡ text_told place (map cell_of elements)

told_more : (place : ℕ) (elements : List Element) (e : Element)
    → text_told place (map cell_of (elements ++ e ∷ [])) ≡ told_at place (text_told place (map cell_of elements)) (cell_of e)
told_more place elements e =
    ap (text_told place) (map-append cell_of elements (e ∷ []))
    ∙ fold_push (told_at place) None (map cell_of elements) (cell_of e)

pub one_told : (texts : List (Option Bytes)) (elements : List Element) (e : Element) (place : ℕ) → place < 25
    → e.k ≡ element_number place → AreTold texts elements
    → AreTold (set texts place (Some e.value)) (elements ++ e ∷ [])
one_told texts elements e place low is at = record {
  long = length-set texts place (Some e.value) ∙ at.long;
  each = λ i within. elim (cases_lt i place) [
    | inl below ↦ other i within (λ same. omega (arith, below, same))
    | inr above ↦ elim (cases_lt place i) [
      | inl after ↦ other i within (λ same. omega (arith, after, same))
      | inr not ↦
          let same : i ≡ place = omega (arith, above, not) in
          ap (λ n. get_or (set texts place (Some e.value)) n None) same
          ∙ get_or-set_same texts place (Some e.value) None (rw at.long low)
          ∙ sym (told_more i elements e ∙ ap (λ b. if b then Some e.value else text_told i (map cell_of elements)) (eq-eqb (element_number i) e.k (ap element_number same ∙ sym is)))
    ]
  ];
}
  where
    other : (i : ℕ) → i < 25 → i ≢ place
        → get_or (set texts place (Some e.value)) i None ≡ text_told i (map cell_of (elements ++ e ∷ []))
    other i within differs =
        get_or-set_other texts place i (Some e.value) None differs ∙ at.each i within
        ∙ sym (told_more i elements e ∙ ap (λ b. if b then Some e.value else text_told i (map cell_of elements)) (ap (nat_eq (element_number i)) is ∙ other_number i place differs))

pub all_told : (texts : List (Option Bytes)) (elements : List Element) (values : Values) → length values.texts ≡ 25
    → map cell_of elements ≡ numbered_texts values → AreTold texts elements → texts ≡ values.texts
all_told texts elements values long are at =
    ext_get_or None texts values.texts (at.long ∙ sym long)
    (λ i within. at.each i (subst (λ n. i < n) at.long within) ∙ ap (text_told i) are ∙ texts_told values i)
