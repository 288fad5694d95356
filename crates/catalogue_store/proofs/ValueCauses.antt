-- Why reading a unit's values fails: never for the values of a catalogue within its limits.
use Rattle.std.proofs.Common.{◌≡◌, inl, inr, ℕ, ◌+◌, ◌<◌, ◌≤◌, List, [], ◌∷◌, map, filter, length, Option, Some, None}
use Rattle.std.proofs.Common.{true, false, nat_eq, get_or, slice_get, Result, Ok, Err, refl, sym, ap, subst, ◌∙◌, arith}
use Rattle.std.specs.Prelude.{IfSome, IsUtf8}
use Rattle.isad_core.specs.LegibleValues.{IsLegibleBox}
use Rattle.catalogue_store.proofs.Common.{AllByRecursion, BoxKey, Bytes, ElementRow, Forest, Has, IfErr, IsLegibleUnit}
use Rattle.catalogue_store.proofs.Common.{IsOk, IsPermutation, IsPermutation-sym, RepresentsElements, Trees, Unit}
use Rattle.catalogue_store.proofs.Common.{Values, all-get_or, all_from, all_has, box_number, cases_Bool, counted_from}
use Rattle.catalogue_store.proofs.Common.{element_number, elements_of, eq-eqb, eqb-true, get_or-map, had, has, has_id}
use Rattle.catalogue_store.proofs.Common.{has_kept, has_map, is_same_box, length-map, list_all, list_any, map_has}
use Rattle.catalogue_store.proofs.Common.{nodes, none_first, number_among, numbered, numbered_texts, one_less, some_has}
use Rattle.catalogue_store.proofs.Common.{test_has, texts_from, unwrap_or}

-- a call that does not fail
pub never_fails : {X E : Type 0} (r : Result X E) (Q : E → Type 0) → IsOk r → IfErr r Q
never_fails (Ok x) Q h = tt
never_fails (Err e) Q h = absurd (let clash : false ≡ true = h in cc)

-- ---- texts

texts_legible : (k : ℕ) (texts : List (Option Bytes)) → AllByRecursion (λ text. IfSome text IsUtf8) texts
    → AllByRecursion (λ (t : ℕ × Bytes). IsUtf8 t.1) (texts_from k texts)
texts_legible k [] h = tt
texts_legible k (None ∷ texts) h = texts_legible (k + 1) texts h.1
texts_legible k (Some text ∷ texts) h = (h.0, texts_legible (k + 1) texts h.1)

-- each row has a text of a unit
pub legible_elements : (db : Trees) (f : Forest Unit) (at : RepresentsElements db f)
    → AllByRecursion IsLegibleUnit (nodes f) → AllByRecursion (λ (e : ElementRow). IsUtf8 e.value) at.elements
legible_elements db f at legible = all_from (λ (e : ElementRow). IsUtf8 e.value) at.elements one
  where
    one : (e : ElementRow) → Has at.elements e → IsUtf8 e.value
    one e there =
        let cell = λ (e : ElementRow). (let c : ℕ × Bytes = (e.k, e.value) in c) in
        let of = some_has (has_id e.unit) (nodes f) (all_has (λ (e : ElementRow). has (has_id e.unit) f ≡ true) at.elements e at.others there) in
        let u = of.0 in
        let mine : Has (filter (λ (e : ElementRow). nat_eq u.id e.unit) at.elements) e =
        has_kept (λ (e : ElementRow). nat_eq u.id e.unit) at.elements e there (eq-eqb u.id e.unit (sym (eqb-true e.unit u.id of.2))) in
        let told = all_has (λ (u : Unit). IsPermutation (numbered_texts u.values) (elements_of u.id at.elements)) (nodes f) u at.are of.1 in
        let kept = had (numbered_texts u.values) (elements_of u.id at.elements) told (cell e) (has_map cell (filter (λ (e : ElementRow). nat_eq u.id e.unit) at.elements) e mine) in
        let text = map_has (λ (t : ℕ × Bytes). (let c : ℕ × Bytes = (element_number t.0, t.1) in c)) (texts_from 0 u.values.texts) (cell e) kept in
        subst IsUtf8 (sym (ap (λ (c : ℕ × Bytes). c.1) text.2))
        (all_has (λ (t : ℕ × Bytes). IsUtf8 t.1) (texts_from 0 u.values.texts) text.0 (texts_legible 0 u.values.texts (all_has IsLegibleUnit (nodes f) u legible of.1).texts) text.1)

low_texts : (k n : ℕ) (texts : List (Option Bytes)) → k + length texts ≡ n
    → AllByRecursion (λ (t : ℕ × Bytes). t.0 < n) (texts_from k texts)
low_texts k n [] h = tt
low_texts k n (None ∷ texts) h = low_texts (k + 1) n texts (omega (arith, h))
low_texts k n (Some text ∷ texts) h = (omega (arith, h), low_texts (k + 1) n texts (omega (arith, h)))

-- each text has a place
pub place_there : (values : Values) → length values.texts ≡ 25 → (c : ℕ × Bytes) → Has (numbered_texts values) c
    → (place : ℕ) × (place < 25) × (c.0 ≡ element_number place)
place_there values long c there =
    let text = map_has (λ (t : ℕ × Bytes). (let c : ℕ × Bytes = (element_number t.0, t.1) in c)) (texts_from 0 values.texts) c there in
    (text.0.0, all_has (λ (t : ℕ × Bytes). t.0 < 25) (texts_from 0 values.texts) text.0 (low_texts 0 25 values.texts (omega (arith, long))) text.1, ap (λ (c : ℕ × Bytes). c.0) text.2)

-- ---- containers

counted_there : (k : ℕ) (cs : List BoxKey) (b : BoxKey) (n : ℕ) → number_among cs b ≡ Some n
    → (x : ℕ × BoxKey) × Has (counted_from (k + 1) cs) x × (x.0 ≡ k + n) × (n ≤ length cs)
counted_there k [] b n is = absurd (let clash : None ≡ Some n = is in cc)
counted_there k (c ∷ cs) b n is = elim (cases_Bool (is_same_box c b)) [
  | inl same ↦
      let one : Some 1 ≡ Some n = rw same at is in
      let n_is : 1 ≡ n = cc in
      ((k + 1, c), inl refl, omega (arith, n_is), omega (arith, n_is))
  | inr differs ↦
      let m = one_less (number_among cs b) n (rw differs at is) in
      let rest = counted_there (k + 1) cs b m.0 m.1 in
      (rest.0, inr rest.1, omega (arith, rest.2, m.2), omega (arith, rest.3, m.2))
]

-- a container that is known has a row under its number
pub row_there : (cs : List BoxKey) (b : BoxKey) → list_any (is_same_box b) cs ≡ true
    → (x : ℕ × BoxKey) × Has (counted_from 1 cs) x × (x.0 ≡ box_number cs b) × (x.0 ≤ length cs)
row_there cs b there =
    let n = numbered cs b there in
    let x = counted_there 0 cs b n.0 n.1 in
    (x.0, x.1, omega (arith, x.2, ap (λ (o : Option ℕ). unwrap_or o 0) n.1), omega (arith, x.2, x.3))

pub box_found : (cs : List BoxKey) (b : BoxKey) (n : ℕ) (ys : List (ℕ × BoxKey)) → list_any (is_same_box b) cs ≡ true
    → n ≡ box_number cs b → IsPermutation (filter (λ (c : ℕ × BoxKey). nat_eq n c.0) (counted_from 1 cs)) ys
    → slice_get (map (λ (c : ℕ × BoxKey). c.1) ys) 0 ≡ None → ⊥
box_found cs b n ys there number same none =
    let x = row_there cs b there in
    let kept = has_kept (λ (c : ℕ × BoxKey). nat_eq n c.0) (counted_from 1 cs) x.0 x.1 (eq-eqb n x.0.0 (number ∙ sym x.2)) in
    let in_rows = had ys (filter (λ (c : ℕ × BoxKey). nat_eq n c.0) (counted_from 1 cs)) (IsPermutation-sym (filter (λ (c : ℕ × BoxKey). nat_eq n c.0) (counted_from 1 cs)) ys same) x.0 kept in
    subst (λ (l : List (ℕ × BoxKey)). Has l x.0) (none_first (λ (c : ℕ × BoxKey). c.1) ys none) in_rows

pub legible_counted : (n : ℕ) (cs : List BoxKey) → AllByRecursion IsLegibleBox cs
    → AllByRecursion (λ (c : ℕ × BoxKey). IsLegibleBox c.1) (counted_from n cs)
legible_counted n [] h = tt
legible_counted n (c ∷ cs) h = (h.0, legible_counted (n + 1) cs h.1)

blank_box : BoxKey
blank_box = record { name = []; location = []; kind = [] }

-- each of some numbers is that of a known container
pub box_at : (cs bs : List BoxKey) (numbers : List ℕ) (i : ℕ) → list_all (λ b. list_any (is_same_box b) cs) bs ≡ true
    → numbers ≡ map (box_number cs) bs → i < length numbers
    → (b : BoxKey) × (list_any (is_same_box b) cs ≡ true) × (get_or numbers i 0 ≡ box_number cs b)
box_at cs bs numbers i known is low =
    let low' : i < length bs = omega (arith, ap length is, length-map bs (box_number cs)) in
    let known_one = λ (b : BoxKey). list_any (is_same_box b) cs ≡ true in
    let all : AllByRecursion known_one bs =
    all_from known_one bs (λ b h. test_has (λ b. list_any (is_same_box b) cs) bs b known h) in
    (get_or bs i blank_box, all-get_or known_one bs i blank_box all low', ap (λ (l : List ℕ). get_or l i 0) is ∙ get_or-map (box_number cs) bs i blank_box 0 low')
