-- Units of which something is told for the first time: their rows leave room for one more text or container.
use Rattle.std.proofs.Common.{◌≡◌, ℕ, ℤ, pos, suc, ◌+◌, ◌<◌, ◌≤◌, Less, Equal, Greater, if◌then◌else◌, Bool, true}
use Rattle.std.proofs.Common.{false, not, cond, nat_eq, List, [], ◌∷◌, ◌++◌, length, map, take, drop, get_or, filter}
use Rattle.std.proofs.Common.{Option, Some, None, refl, sym, ap, subst, ◌∙◌, arith, inl, inr, length-append}
use Rattle.std.proofs.Common.{length-take-le}
use Rattle.std.proofs.Math.Seq.{split_at}
use Rattle.std.proofs.lemmas.List.Folds.{list_any-append}
use Rattle.std.proofs.lemmas.List.Sums.{length-filter, count_by-le-length}
use Rattle.std.specs.Prelude.{◌&&◌, option_map, unwrap_or}
use Rattle.isad_core.proofs.BoxLemmas.{same_sym}
use Rattle.isad_core.specs.declared.values.Values.{Values}
use Rattle.catalogue_core.proofs.ImportedAgain.{box_itself}
use Rattle.office_tables.specs.Schema as tables
use Rattle.catalogue_statements.proofs.Common.{AllByRecursion, BoxKey, Bytes, ElementRow, Forest, Has, HasUnit}
use Rattle.catalogue_statements.proofs.Common.{HousingRow, Trees, Unit, WithCells, WithHousings, WithTexts, all_from}
use Rattle.catalogue_statements.proofs.Common.{all_has, all_weaker, and_parts, and_right, box_number, cases_Bool}
use Rattle.catalogue_statements.proofs.Common.{cell_of, cells_of_unit, counted_from, distinct, distinct_again}
use Rattle.catalogue_statements.proofs.Common.{element_number, false≢true, filters, had, has, has_filtered, has_id}
use Rattle.catalogue_statements.proofs.Common.{has_map, has_right, housing_cell, int_cmp, is_same_box, kept_all}
use Rattle.catalogue_statements.proofs.Common.{list_all, list_any, list_any-IsPermutation, match_ordering, ne_eqb}
use Rattle.catalogue_statements.proofs.Common.{not-true, number_among, or_from, or_parts, put_by, put_row, put_rows}
use Rattle.catalogue_statements.proofs.Common.{same_box, some_from, some_has, test_from, test_has, texts_from}
use Rattle.catalogue_statements.proofs.Common.{with_boxes}
use Rattle.catalogue_statements.proofs.BoxNumbers.{all_known, still_known, unknown_unnumbered}
use Rattle.catalogue_statements.proofs.Finding.{itself}
use Rattle.catalogue_statements.proofs.HousingLemmas.{cells_in, same_cells}
use Rattle.catalogue_statements.proofs.TextLemmas.{first_cells}
use Rattle.catalogue_statements.proofs.TextReads.{other_number}

-- ---- rows

-- what fails for each fails for all
none_passes : {A : Type 0} (p : A → Bool) (xs : List A) → AllByRecursion (λ x. p x ≡ false) xs → list_any p xs ≡ false
none_passes p [] all = refl
none_passes p (x ∷ xs) all = or_from (p x) (list_any p xs) all.0 (none_passes p xs all.1)

-- and what fails for all fails for each
each_fails : {A : Type 0} (p : A → Bool) (xs : List A) → list_any p xs ≡ false → AllByRecursion (λ x. p x ≡ false) xs
each_fails p [] none = tt
each_fails p (x ∷ xs) none = let parts = or_parts (p x) (list_any p xs) none in (parts.0, each_fails p xs parts.1)

-- a unit that had no row has none for a cell that was not told
none_told : {A C : Type 0} (unit_of : A → ℕ) (cell_of : A → C) (n : ℕ) (q : C → Bool) (cells : List C) (xs ys : List A)
    → WithCells unit_of cell_of n cells xs ys
    → list_any (λ a. nat_eq n (unit_of a)) xs ≡ false → AllByRecursion (λ c. q c ≡ false) cells
    → list_any (λ a. nat_eq n (unit_of a) && q (cell_of a)) ys ≡ false
none_told {A} unit_of cell_of n q cells xs ys w none apart =
    let test = λ (a : A). nat_eq n (unit_of a) && q (cell_of a) in
    let new : list_any test w.more ≡ false = none_passes test w.more (all_from (λ a. test a ≡ false) w.more
    (λ a h. and_right (nat_eq n (unit_of a)) (q (cell_of a)) (all_has (λ c. q c ≡ false) cells (cell_of a) apart (had cells (map cell_of w.more) w.tell (cell_of a) (has_map cell_of w.more a h))))) in
    let old : list_any test xs ≡ false =
    none_passes test xs (all_weaker (λ a. nat_eq n (unit_of a) ≡ false) (λ a. test a ≡ false) (λ a h. rw h refl) xs (each_fails (λ a. nat_eq n (unit_of a)) xs none)) in
    sym (list_any-IsPermutation test (w.more ++ xs) ys w.are) ∙ list_any-append test w.more xs ∙ or_from (list_any test w.more) (list_any test xs) new old

-- ---- texts

earlier_places : (k n : ℕ) (texts : List (Option Bytes)) → k + length texts ≤ n
    → AllByRecursion (λ (c : ℕ × Bytes). nat_eq (element_number n) c.0 ≡ false) (map (λ (t : ℕ × Bytes). (let c : ℕ × Bytes = (element_number t.0, t.1) in c)) (texts_from k texts))
earlier_places k n [] low = tt
earlier_places k n (None ∷ texts) low = earlier_places (k + 1) n texts (omega (arith, low))
earlier_places k n (Some t ∷ texts) low =
    (other_number n k (λ same. omega (arith, low, same)), earlier_places (k + 1) n texts (omega (arith, low)))

-- the next text has no row yet
pub text_free : (unit i : ℕ) (texts : List (Option Bytes)) (xs ys : List ElementRow) → i ≤ length texts
    → WithTexts unit (first_cells i texts) xs ys
    → list_any (λ (e : ElementRow). nat_eq unit e.unit) xs ≡ false
    → list_any (λ (e : ElementRow). nat_eq unit e.unit && nat_eq (element_number i) e.k) ys ≡ false
text_free unit i texts xs ys low w none =
    none_told (λ (e : ElementRow). e.unit) cell_of unit (λ c. nat_eq (element_number i) c.0) (first_cells i texts) xs ys w none (earlier_places 0 i (take i texts) (omega (arith, length-take-le i texts low)))

-- ---- containers

-- a container that is not the unit's has another place
place_free : (k n : ℕ) (cs seen : List BoxKey) → k + length seen ≤ n
    → AllByRecursion (λ (c : ℕ × ℕ). nat_eq n c.0 ≡ false) (map (λ (box : ℕ × BoxKey). (let c : ℕ × ℕ = (box.0, box_number cs box.1) in c)) (counted_from k seen))
place_free k n cs [] low = tt
place_free k n cs (b ∷ seen) low =
    (ne_eqb n k (λ same. omega (arith, low, same)), place_free (k + 1) n cs seen (omega (arith, low)))

not_nought : (cs : List BoxKey) (b : BoxKey) → number_among cs b ≡ Some 0 → ⊥
not_nought [] b h = let e : ◌≡◌ {A = Option ℕ} None (Some 0) = h in cc
not_nought (c ∷ cs) b h = elim (cases_Bool (is_same_box c b)) [
  | inl same ↦ absurd (let e : Some 1 ≡ Some 0 = rw same at h in cc)
  | inr differs ↦ absurd (let e : option_map suc (number_among cs b) ≡ Some 0 = rw differs at h in later (number_among cs b) e)
]
  where
    later : (o : Option ℕ) → option_map suc o ≡ Some 0 → ⊥
    later None h = let e : ◌≡◌ {A = Option ℕ} None (Some 0) = h in cc
    later (Some n) h = let e : Some (suc n) ≡ Some 0 = h in cc

pub one_less : (o : Option ℕ) (n : ℕ) → option_map suc o ≡ Some n → (m : ℕ) × (o ≡ Some m) × (n ≡ suc m)
one_less None n h = absurd (let e : ◌≡◌ {A = Option ℕ} None (Some n) = h in cc)
one_less (Some m) n h = (m, refl, let e : Some (suc m) ≡ Some n = h in cc)

-- two containers of one number are one
one_number : (cs : List BoxKey) (a b : BoxKey) (n : ℕ) → number_among cs a ≡ Some n → number_among cs b ≡ Some n
    → is_same_box a b ≡ true
one_number [] a b n p q = absurd (let e : ◌≡◌ {A = Option ℕ} None (Some n) = p in cc)
one_number (c ∷ cs) a b n p q = at (is_same_box c a) (is_same_box c b) refl refl p q (one_number cs a b)
  where
    first : (d : BoxKey) → Some 1 ≡ Some n → option_map suc (number_among cs d) ≡ Some n → ⊥
    first d one more =
        let it = one_less (number_among cs d) n more in
        let is : n ≡ 1 = cc in
        not_nought cs d (it.1 ∙ ap Some (omega (arith, is, it.2)))

    at : (x y : Bool) → is_same_box c a ≡ x → is_same_box c b ≡ y → cond x (Some 1) (option_map suc (number_among cs a)) ≡ Some n
        → cond y (Some 1) (option_map suc (number_among cs b)) ≡ Some n
        → ((m : ℕ) → number_among cs a ≡ Some m → number_among cs b ≡ Some m → is_same_box a b ≡ true) → is_same_box a b ≡ true
    at true true e f p q later = ap (λ d. is_same_box d b) (sym (same_box c a e)) ∙ f
    at true false e f p q later = absurd (first b p q)
    at false true e f p q later = absurd (first a q p)
    at false false e f p q later =
        let x = one_less (number_among cs a) n p in
        let y = one_less (number_among cs b) n q in
        later x.0 x.1 (y.1 ∙ ap Some (omega (arith, x.2, y.2)))

-- a container that is known has a number
pub numbered : (cs : List BoxKey) (b : BoxKey) → list_any (is_same_box b) cs ≡ true → (n : ℕ) × (number_among cs b ≡ Some n)
numbered cs b there = at (number_among cs b) refl
  where
    at : (o : Option ℕ) → number_among cs b ≡ o → (n : ℕ) × (number_among cs b ≡ Some n)
    at None e = absurd (false≢true (sym (unknown_unnumbered cs b e) ∙ there))
    at (Some n) e = (n, e)

-- two containers have two numbers
other_box : (cs : List BoxKey) (a b : BoxKey) → list_any (is_same_box a) cs ≡ true → list_any (is_same_box b) cs ≡ true
    → is_same_box a b ≡ false → nat_eq (box_number cs a) (box_number cs b) ≡ false
other_box cs a b p q differs =
    let x = numbered cs a p in
    let y = numbered cs b q in
    ne_eqb (box_number cs a) (box_number cs b) (λ same.
    let is : y.0 ≡ x.0 = sym (ap (λ o. unwrap_or o 0) y.1) ∙ sym same ∙ ap (λ o. unwrap_or o 0) x.1 in
    false≢true (sym differs ∙ one_number cs a b x.0 x.1 (y.1 ∙ ap Some is)))

-- a container that was not told has another number than those that were
number_free : (k : ℕ) (cs : List BoxKey) (b : BoxKey) (seen : List BoxKey) → list_any (is_same_box b) cs ≡ true
    → list_all (λ c. list_any (is_same_box c) cs) seen ≡ true → list_any (is_same_box b) seen ≡ false
    → AllByRecursion (λ (c : ℕ × ℕ). nat_eq (box_number cs b) c.1 ≡ false) (map (λ (box : ℕ × BoxKey). (let c : ℕ × ℕ = (box.0, box_number cs box.1) in c)) (counted_from k seen))
number_free k cs b [] there known none = tt
number_free k cs b (c ∷ seen) there known none =
    let parts = and_parts (list_any (is_same_box c) cs) (list_all (λ c. list_any (is_same_box c) cs) seen) known in
    let apart = or_parts (is_same_box b c) (list_any (is_same_box b) seen) none in
    (other_box cs b c there parts.0 apart.0, number_free (k + 1) cs b seen there parts.1 apart.1)

-- of containers that stand once, one was not told before its place
apart_before : (p : BoxKey → Bool) (seen : List BoxKey) (b : BoxKey) (rest : List BoxKey)
    → filter p (distinct (seen ++ b ∷ rest)) ≡ seen ++ b ∷ rest → list_any (is_same_box b) seen ≡ false
apart_before p [] b rest h = refl
apart_before p (x ∷ seen) b rest h =
    let all = seen ++ b ∷ rest in
    let other = λ (y : BoxKey). not (is_same_box x y) in
    elim (cases_Bool (p x)) [
      | inl passes ↦
          let whole : x ∷ filter p (filter other (distinct all)) ≡ x ∷ all = rw passes at h in
          let later : filter (λ y. other y && p y) (distinct all) ≡ all = sym (filters other p (distinct all)) ∙ cc in
          let kept = has_filtered (λ y. other y && p y) (distinct all) b (subst (λ l. Has l b) (sym later) (has_right seen (b ∷ rest) b (inl refl))) in
          let differs : is_same_box x b ≡ false = not-true (is_same_box x b) (and_parts (other b) (p b) kept.1).0 in
          or_from (is_same_box b x) (list_any (is_same_box b) seen) (same_sym b x ∙ differs) (apart_before (λ y. other y && p y) seen b rest later)
      | inr stops ↦
          let whole : filter p (filter other (distinct all)) ≡ x ∷ all = rw stops at h in
          let kept = has_filtered p (filter other (distinct all)) x (subst (λ l. Has l x) (sym whole) (inl refl)) in
          let differs : is_same_box x x ≡ false = not-true (is_same_box x x) (has_filtered other (distinct all) x kept.0).1 in
          absurd (false≢true (sym differs ∙ box_itself x))
    ]

pub not_seen : (told : List BoxKey) (i : ℕ) (b : BoxKey) → i < length told → b ≡ get_or told i b → distinct told ≡ told
    → list_any (is_same_box b) (take i told) ≡ false
not_seen told i b low is once =
    let split : told ≡ take i told ++ b ∷ drop (suc i) told =
    split_at told i b low ∙ ap (λ c. take i told ++ c ∷ drop (suc i) told) (sym is) in
    apart_before (λ _. true) (take i told) b (drop (suc i) told) (subst (λ l. filter (λ _. true) (distinct l) ≡ l) split (kept_all (distinct told) ∙ once))

module _ (unit i : ℕ) (boxes told : List BoxKey) (b : BoxKey) (xs ys : List HousingRow) (apart : distinct boxes ≡ boxes) (low : i < length told)
    (w : WithHousings unit (cells_in (with_boxes boxes (take i told)) (take i told)) xs ys) (none : list_any (λ (h : HousingRow). nat_eq unit h.unit) xs ≡ false) where
  abbrev seen : List BoxKey
  seen = take i told

  abbrev now : List BoxKey
  now = with_boxes boxes seen

  abbrev next : List BoxKey
  next = with_boxes now (b ∷ [])

  now_apart : distinct now ≡ now
  now_apart = distinct_again (boxes ++ seen)

  -- the next container's place has no row yet
  pub housing_place : list_any (λ (h : HousingRow). nat_eq unit h.unit && nat_eq (i + 1) h.ord) ys ≡ false
  housing_place =
      none_told (λ (h : HousingRow). h.unit) housing_cell unit (λ c. nat_eq (i + 1) c.0) (cells_in now seen) xs ys w none
      (place_free 1 (i + 1) now seen (omega (arith, length-take-le i told (omega (arith, low)))))

  -- nor has its number
  pub housing_number : list_any (is_same_box b) seen ≡ false
      → list_any (λ (h : HousingRow). nat_eq unit h.unit && nat_eq (box_number next b) h.container) ys ≡ false
  housing_number new =
      let known = all_known boxes seen in
      let here = (and_parts (list_any (is_same_box b) next) true (all_known now (b ∷ []))).0 in
      let still : list_all (λ c. list_any (is_same_box c) next) seen ≡ true =
      test_from (λ c. list_any (is_same_box c) next) seen (λ c h. still_known now (b ∷ []) c now_apart (test_has (λ c. list_any (is_same_box c) now) seen c known h)) in
      let other = λ (c : ℕ × ℕ). nat_eq (box_number next b) c.1 ≡ false in
      none_told (λ (h : HousingRow). h.unit) housing_cell unit (λ c. nat_eq (box_number next b) c.1) (cells_in now seen) xs ys w none
      (subst (AllByRecursion other) (same_cells now (b ∷ []) seen 1 now_apart known) (number_free 1 next b seen here still new))

-- ---- how many containers there are

fewer : (bs : List BoxKey) → length (distinct bs) ≤ length bs
fewer [] = omega arith
fewer (b ∷ bs) =
    let other = λ (later : BoxKey). not (is_same_box b later) in
    omega (arith, length-filter other (distinct bs), count_by-le-length other (distinct bs), fewer bs)

pub boxes_within : (cs bs : List BoxKey) → length (with_boxes cs bs) ≤ length cs + length bs
boxes_within cs bs = omega (arith, fewer (cs ++ bs), length-append cs bs)

-- the next number is free
pub next_free : (k n : ℕ) (cs : List BoxKey) → k + length cs ≤ n
    → list_any (λ (c : ℕ × BoxKey). nat_eq n c.0) (counted_from k cs) ≡ false
next_free k n [] low = refl
next_free k n (c ∷ cs) low =
    or_from (nat_eq n k) (list_any (λ (c : ℕ × BoxKey). nat_eq n c.0) (counted_from (k + 1) cs)) (ne_eqb n k (λ same. omega (arith, low, same))) (next_free (k + 1) n cs (omega (arith, low)))

-- a container that is not known is like none that is numbered
pub none_alike : (k : ℕ) (cs : List BoxKey) (b : BoxKey) → list_any (is_same_box b) cs ≡ false
    → list_any (λ (c : ℕ × BoxKey). is_same_box c.1 b) (counted_from k cs) ≡ false
none_alike k [] b none = refl
none_alike k (c ∷ cs) b none =
    let parts = or_parts (is_same_box b c) (list_any (is_same_box b) cs) none in
    or_from (is_same_box c b) (list_any (λ (c : ℕ × BoxKey). is_same_box c.1 b) (counted_from (k + 1) cs)) (same_sym c b ∙ parts.0) (none_alike (k + 1) cs b parts.1)

-- ---- units

-- the unit's row stays
pub unit_still : (old new : Trees) (unit : ℕ) → new tables.unit.tree ≡ old tables.unit.tree → HasUnit old unit
    → HasUnit new unit
unit_still old new unit same it = record { units = it.units; rows = same ∙ it.rows; there = it.there }

-- a unit that is not there has no row of another table
pub none_yet : {A : Type 0} (unit_of : A → ℕ) (unit : ℕ) (f : Forest Unit) (xs : List A) → has (has_id unit) f ≡ false
    → AllByRecursion (λ a. has (has_id (unit_of a)) f ≡ true) xs
    → list_any (λ a. nat_eq unit (unit_of a)) xs ≡ false
none_yet unit_of unit f xs missing all =
    none_passes (λ a. nat_eq unit (unit_of a)) xs (all_weaker (λ a. has (has_id (unit_of a)) f ≡ true) (λ a. nat_eq unit (unit_of a) ≡ false)
    (λ a there. ne_eqb unit (unit_of a) (λ same. false≢true (sym missing ∙ ap (λ n. has (has_id n) f) same ∙ there))) xs all)

-- what was taken out is there no more
pub none_left : {A : Type 0} (p : A → Bool) (xs : List A) → list_any p (filter (λ x. not (p x)) xs) ≡ false
none_left p xs = none_passes p (filter (λ x. not (p x)) xs) (all_from (λ x. p x ≡ false) (filter (λ x. not (p x)) xs) (λ x h. not-true (p x) (has_filtered (λ x. not (p x)) xs x h).1))

put_has : {A : Type 0} (key : A → ℤ) (new : A) (xs : List A) → Has (put_by key new xs) new
put_has key new [] = inl refl
put_has key new (x ∷ xs) = elim (int_cmp (key x) (key new)) as (λ o. Has (match_ordering o (x ∷ put_by key new xs) (new ∷ xs) (new ∷ x ∷ xs)) new) [
  | Less ↦ inr (put_has key new xs)
  | Equal ↦ inl refl
  | Greater ↦ inl refl
]

-- a unit that was added has its row
pub unit_added : (old new : Trees) (u : Unit) (units : List Unit) → old tables.unit.tree ≡ map cells_of_unit units
    → new tables.unit.tree ≡ put_row (cells_of_unit u) (old tables.unit.tree) → HasUnit new u.id
unit_added old new u units at put =
    let key = λ (x : Unit). pos x.id in
    record {
      units = put_by key u units;
      rows = put ∙ ap (put_row (cells_of_unit u)) at ∙ put_rows cells_of_unit key (λ _. refl) u units;
      there = some_from (has_id u.id) (put_by key u units) u (put_has key u units) (itself u.id);
    }

-- a unit that was given other values has its row
pub unit_valued : (new : Trees) (unit : ℕ) (values : Values) (units : List Unit)
    → new tables.unit.tree ≡ map cells_of_unit (map (λ (x : Unit). if nat_eq unit x.id then record x { values = values } else x) units)
    → list_any (has_id unit) units ≡ true → HasUnit new unit
unit_valued new unit values units at there =
    let valued = λ (x : Unit). if nat_eq unit x.id then record x { values = values } else x in
    let it = some_has (has_id unit) units there in
    record {
      units = map valued units;
      rows = at;
      there = some_from (has_id unit) (map valued units) (valued it.0) (has_map valued units it.0 it.1) (rw it.2 it.2);
    }
