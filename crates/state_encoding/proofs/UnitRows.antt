-- The units are what their rows say.
use Rattle.std.proofs.Common.{◌≡◌, ℕ, zero, suc, ◌+◌, ◌<◌, Bool, true, false, cond, ◌&&◌, List, [], ◌∷◌, ◌++◌, length}
use Rattle.std.proofs.Common.{Option, Some, None, refl, sym, ap, ◌∙◌, subst, inl, inr, arith}
use Rattle.std.specs.List.{IsDistinct}
use Rattle.std.specs.Prelude.{nat_eq, nat_lt, map, filter_map, unwrap_or}
use Rattle.state_encoding.proofs.Common.{AllByRecursion, BoxKey, Bytes, ElementRow, Empty, Forest, HousingRow}
use Rattle.state_encoding.proofs.Common.{IsGoodUnit, IsPermutation-refl, Links, Node, OfficeRows, SaysUnits, Spans}
use Rattle.state_encoding.proofs.Common.{State, TreeEncoding, Unit, UnitRow, Version, after_level, and_parts, box_at}
use Rattle.state_encoding.proofs.Common.{box_from, box_itself, box_number, boxes_from, boxes_from_rows, cons_option}
use Rattle.state_encoding.proofs.Common.{container_row, each, element_rows_from, encoding, false≢true, filter}
use Rattle.state_encoding.proofs.Common.{filter-append, find, flat_map, flat_map-cons, fun_ext, housing_row}
use Rattle.state_encoding.proofs.Common.{is_same_box, list_all, list_any, nodes, nodes-each, nth, number_among}
use Rattle.state_encoding.proofs.Common.{numbers_from, option_map, or_cases, other_number, place_rows, places_said}
use Rattle.state_encoding.proofs.Common.{rows_from, same_box, same_number, siblings, slice_get, tables, text_said}
use Rattle.state_encoding.proofs.Common.{unit_from, unit_from_rows, unit_number, unit_row, values_from_rows}
use Rattle.state_encoding.proofs.TableLaws.{rows_back}
use Rattle.state_encoding.proofs.Nested.{spans_say}
use Rattle.state_encoding.proofs.Linked.{links_say}

-- ---- units with numbers of their own

apart_head : (x : ℕ) (xs : List ℕ) → IsDistinct nat_eq (x ∷ xs)
    → AllByRecursion (λ y. nat_eq x y ≡ false) xs × IsDistinct nat_eq xs
unfolding IsDistinct
apart_head x xs h = (h.0, h.1)

of_units : (P : ℕ → Type 0) (us : List Unit) → AllByRecursion P (map unit_number us) → AllByRecursion (λ u. P u.id) us
of_units P [] h = tt
of_units P (u ∷ us) h = (h.0, of_units P us h.1)

all_two : (P Q R : Unit → Type 0) → ((u : Unit) → P u → Q u → R u) → (us : List Unit) → AllByRecursion P us
    → AllByRecursion Q us → AllByRecursion R us
all_two P Q R f [] p q = tt
all_two P Q R f (u ∷ us) p q = (f u p.0 q.0, all_two P Q R f us p.1 q.1)

pub rows_found : (us : List Unit) → IsDistinct nat_eq (map unit_number us)
    → AllByRecursion (λ u. find (λ (row : UnitRow). nat_eq row.id u.id) (map unit_row us) ≡ Some (unit_row u)) us
rows_found [] d = tt
rows_found (u ∷ us) d =
    let h = apart_head u.id (map unit_number us) d in (
      ap (λ b. cond b (Some (unit_row u)) (find (λ (row : UnitRow). nat_eq row.id u.id) (map unit_row us))) (same_number u.id),
      all_two (λ v. nat_eq u.id v.id ≡ false) (λ v. find (λ (row : UnitRow). nat_eq row.id v.id) (map unit_row us) ≡ Some (unit_row v)) (λ v. find (λ (row : UnitRow). nat_eq row.id v.id) (map unit_row (u ∷ us)) ≡ Some (unit_row v))
          (λ v e f. ap (λ b. cond b (Some (unit_row u)) (find (λ (row : UnitRow). nat_eq row.id v.id) (map unit_row us))) e ∙ f) us (of_units (λ n. nat_eq u.id n ≡ false) us h.0) (rows_found us h.1),
    )

-- ---- the rows that are a unit's own

module _ {R : Type 0} (key : R → ℕ) (rows : Unit → List R) (own : (u : Unit) → AllByRecursion (λ r. key r ≡ u.id) (rows u)) where
  kept_own : (n m : ℕ) (rs : List R) (b : Bool) → nat_eq n m ≡ b → AllByRecursion (λ r. key r ≡ n) rs
      → filter (λ r. nat_eq (key r) m) rs ≡ cond b rs []
  kept_own n m [] true e h = refl
  kept_own n m [] false e h = refl
  kept_own n m (r ∷ rs) true e h =
      ap (λ c. cond c (r ∷ filter (λ r. nat_eq (key r) m) rs) (filter (λ r. nat_eq (key r) m) rs)) (ap (λ k. nat_eq k m) h.0 ∙ e)
      ∙ ap (λ l. r ∷ l) (kept_own n m rs true e h.1)
  kept_own n m (r ∷ rs) false e h =
      ap (λ c. cond c (r ∷ filter (λ r. nat_eq (key r) m) rs) (filter (λ r. nat_eq (key r) m) rs)) (ap (λ k. nat_eq k m) h.0 ∙ e)
      ∙ kept_own n m rs false e h.1

  no_more : (xs : List R) → xs ++ [] ≡ xs
  no_more [] = refl
  no_more (x ∷ xs) = ap (λ l. x ∷ l) (no_more xs)

  none_of : (n : ℕ) (us : List Unit) → AllByRecursion (λ v. nat_eq v.id n ≡ false) us
      → filter (λ r. nat_eq (key r) n) (flat_map rows us) ≡ []
  none_of n [] h = refl
  none_of n (v ∷ us) h =
      ap (filter (λ r. nat_eq (key r) n)) (flat_map-cons rows v us)
      ∙ (filter-append (λ r. nat_eq (key r) n) (rows v) (flat_map rows us)
      ∙ (ap (λ l. l ++ filter (λ r. nat_eq (key r) n) (flat_map rows us)) (kept_own v.id n (rows v) false h.0 (own v)) ∙ none_of n us h.1))

  flip : (n m : ℕ) → nat_eq n m ≡ false → nat_eq m n ≡ false
  flip n m e = other_number m n (λ s. false≢true (sym e ∙ (ap (λ k. nat_eq n k) s ∙ same_number n)))

  pub own_rows : (us : List Unit) → IsDistinct nat_eq (map unit_number us)
      → AllByRecursion (λ u. filter (λ r. nat_eq (key r) u.id) (flat_map rows us) ≡ rows u) us
  own_rows [] d = tt
  own_rows (v ∷ us) d =
      let h = apart_head v.id (map unit_number us) d in
      let apart = of_units (λ n. nat_eq v.id n ≡ false) us h.0 in (
        ap (filter (λ r. nat_eq (key r) v.id)) (flat_map-cons rows v us)
            ∙ (filter-append (λ r. nat_eq (key r) v.id) (rows v) (flat_map rows us)
            ∙ (ap (λ l. l ++ filter (λ r. nat_eq (key r) v.id) (flat_map rows us)) (kept_own v.id v.id (rows v) true (same_number v.id) (own v))
            ∙ (ap (λ l. rows v ++ l) (none_of v.id us (flipped us apart)) ∙ no_more (rows v)))),
        all_two (λ u. nat_eq v.id u.id ≡ false) (λ u. filter (λ r. nat_eq (key r) u.id) (flat_map rows us) ≡ rows u) (λ u. filter (λ r. nat_eq (key r) u.id) (flat_map rows (v ∷ us)) ≡ rows u)
            (λ u e f.
            ap (filter (λ r. nat_eq (key r) u.id)) (flat_map-cons rows v us)
            ∙ (filter-append (λ r. nat_eq (key r) u.id) (rows v) (flat_map rows us)
            ∙ (ap (λ l. l ++ filter (λ r. nat_eq (key r) u.id) (flat_map rows us)) (kept_own v.id u.id (rows v) false e (own v)) ∙ f))) us apart (own_rows us h.1),
      )
    where
      flipped : (ws : List Unit) → AllByRecursion (λ u. nat_eq v.id u.id ≡ false) ws
          → AllByRecursion (λ u. nat_eq u.id v.id ≡ false) ws
      flipped [] k = tt
      flipped (w ∷ ws) k = (flip v.id w.id k.0, flipped ws k.1)

-- ---- the texts of a unit

pub found_kept : {R : Type 0} (a b : R → Bool) (rs : List R) → find (λ r. a r && b r) rs ≡ find b (filter a rs)
found_kept a b [] = refl
found_kept a b (r ∷ rs) = at (a r) (found_kept a b rs)
  where
    at : (c : Bool) → find (λ r. a r && b r) rs ≡ find b (filter a rs)
        → cond (c && b r) (Some r) (find (λ r. a r && b r) rs) ≡ find b (cond c (r ∷ filter a rs) (filter a rs))
    at true e = ap (λ x. cond (b r) (Some r) x) e
    at false e = e

pub after_less : (a b : ℕ) → a < b → after_level a < after_level b
after_less a b h = at (nat_lt a 4) (nat_lt b 4) refl refl
  where
    at : (x y : Bool) → nat_lt a 4 ≡ x → nat_lt b 4 ≡ y → cond x a (a + 1) < cond y b (b + 1)
    at true true e f = h
    at true false e f = omega (arith, h)
    at false true e f = let u = Rattle.std.proofs.lemmas.Bool.ltb-false a 4 e in let v = Rattle.std.proofs.lemmas.Bool.ltb-true b 4 f in absurd (omega (arith, u, v, h))
    at false false e f = omega (arith, h)

abbrev value_at : ℕ → List ElementRow → Option Bytes
value_at k rows = option_map (λ (row : ElementRow). row.value) (find (λ (row : ElementRow). nat_eq row.k (after_level k)) rows)

none_before : (u k j : ℕ) (texts : List (Option Bytes)) → k < j
    → find (λ (row : ElementRow). nat_eq row.k (after_level k)) (element_rows_from u j texts) ≡ None
none_before u k j [] h = refl
none_before u k j (None ∷ texts) h = none_before u k (suc j) texts (omega (arith, h))
none_before u k j (Some text ∷ texts) h =
    let l = after_less k j h in
    ap (λ b. cond b (Some (record { unit = u; k = after_level j; value = text })) (find (λ (row : ElementRow). nat_eq row.k (after_level k)) (element_rows_from u (suc j) texts))) (other_number (after_level j) (after_level k) (λ e. omega (arith, l, e)))
    ∙ none_before u k (suc j) texts (omega (arith, h))

skips : (row : ElementRow) (rows : List ElementRow) (k : ℕ) → row.k ≡ after_level k → (j more : ℕ) → k < j
    → map (λ m. value_at m (row ∷ rows)) (numbers_from j more) ≡ map (λ m. value_at m rows) (numbers_from j more)
skips row rows k e j zero h = refl
skips row rows k e j (suc more) h =
    let l = after_less k j h in
    ap (λ b. option_map (λ (r : ElementRow). r.value) (cond b (Some row) (find (λ (r : ElementRow). nat_eq r.k (after_level j)) rows)) ∷ map (λ m. value_at m (row ∷ rows)) (numbers_from (suc j) more)) (other_number row.k (after_level j) (λ q. omega (arith, l, e, q)))
    ∙ ap (λ t. value_at j rows ∷ t) (skips row rows k e (suc j) more (omega (arith, h)))

pub texts_back : (u k : ℕ) (texts : List (Option Bytes))
    → map (λ m. value_at m (element_rows_from u k texts)) (numbers_from k (length texts)) ≡ texts
texts_back u k [] = refl
texts_back u k (None ∷ texts) =
    ap (λ r. option_map (λ (row : ElementRow). row.value) r ∷ map (λ m. value_at m (element_rows_from u (suc k) texts)) (numbers_from (suc k) (length texts))) (none_before u k (suc k) texts (omega arith))
    ∙ ap (λ l. None ∷ l) (texts_back u (suc k) texts)
texts_back u k (Some text ∷ texts) =
    let row : ElementRow = record { unit = u; k = after_level k; value = text } in
    ap (λ b. option_map (λ (r : ElementRow). r.value) (cond b (Some row) (find (λ (r : ElementRow). nat_eq r.k (after_level k)) (element_rows_from u (suc k) texts))) ∷ map (λ m. value_at m (row ∷ element_rows_from u (suc k) texts)) (numbers_from (suc k) (length texts))) (same_number (after_level k))
    ∙ ap (λ l. Some text ∷ l) (skips row (element_rows_from u (suc k) texts) k refl (suc k) (length texts) (omega arith) ∙ texts_back u (suc k) texts)

-- ---- the containers of a unit

pub number_there : (boxes : List BoxKey) (b : BoxKey) → list_any (is_same_box b) boxes ≡ true
    → (n : ℕ) × (number_among boxes b ≡ Some (suc n)) × (slice_get boxes n ≡ Some b)
number_there [] b h = absurd (false≢true h)
number_there (c ∷ boxes) b h = at (is_same_box c b) refl (number_there boxes b)
  where
    at : (x : Bool) → is_same_box c b ≡ x
        → (list_any (is_same_box b) boxes ≡ true → (n : ℕ) × (number_among boxes b ≡ Some (suc n)) × (slice_get boxes n ≡ Some b))
        → (n : ℕ) × (cond x (Some 1) (option_map suc (number_among boxes b)) ≡ Some (suc n)) × (slice_get (c ∷ boxes) n ≡ Some b)
    at true e f = (0, refl, ap Some (same_box c b e))
    at false e f =
        let r = f (elim (or_cases (is_same_box b c) (list_any (is_same_box b) boxes) h) [
          | inl q ↦ absurd (false≢true (sym e ∙ (ap (λ z. is_same_box z b) (sym (same_box b c q)) ∙ box_itself b)))
          | inr k ↦ k
        ]) in
        (suc r.0, ap (option_map suc) r.1, r.2)

pub number_back : (boxes : List BoxKey) (b : BoxKey) → list_any (is_same_box b) boxes ≡ true
    → nth boxes (box_number boxes b) ≡ Some b
number_back boxes b h = let r = number_there boxes b h in ap (λ n. nth boxes (unwrap_or n 0)) r.1 ∙ r.2

abbrev box_of : List BoxKey → List HousingRow → ℕ → Option BoxKey
box_of boxes rows m = box_at boxes (find (λ (row : HousingRow). nat_eq row.ord m) rows)

skips_box : (boxes : List BoxKey) (row : HousingRow) (rows : List HousingRow) (j more : ℕ) → row.ord < j
    → filter_map (box_of boxes (row ∷ rows)) (numbers_from j more) ≡ filter_map (box_of boxes rows) (numbers_from j more)
skips_box boxes row rows j zero h = refl
skips_box boxes row rows j (suc more) h =
    ap (λ b. cons_option (box_at boxes (cond b (Some row) (find (λ (r : HousingRow). nat_eq r.ord j) rows))) (filter_map (box_of boxes (row ∷ rows)) (numbers_from (suc j) more))) (other_number row.ord j (λ e. omega (arith, h, e)))
    ∙ ap (λ l. cons_option (box_of boxes rows j) l) (skips_box boxes row rows (suc j) more (omega (arith, h)))

pub boxes_back : (boxes : List BoxKey) (u n : ℕ) (bs : List BoxKey)
    → list_all (λ box. list_any (is_same_box box) boxes) bs ≡ true
    → boxes_from boxes (rows_from (housing_row boxes u) n bs) n (length bs) ≡ bs
boxes_back boxes u n [] h = refl
boxes_back boxes u n (b ∷ bs) h =
    let p = and_parts (list_any (is_same_box b) boxes) (list_all (λ box. list_any (is_same_box box) boxes) bs) h in
    let row : HousingRow = housing_row boxes u n b in
    let rest : List HousingRow = rows_from (housing_row boxes u) (suc n) bs in
    ap (λ c. cons_option (box_at boxes (cond c (Some row) (find (λ (r : HousingRow). nat_eq r.ord n) rest))) (filter_map (box_of boxes (row ∷ rest)) (numbers_from (suc n) (length bs)))) (same_number n)
    ∙ (ap (λ x. cons_option x (filter_map (box_of boxes (row ∷ rest)) (numbers_from (suc n) (length bs)))) (number_back boxes b p.0)
    ∙ ap (λ l. b ∷ l) (skips_box boxes row rest (suc n) (length bs) (omega arith) ∙ boxes_back boxes u (suc n) bs p.1))

length-rows : (boxes : List BoxKey) (u n : ℕ) (bs : List BoxKey)
    → length (rows_from (housing_row boxes u) n bs) ≡ length bs
length-rows boxes u n [] = refl
length-rows boxes u n (b ∷ bs) = ap suc (length-rows boxes u (suc n) bs)

-- ---- one unit

pub elements_own : (u k : ℕ) (texts : List (Option Bytes))
    → AllByRecursion (λ (r : ElementRow). r.unit ≡ u) (element_rows_from u k texts)
elements_own u k [] = tt
elements_own u k (None ∷ texts) = elements_own u (suc k) texts
elements_own u k (Some text ∷ texts) = (refl, elements_own u (suc k) texts)

pub housings_own : (boxes : List BoxKey) (u n : ℕ) (bs : List BoxKey)
    → AllByRecursion (λ (r : HousingRow). r.unit ≡ u) (rows_from (housing_row boxes u) n bs)
housings_own boxes u n [] = tt
housings_own boxes u n (b ∷ bs) = (refl, housings_own boxes u (suc n) bs)

pub record HasRows (t : OfficeRows) (boxes : List BoxKey) (u : Unit) : Type 0 where
  pub row : find (λ (row : UnitRow). nat_eq row.id u.id) t.catalogue.units ≡ Some (unit_row u)
  pub elements : filter (λ (r : ElementRow). nat_eq r.unit u.id) t.catalogue.elements ≡ element_rows_from u.id 1 u.values.texts
  pub housings : filter (λ (r : HousingRow). nat_eq r.unit u.id) t.catalogue.housings ≡ rows_from (housing_row boxes u.id) 1 u.values.boxes

pub unit_back : (t : OfficeRows) (boxes : List BoxKey) (u : Unit) → map box_from t.catalogue.containers ≡ boxes
    → HasRows t boxes u → IsGoodUnit boxes u → unit_from_rows t.catalogue u.id ≡ u
unit_back t boxes u c h g =
    let texts : map (text_said t.catalogue.elements u.id) (numbers_from 1 25) ≡ u.values.texts =
    ap (λ f. map f (numbers_from 1 25)) (fun_ext (λ k. ap (option_map (λ (row : ElementRow). row.value)) (found_kept (λ (row : ElementRow). nat_eq row.unit u.id) (λ (row : ElementRow). nat_eq row.k (after_level k)) t.catalogue.elements) ∙ ap (value_at k) h.elements))
    ∙ (ap (λ n. map (λ m. value_at m (element_rows_from u.id 1 u.values.texts)) (numbers_from 1 n)) (sym g.texts_count) ∙ texts_back u.id 1 u.values.texts) in
    let bs : boxes_from_rows (map box_from t.catalogue.containers) t.catalogue.housings u.id ≡ u.values.boxes =
    ap (λ k. boxes_from_rows k t.catalogue.housings u.id) c
    ∙ (ap (λ mine. boxes_from boxes mine 1 (length mine)) h.housings
    ∙ (ap (λ n. boxes_from boxes (rows_from (housing_row boxes u.id) 1 u.values.boxes) 1 n) (length-rows boxes u.id 1 u.values.boxes) ∙ boxes_back boxes u.id 1 u.values.boxes g.known)) in
    let none : Unit = record { id = u.id; source = []; legacy = []; values = values_from_rows t.catalogue u.id []; draft = false; until = None } in
    ap (λ r. unwrap_or (option_map (unit_from t.catalogue) r) none) h.row
    ∙ (ap (λ x. record u { values = record { level = u.values.level; texts = x; boxes = boxes_from_rows (map box_from t.catalogue.containers) t.catalogue.housings u.id } }) texts
    ∙ ap (λ x. record u { values = record { level = u.values.level; texts = u.values.texts; boxes = x } }) bs)

-- ---- all of them

all_three : (P Q R S : Unit → Type 0) → ((u : Unit) → P u → Q u → R u → S u) → (us : List Unit) → AllByRecursion P us
    → AllByRecursion Q us → AllByRecursion R us → AllByRecursion S us
all_three P Q R S f [] p q r = tt
all_three P Q R S f (u ∷ us) p q r = (f u p.0 q.0 r.0, all_three P Q R S f us p.1 q.1 r.1)

abbrev ElementsOf : OfficeRows → Unit → Type 0
ElementsOf t u = filter (λ (r : ElementRow). nat_eq r.unit u.id) t.catalogue.elements ≡ element_rows_from u.id 1 u.values.texts

pub all_rows : (version : Version) (s : State) → IsDistinct nat_eq (map unit_number (nodes s.catalogue.forest))
    → AllByRecursion (HasRows (tables version s) s.catalogue.containers) (nodes s.catalogue.forest)
all_rows version s d =
    let us = nodes s.catalogue.forest in
    all_three (λ u. find (λ (row : UnitRow). nat_eq row.id u.id) (map unit_row us) ≡ Some (unit_row u)) (ElementsOf (tables version s)) (λ u. filter (λ (r : HousingRow). nat_eq r.unit u.id) (tables version s).catalogue.housings ≡ rows_from (housing_row s.catalogue.containers u.id) 1 u.values.boxes) (HasRows (tables version s) s.catalogue.containers)
    (λ u a b c. record { row = a; elements = b; housings = c }) us (rows_found us d)
    (own_rows (λ (r : ElementRow). r.unit) (λ (u : Unit). element_rows_from u.id 1 u.values.texts) (λ u. elements_own u.id 1 u.values.texts) us d)
    (own_rows (λ (r : HousingRow). r.unit) (λ (u : Unit). rows_from (housing_row s.catalogue.containers u.id) 1 u.values.boxes) (λ u. housings_own s.catalogue.containers u.id 1 u.values.boxes) us d)

each_each : {A B C : Type 0} (f : A → B) (g : B → C) (t : Forest A) → each g (each f t) ≡ each (λ a. g (f a)) t
each_each f g Empty = refl
each_each f g (Node a c o) =
    ap (λ k. Node (g (f a)) k (each g (each f o))) (each_each f g c)
    ∙ ap (λ k. Node (g (f a)) (each (λ a. g (f a)) c) k) (each_each f g o)

split : (P : Unit → Type 0) (xs ys : List Unit) → AllByRecursion P (xs ++ ys)
    → AllByRecursion P xs × AllByRecursion P ys
split P [] ys h = (tt, h)
split P (x ∷ xs) ys h = let r = split P xs ys h.1 in ((h.0, r.0), r.1)

each_same : (g : Unit → Unit) (f : Forest Unit) → AllByRecursion (λ u. g u ≡ u) (nodes f) → each g f ≡ f
each_same g Empty h = refl
each_same g (Node u c o) h =
    let r = split (λ u. g u ≡ u) (nodes c) (nodes o) h.1 in
    ap (λ v. Node v (each g c) (each g o)) h.0 ∙ (ap (λ k. Node u k (each g o)) (each_same g c r.0) ∙ ap (λ k. Node u c k) (each_same g o r.1))

places_back : (way : TreeEncoding) (f : Forest Unit) → IsDistinct nat_eq (map unit_number (nodes f))
    → places_said (place_rows way (each unit_number f)) ≡ each unit_number f
places_back Links f d = links_say (each unit_number f) (siblings (each unit_number f)) (record { distinct = subst (IsDistinct nat_eq) (sym (nodes-each unit_number f)) d; rows = IsPermutation-refl (siblings (each unit_number f)) })
places_back Spans f d = spans_say (each unit_number f)

pub units_back : (version : Version) (s : State) → IsDistinct nat_eq (map unit_number (nodes s.catalogue.forest))
    → AllByRecursion (IsGoodUnit s.catalogue.containers) (nodes s.catalogue.forest) → SaysUnits version s
units_back version s d g =
    let t = tables version s in
    let c = rows_back container_row box_from (λ n box. refl) 1 s.catalogue.containers in
    ap (each (unit_from_rows t.catalogue)) (places_back (encoding version) s.catalogue.forest d)
    ∙ (each_each unit_number (unit_from_rows t.catalogue) s.catalogue.forest
    ∙ each_same (λ u. unit_from_rows t.catalogue u.id) s.catalogue.forest
    (all_two (HasRows t s.catalogue.containers) (IsGoodUnit s.catalogue.containers) (λ u. unit_from_rows t.catalogue u.id ≡ u) (λ u h k. unit_back t s.catalogue.containers u c h k) (nodes s.catalogue.forest) (all_rows version s d) g))
