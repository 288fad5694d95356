-- What the rows of containers say of the units that name them.
use Rattle.std.proofs.Common.{◌≡◌, inl, inr, ℕ, suc, pos, ◌+◌, ◌<◌, true, false, List, [], ◌∷◌, map, filter, length}
use Rattle.std.proofs.Common.{get_or, nat_eq, Ordering, Less, Equal, Greater, refl, sym, ap, subst, ◌∙◌, arith}
use Rattle.std.proofs.Math.Dec.{eqb}
use Rattle.std.proofs.lemmas.Int.{ints}
use Rattle.std.proofs.lemmas.List.Kept.{Contains-dedup_nat, Contains-from_dedup, AllPairs-from_increasing}
use Rattle.std.proofs.lemmas.Map.Keys.{IsStrictlyIncreasing-dedup}
use Rattle.sqlite_rules.proofs.ListLemmas.{all_has, has_filtered, has_kept, some_from, some_has}
use Rattle.isad_core.specs.declared.values.BoxKey.{BoxKey}
use Rattle.tree_core.proofs.Lists.{In, In-from_Contains, Contains-from_In}
use Rattle.office_tables.proofs.Sorted.{same_rising}
use Rattle.tree_places.specs.Attachments.{AreAttached}
use Rattle.tree_places.proofs.Common.{AllByRecursion, AllPairs, Catalogue, Has, HousingRow, IsPermutation}
use Rattle.tree_places.proofs.Common.{IsPermutation-filter, IsPermutation-sym, IsSorted, IsTotalOrder}
use Rattle.tree_places.proofs.Common.{RepresentsHousings, RepresentsUnits, Rises, Trees, Unit, ascending-filter}
use Rattle.tree_places.proofs.Common.{ascending-map, box_number, by_housing, by_number, counted_from, dedup, eq-eqb}
use Rattle.tree_places.proofs.Common.{eqb-true, get_or-map, had, has, has_id, has_map, housing_places, int_cmp}
use Rattle.tree_places.proofs.Common.{int_cmp_total, is_lt, length-map, map_has, names_container, nat_cmp, nodes}
use Rattle.tree_places.proofs.Common.{numbered_containers, on_total, ordering_then}

-- ---- numbers in order, each once

by_size : ℕ → ℕ → Ordering
by_size a b = int_cmp (pos a) (pos b)

by_size_total : IsTotalOrder by_size
unfolding by_size
by_size_total = on_total (λ n. pos n) int_cmp_total

below_is_less : (a b : ℕ) → a < b → by_size a b ≡ Less
unfolding by_size
below_is_less a b h = grind (arith, ints)

all_by_index : (P : ℕ → Type 0) (xs : List ℕ) → ((k : ℕ) → k < length xs → P (get_or xs k 0)) → AllByRecursion P xs
all_by_index P [] h = tt
all_by_index P (x ∷ xs) h = (h 0 (omega arith), all_by_index P xs (λ k low. h (suc k) (omega arith)))

rise_by_pairs : (xs : List ℕ) → AllPairs (λ x y. x < y) xs → Rises by_size xs
rise_by_pairs [] h = tt
rise_by_pairs (x ∷ xs) h = (
  all_by_index (λ y. by_size x y ≡ Less) xs (λ k low. below_is_less x (get_or xs k 0) (h 0 (suc k) 0 (omega arith) (omega arith))),
  rise_by_pairs xs (λ i j d lt low. h (suc i) (suc j) d (omega arith) (omega arith)),
)

first_of_then : (a b : Ordering) → is_lt (ordering_then a b) ≡ false → is_lt a ≡ false
first_of_then Less b h = h
first_of_then Equal b h = refl
first_of_then Greater b h = refl

same_order : (a b : ℕ) → is_lt (int_cmp (pos a) (pos b)) ≡ is_lt (nat_cmp a b)
same_order a b = grind (arith, ints)

units_sorted : (ys : List HousingRow) → IsSorted by_housing ys → IsSorted nat_cmp (map (λ (h : HousingRow). h.unit) ys)
units_sorted ys up = λ k d low high.
    let unit = λ (h : HousingRow). h.unit in
    let e : HousingRow = record { unit = d; ord = 0; container = 0 } in
    let long = length-map ys unit in
    let high' : k + 1 < length ys = omega arith in
    let low' : k < length ys = omega arith in
    let a = get_or ys (k + 1) e in
    let b = get_or ys k e in
    let there : is_lt (by_housing a b) ≡ false = up k e low high' in
    ap (λ n. is_lt (nat_cmp n (get_or (map unit ys) k d))) (get_or-map unit ys (k + 1) e d high')
    ∙ ap (λ n. is_lt (nat_cmp a.unit n)) (get_or-map unit ys k e d low')
    ∙ sym (same_order a.unit b.unit)
    ∙ first_of_then (int_cmp (pos a.unit) (pos b.unit)) (int_cmp (pos a.ord) (pos b.ord)) there

has_from_in : (xs : List ℕ) (x : ℕ) → In x xs → Has xs x
has_from_in [] x h = absurd h
has_from_in (y ∷ xs) x (inl e) = inl e
has_from_in (y ∷ xs) x (inr h) = inr (has_from_in xs x h)

in_from_has : (xs : List ℕ) (x : ℕ) → Has xs x → In x xs
in_from_has [] x h = absurd h
in_from_has (y ∷ xs) x (inl e) = inl e
in_from_has (y ∷ xs) x (inr h) = inr (in_from_has xs x h)

-- ---- which units name a container

unfoldable pub cell_of : HousingRow → ℕ × ℕ
cell_of h = (h.ord, h.container)

counted : (n : ℕ) (boxes : List BoxKey) (x : ℕ × BoxKey) → Has (counted_from n boxes) x → Has boxes x.1
counted n [] x h = absurd h
counted n (b ∷ boxes) x (inl e) = inl (ap (λ (y : ℕ × BoxKey). y.1) e)
counted n (b ∷ boxes) x (inr h) = inr (counted (n + 1) boxes x h)

is_counted : (n : ℕ) (boxes : List BoxKey) (b : BoxKey) → Has boxes b → (k : ℕ) × Has (counted_from n boxes) (k, b)
is_counted n [] b h = absurd h
is_counted n (c ∷ boxes) b (inl e) = (n, inl (ap (λ b. (let y : ℕ × BoxKey = (n, b) in y)) e))
is_counted n (c ∷ boxes) b (inr h) = let it = is_counted (n + 1) boxes b h in (it.0, inr it.1)

module _ (db : Trees) (c : Catalogue) (units : RepresentsUnits db c.forest) (at : RepresentsHousings db c.forest c.containers) (container : ℕ) where
  rows : List HousingRow
  rows = filter (λ (h : HousingRow). nat_eq container h.container) at.housings

  theirs : List Unit
  theirs = filter (names_container c.containers container) units.units

  cells : (u : Unit) → Has (nodes c.forest) u
      → IsPermutation (numbered_containers c.containers u.values) (housing_places u.id at.housings)
  cells u h = all_has (λ u. IsPermutation (numbered_containers c.containers u.values) (housing_places u.id at.housings)) (nodes c.forest) u at.are h

  -- a row of the container is of a unit that names it
  named : (h : HousingRow) → Has rows h → (u : Unit) × Has theirs u × (h.unit ≡ u.id)
  unfolding rows theirs cell_of
  named h there =
      let row = has_filtered (λ (h : HousingRow). nat_eq container h.container) at.housings h there in
      let of = some_has (has_id h.unit) (nodes c.forest) (all_has (λ (h : HousingRow). has (has_id h.unit) c.forest ≡ true) at.housings h at.others row.0) in
      let u = of.0 in
      let same : h.unit ≡ u.id = eqb-true h.unit u.id of.2 in
      let mine : Has (filter (λ (h : HousingRow). nat_eq u.id h.unit) at.housings) h =
      has_kept (λ (h : HousingRow). nat_eq u.id h.unit) at.housings h row.0 (eq-eqb u.id h.unit (sym same)) in
      let cell = had (numbered_containers c.containers u.values) (housing_places u.id at.housings) (cells u of.1) (cell_of h) (has_map cell_of (filter (λ (h : HousingRow). nat_eq u.id h.unit) at.housings) h mine) in
      let box = map_has (λ (box : ℕ × BoxKey). (let y : ℕ × ℕ = (box.0, box_number c.containers box.1) in y)) (counted_from 1 u.values.boxes) (cell_of h) cell in
      let number : container ≡ box_number c.containers box.0.1 =
      eqb-true container h.container row.1 ∙ ap (λ (y : ℕ × ℕ). y.1) box.2 in
      let passes = some_from (λ b. nat_eq container (box_number c.containers b)) u.values.boxes box.0.1 (counted 1 u.values.boxes box.0 box.1) (eq-eqb container (box_number c.containers box.0.1) number) in
      (u, has_kept (names_container c.containers container) units.units u (had units.units (nodes c.forest) (IsPermutation-sym (nodes c.forest) units.units units.are) u of.1) passes, same)

  -- and each that names it has a row
  naming : (u : Unit) → Has theirs u → (h : HousingRow) × Has rows h × (h.unit ≡ u.id)
  unfolding rows theirs cell_of
  naming u there =
      let mine = has_filtered (names_container c.containers container) units.units u there in
      let node = had (nodes c.forest) units.units units.are u mine.0 in
      let box = some_has (λ b. nat_eq container (box_number c.containers b)) u.values.boxes mine.1 in
      let place = is_counted 1 u.values.boxes box.0 box.1 in
      let cell : ℕ × ℕ = (place.0, box_number c.containers box.0) in
      let told = has_map (λ (box : ℕ × BoxKey). (let y : ℕ × ℕ = (box.0, box_number c.containers box.1) in y)) (counted_from 1 u.values.boxes) (place.0, box.0) place.1 in
      let kept = had (housing_places u.id at.housings) (numbered_containers c.containers u.values) (IsPermutation-sym (numbered_containers c.containers u.values) (housing_places u.id at.housings) (cells u node)) cell told in
      let row = map_has cell_of (filter (λ (h : HousingRow). nat_eq u.id h.unit) at.housings) cell kept in
      let own = has_filtered (λ (h : HousingRow). nat_eq u.id h.unit) at.housings row.0 row.1 in
      let number : container ≡ row.0.container =
      eqb-true container (box_number c.containers box.0) box.2 ∙ ap (λ (y : ℕ × ℕ). y.1) row.2 in
      (row.0, has_kept (λ (h : HousingRow). nat_eq container h.container) at.housings row.0 own.0 (eq-eqb container row.0.container number), sym (eqb-true u.id row.0.unit own.1))

  -- the units of the rows in their order, each once, are those that name the container
  pub attached_ids : (ys : List HousingRow) (ids once : List ℕ)
      → IsPermutation (filter (λ (h : HousingRow). nat_eq container h.container) at.housings) ys
      → IsSorted by_housing ys → ids ≡ map (λ (h : HousingRow). h.unit) ys → once ≡ dedup eqb ids
      → once ≡ map (λ (u : Unit). u.id) (filter (names_container c.containers container) units.units)
  unfolding rows theirs by_size
  attached_ids ys ids once perm sorted is squeezed =
      let unit = λ (h : HousingRow). h.unit in
      let id = λ (u : Unit). u.id in
      let list = map unit ys in
      let up : Rises by_size (dedup eqb list) =
      rise_by_pairs (dedup eqb list) (AllPairs-from_increasing (dedup eqb list) (IsStrictlyIncreasing-dedup list (units_sorted ys sorted))) in
      let risen : Rises by_number theirs =
      ascending-filter (λ a b. by_number a b ≡ Less) (names_container c.containers container) units.units units.rise in
      let up' : Rises by_size (map id theirs) = ascending-map (λ a b. by_size a b ≡ Less) id theirs risen in
      let there : (n : ℕ) → Has (dedup eqb list) n → Has (map id theirs) n = λ n h.
      let h' = has_from_in list n (In-from_Contains list n (Contains-from_dedup eqb list n (Contains-from_In (dedup eqb list) n (in_from_has (dedup eqb list) n h)))) in
      let row = map_has unit ys n h' in
      let u = named row.0 (had rows ys perm row.0 row.1) in
      subst (Has (map id theirs)) (sym u.2 ∙ sym row.2) (has_map id theirs u.0 u.1) in
      let back : (n : ℕ) → Has (map id theirs) n → Has (dedup eqb list) n = λ n h.
      let u = map_has id theirs n h in
      let row = naming u.0 u.1 in
      let mine = has_map unit ys row.0 (had ys rows (IsPermutation-sym rows ys perm) row.0 row.1) in
      let h' = subst (Has list) (row.2 ∙ sym u.2) mine in
      has_from_in (dedup eqb list) n (In-from_Contains (dedup eqb list) n (Contains-dedup_nat list n (Contains-from_In list n (in_from_has list n h')))) in
      squeezed ∙ ap (dedup eqb) is ∙ same_rising by_size by_size_total (dedup eqb list) (map id theirs) up up' there back

  pub attached : (ys : List HousingRow) (ids once : List ℕ)
      → IsPermutation (filter (λ (h : HousingRow). nat_eq container h.container) at.housings) ys
      → IsSorted by_housing ys → ids ≡ map (λ (h : HousingRow). h.unit) ys → once ≡ dedup eqb ids
      → (us : List Unit) × AreAttached c container us × (once ≡ map (λ (u : Unit). u.id) us)
  attached ys ids once perm sorted is squeezed = (
    filter (names_container c.containers container) units.units,
    record {
      are = IsPermutation-filter (names_container c.containers container) (nodes c.forest) units.units units.are;
      rise = ascending-filter (λ a b. by_number a b ≡ Less) (names_container c.containers container) units.units units.rise;
    },
    attached_ids ys ids once perm sorted is squeezed,
  )
