-- What lies in the units that rows say is in those rows.
use Rattle.std.proofs.Common.{◌≡◌, ℕ, zero, suc, ◌+◌, ◌<◌, ◌≤◌, true, List, [], ◌∷◌, ◌++◌, length, Option, Some, None}
use Rattle.std.proofs.Common.{refl, sym, ap, ◌∙◌, subst, nat_eq, arith, map}
use Rattle.std.specs.List.{IsDistinct}
use Rattle.state_encoding.proofs.Common.{BoxKey, Forest, HousingRow, In, IsDistinct-IsPermutation, IsPermutation}
use Rattle.state_encoding.proofs.Common.{IsPermutation-map, IsPermutation-sym, IsPermutation-trans, OfficeRows, Unit}
use Rattle.state_encoding.proofs.Common.{and_from, box_at, box_from, box_number, boxes_from, boxes_from_rows}
use Rattle.state_encoding.proofs.Common.{cons_option, distinct, each, eqb-true, eqb_comm, fills, filter, find, flat_map}
use Rattle.state_encoding.proofs.Common.{flat_map-cons, flat_map-map, housing_row, housings_of, is_housed_alike}
use Rattle.state_encoding.proofs.Common.{is_same_box, is_same_place, length-map, list_all, list_any, nodes, nodes-each}
use Rattle.state_encoding.proofs.Common.{nth, numbers_from, option_to_list, rows_from, unit_from_rows}
use Rattle.state_encoding.proofs.RowsByNumber.{in_map, in_filter, flat_map_same, flat_map_reordered, grouped, found_by}
use Rattle.state_encoding.proofs.RowsByNumber.{one_kept, in_numbers, numbers_length, numbers_apart, own_apart}
use Rattle.state_encoding.proofs.told.ToldUnits.{said_id, said_boxes}
use Rattle.state_encoding.proofs.NumberedRows.{numbered_in}
use Rattle.state_encoding.proofs.told.ToldContainers.{back_to_number, one_numbered, is_there, stay_distinct}
use Rattle.state_encoding.proofs.told.ToldContainers.{numbers_tell}

abbrev at_place : ℕ → List HousingRow → Option HousingRow
at_place m rows = find (λ (row : HousingRow). nat_eq row.ord m) rows

-- the row at a place of a unit, and its container
record IsHoused (boxes : List BoxKey) (u : ℕ) (rows : List HousingRow) (m : ℕ) : Type 0 where
  pub row : HousingRow
  pub found : at_place m rows ≡ Some row
  pub unit : row.unit ≡ u
  pub ord : row.ord ≡ m
  pub box : BoxKey
  pub is : nth boxes row.container ≡ Some box
  pub number : box_number boxes box ≡ row.container

-- what a good row of a housing is
pub record IsGoodHousing (boxes : List BoxKey) (units : List ℕ) (rows : List HousingRow) (row : HousingRow) : Type 0 where
  pub unit : In row.unit units
  pub container : (1 ≤ row.container) × (row.container ≤ length boxes)
  pub ord : (1 ≤ row.ord) × (row.ord ≤ length (housings_of row.unit rows))

module _ (boxes : List BoxKey) (rows : List HousingRow) (units : List ℕ) (b : IsDistinct is_same_box boxes) (p : IsDistinct is_same_place rows) (h : (row : HousingRow) → In row rows → IsGoodHousing boxes units rows row) where
  own : (u : ℕ) (row : HousingRow) → In row (housings_of u rows) → In row rows × (row.unit ≡ u)
  own u row i = let r = in_filter (λ (row : HousingRow). nat_eq row.unit u) rows row i in (r.0, eqb-true row.unit u r.1)

  -- each place of a unit is one of as many as it has containers
  ranged : (u : ℕ) (row : HousingRow) → In row (housings_of u rows)
      → (1 ≤ row.ord) × (row.ord ≤ length (housings_of u rows))
  ranged u row i = let o = own u row i in subst (λ v. (1 ≤ row.ord) × (row.ord ≤ length (housings_of v rows))) o.1 (h row o.0).ord

  places_apart : (u : ℕ) → IsDistinct nat_eq (map (λ (row : HousingRow). row.ord) (housings_of u rows))
  places_apart u = own_apart (λ (row : HousingRow). row.unit) (λ (row : HousingRow). row.ord) u rows p

  in_range : (u : ℕ) (row : HousingRow) → In row (housings_of u rows)
      → In row.ord (numbers_from 1 (length (housings_of u rows)))
  in_range u row i = let r = ranged u row i in in_numbers 1 row.ord (length (housings_of u rows)) r.0 (let l = r.1 in omega (arith, l))

  housed : (u m : ℕ) → 1 ≤ m → m < 1 + length (housings_of u rows) → IsHoused boxes u (housings_of u rows) m
  housed u m l k =
      let mine : List HousingRow = housings_of u rows in
      let ords : List ℕ = map (λ (row : HousingRow). row.ord) mine in
      let count : length ords ≡ length mine = length-map mine (λ (row : HousingRow). row.ord) in
      let span : length (numbers_from 1 (length mine)) ≡ length mine = numbers_length 1 (length mine) in
      let full = fills ords (numbers_from 1 (length mine)) (places_apart u)
      (λ n i. let r = in_map (λ (row : HousingRow). row.ord) mine n i in subst (λ x. In x (numbers_from 1 (length mine))) r.is (in_range u r.it r.there)) (omega (arith, count, span)) in
      let r = in_map (λ (row : HousingRow). row.ord) mine m (full.0 m (in_numbers 1 m (length mine) l k)) in
      let o = own u r.it r.there in
      let g = h r.it o.0 in
      let n = one_numbered boxes r.it.container g.container.0 g.container.1 in
      record {
        row = r.it;
        found = subst (λ x. at_place x mine ≡ Some r.it) r.is (found_by (λ (row : HousingRow). row.ord) mine r.it (places_apart u) r.there);
        unit = o.1;
        ord = r.is;
        box = n.0;
        is = n.1;
        number = back_to_number boxes r.it.container n.0 b n.1;
      }

  shown_from : (u n more : ℕ) → 1 ≤ n → n + more ≤ 1 + length (housings_of u rows)
      → rows_from (housing_row boxes u) n (boxes_from boxes (housings_of u rows) n more) ≡ flat_map (λ m. filter (λ (row : HousingRow). nat_eq row.ord m) (housings_of u rows)) (numbers_from n more)
  shown_from u n zero l k = refl
  shown_from u n (suc more) l k =
      let mine : List HousingRow = housings_of u rows in
      let i = housed u n l (omega (arith, k)) in
      let rest : List BoxKey = boxes_from boxes mine (suc n) more in
      let row : HousingRow = i.row in
      let first : rows_from (housing_row boxes u) n (boxes_from boxes mine n (suc more)) ≡ housing_row boxes u n i.box ∷ rows_from (housing_row boxes u) (suc n) rest =
      ap (λ r. rows_from (housing_row boxes u) n (cons_option (box_at boxes r) rest)) i.found
      ∙ ap (λ r. rows_from (housing_row boxes u) n (cons_option r rest)) i.is in
      let same : housing_row boxes u n i.box ≡ row =
      ap (λ c. record { unit = u; ord = n; container = c }) i.number
      ∙ (ap (λ v. record { unit = v; ord = n; container = row.container }) (sym i.unit)
      ∙ ap (λ o. record { unit = row.unit; ord = o; container = row.container }) (sym i.ord)) in
      let kept : filter (λ (row : HousingRow). nat_eq row.ord n) mine ≡ row ∷ [] =
      one_kept (λ (row : HousingRow). row.ord) n mine (places_apart u) ∙ ap option_to_list i.found in
      first
      ∙ (ap (λ r. r ∷ rows_from (housing_row boxes u) (suc n) rest) same
      ∙ (ap (λ l. row ∷ l) (shown_from u (suc n) more (omega arith) (omega (arith, k)))
      ∙ (ap (λ f. f ++ flat_map (λ m. filter (λ (row : HousingRow). nat_eq row.ord m) mine) (numbers_from (suc n) more)) (sym kept)
      ∙ sym (flat_map-cons (λ m. filter (λ (row : HousingRow). nat_eq row.ord m) mine) n (numbers_from (suc n) more)))))

  -- the rows of the containers that are said of one unit are its rows
  pub own_housings : (u : ℕ)
      → IsPermutation (rows_from (housing_row boxes u) 1 (boxes_from_rows boxes rows u)) (housings_of u rows)
  own_housings u =
      let mine : List HousingRow = housings_of u rows in
      subst (λ l. IsPermutation l mine) (sym (shown_from u 1 (length mine) (omega arith) (omega arith)))
      (grouped (λ (row : HousingRow). row.ord) (numbers_from 1 (length mine)) mine (numbers_apart 1 (length mine)) (λ row i. in_range u row i))

  -- and they are all different
  pub said_apart : IsDistinct is_housed_alike rows → (u : ℕ)
      → distinct (boxes_from_rows boxes rows u) ≡ boxes_from_rows boxes rows u
  said_apart once u =
      let mine : List HousingRow = housings_of u rows in
      let bs : List BoxKey = boxes_from_rows boxes rows u in
      let container : HousingRow → ℕ = λ row. row.container in
      let shown : List HousingRow = rows_from (housing_row boxes u) 1 bs in
      let d : IsDistinct nat_eq (map container mine) =
      own_apart (λ (row : HousingRow). row.unit) container u rows once in
      let e : IsDistinct nat_eq (map container shown) =
      IsDistinct-IsPermutation nat_eq eqb_comm (map container mine) (map container shown) (IsPermutation-map container mine shown (IsPermutation-sym shown mine (own_housings u))) d in
      stay_distinct bs (numbers_tell (box_number boxes) bs (subst (IsDistinct nat_eq) (numbers u 1 bs) e))
    where
      numbers : (u n : ℕ) (bs : List BoxKey)
          → map (λ (row : HousingRow). row.container) (rows_from (housing_row boxes u) n bs) ≡ map (box_number boxes) bs
      numbers u n [] = refl
      numbers u n (b ∷ bs) = ap (λ l. box_number boxes b ∷ l) (numbers u (suc n) bs)

-- each container that is said of a unit is there
pub said_known : (boxes : List BoxKey) (mine : List HousingRow) (n more : ℕ)
    → list_all (λ box. list_any (is_same_box box) boxes) (boxes_from boxes mine n more) ≡ true
said_known boxes mine n zero = refl
said_known boxes mine n (suc more) = at (at_place n mine) (said_known boxes mine (suc n) more)
  where
    passes : (r : Option BoxKey) → ((b : BoxKey) → r ≡ Some b → In b boxes) → (rest : List BoxKey)
        → list_all (λ box. list_any (is_same_box box) boxes) rest ≡ true
        → list_all (λ box. list_any (is_same_box box) boxes) (cons_option r rest) ≡ true
    passes None f rest h = h
    passes (Some b) f rest h =
        and_from (list_any (is_same_box b) boxes) (list_all (λ box. list_any (is_same_box box) boxes) rest) (is_there boxes b (f b refl)) h

    at : (r : Option HousingRow)
        → list_all (λ box. list_any (is_same_box box) boxes) (boxes_from boxes mine (suc n) more) ≡ true
        → list_all (λ box. list_any (is_same_box box) boxes) (cons_option (box_at boxes r) (boxes_from boxes mine (suc n) more)) ≡ true
    at None h = h
    at (Some row) h = passes (nth boxes row.container) (λ b e. numbered_in boxes row.container b e) (boxes_from boxes mine (suc n) more) h

-- ---- of all units

pub housings_are_said : (t : OfficeRows) (f : Forest ℕ) → IsDistinct nat_eq (nodes f)
    → IsDistinct is_same_box (map box_from t.catalogue.containers) → IsDistinct is_same_place t.catalogue.housings
    → ((row : HousingRow) → In row t.catalogue.housings → IsGoodHousing (map box_from t.catalogue.containers) (nodes f) t.catalogue.housings row)
    → IsPermutation (flat_map (λ (unit : Unit). rows_from (housing_row (map box_from t.catalogue.containers) unit.id) 1 unit.values.boxes) (nodes (each (unit_from_rows t.catalogue) f))) t.catalogue.housings
housings_are_said t f a b p h =
    let boxes : List BoxKey = map box_from t.catalogue.containers in
    let shown : Unit → List HousingRow = λ unit. rows_from (housing_row boxes unit.id) 1 unit.values.boxes in
    let of : ℕ → List HousingRow = λ u. rows_from (housing_row boxes u) 1 (boxes_from_rows boxes t.catalogue.housings u) in
    let same : flat_map shown (nodes (each (unit_from_rows t.catalogue) f)) ≡ flat_map of (nodes f) =
    ap (flat_map shown) (nodes-each (unit_from_rows t.catalogue) f)
    ∙ (flat_map-map shown (unit_from_rows t.catalogue) (nodes f)
    ∙ flat_map_same (λ u. shown (unit_from_rows t.catalogue u)) of (nodes f) (λ u i. ap (λ n. rows_from (housing_row boxes n) 1 (unit_from_rows t.catalogue u).values.boxes) (said_id t u) ∙ ap (rows_from (housing_row boxes u) 1) (said_boxes t u))) in
    subst (λ l. IsPermutation l t.catalogue.housings) (sym same)
    (IsPermutation-trans (flat_map of (nodes f)) (flat_map (λ u. housings_of u t.catalogue.housings) (nodes f)) t.catalogue.housings
    (flat_map_reordered of (λ u. housings_of u t.catalogue.housings) (nodes f) (λ u i. own_housings boxes t.catalogue.housings (nodes f) b p h u))
    (grouped (λ (row : HousingRow). row.unit) (nodes f) t.catalogue.housings a (λ row i. (h row i).unit)))
