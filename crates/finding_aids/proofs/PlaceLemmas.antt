-- Places of rows: what the code looks up is what the rows above say.
use Rattle.std.proofs.Common.{◌≡◌, ℕ, zero, suc, ◌+◌, ◌<◌, ◌≤◌, true, false, nat_eq, nat_lt, List, [], ◌∷◌, ◌++◌}
use Rattle.std.proofs.Common.{length, get_or, take, drop, reverse, Option, Some, None, refl, sym, ap, ◌∙◌, subst, arith}
use Rattle.std.proofs.Common.{append_assoc, add-one, inl, inr}
use Rattle.std.proofs.lemmas.List.Elements.{All-push}
use Rattle.std.specs.Option.{option_to_list}
use Rattle.std.specs.Str.{bytes_eq}
use Rattle.finding_aids.specs.declared.previews.places.RowPosition.{RowPosition}
use Rattle.finding_aids.proofs.Common.{AllPlaced, Bytes, Empty, IsPlaced, IsPlacing, Row, append-nil, cases_Bool}
use Rattle.finding_aids.proofs.Common.{cause_at, depth_below, drop_more, eq-eqb, eqb-false, eqb-true, faults}
use Rattle.finding_aids.proofs.Common.{faults_below, has_legacy, if◌then◌else◌, index_of, le-ltb, length-append}
use Rattle.finding_aids.proofs.Common.{length-reverse, lt-ltb, most_deep, ne_eqb, option_and_then, option_map, place_at}
use Rattle.finding_aids.proofs.Common.{place_below, reverse-append, slice_get, take-append-drop, take_more}

-- the place with this index, in a list that has the last place first
abbrev pub from_last : List RowPosition → ℕ → Option RowPosition
from_last [] j = None
from_last (place ∷ places) j = if nat_eq j (length places) then Some place else from_last places j

-- ---- as many places as rows

pub as_many : (rows : List Row) (places : List RowPosition) → AllPlaced rows places → length places ≡ length rows
as_many [] [] h = refl
as_many [] (place ∷ places) h = absurd h
as_many (row ∷ rows) [] h = absurd h
as_many (row ∷ rows) (place ∷ places) h = ap suc (as_many rows places h.1)

-- ---- indices

pub index_of_within : (legacy : Bytes) (above : List Row) (j : ℕ) → index_of legacy above ≡ Some j → j < length above
index_of_within legacy [] j h = absurd (cc)
index_of_within legacy (row ∷ above) j h =
    elim (cases_Bool (has_legacy legacy row)) [
      | inl same ↦ let e : Some (length above) ≡ Some j = rw same at h in let f : length above ≡ j = cc in omega arith
      | inr other ↦ let e : index_of legacy above ≡ Some j = rw other at h in omega (arith, index_of_within legacy above j e)
    ]

-- ---- depths

-- the depth below the row that is named, by its place
abbrev pub depth_by : List RowPosition → Option ℕ → Option ℕ
depth_by places index = option_and_then (λ j. option_map (λ (place : RowPosition). suc place.depth) (from_last places j)) index

pub depth_below-named : (legacy : Bytes) (above : List Row) (places : List RowPosition) → AllPlaced above places
    → depth_below above (Some legacy) ≡ depth_by places (index_of legacy above)
depth_below-named legacy [] [] h = refl
depth_below-named legacy [] (place ∷ places) h = absurd h
depth_below-named legacy (row ∷ above) [] h = absurd h
depth_below-named legacy (row ∷ above) (place ∷ places) h =
    elim (cases_Bool (has_legacy legacy row)) [
      | inl same ↦
          let here : nat_eq (length above) (length places) ≡ true = eq-eqb _ _ (sym (as_many above places h.1)) in
          rw (same, here, h.0.depth) refl
      | inr other ↦ rw other (depth_below-named legacy above places h.1 ∙ below (index_of legacy above) refl)
    ]
  where
    below : (o : Option ℕ) → index_of legacy above ≡ o → depth_by places o ≡ depth_by (place ∷ places) o
    below None e = refl
    below (Some j) e =
        let within = index_of_within legacy above j e in
        let differs : nat_eq j (length places) ≡ false =
        ne_eqb j (length places) (λ equal. absurd (omega (arith, as_many above places h.1))) in
        rw differs refl

-- ---- lists that have the last first

pub reverse-push : {X : Type 0} → (xs : List X) (x : X) → reverse (xs ++ x ∷ []) ≡ x ∷ reverse xs
reverse-push xs x = reverse-append xs (x ∷ [])

from_last-first : (places : List RowPosition) (place : RowPosition) → from_last (places ++ place ∷ []) 0 ≡ Some place
from_last-first [] place = refl
from_last-first (next ∷ places) place =
    let other : nat_eq 0 (length (places ++ place ∷ [])) ≡ false =
    ne_eqb 0 (length (places ++ place ∷ [])) (λ equal. absurd (omega (arith, length-append places (place ∷ [])))) in
    rw other (from_last-first places place)

from_last-later : (places : List RowPosition) (place : RowPosition) (j : ℕ)
    → from_last (places ++ place ∷ []) (suc j) ≡ from_last places j
from_last-later [] place j = let other : nat_eq (suc j) 0 ≡ false = ne_eqb (suc j) 0 (λ equal. absurd (omega arith)) in rw other refl
from_last-later (next ∷ places) place j =
    elim (cases_Bool (nat_eq j (length places))) [
      | inl same ↦
          let equal : j ≡ length places = eqb-true j (length places) same in
          let here : nat_eq (suc j) (length (places ++ place ∷ [])) ≡ true =
          eq-eqb (suc j) (length (places ++ place ∷ [])) (omega (arith, length-append places (place ∷ []))) in
          rw (here, same) refl
      | inr other ↦
          let differs : nat_eq (suc j) (length (places ++ place ∷ [])) ≡ false = ne_eqb (suc j) (length (places ++ place ∷ []))
          (λ equal. eqb-false j (length places) other (omega (arith, length-append places (place ∷ [])))) in
          rw (differs, other) (from_last-later places place j)
    ]

pub from_last-reverse : (places : List RowPosition) (j : ℕ) → from_last (reverse places) j ≡ slice_get places j
from_last-reverse [] j = refl
from_last-reverse (place ∷ places) zero =
    ap (λ (xs : List RowPosition). from_last xs 0) (reverse-append (place ∷ []) places) ∙ from_last-first (reverse places) place
from_last-reverse (place ∷ places) (suc j) =
    ap (λ (xs : List RowPosition). from_last xs (suc j)) (reverse-append (place ∷ []) places) ∙ (from_last-later (reverse places) place j ∙ from_last-reverse places j)

-- ---- what the code finds

depth_found : (o : Option RowPosition) (j : ℕ)
    → option_map (λ (p : RowPosition). p.depth) (option_map (λ (above : RowPosition). record { parent = Some j; depth = above.depth + 1 }) o) ≡ option_map (λ (p : RowPosition). suc p.depth) o
depth_found None j = refl
depth_found (Some above) j = ap Some (add-one above.depth)

pub place_of-depth : (known : Bytes → Option ℕ) (above : List Row) (places : List RowPosition) (parent : Option Bytes)
    → ((legacy : Bytes) → known legacy ≡ index_of legacy above) → AllPlaced above (reverse places)
    → option_map (λ (p : RowPosition). p.depth) (place_below known places parent) ≡ depth_below above parent
place_of-depth known above places None knows placed = refl
place_of-depth known above places (Some legacy) knows placed =
    ap (λ (o : Option ℕ). option_map (λ (p : RowPosition). p.depth) (option_and_then (place_at places) o)) (knows legacy)
    ∙ (by_index (index_of legacy above) ∙ sym (depth_below-named legacy above (reverse places) placed))
  where
    by_index : (o : Option ℕ)
        → option_map (λ (p : RowPosition). p.depth) (option_and_then (place_at places) o) ≡ depth_by (reverse places) o
    by_index None = refl
    by_index (Some j) =
        depth_found (slice_get places j) j
        ∙ ap (option_map (λ (p : RowPosition). suc p.depth)) (sym (from_last-reverse places j))

pub place_of-parent : (known : Bytes → Option ℕ) (above : List Row) (places : List RowPosition) (parent : Option Bytes) (place : RowPosition)
    → ((legacy : Bytes) → known legacy ≡ index_of legacy above) → place_below known places parent ≡ Some place
    → place.parent ≡ option_and_then (λ legacy. index_of legacy above) parent
place_of-parent known above places None place knows found =
    ap (λ (o : Option RowPosition). option_and_then (λ (p : RowPosition). p.parent) o) (sym found)
place_of-parent known above places (Some legacy) place knows found =
    by_index (index_of legacy above) (ap (λ (o : Option ℕ). option_and_then (place_at places) o) (sym (knows legacy)) ∙ found)
  where
    by_place : (j : ℕ) (o : Option RowPosition)
        → option_map (λ (p : RowPosition). record { parent = Some j; depth = p.depth + 1 }) o ≡ Some place
        → place.parent ≡ Some j
    by_place j None e = absurd (cc)
    by_place j (Some p) e = ap (λ (o : Option RowPosition). option_and_then (λ (p : RowPosition). p.parent) o) (sym e)

    by_index : (o : Option ℕ) → option_and_then (place_at places) o ≡ Some place → place.parent ≡ o
    by_index None e = absurd (cc)
    by_index (Some j) e = by_place j (slice_get places j) e

-- ---- faults of rows, one after another

pub faults_below-append : (above xs ys : List Row)
    → faults_below Empty [] above (xs ++ ys) ≡ faults_below Empty [] above xs ++ faults_below Empty [] (reverse xs ++ above) ys
faults_below-append above [] ys = refl
faults_below-append above (x ∷ xs) ys =
    let here = option_to_list (option_map (λ cause. (x.row, cause)) (cause_at (depth_below above x.parent))) in
    ap (λ (rest : List (ℕ × ℕ)). here ++ rest) (faults_below-append (x ∷ above) xs ys)
    ∙ (sym (append_assoc here (faults_below Empty [] (x ∷ above) xs) (faults_below Empty [] (reverse xs ++ x ∷ above) ys))
    ∙ ap (λ (more : List Row). (here ++ faults_below Empty [] (x ∷ above) xs) ++ faults_below Empty [] more ys) (turned x xs above))
  where
    turned : (x : Row) (xs above : List Row) → reverse xs ++ x ∷ above ≡ reverse (x ∷ xs) ++ above
    turned x xs above = sym (ap (λ (r : List Row). r ++ above) (reverse-append (x ∷ []) xs) ∙ append_assoc (reverse xs) (x ∷ []) above)

-- the faults of rows that have none, and then of one more and those behind it
faults-at : (xs : List Row) (x : Row) (ys : List Row) → faults xs ≡ []
    → faults (xs ++ x ∷ ys) ≡ option_to_list (option_map (λ cause. (x.row, cause)) (cause_at (depth_below (reverse xs) x.parent))) ++ faults_below Empty [] (x ∷ reverse xs) ys
faults-at xs x ys none =
    faults_below-append [] xs (x ∷ ys)
    ∙ (ap (λ (before : List (ℕ × ℕ)). before ++ faults_below Empty [] (reverse xs ++ []) (x ∷ ys)) none
    ∙ ap (λ (above : List Row). faults_below Empty [] above (x ∷ ys)) (append-nil (reverse xs)))

-- ---- one more row

pub placing_more : (xs : List Row) (x : Row) (known more : Bytes → Option ℕ) (places : List RowPosition) (place : RowPosition)
    → IsPlacing xs known places → place_below known places x.parent ≡ Some place → place.depth ≤ most_deep
    → ((legacy : Bytes) → more legacy ≡ (if bytes_eq legacy x.legacy then Some (length xs) else known legacy))
    → IsPlacing (xs ++ x ∷ []) more (places ++ place ∷ [])
placing_more xs x known more places place h found shallow grows =
    let depth : depth_below (reverse xs) x.parent ≡ Some place.depth =
    sym (place_of-depth known (reverse xs) places x.parent h.knows h.placed) ∙ ap (option_map (λ (p : RowPosition). p.depth)) found in
    let fits : nat_lt most_deep place.depth ≡ false = le-ltb most_deep place.depth shallow in
    let is : IsPlaced (reverse xs) x place = record {
      parent = place_of-parent known (reverse xs) places x.parent place h.knows found;
      depth = depth;
      shallow = shallow;
    } in
    let rows : reverse (xs ++ x ∷ []) ≡ x ∷ reverse xs = reverse-push xs x in
    let turned : reverse (places ++ place ∷ []) ≡ place ∷ reverse places = reverse-push places place in
    record {
      none_bad = faults-at xs x [] h.none_bad ∙ rw (depth, fits) refl;
      knows = λ legacy. grows legacy
          ∙ (ap (λ (n : ℕ). if bytes_eq legacy x.legacy then Some n else known legacy) (sym (length-reverse xs))
          ∙ (ap (λ (o : Option ℕ). if bytes_eq legacy x.legacy then Some (length (reverse xs)) else o) (h.knows legacy)
          ∙ ap (index_of legacy) (sym rows)));
      placed = subst (λ (r : List Row). AllPlaced r (reverse (places ++ place ∷ []))) (sym rows)
          (subst (λ (p : List RowPosition). AllPlaced (x ∷ reverse xs) p) (sym turned) (is, h.placed));
      shallow = All-push (λ (p : RowPosition). p.depth ≤ most_deep) places place h.shallow shallow;
    }

-- ---- a row that has no place

pub fault_missing : (xs : List Row) (x : Row) (ys : List Row) (known : Bytes → Option ℕ) (places : List RowPosition)
    → IsPlacing xs known places → place_below known places x.parent ≡ None
    → (later : List (ℕ × ℕ)) × (faults (xs ++ x ∷ ys) ≡ (x.row, 11) ∷ later)
fault_missing xs x ys known places h missing =
    let depth : depth_below (reverse xs) x.parent ≡ None =
    sym (place_of-depth known (reverse xs) places x.parent h.knows h.placed) ∙ ap (option_map (λ (p : RowPosition). p.depth)) missing in
    (faults_below Empty [] (x ∷ reverse xs) ys, faults-at xs x ys h.none_bad ∙ rw depth refl)

pub fault_deep : (xs : List Row) (x : Row) (ys : List Row) (known : Bytes → Option ℕ) (places : List RowPosition) (place : RowPosition)
    → IsPlacing xs known places → place_below known places x.parent ≡ Some place → 64 < place.depth
    → (later : List (ℕ × ℕ)) × (faults (xs ++ x ∷ ys) ≡ (x.row, 12) ∷ later)
fault_deep xs x ys known places place h found deep =
    let depth : depth_below (reverse xs) x.parent ≡ Some place.depth =
    sym (place_of-depth known (reverse xs) places x.parent h.knows h.placed) ∙ ap (option_map (λ (p : RowPosition). p.depth)) found in
    let over : nat_lt most_deep place.depth ≡ true = lt-ltb most_deep place.depth deep in
    (faults_below Empty [] (x ∷ reverse xs) ys, faults-at xs x ys h.none_bad ∙ rw (depth, over) refl)

-- ---- the beginning

-- ---- a row of the code, in the list

pub rows_around : (rows : List Row) (i : ℕ) (x : Row) → i < length rows → x ≡ get_or rows i x
    → rows ≡ take i rows ++ x ∷ drop (i + 1) rows
rows_around rows i x within is =
    sym (take-append-drop i rows) ∙ ap (λ (behind : List Row). take i rows ++ behind) (drop_more rows i x within ∙ ap (λ (y : Row). y ∷ drop (i + 1) rows) (sym is))

pub rows_to : (rows : List Row) (i : ℕ) (x : Row) → i < length rows → x ≡ get_or rows i x
    → take (i + 1) rows ≡ take i rows ++ x ∷ []
rows_to rows i x within is = take_more rows i x within ∙ ap (λ (y : Row). take i rows ++ y ∷ []) (sym is)
