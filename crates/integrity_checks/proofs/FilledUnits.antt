-- The rows of each unit stand together where they come by their units: no place is above the number of the unit's rows.
use Rattle.std.proofs.Common.{inl, inr, ◌≡◌, ℕ, suc, ◌+◌, ◌<◌, ◌≤◌, List, [], ◌∷◌, length, Bool, true, false, cond}
use Rattle.std.proofs.Common.{◌&&◌, nat_eq, nat_le, refl, sym, ap, ap₂, ◌∙◌, arith}
use Rattle.integrity_checks.proofs.Common.{AllByRecursion, HousingRow, Up, all_weaker, and-true, and_assoc, and_from}
use Rattle.integrity_checks.proofs.Common.{and_parts, are_filled, both_ways, cases_lt, eq-eqb, eqb-false, eqb-true}
use Rattle.integrity_checks.proofs.Common.{eqb_comm, higher, housings_of, le-leb, leb-false, leb-true, list_all, ne_eqb}
use Rattle.integrity_checks.proofs.Tested.{all_same}

abbrev pub unit_of : HousingRow → ℕ
unit_of row = row.unit

abbrev pub rows_of : ℕ → List HousingRow → ℕ
rows_of u rows = length (housings_of u rows)

pub higher_is : (a b n : ℕ) → nat_le (higher a b) n ≡ (nat_le a n && nat_le b n)
higher_is a b n = at (nat_le a b) refl
  where
    at : (c : Bool) → nat_le a b ≡ c → nat_le (cond c b a) n ≡ (nat_le a n && nat_le b n)
    at true h = let low = leb-true a b h in both_ways (nat_le b n) (nat_le a n && nat_le b n)
        (λ k. let le = leb-true b n k in and_from (nat_le a n) (nat_le b n) (le-leb a n (omega (arith, low, le))) k)
        (λ k. (and_parts (nat_le a n) (nat_le b n) k).1)
    at false h = let low = leb-false a b h in both_ways (nat_le a n) (nat_le a n && nat_le b n)
        (λ k. let le = leb-true a n k in and_from (nat_le a n) (nat_le b n) k (le-leb b n (omega (arith, low, le))))
        (λ k. (and_parts (nat_le a n) (nat_le b n) k).0)

one_of : (u : ℕ) (row : HousingRow) (rows : List HousingRow)
    → rows_of u (row ∷ rows) ≡ cond (nat_eq row.unit u) 1 0 + rows_of u rows
one_of u row rows = elim (nat_eq row.unit u) as (λ b. length (cond b (row ∷ housings_of u rows) (housings_of u rows)) ≡ cond b 1 0 + rows_of u rows) [ true ↦ omega arith | false ↦ omega arith ]

none_of : (u : ℕ) (rows : List HousingRow) → AllByRecursion (λ (row : HousingRow). u < row.unit) rows
    → rows_of u rows ≡ 0
none_of u [] h = refl
none_of u (row ∷ rows) h =
    let other : nat_eq row.unit u ≡ false = ne_eqb row.unit u (λ e. omega (arith, e, h.0)) in
    one_of u row rows ∙ ap (λ b. cond b 1 0 + rows_of u rows) other ∙ none_left (none_of u rows h.1)
  where
    none_left : rows_of u rows ≡ 0 → 0 + rows_of u rows ≡ 0
    none_left h = omega (arith, h)

-- so many of the unit stood before these rows
abbrev fits : ℕ → ℕ → List HousingRow → HousingRow → Bool
fits u k rows row = nat_le row.ord (cond (nat_eq row.unit u) k 0 + rows_of row.unit rows)

one_higher : (b : Bool) (k n : ℕ) → cond b (suc k) 0 + n ≡ cond b k 0 + (cond b 1 0 + n)
one_higher true k n = omega arith
one_higher false k n = omega arith

same_unit : (u k : ℕ) (row : HousingRow) (rows : List HousingRow) → row.unit ≡ u → (other : HousingRow)
    → fits u (suc k) rows other ≡ fits u k (row ∷ rows) other
same_unit u k row rows is other = ap (nat_le other.ord)
    (one_higher (nat_eq other.unit u) k (rows_of other.unit rows)
    ∙ ap (λ b. cond (nat_eq other.unit u) k 0 + (cond b 1 0 + rows_of other.unit rows)) (eqb_comm other.unit u ∙ ap (λ n. nat_eq n other.unit) (sym is))
    ∙ ap (λ n. cond (nat_eq other.unit u) k 0 + n) (sym (one_of other.unit row rows)))

next_unit : (u k : ℕ) (row : HousingRow) (rows : List HousingRow) → u < row.unit → (other : HousingRow)
    → row.unit ≤ other.unit → fits row.unit 1 rows other ≡ fits u k (row ∷ rows) other
next_unit u k row rows past other after =
    let not_it : nat_eq other.unit u ≡ false = ne_eqb other.unit u (λ e. omega (arith, e, past, after)) in
    ap (nat_le other.ord)
    (ap (λ b. cond b 1 0 + rows_of other.unit rows) (eqb_comm other.unit row.unit) ∙ sym (one_of other.unit row rows) ∙ none_more (rows_of other.unit (row ∷ rows))
    ∙ ap (λ b. cond b k 0 + rows_of other.unit (row ∷ rows)) (sym not_it))
  where
    none_more : (n : ℕ) → n ≡ 0 + n
    none_more n = omega arith

filled_from : (u k m : ℕ) (rows : List HousingRow) → AllByRecursion (λ (row : HousingRow). u ≤ row.unit) rows
    → Up unit_of rows
    → are_filled u k m rows ≡ (nat_le m (k + rows_of u rows) && list_all (fits u k rows) rows)
filled_from u k m [] low up = ap (nat_le m) (let same : k ≡ k + 0 = omega arith in same) ∙ sym (and-true (nat_le m (k + 0)))
filled_from u k m (row ∷ rows) low up =
    at (filled_from u (suc k) (higher m row.ord) rows low.1 up.1) (filled_from row.unit 1 row.ord rows up.0 up.1) (nat_eq row.unit u) refl
  where
    at : are_filled u (suc k) (higher m row.ord) rows ≡ (nat_le (higher m row.ord) (suc k + rows_of u rows) && list_all (fits u (suc k) rows) rows)
        → are_filled row.unit 1 row.ord rows ≡ (nat_le row.ord (1 + rows_of row.unit rows) && list_all (fits row.unit 1 rows) rows)
        → (b : Bool) → nat_eq row.unit u ≡ b
        → cond b (are_filled u (suc k) (higher m row.ord) rows) (nat_le m k && are_filled row.unit 1 row.ord rows)
        ≡ (nat_le m (k + rows_of u (row ∷ rows)) && (fits u k (row ∷ rows) row && list_all (fits u k (row ∷ rows)) rows))
    at same next true h =
        let is = eqb-true row.unit u h in
        let all : suc k + rows_of u rows ≡ k + rows_of u (row ∷ rows) = let one = one_of u row rows ∙ ap (λ b. cond b 1 0 + rows_of u rows) h in omega (arith, one) in
        let here : suc k + rows_of u rows ≡ cond (nat_eq row.unit u) k 0 + rows_of row.unit (row ∷ rows) =
        all ∙ ap (λ n. k + rows_of n (row ∷ rows)) (sym is)
        ∙ ap (λ b. cond b k 0 + rows_of row.unit (row ∷ rows)) (sym h) in
        same
        ∙ ap₂ ◌&&◌ (higher_is m row.ord (suc k + rows_of u rows) ∙ ap₂ ◌&&◌ (ap (nat_le m) all) (ap (nat_le row.ord) here))
        (all_same (fits u (suc k) rows) (fits u k (row ∷ rows)) rows (all_weaker (λ (other : HousingRow). u ≤ other.unit) (λ other. fits u (suc k) rows other ≡ fits u k (row ∷ rows) other) (λ other _. same_unit u k row rows is other) rows low.1))
        ∙ and_assoc (nat_le m (k + rows_of u (row ∷ rows))) (fits u k (row ∷ rows) row) (list_all (fits u k (row ∷ rows)) rows)
    at same next false h =
        let not_it = eqb-false row.unit u h in
        let past : u < row.unit = above (low.0) not_it in
        let others = none_of u rows (all_weaker (λ (other : HousingRow). row.unit ≤ other.unit) (λ (other : HousingRow). u < other.unit) (λ other le. omega (arith, past, le)) rows up.0) in
        let none : k ≡ k + rows_of u (row ∷ rows) = let one = one_of u row rows ∙ ap (λ b. cond b 1 0 + rows_of u rows) h in omega (arith, one, others) in
        let here : 1 + rows_of row.unit rows ≡ cond (nat_eq row.unit u) k 0 + rows_of row.unit (row ∷ rows) =
        ap (λ b. cond b 1 0 + rows_of row.unit rows) (sym (itself row.unit)) ∙ sym (one_of row.unit row rows) ∙ (let same_n : rows_of row.unit (row ∷ rows) ≡ 0 + rows_of row.unit (row ∷ rows) = omega arith in same_n)
        ∙ ap (λ b. cond b k 0 + rows_of row.unit (row ∷ rows)) (sym h) in
        ap₂ ◌&&◌ (ap (nat_le m) none) (next ∙ ap₂ ◌&&◌ (ap (nat_le row.ord) here)
        (all_same (fits row.unit 1 rows) (fits u k (row ∷ rows)) rows (all_weaker (λ (other : HousingRow). row.unit ≤ other.unit) (λ other. fits row.unit 1 rows other ≡ fits u k (row ∷ rows) other) (λ other le. next_unit u k row rows past other le) rows up.0)))
      where
        above : u ≤ row.unit → (row.unit ≡ u → ⊥) → u < row.unit
        above le ne = elim (cases_lt u row.unit) [
          | inl lt ↦ lt
          | inr ge ↦ absurd (ne (omega (arith, le, ge)))
        ]

        itself : (n : ℕ) → nat_eq n n ≡ true
        itself n = eq-eqb n n refl

any_unit : (rows : List HousingRow) → AllByRecursion (λ (row : HousingRow). 0 ≤ row.unit) rows
any_unit [] = tt
any_unit (row ∷ rows) = (omega arith, any_unit rows)

none_before : (rows : List HousingRow) (row : HousingRow) → fits 0 0 rows row ≡ nat_le row.ord (rows_of row.unit rows)
none_before rows row = ap (nat_le row.ord) (elim (nat_eq row.unit 0) as (λ b. cond b 0 0 + rows_of row.unit rows ≡ rows_of row.unit rows) [ true ↦ omega arith | false ↦ omega arith ])

each_before : (all rows : List HousingRow)
    → AllByRecursion (λ row. fits 0 0 all row ≡ nat_le row.ord (rows_of row.unit all)) rows
each_before all [] = tt
each_before all (row ∷ rows) = (none_before all row, each_before all rows)

pub filled_judged : (rows : List HousingRow) → Up unit_of rows
    → are_filled 0 0 0 rows ≡ list_all (λ (row : HousingRow). nat_le row.ord (rows_of row.unit rows)) rows
filled_judged rows up =
    filled_from 0 0 0 rows (any_unit rows) up ∙ ap (λ b. b && list_all (fits 0 0 rows) rows) (le-leb 0 (0 + rows_of 0 rows) (omega arith))
    ∙ all_same (fits 0 0 rows) (λ (row : HousingRow). nat_le row.ord (rows_of row.unit rows)) rows (each_before rows rows)
