-- Where the rows say that containers are, also after one of them went to another place.
use Rattle.std.proofs.Common.{◌≡◌, ℕ, zero, suc, ◌+◌, ◌<◌, ◌≤◌, pos, true, false, not, nat_eq, List, [], ◌∷◌, length}
use Rattle.std.proofs.Common.{filter, Some, None, Equal, Greater, inl, inr, refl, sym, ap, ◌∙◌, arith}
use Rattle.std.specs.Ordering.{int_cmp}
use Rattle.desk_core.specs.declared.reader.Place.TheVariants.{Desk}
use Rattle.office_tables.proofs.numbered.Counted.{below_less}
use Rattle.desk_store.specs.Holdings.{placed_at, put_down}
use Rattle.office_core.proofs.Counts.{numbered_from_one}
use Rattle.office_core.specs.State.{State}
use Rattle.refinement.proofs.Common.{AllByRecursion, HoldingRow, Out, Place, Shelf, cases_eq, cons_option, filter_map}
use Rattle.refinement.proofs.Common.{holding_row, holding_rows, is_container, nat_lt, nat_tests, numbered_within}
use Rattle.refinement.proofs.Common.{numbers_from, numbers_to, put_here, put_there, same_number, to_from, update_at}

-- the rows of these containers
abbrev pub rows_of : (ℕ → Place) → List ℕ → List HoldingRow
rows_of place cs = filter_map (λ c. holding_row c (place c)) cs

-- ---- one row more, in its place

pub greater : (m n : ℕ) → n < m → int_cmp (pos m) (pos n) ≡ Greater
greater m n h =
    let e : nat_lt m n ≡ false = grind (arith, nat_tests, h) in
    let k : nat_lt n m ≡ true = grind (arith, nat_tests, h) in
    rw (e, k) refl

equal : (n : ℕ) → int_cmp (pos n) (pos n) ≡ Equal
equal n = let e : nat_lt n n ≡ false = grind (arith, nat_tests) in rw e refl

different : (m n : ℕ) → m < n → nat_eq n m ≡ false
different m n h = grind (arith, nat_tests, h)

lower : (m n : ℕ) → m < n → nat_eq m n ≡ false
lower m n h = grind (arith, nat_tests, h)

AreAbove : ℕ → List HoldingRow → Type 0
AreAbove c rows = AllByRecursion (λ (h : HoldingRow). c < h.container) rows

all_kept : (c : ℕ) (rows : List HoldingRow) → AreAbove c rows
    → filter (λ (h : HoldingRow). not (nat_eq c h.container)) rows ≡ rows
unfolding AreAbove
all_kept c [] h = refl
all_kept c (x ∷ xs) h = rw (lower c x.container h.0) (ap (λ l. x ∷ l) (all_kept c xs h.1))

put_first : (new : HoldingRow) (rows : List HoldingRow) → AreAbove new.container rows → put_down new rows ≡ new ∷ rows
unfolding AreAbove
put_first new [] h = refl
put_first new (x ∷ xs) h = rw (greater x.container new.container h.0) refl

put_over : (new old : HoldingRow) (rows : List HoldingRow) → old.container ≡ new.container
    → put_down new (old ∷ rows) ≡ new ∷ rows
put_over new old rows same = rw (ap (λ k. int_cmp (pos k) (pos new.container)) same ∙ equal new.container) refl

put_behind : (new old : HoldingRow) (rows : List HoldingRow) → old.container < new.container
    → put_down new (old ∷ rows) ≡ old ∷ put_down new rows
put_behind new old rows less = rw (below_less old.container new.container less) refl

clear_own : (c : ℕ) (old : HoldingRow) (rows : List HoldingRow) → old.container ≡ c → AreAbove c rows
    → filter (λ (h : HoldingRow). not (nat_eq c h.container)) (old ∷ rows) ≡ rows
clear_own c old rows same above = let e : nat_eq c old.container ≡ true = ap (nat_eq c) same ∙ same_number c in rw e (all_kept c rows above)

clear_behind : (c : ℕ) (old : HoldingRow) (rows : List HoldingRow) → old.container < c
    → filter (λ (h : HoldingRow). not (nat_eq c h.container)) (old ∷ rows) ≡ old ∷ filter (λ (h : HoldingRow). not (nat_eq c h.container)) rows
clear_behind c old rows less = rw (different old.container c less) refl

-- its own row is replaced
placed_here : (c : ℕ) (p old : Place) (rows : List HoldingRow) → AreAbove c rows
    → placed_at c p (cons_option (holding_row c old) rows) ≡ cons_option (holding_row c p) rows
placed_here c Shelf Shelf rows above = all_kept c rows above
placed_here c Shelf Desk rows above = clear_own c (record { container = c; place = 1; held_by = None }) rows refl above
placed_here c Shelf (Out o) rows above =
    clear_own c (record { container = c; place = 2; held_by = Some o }) rows refl above
placed_here c Desk Shelf rows above = put_first (record { container = c; place = 1; held_by = None }) rows above
placed_here c Desk Desk rows above =
    put_over (record { container = c; place = 1; held_by = None }) (record { container = c; place = 1; held_by = None }) rows refl
placed_here c Desk (Out o) rows above =
    put_over (record { container = c; place = 1; held_by = None }) (record { container = c; place = 2; held_by = Some o }) rows refl
placed_here c (Out p) Shelf rows above = put_first (record { container = c; place = 2; held_by = Some p }) rows above
placed_here c (Out p) Desk rows above =
    put_over (record { container = c; place = 2; held_by = Some p }) (record { container = c; place = 1; held_by = None }) rows refl
placed_here c (Out p) (Out o) rows above =
    put_over (record { container = c; place = 2; held_by = Some p }) (record { container = c; place = 2; held_by = Some o }) rows refl

-- a row of a lesser number stays where it is
behind_row : (c : ℕ) (p : Place) (old : HoldingRow) (rows : List HoldingRow) → old.container < c
    → placed_at c p (old ∷ rows) ≡ old ∷ placed_at c p rows
behind_row c Shelf old rows less = clear_behind c old rows less
behind_row c Desk old rows less = put_behind (record { container = c; place = 1; held_by = None }) old rows less
behind_row c (Out o) old rows less = put_behind (record { container = c; place = 2; held_by = Some o }) old rows less

placed_behind : (c m : ℕ) (p old : Place) (rows : List HoldingRow) → m < c
    → placed_at c p (cons_option (holding_row m old) rows) ≡ cons_option (holding_row m old) (placed_at c p rows)
placed_behind c m p Shelf rows less = refl
placed_behind c m p Desk rows less = behind_row c p (record { container = m; place = 1; held_by = None }) rows less
placed_behind c m p (Out o) rows less = behind_row c p (record { container = m; place = 2; held_by = Some o }) rows less

-- ---- the rows of a state

above_first : (c m : ℕ) (old : Place) (rows : List HoldingRow) → c < m → AreAbove c rows
    → AreAbove c (cons_option (holding_row m old) rows)
unfolding AreAbove
above_first c m Shelf rows less above = above
above_first c m Desk rows less above = (less, above)
above_first c m (Out o) rows less above = (less, above)

rows_above : (place : ℕ → Place) (c m k : ℕ) → c < m → AreAbove c (rows_of place (numbers_from m k))
unfolding AreAbove
rows_above place c m zero less = tt
rows_above place c m (suc k) less =
    above_first c m (place m) (rows_of place (numbers_from (suc m) k)) less (rows_above place c (suc m) k (omega (arith, less)))

others_stay : (place : ℕ → Place) (p : Place) (c m k : ℕ) → c < m
    → rows_of (update_at place c p) (numbers_from m k) ≡ rows_of place (numbers_from m k)
others_stay place p c m zero less = refl
others_stay place p c m (suc k) less =
    ap (λ (q : Place). cons_option (holding_row m q) (rows_of (update_at place c p) (numbers_from (suc m) k))) (put_there place c p m (λ e. omega (arith, e, less)))
    ∙ ap (cons_option (holding_row m (place m))) (others_stay place p c (suc m) k (omega (arith, less)))

placed_from : (place : ℕ → Place) (p : Place) (c m k : ℕ) → m ≤ c → c < m + k
    → rows_of (update_at place c p) (numbers_from m k) ≡ placed_at c p (rows_of place (numbers_from m k))
placed_from place p c m zero low high = absurd (omega (arith, low, high))
placed_from place p c m (suc k) low high =
    elim (cases_eq m c) [
      | inl same ↦
          let rest = rows_of place (numbers_from (suc m) k) in
          ap (λ (q : Place). cons_option (holding_row m q) (rows_of (update_at place c p) (numbers_from (suc m) k))) (ap (update_at place c p) same ∙ put_here place c p)
          ∙ ap (cons_option (holding_row m p)) (others_stay place p c (suc m) k (omega (arith, same)))
          ∙ sym (ap (λ n. placed_at n p (cons_option (holding_row m (place m)) rest)) (sym same) ∙ placed_here m p (place m) rest (rows_above place m (suc m) k (omega arith)))
      | inr other ↦
          let less : m < c = omega (arith, low, other) in
          ap (λ (q : Place). cons_option (holding_row m q) (rows_of (update_at place c p) (numbers_from (suc m) k))) (put_there place c p m other)
          ∙ ap (cons_option (holding_row m (place m))) (placed_from place p c (suc m) k less (omega (arith, high)))
          ∙ sym (placed_behind c m p (place m) (rows_of place (numbers_from (suc m) k)) less)
    ]

pub placed_to : (place : ℕ → Place) (p : Place) (c n : ℕ) → 1 ≤ c → c ≤ n
    → rows_of (update_at place c p) (numbers_to n) ≡ placed_at c p (rows_of place (numbers_to n))
placed_to place p c n low high =
    ap (rows_of (update_at place c p)) (to_from n)
    ∙ placed_from place p c 1 n low (omega (arith, high))
    ∙ sym (ap (λ cs. placed_at c p (rows_of place cs)) (to_from n))

-- a container goes to another place
pub place_after : (s : State) (c : ℕ) (p : Place) → is_container s c ≡ true
    → rows_of (update_at s.place c p) (numbers_to (length s.catalogue.containers)) ≡ placed_at c p (holding_rows s)
place_after s c p known =
    placed_to s.place p c (length s.catalogue.containers) (numbered_from_one s.catalogue.containers c known) (numbered_within s.catalogue.containers c known)
