-- The rows of a sound state meet the keys of the desk's tables.
use Rattle.std.proofs.Common.{◌≡◌, ◌≢◌, ℕ, zero, suc, ◌<◌, List, [], ◌∷◌, ◌++◌, length, Option, Some, None, refl, sym}
use Rattle.std.proofs.Common.{ap, ◌∙◌, subst, inl, inr, ◌⊎◌, arith}
use Rattle.std.specs.Prelude.{map, filter_map, nat_eq}
use Rattle.desk_core.specs.declared.reader.Place.TheVariants.{Desk}
use Rattle.state_encoding.proofs.Common.{AllByRecursion, AreInOrder, ByContainer, ByUnit, HoldingRow, IsAscending}
use Rattle.state_encoding.proofs.Common.{IsSoundDesk, Line, MeetsDeskKeys, OrderRow, Out, Permit, PermitRow, Place}
use Rattle.state_encoding.proofs.Common.{ReaderRow, Run, RunLineRow, RunRow, SeatRow, Shelf, SitOnce, StandsIn, State}
use Rattle.state_encoding.proofs.Common.{Version, ascending-push, cons_option, containers, false≢true, flat_map}
use Rattle.state_encoding.proofs.Common.{flat_map-cons, holding_row, is_seat_of, lines_from, numbers_to, order_row}
use Rattle.state_encoding.proofs.Common.{permit_row, reader_row, run_line_row, run_row, same_number, seat_rows_from}
use Rattle.state_encoding.proofs.Common.{tables}
use Rattle.state_encoding.proofs.Members.{all_in, all_of_in, none_in, in_append, in_filter_map, in_map, in_flat_map}
use Rattle.state_encoding.proofs.Members.{in_numbers}
use Rattle.state_encoding.proofs.NumberedRows.{in_order, rows_are_numbered, stands_at}
use Rattle.state_encoding.proofs.ReadersPass.{in_seats}
use Rattle.state_encoding.proofs.RunsPass.{in_lines_from}

pub order-append : {R : Type 0} (Before : R → R → Type 0) (xs ys : List R) → AreInOrder Before xs → AreInOrder Before ys
    → ((x y : R) → StandsIn x xs → StandsIn y ys → Before x y) → AreInOrder Before (xs ++ ys)
order-append Before [] ys h k f = k
order-append Before (x ∷ xs) ys h k f = (
  all_of_in (Before x) (xs ++ ys) (λ y m.
      elim (in_append xs ys y m) [
        | inl l ↦ all_in (Before x) xs y h.0 l
        | inr l ↦ f x y (inl refl) l
      ]),
  order-append Before xs ys h.1 k (λ a b l m. f a b (inr l) m),
)

pub ascending_to : (n : ℕ) → IsAscending (numbers_to n)
ascending_to zero = tt
ascending_to (suc n) =
    ascending-push (numbers_to n) (suc n) (ascending_to n) (all_of_in (λ m. m < suc n) (numbers_to n) (λ m k. let u = (in_numbers n m k).1 in omega (arith, u)))

-- ---- seats

seats_order : (n : ℕ) (seats : List (Option ℕ))
    → AreInOrder (λ (a b : SeatRow). a.seat < b.seat) (seat_rows_from n seats)
seats_order n [] = tt
seats_order n (None ∷ seats) = seats_order (suc n) seats
seats_order n (Some t ∷ seats) =
    (all_of_in (λ (b : SeatRow). n < b.seat) (seat_rows_from (suc n) seats) (λ x k. (in_seats (suc n) seats x k).0), seats_order (suc n) seats)

sitters_order : (n : ℕ) (seats : List (Option ℕ)) → SitOnce seats
    → AreInOrder (λ (a b : SeatRow). a.ticket ≢ b.ticket) (seat_rows_from n seats)
sitters_order n [] h = tt
sitters_order n (None ∷ seats) h = sitters_order (suc n) seats h
sitters_order n (Some t ∷ seats) h = (
  all_of_in (λ (b : SeatRow). t ≢ b.ticket) (seat_rows_from (suc n) seats) (λ x k e.
      false≢true (sym (none_in (is_seat_of t) seats (Some x.ticket) h.0 (in_seats (suc n) seats x k).2) ∙ (ap (nat_eq t) (sym e) ∙ same_number t))),
  sitters_order (suc n) seats h.1,
)

-- ---- places

holding_number : (c : ℕ) (p : Place) (r : HoldingRow) → holding_row c p ≡ Some r → r.container ≡ c
holding_number c Shelf r e = absurd (cc)
holding_number c Desk r e = let q : HoldingRow = record { container = c; place = 1; held_by = None } in let same : q ≡ r = cc in sym (ap (λ (row : HoldingRow). row.container) same)
holding_number c (Out o) r e = let q : HoldingRow = record { container = c; place = 2; held_by = Some o } in let same : q ≡ r = cc in sym (ap (λ (row : HoldingRow). row.container) same)

pub in_holdings : (place : ℕ → Place) (ns : List ℕ) (r : HoldingRow)
    → StandsIn r (filter_map (λ c. holding_row c (place c)) ns)
    → StandsIn r.container ns × (holding_row r.container (place r.container) ≡ Some r)
in_holdings place ns r k =
    let i = in_filter_map (λ c. holding_row c (place c)) ns r k in
    let e = holding_number i.0 (place i.0) r i.2 in
    (subst (λ c. StandsIn c ns) (sym e) i.1, subst (λ c. holding_row c (place c) ≡ Some r) (sym e) i.2)

holdings_order : (place : ℕ → Place) (ns : List ℕ) → IsAscending ns
    → AreInOrder (λ (a b : HoldingRow). a.container < b.container) (filter_map (λ c. holding_row c (place c)) ns)
holdings_order place [] h = tt
holdings_order place (n ∷ ns) h = at (holding_row n (place n)) refl (holdings_order place ns h.1)
  where
    at : (r : Option HoldingRow) → holding_row n (place n) ≡ r
        → AreInOrder (λ (a b : HoldingRow). a.container < b.container) (filter_map (λ c. holding_row c (place c)) ns)
        → AreInOrder (λ (a b : HoldingRow). a.container < b.container) (cons_option r (filter_map (λ c. holding_row c (place c)) ns))
    at None e f = f
    at (Some r) e f = (
      all_of_in (λ (b : HoldingRow). r.container < b.container) (filter_map (λ c. holding_row c (place c)) ns) (λ x k.
          let a = holding_number n (place n) r e in
          let l = all_in (λ m. n < m) ns x.container h.0 (in_holdings place ns x k).0 in
          omega (arith, a, l)),
      f,
    )

-- ---- lines of runs

abbrev pub LineBefore : RunLineRow → RunLineRow → Type 0
LineBefore a b = (a.run < b.run) ⊎ ((a.run ≡ b.run) × (a.container < b.container))

own_lines_order : (n : ℕ) (lines : List Line) → ByContainer lines → AreInOrder LineBefore (map (run_line_row n) lines)
own_lines_order n [] h = tt
own_lines_order n (l ∷ ls) h = (
  all_of_in (LineBefore (run_line_row n l)) (map (run_line_row n) ls) (λ x k.
      let i = in_map (run_line_row n) ls x k in
      let less = all_in (λ (other : Line). l.container < other.container) ls i.0 h.0 i.1 in
      let c = ap (λ (row : RunLineRow). row.container) i.2 in
      inr (sym (ap (λ (row : RunLineRow). row.run) i.2), omega (arith, less, c))),
  own_lines_order n ls h.1,
)

lines_order : (n : ℕ) (runs : List Run) → AllByRecursion (λ (run : Run). ByContainer run.lines) runs
    → AreInOrder LineBefore (lines_from n runs)
lines_order n [] h = tt
lines_order n (run ∷ runs) h =
    order-append LineBefore (map (run_line_row n) run.lines) (lines_from (suc n) runs) (own_lines_order n run.lines h.0) (lines_order (suc n) runs h.1) (λ x y k l.
    let i = in_map (run_line_row n) run.lines x k in
    let j = in_lines_from (suc n) runs y l in
    let a = ap (λ (row : RunLineRow). row.run) i.2 in
    let b = ap (λ (row : RunLineRow). row.run) j.5 in
    inl (omega (arith, a, b)))

-- ---- permits

abbrev pub PermitBefore : PermitRow → PermitRow → Type 0
PermitBefore a b = (a.ticket < b.ticket) ⊎ ((a.ticket ≡ b.ticket) × (a.unit < b.unit))

own_permits_order : (t : ℕ) (permits : List Permit) → ByUnit permits
    → AreInOrder PermitBefore (map (permit_row t) permits)
own_permits_order t [] h = tt
own_permits_order t (p ∷ ps) h = (
  all_of_in (PermitBefore (permit_row t p)) (map (permit_row t) ps) (λ x k.
      let i = in_map (permit_row t) ps x k in
      let l = all_in (λ (other : Permit). p.unit < other.unit) ps i.0 h.0 i.1 in
      let u = ap (λ (row : PermitRow). row.unit) i.2 in
      inr (sym (ap (λ (row : PermitRow). row.ticket) i.2), omega (arith, l, u))),
  own_permits_order t ps h.1,
)

permits_order : (permits : ℕ → List Permit) (ts : List ℕ) → IsAscending ts → ((t : ℕ) → ByUnit (permits t))
    → AreInOrder PermitBefore (flat_map (λ t. map (permit_row t) (permits t)) ts)
permits_order permits [] h u = tt
permits_order permits (t ∷ ts) h u =
    let rows : ℕ → List PermitRow = λ t. map (permit_row t) (permits t) in
    subst (AreInOrder PermitBefore) (sym (flat_map-cons rows t ts))
    (order-append PermitBefore (rows t) (flat_map rows ts) (own_permits_order t (permits t) (u t)) (permits_order permits ts h.1 u) (λ x y k l.
    let i = in_map (permit_row t) (permits t) x k in
    let j = in_flat_map rows ts y l in
    let m = in_map (permit_row j.0) (permits j.0) y j.2 in
    let a = ap (λ (row : PermitRow). row.ticket) i.2 in
    let b = ap (λ (row : PermitRow). row.ticket) m.2 in
    let less = all_in (λ n. t < n) ts j.0 h.0 j.1 in
    inl (omega (arith, a, b, less))))

-- ---- all of them

by_container : (s : State) → IsSoundDesk s → AllByRecursion (λ (run : Run). ByContainer run.lines) s.runs
by_container s g = all_of_in (λ (run : Run). ByContainer run.lines) s.runs (λ run k. let i = stands_at s.runs run k in (g.runs.each i.0 run i.1).by_container)

pub meets_keys : (version : Version) (s : State) → IsSoundDesk s → MeetsDeskKeys (tables version s).desk
meets_keys version s g =
    let t = tables version s in
    record {
      readers = in_order (λ (row : ReaderRow). row.ticket) 1 t.desk.readers (rows_are_numbered reader_row (λ row. row.ticket) (λ n x. refl) 1 s.readers);
      seats = seats_order 1 s.seats;
      sitters = sitters_order 1 s.seats g.seats.once;
      orders = in_order (λ (row : OrderRow). row.id) 1 t.desk.orders (rows_are_numbered (order_row s) (λ row. row.id) (λ n x. refl) 1 s.orders);
      holdings = holdings_order s.place (containers s) (ascending_to (length s.catalogue.containers));
      runs = in_order (λ (row : RunRow). row.id) 1 t.desk.runs (rows_are_numbered run_row (λ row. row.id) (λ n x. refl) 1 s.runs);
      run_lines = lines_order 1 s.runs (by_container s g);
      permits = permits_order s.permits (numbers_to (length s.readers)) (ascending_to (length s.readers)) g.permits.by_unit;
    }
