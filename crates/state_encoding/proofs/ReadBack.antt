-- Seats, runs and permits are what their rows say.
use Rattle.std.proofs.Common.{◌≡◌, ℕ, zero, suc, ◌<◌, ◌≤◌, Bool, true, false, cond, ◌||◌, List, [], ◌∷◌, ◌++◌, length}
use Rattle.std.proofs.Common.{Option, Some, None, refl, sym, ap, ◌∙◌, inl, inr, arith, append_assoc}
use Rattle.std.proofs.lemmas.Grind.{flat_map-append}
use Rattle.std.specs.Prelude.{nat_eq, map}
use Rattle.office_core.specs.Words.{stands}
use Rattle.state_encoding.proofs.Common.{AllByRecursion, AreGoodPermits, IsSoundDesk, Line, Permit, PermitRow, Run}
use Rattle.state_encoding.proofs.Common.{RunLineRow, SaysAllButUnits, SeatRow, State, Version, all_append, append-nil}
use Rattle.state_encoding.proofs.Common.{box_from, cases_Bool, cases_eq, container_row, eq-eqb, false≢true, filter}
use Rattle.state_encoding.proofs.Common.{filter-append, find, flat_map, flat_map-cons, fun_ext, is_some, line_from}
use Rattle.state_encoding.proofs.Common.{lines_from, map-append, none_to, nth, numbered_from_one, numbered_within}
use Rattle.state_encoding.proofs.Common.{numbers_to, option_map, other_number, permit_row, permit_rows}
use Rattle.state_encoding.proofs.Common.{permits_from_rows, rows_from, run_from, run_line_row, run_row, same_number}
use Rattle.state_encoding.proofs.Common.{seat_rows_from, seats_from_rows, stands-push}
use Rattle.state_encoding.proofs.TableLaws.{rows_back, reads_back}

-- ---- seats

abbrev sits_at : ℕ → SeatRow → Bool
sits_at n row = nat_eq row.seat n

from_on : (n : ℕ) (seats : List (Option ℕ)) → AllByRecursion (λ row. n ≤ row.seat) (seat_rows_from n seats)
from_on n [] = tt
from_on n (None ∷ seats) = further (seat_rows_from (suc n) seats) (from_on (suc n) seats)
  where
    further : (rows : List SeatRow) → AllByRecursion (λ row. suc n ≤ row.seat) rows
        → AllByRecursion (λ row. n ≤ row.seat) rows
    further [] h = tt
    further (row ∷ rows) h = (let l = h.0 in omega (arith, l), further rows h.1)
from_on n (Some t ∷ seats) = (omega arith, further (seat_rows_from (suc n) seats) (from_on (suc n) seats))
  where
    further : (rows : List SeatRow) → AllByRecursion (λ row. suc n ≤ row.seat) rows
        → AllByRecursion (λ row. n ≤ row.seat) rows
    further [] h = tt
    further (row ∷ rows) h = (let l = h.0 in omega (arith, l), further rows h.1)

nobody_at : (n : ℕ) (rows : List SeatRow) → AllByRecursion (λ row. suc n ≤ row.seat) rows → find (sits_at n) rows ≡ None
nobody_at n [] h = refl
nobody_at n (row ∷ rows) h =
    let l = h.0 in
    ap (λ b. cond b (Some row) (find (sits_at n) rows)) (other_number row.seat n (λ e. omega (arith, l, e))) ∙ nobody_at n rows h.1

lower_row : (more m : ℕ) (row : SeatRow) (rows : List SeatRow) → row.seat < m
    → seats_from_rows more m (row ∷ rows) ≡ seats_from_rows more m rows
lower_row zero m row rows h = refl
lower_row (suc more) m row rows h =
    ap (λ b. option_map (λ (r : SeatRow). r.ticket) (cond b (Some row) (find (sits_at m) rows)) ∷ seats_from_rows more (suc m) (row ∷ rows)) (other_number row.seat m (λ e. omega (arith, h, e)))
    ∙ ap (λ l. option_map (λ (r : SeatRow). r.ticket) (find (sits_at m) rows) ∷ l) (lower_row more (suc m) row rows (omega (arith, h)))

pub seats_back : (n : ℕ) (seats : List (Option ℕ)) → seats_from_rows (length seats) n (seat_rows_from n seats) ≡ seats
seats_back n [] = refl
seats_back n (None ∷ seats) =
    ap (λ r. option_map (λ (row : SeatRow). row.ticket) r ∷ seats_from_rows (length seats) (suc n) (seat_rows_from (suc n) seats)) (nobody_at n (seat_rows_from (suc n) seats) (from_on (suc n) seats))
    ∙ ap (λ l. None ∷ l) (seats_back (suc n) seats)
seats_back n (Some t ∷ seats) =
    ap (λ b. option_map (λ (row : SeatRow). row.ticket) (cond b (Some (record { seat = n; ticket = t })) (find (sits_at n) (seat_rows_from (suc n) seats))) ∷ seats_from_rows (length seats) (suc n) (seat_rows_from n (Some t ∷ seats))) (same_number n)
    ∙ ap (λ l. Some t ∷ l) (lower_row (length seats) (suc n) (record { seat = n; ticket = t }) (seat_rows_from (suc n) seats) (omega arith) ∙ seats_back (suc n) seats)

-- ---- runs

abbrev of_run : ℕ → RunLineRow → Bool
of_run n row = nat_eq row.run n

no_lines : (n : ℕ) (rows : List RunLineRow) → AllByRecursion (λ row. nat_eq row.run n ≡ false) rows
    → filter (of_run n) rows ≡ []
no_lines n [] h = refl
no_lines n (row ∷ rows) h =
    ap (λ b. cond b (row ∷ filter (of_run n) rows) (filter (of_run n) rows)) h.0 ∙ no_lines n rows h.1

own_lines : (n : ℕ) (ls : List Line) → map line_from (filter (of_run n) (map (run_line_row n) ls)) ≡ ls
own_lines n [] = refl
own_lines n (l ∷ ls) =
    ap (λ b. map line_from (cond b (run_line_row n l ∷ filter (of_run n) (map (run_line_row n) ls)) (filter (of_run n) (map (run_line_row n) ls)))) (same_number n)
    ∙ ap (λ k. l ∷ k) (own_lines n ls)

all_of_run : (n m : ℕ) (ls : List Line) → nat_eq n m ≡ false
    → AllByRecursion (λ row. nat_eq row.run m ≡ false) (map (run_line_row n) ls)
all_of_run n m [] h = tt
all_of_run n m (l ∷ ls) h = (h, all_of_run n m ls h)

later_lines : (n m : ℕ) (runs : List Run) → m < n → AllByRecursion (λ row. nat_eq row.run m ≡ false) (lines_from n runs)
later_lines n m [] h = tt
later_lines n m (run ∷ runs) h =
    all_append (λ row. nat_eq row.run m ≡ false) (map (run_line_row n) run.lines) (lines_from (suc n) runs) (all_of_run n m run.lines (other_number n m (λ e. omega (arith, h, e)))) (later_lines (suc n) m runs (omega (arith, h)))

-- the lines before those of run n are of lesser runs
Before : ℕ → List RunLineRow → Type 0
Before n front = (m : ℕ) → n ≤ m → AllByRecursion (λ row. nat_eq row.run m ≡ false) front

runs_from : (front : List RunLineRow) (n : ℕ) (runs : List Run) → Before n front
    → map (run_from (front ++ lines_from n runs)) (rows_from run_row n runs) ≡ runs
unfolding Before
runs_from front n [] h = refl
runs_from front n (run ∷ runs) h =
    let mine : List RunLineRow = map (run_line_row n) run.lines in
    let rest : List RunLineRow = lines_from (suc n) runs in
    let all : List RunLineRow = front ++ (mine ++ rest) in
    let a : filter (of_run n) all ≡ filter (of_run n) mine =
    filter-append (of_run n) front (mine ++ rest)
    ∙ (ap (λ l. l ++ filter (of_run n) (mine ++ rest)) (no_lines n front (h n (omega arith))) ∙ (filter-append (of_run n) mine rest ∙ (ap (λ l. filter (of_run n) mine ++ l) (no_lines n rest (later_lines (suc n) n runs (omega arith))) ∙ nothing_more (filter (of_run n) mine)))) in
    ap (λ ls. record { day = run.day; lines = map line_from ls } ∷ map (run_from all) (rows_from run_row (suc n) runs)) a
    ∙ (ap (λ ls. record { day = run.day; lines = ls } ∷ map (run_from all) (rows_from run_row (suc n) runs)) (own_lines n run.lines)
    ∙ ap (λ l. run ∷ l) (ap (λ l. map (run_from l) (rows_from run_row (suc n) runs)) (sym (append_assoc front mine rest)) ∙ runs_from (front ++ mine) (suc n) runs (λ m k. all_append (λ row. nat_eq row.run m ≡ false) front mine (h m (omega (arith, k))) (all_of_run n m run.lines (other_number n m (λ e. omega (arith, k, e)))))))
  where
    nothing_more : {X : Type 0} (xs : List X) → xs ++ [] ≡ xs
    nothing_more [] = refl
    nothing_more (x ∷ xs) = ap (λ l. x ∷ l) (nothing_more xs)

pub runs_back : (runs : List Run) → map (run_from (lines_from 1 runs)) (rows_from run_row 1 runs) ≡ runs
unfolding Before
runs_back runs = runs_from [] 1 runs (λ m h. tt)

-- ---- permits

abbrev of_ticket : ℕ → PermitRow → Bool
of_ticket t row = nat_eq row.ticket t

permits_of : (permits : ℕ → List Permit) → ℕ → List PermitRow
permits_of permits n = flat_map (λ t. map (permit_row t) (permits t)) (numbers_to n)

own_permits : (t u : ℕ) (ps : List Permit) (b : Bool) → nat_eq u t ≡ b
    → permits_from_rows (map (permit_row u) ps) t ≡ cond b ps []
own_permits t u [] true e = refl
own_permits t u [] false e = refl
own_permits t u (p ∷ ps) true e =
    ap (λ c. map (λ (row : PermitRow). record { unit = row.unit; until = row.until }) (cond c (permit_row u p ∷ filter (of_ticket t) (map (permit_row u) ps)) (filter (of_ticket t) (map (permit_row u) ps)))) e
    ∙ ap (λ l. p ∷ l) (own_permits t u ps true e)
own_permits t u (p ∷ ps) false e =
    ap (λ c. map (λ (row : PermitRow). record { unit = row.unit; until = row.until }) (cond c (permit_row u p ∷ filter (of_ticket t) (map (permit_row u) ps)) (filter (of_ticket t) (map (permit_row u) ps)))) e
    ∙ own_permits t u ps false e

past_all : (n m : ℕ) → n < m → stands m (numbers_to n) ≡ false
past_all zero m h = refl
past_all (suc n) m h =
    stands-push m (suc n) (numbers_to n)
    ∙ (ap (λ b. b || nat_eq m (suc n)) (past_all n m (omega arith)) ∙ other_number m (suc n) (λ e. omega (arith, h, e)))

said_parts : (xs ys : List PermitRow) (t : ℕ) → permits_from_rows (xs ++ ys) t ≡ permits_from_rows xs t ++ permits_from_rows ys t
said_parts xs ys t =
    ap (map (λ (row : PermitRow). record { unit = row.unit; until = row.until })) (filter-append (of_ticket t) xs ys)
    ∙ map-append (λ (row : PermitRow). record { unit = row.unit; until = row.until }) (filter (of_ticket t) xs) (filter (of_ticket t) ys)

one_more : (permits : ℕ → List Permit) (n : ℕ)
    → permits_of permits (suc n) ≡ permits_of permits n ++ map (permit_row (suc n)) (permits (suc n))
unfolding permits_of
one_more permits n =
    flat_map-append (λ t. map (permit_row t) (permits t)) (numbers_to n) (suc n ∷ [])
    ∙ ap (λ l. permits_of permits n ++ l) (flat_map-cons (λ t. map (permit_row t) (permits t)) (suc n) [] ∙ append-nil (map (permit_row (suc n)) (permits (suc n))))

permits_all : (permits : ℕ → List Permit) (n t : ℕ)
    → permits_from_rows (permits_of permits n) t ≡ cond (stands t (numbers_to n)) (permits t) []
unfolding permits_of
permits_all permits zero t = refl
permits_all permits (suc n) t =
    ap (λ rows. permits_from_rows rows t) (one_more permits n)
    ∙ (said_parts (permits_of permits n) (map (permit_row (suc n)) (permits (suc n))) t
    ∙ (ap (λ l. l ++ permits_from_rows (map (permit_row (suc n)) (permits (suc n))) t) (permits_all permits n t)
    ∙ elim (cases_eq t (suc n)) [
      | inl e ↦
          ap (λ b. cond b (permits t) [] ++ permits_from_rows (map (permit_row (suc n)) (permits (suc n))) t) (past_all n t (omega (arith, e)))
          ∙ (own_permits t (suc n) (permits (suc n)) true (eq-eqb (suc n) t (sym e))
          ∙ (ap permits (sym e) ∙ sym (ap (λ b. cond b (permits t) []) (stands-push t (suc n) (numbers_to n) ∙ (ap (λ b. b || nat_eq t (suc n)) (past_all n t (omega (arith, e))) ∙ eq-eqb t (suc n) e)))))
      | inr ne ↦
          ap (λ l. cond (stands t (numbers_to n)) (permits t) [] ++ l) (own_permits t (suc n) (permits (suc n)) false (other_number (suc n) t (λ e. ne (sym e))))
          ∙ (append-nil (cond (stands t (numbers_to n)) (permits t) [])
          ∙ sym (ap (λ b. cond b (permits t) []) (stands-push t (suc n) (numbers_to n) ∙ or_none (stands t (numbers_to n)) (nat_eq t (suc n)) (other_number t (suc n) ne))))
    ]))
  where
    or_none : (a b : Bool) → b ≡ false → (a || b) ≡ a
    or_none true b e = refl
    or_none false b e = e

stands_there : (n t : ℕ) → 1 ≤ t → t ≤ n → stands t (numbers_to n) ≡ true
stands_there n t l h = elim (cases_Bool (stands t (numbers_to n))) [ inl e ↦ e | inr e ↦ absurd (false≢true (sym (none_to (nat_eq t) n t e l h) ∙ same_number t)) ]

ticket_permits : (s : State) (t : ℕ) (b : Bool) → is_some (nth s.readers t) ≡ b
    → (is_some (nth s.readers t) ≡ false → s.permits t ≡ [])
    → cond (stands t (numbers_to (length s.readers))) (s.permits t) [] ≡ s.permits t
ticket_permits s t true e none =
    ap (λ b. cond b (s.permits t) []) (stands_there (length s.readers) t (numbered_from_one s.readers t e) (numbered_within s.readers t e))
ticket_permits s t false e none = none_either (stands t (numbers_to (length s.readers))) (none e)
  where
    none_either : (b : Bool) → s.permits t ≡ [] → cond b (s.permits t) [] ≡ s.permits t
    none_either true n = refl
    none_either false n = sym n

-- where only readers have permits
pub permits_known : (s : State) → ((t : ℕ) → is_some (nth s.readers t) ≡ false → s.permits t ≡ [])
    → permits_from_rows (permit_rows s) ≡ s.permits
unfolding permits_of
permits_known s none = fun_ext (λ t. permits_all s.permits (length s.readers) t ∙ ticket_permits s t (is_some (nth s.readers t)) refl (none t))

pub permits_back : (s : State) → AreGoodPermits s → permits_from_rows (permit_rows s) ≡ s.permits
permits_back s g = permits_known s g.known

-- ---- all of it but the forest

pub says_all_but_units : (version : Version) (s : State) → IsSoundDesk s → SaysAllButUnits version s
says_all_but_units version s g =
    let r = reads_back s g in
    record {
      settings = refl;
      day = refl;
      next = refl;
      boxes = rows_back container_row box_from (λ n box. refl) 1 s.catalogue.containers;
      readers = r.readers;
      seats = ap (λ n. seats_from_rows n 1 (seat_rows_from 1 s.seats)) (sym g.seats.count) ∙ seats_back 1 s.seats;
      orders = r.orders;
      runs = runs_back s.runs;
      places = r.places;
      queues = r.queues;
      past = r.past;
      permits = permits_back s g.permits;
    }
