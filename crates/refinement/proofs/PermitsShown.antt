-- The rows of permits: those of a ticket, one that is granted, and one that is taken back.
use Rattle.std.proofs.Common.{◌≡◌, ◌≢◌, ℕ, ℤ, zero, suc, ◌<◌, ◌≤◌, Bool, true, false, not, cond, nat_eq, List, [], ◌∷◌}
use Rattle.std.proofs.Common.{◌++◌, length, map, filter, inl, inr, refl, sym, ap, subst, ◌∙◌, arith, pos}
use Rattle.std.proofs.lemmas.List.{append_assoc, append-nil}
use Rattle.std.proofs.lemmas.List.Concat.{flat_map-cons, flat_map-append}
use Rattle.std.proofs.lemmas.List.Elements.{filter-append}
use Rattle.std.proofs.lemmas.List.Sorted.{IsPermutation-append_comm, IsPermutation-append_left}
use Rattle.std.proofs.lemmas.List.Sorted.{IsPermutation-append_right, IsPermutation-cons, IsPermutation-map}
use Rattle.std.proofs.lemmas.List.Sorted.{IsPermutation-refl, IsPermutation-swap, IsPermutation-sym}
use Rattle.std.proofs.lemmas.List.Sorted.{IsPermutation-trans}
use Rattle.std.specs.Cmp.{IsTotalOrder, int_cmp_total, on_total}
use Rattle.std.specs.List.Sorted.{IsPermutation}
use Rattle.desk_core.specs.DeskRows.{Desk}
use Rattle.office_tables.proofs.Reading.{all_found}
use Rattle.desk_store.specs.Permits.{by_permitted_unit, is_permit, permits_of, without_permit}
use Rattle.desk_store.specs.declared.reader_permits.Permit.{Permit as Told}
use Rattle.office_core.specs.State.{State}
use Rattle.state_encoding.proofs.ReadBack.{permits_back}
use Rattle.refinement.proofs.Common.{AllByRecursion, AreGoodPermits, ByUnit, IsNumberOf, Permit, PermitRow}
use Rattle.refinement.proofs.Common.{RepresentsDesk, Trees, Version, cases_Bool, cases_eq, eqb-true, flat_map, flipped}
use Rattle.refinement.proofs.Common.{granted, granted_until, int_lt, ltb-true, nat_lt, nat_tests, numbers_to}
use Rattle.refinement.proofs.Common.{other_number, permit_row, permit_rows, put_here, put_there, revoked, same_number}
use Rattle.refinement.proofs.Common.{tables, update_at}

-- ---- the permits of a ticket

pub by_unit_total : IsTotalOrder by_permitted_unit
by_unit_total = on_total (λ (p : Told). pos p.unit) int_cmp_total

abbrev pub told_of : Permit → Told
told_of permit = record { unit = permit.unit; until = permit.until }

abbrev back : PermitRow → Permit
back row = record { unit = row.unit; until = row.until }

same_of : (t : ℕ) (rows : List PermitRow)
    → filter (λ (row : PermitRow). nat_eq t row.ticket) rows ≡ filter (λ (row : PermitRow). nat_eq row.ticket t) rows
same_of t [] = refl
same_of t (row ∷ rows) = rw (flipped t row.ticket) (ap (λ l. cond (nat_eq row.ticket t) (row ∷ l) l) (same_of t rows))

each_of : {A B C : Type 0} (f : B → C) (g : A → B) (xs : List A) → map f (map g xs) ≡ map (λ x. f (g x)) xs
each_of f g [] = refl
each_of f g (x ∷ xs) = ap (λ l. f (g x) ∷ l) (each_of f g xs)

pub permits_shown : (version : Version) (s : State) → AreGoodPermits s → (t : ℕ)
    → permits_of t (tables version s).desk ≡ map told_of (s.permits t)
permits_shown version s good t =
    ap (map (λ (row : PermitRow). (let p : Told = record { unit = row.unit; until = row.until } in p))) (same_of t (permit_rows s))
    ∙ sym (each_of told_of back (filter (λ (row : PermitRow). nat_eq row.ticket t) (permit_rows s)))
    ∙ ap (λ (all : ℕ → List Permit). map told_of (all t)) (permits_back s good)

-- ---- one that is taken back

filter_flat : {X Y : Type 0} (p : Y → Bool) (f : X → List Y) (xs : List X)
    → flat_map (λ x. filter p (f x)) xs ≡ filter p (flat_map f xs)
filter_flat p f [] = refl
filter_flat p f (x ∷ xs) =
    flat_map-cons (λ x. filter p (f x)) x xs ∙ ap (λ l. filter p (f x) ++ l) (filter_flat p f xs)
    ∙ sym (filter-append p (f x) (flat_map f xs)) ∙ ap (filter p) (sym (flat_map-cons f x xs))

flat_same : {X Y : Type 0} (f g : X → List Y) → ((x : X) → f x ≡ g x) → (xs : List X) → flat_map f xs ≡ flat_map g xs
flat_same f g same [] = refl
flat_same f g same (x ∷ xs) =
    flat_map-cons f x xs ∙ ap (λ l. l ++ flat_map f xs) (same x) ∙ ap (λ l. g x ++ l) (flat_same f g same xs)
    ∙ sym (flat_map-cons g x xs)

module _ (t u : ℕ) where
  own_revoked : (k : ℕ) (ps : List Permit) (b : Bool) → nat_eq t k ≡ b
      → map (permit_row k) (cond b (revoked u ps) ps) ≡ filter (λ row. not (is_permit t u row)) (map (permit_row k) ps)
  own_revoked k [] true e = refl
  own_revoked k [] false e = refl
  own_revoked k (p ∷ ps) true e = rw (e, flipped p.unit u) (at (nat_eq u p.unit) (own_revoked k ps true e))
    where
      at : (b : Bool)
          → map (permit_row k) (revoked u ps) ≡ filter (λ row. not (is_permit t u row)) (map (permit_row k) ps)
          → map (permit_row k) (cond (not b) (p ∷ revoked u ps) (revoked u ps)) ≡ cond (not b) (permit_row k p ∷ filter (λ row. not (is_permit t u row)) (map (permit_row k) ps)) (filter (λ row. not (is_permit t u row)) (map (permit_row k) ps))
      at true rest = rest
      at false rest = ap (λ l. permit_row k p ∷ l) rest
  own_revoked k (p ∷ ps) false e = rw e (ap (λ l. permit_row k p ∷ l) (own_revoked k ps false e))

  revoked_at : (permits : ℕ → List Permit) (k : ℕ)
      → map (permit_row k) (update_at permits t (revoked u (permits t)) k) ≡ filter (λ row. not (is_permit t u row)) (map (permit_row k) (permits k))
  revoked_at permits k = elim (cases_eq t k) [
    | inl e ↦ subst (λ n. map (permit_row n) (update_at permits t (revoked u (permits t)) n) ≡ filter (λ row. not (is_permit t u row)) (map (permit_row n) (permits n))) e
        (ap (map (permit_row t)) (put_here permits t (revoked u (permits t))) ∙ own_revoked t (permits t) true (same_number t))
    | inr ne ↦ ap (map (permit_row k)) (put_there permits t (revoked u (permits t)) k (λ e. ne (sym e)))
        ∙ own_revoked k (permits k) false (other_number t k ne)
  ]

  -- the rows are those without it
  pub revoked_rows : (s : State)
      → permit_rows (record s { permits = update_at s.permits t (revoked u (s.permits t)) }) ≡ without_permit t u (permit_rows s)
  revoked_rows s =
      flat_same (λ k. map (permit_row k) (update_at s.permits t (revoked u (s.permits t)) k)) (λ k. filter (λ row. not (is_permit t u row)) (map (permit_row k) (s.permits k))) (revoked_at s.permits) (numbers_to (length s.readers))
      ∙ filter_flat (λ row. not (is_permit t u row)) (λ k. map (permit_row k) (s.permits k)) (numbers_to (length s.readers))

-- ---- one that is granted

abbrev permit_to : ℕ → ℤ → Permit
permit_to u until = record { unit = u; until = until }

none_revoked : (u : ℕ) (ps : List Permit) → AllByRecursion (λ (p : Permit). u < p.unit) ps → revoked u ps ≡ ps
none_revoked u [] above = refl
none_revoked u (p ∷ ps) above =
    let low = above.0 in
    let apart : nat_eq p.unit u ≡ false = grind (arith, nat_tests, low) in
    rw apart (ap (λ l. p ∷ l) (none_revoked u ps above.1))

new_until : (u : ℕ) (day : ℤ) (ps : List Permit) → AllByRecursion (λ (p : Permit). u < p.unit) ps
    → granted_until u day ps ≡ day
new_until u day [] above = refl
new_until u day (p ∷ ps) above =
    let low = above.0 in
    let apart : nat_eq p.unit u ≡ false = grind (arith, nat_tests, low) in
    rw apart (new_until u day ps above.1)

further : (u : ℕ) (p : Permit) (ps : List Permit) → u < p.unit → AllByRecursion (λ (q : Permit). p.unit < q.unit) ps
    → AllByRecursion (λ (q : Permit). u < q.unit) ps
further u p [] low above = tt
further u p (q ∷ ps) low above = let next = above.0 in (omega (arith, low, next), further u p ps low above.1)

-- the permit stands among those of other units
granted_parts : (u : ℕ) (day : ℤ) (ps : List Permit) → ByUnit ps
    → IsPermutation (permit_to u (granted_until u day ps) ∷ revoked u ps) (granted u day ps)
granted_parts u day [] by = IsPermutation-refl (permit_to u day ∷ [])
granted_parts u day (p ∷ ps) by = elim (cases_Bool (nat_eq p.unit u)) [
  | inl here ↦
      let is = eqb-true p.unit u here in
      let none = none_revoked u ps (subst (λ n. AllByRecursion (λ (q : Permit). n < q.unit) ps) is by.0) in
      rw (here, none) (IsPermutation-refl (permit_to u (cond (int_lt p.until day) day p.until) ∷ ps))
  | inr other ↦ elim (cases_Bool (nat_lt u p.unit)) [
    | inl below ↦
        let low = ltb-true u p.unit below in
        let above = further u p ps low by.0 in
        rw (other, below, new_until u day ps above, none_revoked u ps above) (IsPermutation-refl (permit_to u day ∷ p ∷ ps))
    | inr later ↦
        rw (other, later)
        (IsPermutation-trans (permit_to u (granted_until u day ps) ∷ p ∷ revoked u ps) (p ∷ permit_to u (granted_until u day ps) ∷ revoked u ps) (p ∷ granted u day ps)
        (IsPermutation-swap (permit_to u (granted_until u day ps) ∷ p ∷ revoked u ps) (p ∷ permit_to u (granted_until u day ps) ∷ revoked u ps) 0 1 (omega arith) (omega arith) refl)
        (IsPermutation-cons p (permit_to u (granted_until u day ps) ∷ revoked u ps) (granted u day ps) (granted_parts u day ps by.1)))
  ]
]

abbrev rows_to : (ℕ → List Permit) → ℕ → List PermitRow
rows_to permits n = flat_map (λ k. map (permit_row k) (permits k)) (numbers_to n)

rows_more : (permits : ℕ → List Permit) (n : ℕ)
    → rows_to permits (suc n) ≡ rows_to permits n ++ map (permit_row (suc n)) (permits (suc n))
rows_more permits n =
    flat_map-append (λ k. map (permit_row k) (permits k)) (numbers_to n) (suc n ∷ [])
    ∙ ap (λ l. rows_to permits n ++ l) (flat_map-cons (λ k. map (permit_row k) (permits k)) (suc n) [] ∙ append-nil (map (permit_row (suc n)) (permits (suc n))))

rows_same : (f g : ℕ → List Permit) (n : ℕ) → ((k : ℕ) → k ≤ n → g k ≡ f k) → rows_to g n ≡ rows_to f n
rows_same f g zero same = refl
rows_same f g (suc n) same =
    rows_more g n ∙ ap (λ l. l ++ map (permit_row (suc n)) (g (suc n))) (rows_same f g n (λ k low. same k (omega (arith, low))))
    ∙ ap (λ ps. rows_to f n ++ map (permit_row (suc n)) ps) (same (suc n) (omega arith)) ∙ sym (rows_more f n)

moved_in : {X : Type 0} (x : X) (xs ys : List X) → IsPermutation (x ∷ (xs ++ ys)) (xs ++ x ∷ ys)
moved_in x xs ys =
    subst (IsPermutation (x ∷ (xs ++ ys))) (append_assoc xs (x ∷ []) ys)
    (IsPermutation-append_left ys (x ∷ xs) (xs ++ x ∷ []) (IsPermutation-append_comm (x ∷ []) xs))

module _ (f g : ℕ → List Permit) (t : ℕ) (x : Permit) (one : IsPermutation (x ∷ f t) (g t)) (others : (k : ℕ) → k ≢ t → g k ≡ f k) where
  one_row_more : (n : ℕ) → 1 ≤ t → t ≤ n → IsPermutation (permit_row t x ∷ rows_to f n) (rows_to g n)
  one_row_more zero low high = absurd (omega (arith, low, high))
  one_row_more (suc n) low high = elim (cases_eq t (suc n)) [
    | inl last ↦
        let mine : IsPermutation (permit_row t x ∷ map (permit_row t) (f t)) (map (permit_row t) (g t)) =
        IsPermutation-map (permit_row t) (x ∷ f t) (g t) one in
        let in_f : rows_to f (suc n) ≡ rows_to f n ++ map (permit_row t) (f t) =
        rows_more f n ∙ ap (λ k. rows_to f n ++ map (permit_row k) (f k)) (sym last) in
        let in_g : rows_to g (suc n) ≡ rows_to f n ++ map (permit_row t) (g t) =
        rows_more g n ∙ ap (λ k. rows_to g n ++ map (permit_row k) (g k)) (sym last)
        ∙ ap (λ l. l ++ map (permit_row t) (g t)) (rows_same f g n (λ k within. others k (λ e. omega (arith, within, e, last)))) in
        subst (IsPermutation (permit_row t x ∷ rows_to f (suc n))) (sym in_g)
        (subst (λ rows. IsPermutation (permit_row t x ∷ rows) (rows_to f n ++ map (permit_row t) (g t))) (sym in_f)
        (IsPermutation-trans (permit_row t x ∷ (rows_to f n ++ map (permit_row t) (f t))) (rows_to f n ++ permit_row t x ∷ map (permit_row t) (f t)) (rows_to f n ++ map (permit_row t) (g t))
        (moved_in (permit_row t x) (rows_to f n) (map (permit_row t) (f t)))
        (IsPermutation-append_right (rows_to f n) (permit_row t x ∷ map (permit_row t) (f t)) (map (permit_row t) (g t)) mine)))
    | inr ne ↦
        subst (IsPermutation (permit_row t x ∷ rows_to f (suc n))) (sym (rows_more g n))
        (subst (λ rows. IsPermutation (permit_row t x ∷ rows) (rows_to g n ++ map (permit_row (suc n)) (g (suc n)))) (sym (rows_more f n))
        (subst (λ ps. IsPermutation (permit_row t x ∷ (rows_to f n ++ map (permit_row (suc n)) (f (suc n)))) (rows_to g n ++ map (permit_row (suc n)) ps)) (sym (others (suc n) (λ e. ne (sym e))))
        (IsPermutation-append_left (map (permit_row (suc n)) (f (suc n))) (permit_row t x ∷ rows_to f n) (rows_to g n) (one_row_more n low (omega (arith, high, ne))))))
  ]

-- the rows are those without it, and it
pub granted_rows : (s : State) (t u : ℕ) (day : ℤ) → AreGoodPermits s → 1 ≤ t → t ≤ length s.readers
    → IsPermutation (permit_row t (permit_to u (granted_until u day (s.permits t))) ∷ without_permit t u (permit_rows s)) (permit_rows (record s { permits = update_at s.permits t (granted u day (s.permits t)) }))
granted_rows s t u day good low high =
    let less = update_at s.permits t (revoked u (s.permits t)) in
    let more = update_at s.permits t (granted u day (s.permits t)) in
    let new = permit_to u (granted_until u day (s.permits t)) in
    subst (λ rows. IsPermutation (permit_row t new ∷ rows) (rows_to more (length s.readers))) (revoked_rows t u s)
    (one_row_more less more t new
    (subst (λ ps. IsPermutation (new ∷ ps) (more t)) (sym (put_here s.permits t (revoked u (s.permits t))))
    (subst (IsPermutation (new ∷ revoked u (s.permits t))) (sym (put_here s.permits t (granted u day (s.permits t)))) (granted_parts u day (s.permits t) (good.by_unit t))))
    (λ k ne. put_there s.permits t (granted u day (s.permits t)) k ne ∙ sym (put_there s.permits t (revoked u (s.permits t)) k ne))
    (length s.readers) low high)

-- ---- the rows of permits have no order

all_there : {X : Type 0} (xs : List X) → filter (λ x. true) xs ≡ xs
all_there [] = refl
all_there (x ∷ xs) = ap (λ l. x ∷ l) (all_there xs)

pub permits_reordered : (db : Trees) (d : Desk) (rows : List PermitRow) → IsPermutation d.permits rows
    → RepresentsDesk db d → RepresentsDesk db (record d { permits = rows })
permits_reordered db d rows same it = record {
  readers = it.readers;
  tickets = it.tickets;
  few_tickets = it.few_tickets;
  seats = it.seats;
  seats_rise = it.seats_rise;
  orders = it.orders;
  order_numbers = it.order_numbers;
  few_orders = it.few_orders;
  holdings = it.holdings;
  holdings_rise = it.holdings_rise;
  runs = it.runs;
  run_numbers = it.run_numbers;
  few_runs = it.few_runs;
  run_lines = it.run_lines;
  line_runs = it.line_runs;
  permits = record {
    numbered = it.permits.numbered;
    are = it.permits.are;
    rise = it.permits.rise;
    tell = IsPermutation-trans rows d.permits (map (λ n. n.1) it.permits.numbered) (IsPermutation-sym d.permits rows same) it.permits.tell;
  };
  permit_tickets = all_found (λ (p : PermitRow). IsNumberOf d.readers p.ticket) (λ p. true) d.permits rows (subst (λ l. IsPermutation l rows) (sym (all_there d.permits)) same) it.permit_tickets;
}
