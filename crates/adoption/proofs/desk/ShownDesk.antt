-- Tables of a desk against which there is no cause show the desk of their rows.
use Rattle.std.proofs.Common.{◌≡◌, ℕ, suc, ◌+◌, ◌<◌, ◌≤◌, length, List, [], ◌∷◌, true, nat_eq, inl, inr, arith}
use Rattle.desk_store.specs.Representation.{IsNumberOf, RepresentsDesk}
use Rattle.adoption.proofs.Common.{AllByRecursion, AreCountedFrom, IsWholeTable, Obeys, OfficeRows, OrderRow}
use Rattle.adoption.proofs.Common.{OrdersParts, PermitRow, ReaderParts, ReaderRow, RunLineRow, RunParts, RunRow, Table}
use Rattle.adoption.proofs.Common.{Trees, Version, all_of_in, and_parts, are_good_orders, are_good_readers}
use Rattle.adoption.proofs.Common.{are_good_runs, are_numbered_from, around, eqb-true, false≢true, list_any, not_bad}
use Rattle.adoption.proofs.Common.{or_cases, orders_parts, reader_parts, rows_in, run_parts, schema}
use Rattle.adoption.proofs.desk.KeptDesk.{readers, seats, orders, holdings, runs, run_lines, permits}
use Rattle.adoption.proofs.tables.Causeless.{ArePassed}

module _ {R : Type 0} (number : R → ℕ) where
  counted : (n : ℕ) (rows : List R) → are_numbered_from number n rows ≡ true → AreCountedFrom number n rows
  counted n [] h = tt
  counted n (r ∷ rows) h = let p = and_parts (nat_eq (number r) n) (are_numbered_from number (suc n) rows) h in (eqb-true (number r) n p.0, counted (suc n) rows p.1)

  -- a row that is there has one of the numbers
  within : (n m : ℕ) (rows : List R) → are_numbered_from number n rows ≡ true
      → list_any (λ r. nat_eq (number r) m) rows ≡ true → (n ≤ m) × (m < n + length rows)
  within n m [] h there = absurd (false≢true there)
  within n m (r ∷ rows) h there =
      let p = and_parts (nat_eq (number r) n) (are_numbered_from number (suc n) rows) h in
      let e = eqb-true (number r) n p.0 in
      elim (or_cases (nat_eq (number r) m) (list_any (λ r. nat_eq (number r) m) rows) there) [
        | inl here ↦ let f = eqb-true (number r) m here in (omega (arith, e, f), omega (arith, e, f))
        | inr later ↦ let w = within (suc n) m rows p.1 later in let low = w.0 in let high = w.1 in (omega (arith, low), omega (arith, high))
      ]

  number_of : (m : ℕ) (rows : List R) → are_numbered_from number 1 rows ≡ true
      → list_any (λ r. nat_eq (number r) m) rows ≡ true → IsNumberOf rows m
  number_of m rows h there = let w = within 1 m rows h there in let high = w.1 in (w.0, omega (arith, high))

module _ (version : Version) (db : Trees) (passed : ArePassed version db) where
  abbrev t : OfficeRows
  t = rows_in version db

  pub reader_facts : ReaderParts t
  reader_facts = reader_parts t (not_bad (are_good_readers (around t) t.desk) passed.readers)

  pub order_facts : OrdersParts t
  order_facts = orders_parts t (not_bad (are_good_orders (around t) t.desk) passed.orders)

  pub run_facts : RunParts t
  run_facts = run_parts t (not_bad (are_good_runs (around t) t.desk) passed.runs)

  module _ (obeys : Obeys (schema version) db) (whole : AllByRecursion (λ (table : Table). IsWholeTable table (db table.tree)) (schema version).tables) where
    pub shows_desk : RepresentsDesk db t.desk
    shows_desk =
        let all = passed.desk in
        let r = reader_facts in
        let o = order_facts in
        let p = run_facts in
        record {
          readers = (readers version db obeys whole all).are;
          tickets = counted (λ (row : ReaderRow). row.ticket) 1 t.desk.readers r.numbered;
          few_tickets = r.few;
          seats = (seats version db obeys whole all).are;
          seats_rise = (seats version db obeys whole all).by_number;
          orders = (orders version db obeys whole all).are;
          order_numbers = counted (λ (row : OrderRow). row.id) 1 t.desk.orders o.numbered;
          few_orders = o.few;
          holdings = (holdings version db obeys whole all).are;
          holdings_rise = (holdings version db obeys whole all).by_number;
          runs = (runs version db obeys whole all).are;
          run_numbers = counted (λ (row : RunRow). row.id) 1 t.desk.runs p.numbered;
          few_runs = p.few;
          run_lines = run_lines version db obeys whole all;
          line_runs = all_of_in (λ (l : RunLineRow). IsNumberOf t.desk.runs l.run) t.desk.run_lines (λ l k. number_of (λ (row : RunRow). row.id) l.run t.desk.runs p.numbered (p.known l k));
          permits = permits version db obeys whole all;
          permit_tickets = all_of_in (λ (x : PermitRow). IsNumberOf t.desk.readers x.ticket) t.desk.permits (λ x k. number_of (λ (row : ReaderRow). row.ticket) x.ticket t.desk.readers r.numbered (r.permits x k).ticket);
        }
