-- Readers, seats and permits whose rows pass are sound, and show those rows again.
use Rattle.std.proofs.Common.{◌≡◌, ◌≢◌, ℕ, zero, suc, ◌<◌, ◌≤◌, true, List, [], ◌∷◌, length, Option, Some, None, refl}
use Rattle.std.proofs.Common.{sym, ap, ◌∙◌, subst, inl, inr, arith}
use Rattle.std.specs.Prelude.{map, filter_map, nat_eq}
use Rattle.state_encoding.proofs.Common.{AllByRecursion, AreGoodPermits, AreGoodReaders, AreGoodSeats, AreInOrder}
use Rattle.state_encoding.proofs.Common.{ArePermitsOfUnits, ByUnit, IsDayNumber, MeetsDeskKeys, OfficeRows, Permit}
use Rattle.state_encoding.proofs.Common.{PermitRow, Reader, ReaderRow, SeatRow, SitOnce, StandsIn, cons_option}
use Rattle.state_encoding.proofs.Common.{count_by, eqb-true, false_from_ne_true, false≢true, filter, find, flat_map}
use Rattle.state_encoding.proofs.Common.{fun_ext, has_unit, is_name, is_registered, is_seat_of, is_unit_there}
use Rattle.state_encoding.proofs.Common.{length-filter, length-map, list_any, most_permits, numbered_from_one}
use Rattle.state_encoding.proofs.Common.{numbered_within, numbers_from, numbers_to, option_map, permit_row, permit_rows}
use Rattle.state_encoding.proofs.Common.{permits_from_rows, reader_from, reader_row, reader_rows, seat_rows}
use Rattle.state_encoding.proofs.Common.{seat_rows_from, seats_from_rows, state_of}
use Rattle.state_encoding.proofs.Members.{all_of_in, some_in, in_map, in_filter, to_from}
use Rattle.state_encoding.proofs.NumberedRows.{rows_again, numbered_in}
use Rattle.state_encoding.proofs.DeskKeys.{PermitBefore}
use Rattle.state_encoding.proofs.Grouped.{filter_none, order_weaker, order-filter, order-map, found, same_row}
use Rattle.state_encoding.proofs.Grouped.{found_all, grouped_all}
use Rattle.state_encoding.proofs.DeskParts.{ReaderParts, said_ticket, said_by}

-- ---- seats

length-seats : (more n : ℕ) (rows : List SeatRow) → length (seats_from_rows more n rows) ≡ more
length-seats zero n rows = refl
length-seats (suc more) n rows = ap suc (length-seats more (suc n) rows)

ticket_found : (n u : ℕ) (rows : List SeatRow) (r : Option SeatRow)
    → find (λ (row : SeatRow). nat_eq row.seat n) rows ≡ r → option_map (λ (row : SeatRow). row.ticket) r ≡ Some u
    → (row : SeatRow) × StandsIn row rows × (row.seat ≡ n) × (row.ticket ≡ u)
ticket_found n u rows None e q = absurd (cc)
ticket_found n u rows (Some row) e q =
    let f = found (λ (row : SeatRow). nat_eq row.seat n) rows row e in
    (row, f.0, eqb-true row.seat n f.1, cc)

-- who sits has a row
in_seats_said : (more n u : ℕ) (rows : List SeatRow) → StandsIn (Some u) (seats_from_rows more n rows)
    → (row : SeatRow) × StandsIn row rows × (n ≤ row.seat) × (row.ticket ≡ u)
in_seats_said zero n u rows k = absurd k
in_seats_said (suc more) n u rows k =
    elim k [
      | inl e ↦
          let f = ticket_found n u rows (find (λ (row : SeatRow). nat_eq row.seat n) rows) refl (sym e) in
          let s = f.2 in
          (f.0, f.1, omega (arith, s), f.3)
      | inr l ↦
          let i = in_seats_said more (suc n) u rows l in
          let s = i.2 in
          (i.0, i.1, omega (arith, s), i.3)
    ]

is_their_seat : (u : ℕ) (x : Option ℕ) → is_seat_of u x ≡ true → x ≡ Some u
is_their_seat u None e = absurd (false≢true e)
is_their_seat u (Some v) e = ap Some (sym (eqb-true u v e))

seated_row : (more n u : ℕ) (rows : List SeatRow) → list_any (is_seat_of u) (seats_from_rows more n rows) ≡ true
    → (row : SeatRow) × StandsIn row rows × (n ≤ row.seat) × (row.ticket ≡ u)
seated_row more n u rows h =
    let i = some_in (is_seat_of u) (seats_from_rows more n rows) h in
    in_seats_said more n u rows (subst (λ x. StandsIn x (seats_from_rows more n rows)) (is_their_seat u i.0 i.2) i.1)

sit_once : (more n : ℕ) (rows : List SeatRow) → AreInOrder (λ (a b : SeatRow). a.ticket ≢ b.ticket) rows
    → SitOnce (seats_from_rows more n rows)
sit_once zero n rows h = tt
sit_once (suc more) n rows h = at (find (λ (row : SeatRow). nat_eq row.seat n) rows) refl (sit_once more (suc n) rows h)
  where
    at : (r : Option SeatRow) → find (λ (row : SeatRow). nat_eq row.seat n) rows ≡ r
        → SitOnce (seats_from_rows more (suc n) rows)
        → SitOnce (option_map (λ (row : SeatRow). row.ticket) r ∷ seats_from_rows more (suc n) rows)
    at None e k = k
    at (Some row) e k = (
      false_from_ne_true (list_any (is_seat_of row.ticket) (seats_from_rows more (suc n) rows)) (λ q.
          let f = found (λ (row : SeatRow). nat_eq row.seat n) rows row e in
          let i = seated_row more (suc n) row.ticket rows q in
          let same = same_row (λ (row : SeatRow). row.ticket) rows row i.0 h f.0 i.1 (sym i.3) in
          let a = eqb-true row.seat n f.1 in
          let b = i.2 in
          let c = ap (λ (row : SeatRow). row.seat) same in
          omega (arith, a, b, c)),
      k,
    )

seats_found : (more n : ℕ) (rows : List SeatRow)
    → seat_rows_from n (seats_from_rows more n rows) ≡ filter_map (λ m. find (λ (row : SeatRow). nat_eq row.seat m) rows) (numbers_from n more)
seats_found zero n rows = refl
seats_found (suc more) n rows =
    at (find (λ (row : SeatRow). nat_eq row.seat n) rows) refl (seats_found more (suc n) rows)
  where
    at : (r : Option SeatRow) → find (λ (row : SeatRow). nat_eq row.seat n) rows ≡ r
        → seat_rows_from (suc n) (seats_from_rows more (suc n) rows) ≡ filter_map (λ m. find (λ (row : SeatRow). nat_eq row.seat m) rows) (numbers_from (suc n) more)
        → seat_rows_from n (option_map (λ (row : SeatRow). row.ticket) r ∷ seats_from_rows more (suc n) rows) ≡ cons_option r (filter_map (λ m. find (λ (row : SeatRow). nat_eq row.seat m) rows) (numbers_from (suc n) more))
    at None e ih = ih
    at (Some row) e ih =
        let f = found (λ (row : SeatRow). nat_eq row.seat n) rows row e in
        ap (λ m. record { seat = m; ticket = row.ticket } ∷ seat_rows_from (suc n) (seats_from_rows more (suc n) rows)) (sym (eqb-true row.seat n f.1))
        ∙ ap (λ l. row ∷ l) ih

-- ---- permits

own_rows_again : (t : ℕ) (rows : List PermitRow) → ((row : PermitRow) → StandsIn row rows → row.ticket ≡ t)
    → map (permit_row t) (map (λ (row : PermitRow). record { unit = row.unit; until = row.until }) rows) ≡ rows
own_rows_again t [] f = refl
own_rows_again t (row ∷ rows) f =
    ap (λ k. record { ticket = k; unit = row.unit; until = row.until } ∷ map (permit_row t) (map (λ (row : PermitRow). record { unit = row.unit; until = row.until }) rows)) (sym (f row (inl refl)))
    ∙ ap (λ l. row ∷ l) (own_rows_again t rows (λ x k. f x (inr k)))

by_unit : (permits : List Permit) → AreInOrder (λ (a b : Permit). a.unit < b.unit) permits → ByUnit permits
by_unit [] h = tt
by_unit (p ∷ ps) h = (h.0, by_unit ps h.1)

module _ (t : OfficeRows) (k : MeetsDeskKeys t.desk) (p : ReaderParts t) where
  abbrev mine : ℕ → List PermitRow
  mine ticket = filter (λ (row : PermitRow). nat_eq row.ticket ticket) t.desk.permits

  is_mine : (ticket : ℕ) (row : PermitRow) → StandsIn row (mine ticket)
      → StandsIn row t.desk.permits × (row.ticket ≡ ticket)
  is_mine ticket row l =
      let i = in_filter (λ (row : PermitRow). nat_eq row.ticket ticket) t.desk.permits row l in
      (i.0, eqb-true row.ticket ticket i.1)

  -- ---- readers

  pub said_readers : AreGoodReaders (state_of t)
  said_readers =
      let few = p.few in
      let count = length-map t.desk.readers reader_from in
      record {
        names = λ n reader e. (
            let i = said_by reader_from t.desk.readers n reader e in
            ap (λ (r : Reader). is_name r.name) i.2 ∙ (p.readers i.0 (numbered_in t.desk.readers n i.0 i.1)).0);
        few = omega (arith, few, count);
      }

  pub reader_days : AllByRecursion (λ reader. IsDayNumber reader.until) (state_of t).readers
  reader_days =
      all_of_in (λ (reader : Reader). IsDayNumber reader.until) (state_of t).readers (λ reader l.
      let i = in_map reader_from t.desk.readers reader l in
      subst (λ (r : Reader). IsDayNumber r.until) (sym i.2) (p.readers i.0 i.1).1)

  pub readers_again : reader_rows (state_of t) ≡ t.desk.readers
  readers_again = rows_again reader_row (λ (row : ReaderRow). row.ticket) reader_from 1 t.desk.readers p.numbered (λ r l. refl)

  -- ---- seats

  pub said_seats : AreGoodSeats (state_of t)
  said_seats =
      record {
        count = length-seats t.office.seats 1 t.desk.seats;
        known = λ u h. (
            let i = seated_row t.office.seats 1 u t.desk.seats h in
            said_ticket t u p.numbered ∙ (ap (is_registered t.desk) (sym i.3) ∙ (p.seats i.0 i.1).2));
        once = sit_once t.office.seats 1 t.desk.seats k.sitters;
      }

  pub seats_again : seat_rows (state_of t) ≡ t.desk.seats
  seats_again =
      seats_found t.office.seats 1 t.desk.seats
      ∙ found_all (λ (row : SeatRow). row.seat) 1 t.office.seats t.desk.seats k.seats (λ row l.
      let i = p.seats row l in
      let low = i.0 in
      let high = i.1 in
      (low, omega (arith, high)))

  -- ---- permits

  few_permits : (ticket : ℕ) (rows : List PermitRow) → mine ticket ≡ rows → length rows ≤ most_permits
  few_permits ticket [] e = omega arith
  few_permits ticket (row ∷ rows) e =
      let i = is_mine ticket row (subst (StandsIn row) (sym e) (inl refl)) in
      let few = subst (λ n. count_by (λ (other : PermitRow). nat_eq other.ticket n) t.desk.permits ≤ most_permits) i.1 (p.permits row i.0).few in
      let count = length-filter (λ (other : PermitRow). nat_eq other.ticket ticket) t.desk.permits in
      let l = ap length e in
      omega (arith, few, count, l)

  pub said_permits : AreGoodPermits (state_of t)
  said_permits =
      record {
        known = λ n e. ap (map (λ (row : PermitRow). (let permit : Permit = record { unit = row.unit; until = row.until } in permit))) (filter_none (λ (row : PermitRow). nat_eq row.ticket n) t.desk.permits (λ row l.
            false_from_ne_true (nat_eq row.ticket n) (λ q.
            false≢true (sym e ∙ (said_ticket t n p.numbered ∙ (ap (is_registered t.desk) (sym (eqb-true row.ticket n q)) ∙ (p.permits row l).ticket))))));
        by_unit = λ n. by_unit (permits_from_rows t.desk.permits n) (order-map PermitBefore (λ (a b : Permit). a.unit < b.unit) (λ (row : PermitRow). record { unit = row.unit; until = row.until }) (mine n) (λ a b l m h. elim h [
          | inl less ↦ (let x = (is_mine n a l).1 in let y = (is_mine n b m).1 in absurd (omega (arith, x, y, less)))
          | inr same ↦ same.1
        ]) (order-filter PermitBefore (λ (row : PermitRow). nat_eq row.ticket n) t.desk.permits k.permits));
        few = λ n. (
            let few = few_permits n (mine n) refl in
            let count = length-map (mine n) (λ (row : PermitRow). (let permit : Permit = record { unit = row.unit; until = row.until } in permit)) in
            omega (arith, few, count));
      }

  each_permit : (P : Permit → Type 0)
      → ((row : PermitRow) → StandsIn row t.desk.permits → P (record { unit = row.unit; until = row.until }))
      → (ticket : ℕ) → AllByRecursion P (permits_from_rows t.desk.permits ticket)
  each_permit P f ticket =
      all_of_in P (permits_from_rows t.desk.permits ticket) (λ permit l.
      let i = in_map (λ (row : PermitRow). (let permit : Permit = record { unit = row.unit; until = row.until } in permit)) (mine ticket) permit l in
      subst P (sym i.2) (f i.0 (is_mine ticket i.0 i.1).0))

  pub permit_days : (ticket : ℕ) → AllByRecursion (λ permit. IsDayNumber permit.until) ((state_of t).permits ticket)
  permit_days = each_permit (λ permit. IsDayNumber permit.until) (λ row l. (p.permits row l).day)

  pub permits_placed : ((u : ℕ) → is_unit_there t u ≡ true → has_unit (state_of t).catalogue.forest u ≡ true)
      → ArePermitsOfUnits (state_of t)
  permits_placed placed = each_permit (λ permit. has_unit (state_of t).catalogue.forest permit.unit ≡ true) (λ row l. placed row.unit (p.permits row l).unit)

  pub permits_again : permit_rows (state_of t) ≡ t.desk.permits
  permits_again =
      let n = length (state_of t).readers in
      ap (λ f. flat_map f (numbers_to n)) (fun_ext (λ ticket. own_rows_again ticket (mine ticket) (λ row l. (is_mine ticket row l).1)))
      ∙ (ap (flat_map mine) (to_from n)
      ∙ grouped_all (λ (row : PermitRow). row.ticket) 1 n t.desk.permits (order_weaker PermitBefore (λ (a b : PermitRow). a.ticket ≤ b.ticket) t.desk.permits (λ a b h. elim h [
        | inl less ↦ omega (arith, less)
        | inr same ↦ (let e = same.0 in omega (arith, e))
      ]) k.permits) (λ row l.
      let known = said_ticket t row.ticket p.numbered ∙ (p.permits row l).ticket in
      let low = numbered_from_one (state_of t).readers row.ticket known in
      let high = numbered_within (state_of t).readers row.ticket known in
      (low, omega (arith, high))))
