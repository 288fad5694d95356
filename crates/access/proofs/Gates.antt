-- The gate as it is read from tables, and as the rules have it.
use Rattle.std.proofs.Common.{◌≡◌, ℕ, zero, suc, ◌+◌, ◌<◌, Bool, true, false, not, cond, List, [], ◌∷◌, length, take}
use Rattle.std.proofs.Common.{get_or, Option, Some, None, refl, sym, ap, subst, ◌∙◌, arith}
use Rattle.std.specs.Prelude.{◌||◌, filter, filter_map}
use Rattle.desk_core.specs.declared.reader.Place.{Place}
use Rattle.desk_core.specs.declared.reader.Place.TheVariants.{Desk, Out, Shelf}
use Rattle.desk_core.specs.declared.refusal.Refusal.TheVariants.{WithReader}
use Rattle.desk_store.specs.Holdings.{issued_by, issued_of, ticket_of}
use Rattle.office_core.specs.State.{State}
use Rattle.office_core.specs.declared.done.Done.{Done}
use Rattle.refinement.proofs.RowsOfLists.{found_row}
use Rattle.access.proofs.Common.{AreEnough, CanBeJudged, Catalogue, ContainerOrder, HoldingRow, KnowsIf, Mark, Order}
use Rattle.access.proofs.Common.{OrderRow, TellOf, Version}
use Rattle.access.proofs.Common.{cons_option, containers, first_closed, first_that, gate_reply, holding_row}
use Rattle.access.proofs.Common.{is_closed_to, is_kept_from_holder, is_some, list_any, lowest_withheld, nth, opens}
use Rattle.access.proofs.Common.{option_map, order_out, order_row, order_rows, slice_index_or, some_and, tables}
use Rattle.access.proofs.Common.{unless_refused}

-- ---- marks that are given

-- the marks of units of which no two have the same number
pub told_if : (k : Catalogue) (given : Option (List Mark)) → KnowsIf k given → TellOf k given
told_if k None it = tt
told_if k (Some marks) it = it.walk

-- ---- the first that passes, found one by one

pub first_here : {X : Type 0} (p : X → Bool) (xs : List X) (i : ℕ) (d : X) → first_that p (take i xs) ≡ None
    → i < length xs → p (slice_index_or xs i d) ≡ true → first_that p xs ≡ Some (slice_index_or xs i d)
first_here p [] i d none low so = absurd (omega (arith, low))
first_here p (x ∷ xs) zero d none low so = rw so refl
first_here p (x ∷ xs) (suc i) d none low so = at (p x) none (first_here p xs i d)
  where
    at : (b : Bool) → cond b (Some x) (first_that p (take i xs)) ≡ None
        → (first_that p (take i xs) ≡ None → i < length xs → p (slice_index_or xs i d) ≡ true → first_that p xs ≡ Some (slice_index_or xs i d))
        → cond b (Some x) (first_that p xs) ≡ Some (slice_index_or xs i d)
    at true none later = absurd (cc)
    at false none later = later none (omega (arith, low)) so

pub none_more : {X : Type 0} (p : X → Bool) (xs : List X) (i : ℕ) (d : X) → first_that p (take i xs) ≡ None
    → i < length xs → p (slice_index_or xs i d) ≡ false → first_that p (take (i + 1) xs) ≡ None
none_more p [] i d none low so = absurd (omega (arith, low))
none_more p (x ∷ xs) zero d none low so = rw so refl
none_more p (x ∷ xs) (suc i) d none low so = let e : suc (i + 1) ≡ suc i + 1 = omega arith in subst (λ n. first_that p (take n (x ∷ xs)) ≡ None) e (at (p x) none (none_more p xs i d))
  where
    at : (b : Bool) → cond b (Some x) (first_that p (take i xs)) ≡ None
        → (first_that p (take i xs) ≡ None → i < length xs → p (slice_index_or xs i d) ≡ false → first_that p (take (i + 1) xs) ≡ None)
        → cond b (Some x) (first_that p (take (i + 1) xs)) ≡ None
    at true none later = absurd (cc)
    at false none later = later none (omega (arith, low)) so

-- ---- loans, of which the one at a place is asked

module _ (s : State) (loans : List ContainerOrder) (i : ℕ) (d : ContainerOrder) (low : i < length loans) (yes : Bool)
    (told : yes ≡ opens s (get_or loans i d).ticket (get_or loans i d).container)
    (none : first_that (is_closed_to s) (take i loans) ≡ None) where
  shut_is : is_closed_to s (get_or loans i d) ≡ not yes
  shut_is = ap not (sym told)

  -- it is the first that is closed
  pub closed_here : yes ≡ false → Some (get_or loans i d).container ≡ first_closed s loans
  closed_here is =
      sym (ap (option_map (λ (l : ContainerOrder). l.container)) (first_here (is_closed_to s) loans i d none low (shut_is ∙ ap not is)))

  -- it is open, as those before it are
  pub none_closed : yes ≡ true → first_that (is_closed_to s) (take (i + 1) loans) ≡ None
  none_closed is = none_more (is_closed_to s) loans i d none low (shut_is ∙ ap not is)

-- the reply, by the lowest container that is closed
pub reply_is : (s : State) (done : Done) {found : Option ℕ} → found ≡ lowest_withheld s
    → unless_refused (option_map WithReader found) done ≡ gate_reply s done
reply_is s done is = ap (λ (why : Option ℕ). unless_refused (option_map WithReader why) done) is

-- one of these is closed to its reader
pub some_closed : (s : State) (loans : List ContainerOrder)
    → is_some (first_closed s loans) ≡ list_any (is_closed_to s) loans
some_closed s [] = refl
some_closed s (loan ∷ loans) = at (is_closed_to s loan) (some_closed s loans)
  where
    at : (b : Bool) → is_some (first_closed s loans) ≡ list_any (is_closed_to s) loans
        → is_some (option_map (λ (l : ContainerOrder). l.container) (cond b (Some loan) (first_that (is_closed_to s) loans))) ≡ (b || list_any (is_closed_to s) loans)
    at true rest = refl
    at false rest = rest

module _ (version : Version) (s : State) where
  abbrev orders : List OrderRow
  orders = order_rows s

  -- the ticket of an order
  pub ticket_is : (o : ℕ) → ticket_of orders o ≡ option_map (λ (order : Order). order.ticket) (nth s.orders o)
  ticket_is o =
      ap (option_map (λ (row : OrderRow). row.ticket)) (found_row (order_row s) (λ (row : OrderRow). row.id) (λ n x. refl) o s.orders)
      ∙ at (nth s.orders o)
    where
      at : (x : Option Order)
          → option_map (λ (row : OrderRow). row.ticket) (option_map (order_row s o) x) ≡ option_map (λ (order : Order). order.ticket) x
      at None = refl
      at (Some order) = refl

  abbrev rows_of : List ℕ → List ContainerOrder
  rows_of cs = filter_map (issued_by orders) (filter_map (λ c. holding_row c (s.place c)) cs)

  -- one container after another
  kept_among : ((c o : ℕ) → order_out (s.place c) ≡ Some o → is_some (nth s.orders o) ≡ true) → (cs : List ℕ)
      → first_that (is_kept_from_holder s) cs ≡ first_closed s (rows_of cs)
  kept_among there [] = refl
  kept_among there (c ∷ cs) = at (s.place c) refl (kept_among there cs)
    where
      rest : List HoldingRow
      rest = filter_map (λ c. holding_row c (s.place c)) cs

      issued_is : (o : ℕ) (order : Order) → nth s.orders o ≡ Some order
          → issued_by orders (record { container = c; place = 2; held_by = Some o }) ≡ Some (record { container = c; order = o; ticket = order.ticket })
      issued_is o order e = ap (option_map (λ t. record { container = c; order = o; ticket = t })) (ticket_is o ∙ ap (option_map (λ (order : Order). order.ticket)) e)

      by_test : (b : Bool) (loan : ContainerOrder) → loan.container ≡ c
          → first_that (is_kept_from_holder s) cs ≡ first_closed s (rows_of cs)
          → cond b (Some c) (first_that (is_kept_from_holder s) cs) ≡ option_map (λ (l : ContainerOrder). l.container) (cond b (Some loan) (first_that (is_closed_to s) (rows_of cs)))
      by_test true loan e later = ap Some (sym e)
      by_test false loan e later = later

      out_with : (o : ℕ) → s.place c ≡ Out o → (x : Option Order) → nth s.orders o ≡ x → is_some x ≡ true
          → first_that (is_kept_from_holder s) cs ≡ first_closed s (rows_of cs)
          → first_that (is_kept_from_holder s) (c ∷ cs) ≡ first_closed s (rows_of (c ∷ cs))
      out_with o e None known there later = absurd (cc)
      out_with o e (Some order) known there later =
          ap (λ p. cond (some_and (λ o. some_and (λ order. not (opens s order.ticket c)) (nth s.orders o)) (order_out p)) (Some c) (first_that (is_kept_from_holder s) cs)) e
          ∙ ap (λ x. cond (some_and (λ order. not (opens s order.ticket c)) x) (Some c) (first_that (is_kept_from_holder s) cs)) known
          ∙ by_test (not (opens s order.ticket c)) (record { container = c; order = o; ticket = order.ticket }) refl later
          ∙ sym (ap (λ x. first_closed s (cons_option x (rows_of cs))) (issued_is o order known))
          ∙ sym (ap (λ p. first_closed s (filter_map (issued_by orders) (cons_option (holding_row c p) rest))) e)

      at : (place : Place) → s.place c ≡ place → first_that (is_kept_from_holder s) cs ≡ first_closed s (rows_of cs)
          → first_that (is_kept_from_holder s) (c ∷ cs) ≡ first_closed s (rows_of (c ∷ cs))
      at Shelf e later = rw e later
      at Desk e later = rw e later
      at (Out o) e later = out_with o e (nth s.orders o) refl (there c o (ap order_out e)) later

  pub kept_is : CanBeJudged s → lowest_withheld s ≡ first_closed s (issued_of (tables version s).desk)
  kept_is judged = kept_among judged.orders (containers s)

  -- ---- where only some of those that are out can be closed to who has them

  abbrev asked : (ℕ → Bool) → ContainerOrder → Bool
  asked q loan = q loan.container

  kept_where : (q : ℕ → Bool) → ((c o : ℕ) → order_out (s.place c) ≡ Some o → is_some (nth s.orders o) ≡ true)
      → ((c : ℕ) → q c ≡ false → is_kept_from_holder s c ≡ false) → (cs : List ℕ)
      → first_that (is_kept_from_holder s) cs ≡ first_closed s (filter (asked q) (rows_of cs))
  kept_where q there others [] = refl
  kept_where q there others (c ∷ cs) = at (s.place c) refl (kept_where q there others cs)
    where
      rest : List HoldingRow
      rest = filter_map (λ c. holding_row c (s.place c)) cs

      issued_is : (o : ℕ) (order : Order) → nth s.orders o ≡ Some order
          → issued_by orders (record { container = c; place = 2; held_by = Some o }) ≡ Some (record { container = c; order = o; ticket = order.ticket })
      issued_is o order e = ap (option_map (λ t. record { container = c; order = o; ticket = t })) (ticket_is o ∙ ap (option_map (λ (order : Order). order.ticket)) e)

      kept_is_closed : (o : ℕ) (order : Order) → s.place c ≡ Out o → nth s.orders o ≡ Some order
          → is_kept_from_holder s c ≡ is_closed_to s (record { container = c; order = o; ticket = order.ticket })
      kept_is_closed o order e known =
          ap (λ p. some_and (λ o. some_and (λ order. not (opens s order.ticket c)) (nth s.orders o)) (order_out p)) e
          ∙ ap (some_and (λ order. not (opens s order.ticket c))) known

      by_tests : (near closed : Bool) (loan : ContainerOrder) → loan.container ≡ c → is_closed_to s loan ≡ closed
          → (near ≡ false → closed ≡ false)
          → first_that (is_kept_from_holder s) cs ≡ first_closed s (filter (asked q) (rows_of cs))
          → cond closed (Some c) (first_that (is_kept_from_holder s) cs) ≡ first_closed s (cond near (loan ∷ filter (asked q) (rows_of cs)) (filter (asked q) (rows_of cs)))
      by_tests true true loan e is other later =
          ap Some (sym e)
          ∙ sym (ap (λ b. option_map (λ (l : ContainerOrder). l.container) (cond b (Some loan) (first_that (is_closed_to s) (filter (asked q) (rows_of cs))))) is)
      by_tests true false loan e is other later =
          later
          ∙ sym (ap (λ b. option_map (λ (l : ContainerOrder). l.container) (cond b (Some loan) (first_that (is_closed_to s) (filter (asked q) (rows_of cs))))) is)
      by_tests false true loan e is other later = absurd (let bad = other refl in cc)
      by_tests false false loan e is other later = later

      out_with : (o : ℕ) → s.place c ≡ Out o → (x : Option Order) → nth s.orders o ≡ x → is_some x ≡ true
          → first_that (is_kept_from_holder s) cs ≡ first_closed s (filter (asked q) (rows_of cs))
          → first_that (is_kept_from_holder s) (c ∷ cs) ≡ first_closed s (filter (asked q) (rows_of (c ∷ cs)))
      out_with o e None known there later = absurd (cc)
      out_with o e (Some order) known there later =
          let loan : ContainerOrder = record { container = c; order = o; ticket = order.ticket } in
          let is = kept_is_closed o order e known in
          ap (λ b. cond b (Some c) (first_that (is_kept_from_holder s) cs)) is
          ∙ by_tests (q c) (is_closed_to s loan) loan refl refl (λ far. sym is ∙ others c far) later
          ∙ sym (ap (λ x. first_closed s (filter (asked q) (cons_option x (rows_of cs)))) (issued_is o order known))
          ∙ sym (ap (λ p. first_closed s (filter (asked q) (filter_map (issued_by orders) (cons_option (holding_row c p) rest)))) e)

      at : (place : Place) → s.place c ≡ place
          → first_that (is_kept_from_holder s) cs ≡ first_closed s (filter (asked q) (rows_of cs))
          → first_that (is_kept_from_holder s) (c ∷ cs) ≡ first_closed s (filter (asked q) (rows_of (c ∷ cs)))
      at Shelf e later = rw e later
      at Desk e later = rw e later
      at (Out o) e later = out_with o e (nth s.orders o) refl (there c o (ap order_out e)) later

  -- those whose containers pass a test, where all others are open to who has them
  pub enough_of : CanBeJudged s → (test : ℕ → Bool) → ((c : ℕ) → test c ≡ false → is_kept_from_holder s c ≡ false)
      → (loans : List ContainerOrder)
      → loans ≡ filter (λ (loan : ContainerOrder). test loan.container) (issued_of (tables version s).desk)
      → AreEnough loans s
  enough_of judged test others loans are =
      kept_where test judged.orders others (containers s) ∙ ap (first_closed s) (sym are)
