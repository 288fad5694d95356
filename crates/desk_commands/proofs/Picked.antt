-- The orders that a run takes, by the rows of the desk.
use Rattle.std.proofs.Common.{◌≡◌, ℕ, suc, ◌<◌, Bool, true, false, not, cond, ◌&&◌, ◌||◌, nat_eq, List, [], ◌∷◌, length}
use Rattle.std.proofs.Common.{map, filter, Option, inl, inr, refl, sym, ap, subst, ◌∙◌, arith}
use Rattle.std.proofs.Math.Bool.{and_comm}
use Rattle.desk_core.specs.declared.reader.Place.TheVariants.{Desk}
use Rattle.refinement.proofs.OrderRows.{waits_by_row}
use Rattle.desk_commands.proofs.Common.{AllByRecursion, ContainerOrder, HoldingRow, IsAscending, IsSoundOffice, Order}
use Rattle.desk_commands.proofs.Common.{OrderRow, Out, Place, StandsIn, State, Version, any_same, below_none}
use Rattle.desk_commands.proofs.Common.{candidates_of, cases_Bool, eqb-true, first, flipped, holding_rows, in_rows}
use Rattle.desk_commands.proofs.Common.{is_due, is_first_waiting, is_on_shelf, is_shelf, list_any, nat_lt, nat_tests}
use Rattle.desk_commands.proofs.Common.{numbers_from, numbers_to, opens, option_map, order_row, order_rows, place_from}
use Rattle.desk_commands.proofs.Common.{place_in, reads_back, rows_from, some_and, stands, tables, to_from, unwrap_or}
use Rattle.desk_commands.proofs.Common.{waits_for}

-- ---- a container without a row is on the shelf

off_shelf : (row : HoldingRow) → is_shelf (place_from row) ≡ false
off_shelf row = at (nat_eq row.place 1)
  where
    at : (b : Bool) → is_shelf (cond b Desk (Out (unwrap_or row.held_by 0))) ≡ false
    at true = refl
    at false = refl

shelf_in : (c : ℕ) (rows : List HoldingRow)
    → not (list_any (λ (h : HoldingRow). nat_eq c h.container) rows) ≡ is_shelf (place_in rows c)
shelf_in c [] = refl
shelf_in c (row ∷ rows) =
    at (nat_eq c row.container) (shelf_in c rows)
    ∙ ap (λ b. is_shelf (cond b (place_from row) (place_in rows c))) (flipped c row.container)
  where
    at : (b : Bool) → not (list_any (λ (h : HoldingRow). nat_eq c h.container) rows) ≡ is_shelf (place_in rows c)
        → not (b || list_any (λ (h : HoldingRow). nat_eq c h.container) rows) ≡ is_shelf (cond b (place_from row) (place_in rows c))
    at true rest = sym (off_shelf row)
    at false rest = rest

-- ---- the first of numbers that rise

none_less : (o : ℕ) (ns : List ℕ) → AllByRecursion (λ m. o < m) ns → list_any (λ k. nat_lt k o) ns ≡ false
none_less o [] h = refl
none_less o (n ∷ ns) h = let less = h.0 in let e : nat_lt n o ≡ false = grind (arith, nat_tests, less) in rw e (none_less o ns h.1)

least_first : (o : ℕ) (ns : List ℕ) → IsAscending ns
    → some_and (nat_eq o) (first ns) ≡ (stands o ns && not (list_any (λ k. nat_lt k o) ns))
least_first o [] h = refl
least_first o (n ∷ ns) h = elim (cases_Bool (nat_eq o n)) [
  | inl same ↦
      let e : o ≡ n = eqb-true o n same in
      let here : nat_lt n o ≡ false = grind (arith, nat_tests, e) in
      let later : list_any (λ k. nat_lt k o) ns ≡ false =
      subst (λ m. list_any (λ k. nat_lt k m) ns ≡ false) (sym e) (none_less n ns h.0) in
      rw (same, here, later) refl
  | inr other ↦ elim (cases_Bool (nat_lt n o)) [
    | inl before ↦ rw (other, before) (sym (no_more (stands o ns)))
    | inr after ↦
        let e : o < n = grind (arith, nat_tests, other, after) in
        let gone : stands o ns ≡ false = below_none o ns (further ns h.0 e) in
        rw (other, gone) refl
  ]
]
  where
    no_more : (b : Bool) → (b && false) ≡ false
    no_more true = refl
    no_more false = refl

    further : (ms : List ℕ) → AllByRecursion (λ m. n < m) ms → o < n → AllByRecursion (λ m. o < m) ms
    further [] h e = tt
    further (m ∷ ms) h e = (let less = h.0 in omega (arith, less, e), further ms h.1 e)

any_kept : {X Y : Type 0} (test : X → Bool) (f : X → Y) (p : Y → Bool) (xs : List X)
    → list_any p (map f (filter test xs)) ≡ list_any (λ x. test x && p (f x)) xs
any_kept test f p [] = refl
any_kept test f p (x ∷ xs) = at (test x) (any_kept test f p xs)
  where
    at : (b : Bool) → list_any p (map f (filter test xs)) ≡ list_any (λ x. test x && p (f x)) xs
        → list_any p (map f (cond b (x ∷ filter test xs) (filter test xs))) ≡ ((b && p (f x)) || list_any (λ x. test x && p (f x)) xs)
    at true rest = ap (λ b. p (f x) || b) rest
    at false rest = rest

module _ (version : Version) (s : State) (sound : IsSoundOffice s) where
  -- a row is that of the first order for its container
  first_by_rows : (row : OrderRow) → StandsIn row (order_rows s)
      → is_first_waiting (tables version s).desk row ≡ some_and (nat_eq row.id) (first (s.queue row.container))
  first_by_rows row k =
      let i = in_rows (order_row s) s.orders row k in
      let waits_here : nat_eq 1 row.state ≡ stands row.id (s.queue row.container) =
      subst (λ (r : OrderRow). nat_eq 1 r.state ≡ stands r.id (s.queue r.container)) (sym i.3)
      (flipped 1 (order_row s i.0 i.1).state ∙ waits_by_row s i.0 ∙ ap (λ (o : Option Order). some_and (λ c. stands i.0 (s.queue c)) (option_map (λ (order : Order). order.container) o)) i.2) in
      ap (λ b. b && not (list_any (λ (other : OrderRow). waits_for row.container other && nat_lt other.id row.id) (order_rows s))) waits_here
      ∙ ap (λ b. stands row.id (s.queue row.container) && not b)
      (any_same (λ (other : OrderRow). waits_for row.container other && nat_lt other.id row.id) (λ (other : OrderRow). (nat_eq other.container row.container && nat_eq other.state 1) && nat_lt other.id row.id) (order_rows s)
      (λ other. ap (λ b. b && nat_lt other.id row.id)
      (and_comm (nat_eq 1 other.state) (nat_eq row.container other.container) ∙ ap (λ b. b && nat_eq 1 other.state) (flipped row.container other.container) ∙ ap (λ b. nat_eq other.container row.container && b) (flipped 1 other.state)))
      ∙ sym (any_kept (λ (other : OrderRow). nat_eq other.container row.container && nat_eq other.state 1) (λ (other : OrderRow). other.id) (λ n. nat_lt n row.id) (order_rows s))
      ∙ ap (λ (queue : ℕ → List ℕ). list_any (λ n. nat_lt n row.id) (queue row.container)) (reads_back s sound.sound.desk).queues)
      ∙ sym (least_first row.id (s.queue row.container) (sound.sound.desk.filed.queues row.container))

  shelf_by_rows : (c : ℕ) → is_on_shelf (tables version s).desk c ≡ is_shelf (s.place c)
  shelf_by_rows c =
      shelf_in c (holding_rows s)
      ∙ ap (λ (place : ℕ → Place). is_shelf (place c)) (reads_back s sound.sound.desk).places

  due_by_rows : (row : OrderRow) → StandsIn row (order_rows s)
      → is_due s row.id ≡ ((is_first_waiting (tables version s).desk row && is_on_shelf (tables version s).desk row.container) && opens s row.ticket row.container)
  due_by_rows row k =
      let i = in_rows (order_row s) s.orders row k in
      subst (λ (r : OrderRow). is_due s r.id ≡ (some_and (nat_eq r.id) (first (s.queue r.container)) && (is_shelf (s.place r.container) && opens s r.ticket r.container))) (sym i.3)
      (ap (some_and (λ (order : Order). some_and (nat_eq i.0) (first (s.queue order.container)) && (is_shelf (s.place order.container) && opens s order.ticket order.container))) i.2)
      ∙ ap (λ b. b && (is_shelf (s.place row.container) && opens s row.ticket row.container)) (sym (first_by_rows row k))
      ∙ ap (λ b. is_first_waiting (tables version s).desk row && (b && opens s row.ticket row.container)) (sym (shelf_by_rows row.container))
      ∙ assoc (is_first_waiting (tables version s).desk row) (is_on_shelf (tables version s).desk row.container) (opens s row.ticket row.container)
    where
      assoc : (a b c : Bool) → (a && (b && c)) ≡ ((a && b) && c)
      assoc true b c = refl
      assoc false b c = refl

  -- whether the container is open to the reader who waits first for it
  abbrev pub is_open_for : ContainerOrder → Bool
  is_open_for o = opens s o.ticket o.container

  numbers_of_rows : (n : ℕ) (orders : List Order)
      → map (λ (row : OrderRow). row.id) (rows_from (order_row s) n orders) ≡ numbers_from n (length orders)
  numbers_of_rows n [] = refl
  numbers_of_rows n (order ∷ orders) = ap (λ l. n ∷ l) (numbers_of_rows (suc n) orders)

  due_among : (rows : List OrderRow) → ((row : OrderRow) → StandsIn row rows → StandsIn row (order_rows s))
      → filter (is_due s) (map (λ (row : OrderRow). row.id) rows)
      ≡ map (λ (o : ContainerOrder). o.order) (filter is_open_for (map (λ (o : OrderRow). record { container = o.container; order = o.id; ticket = o.ticket }) (filter (λ o. is_first_waiting (tables version s).desk o && is_on_shelf (tables version s).desk o.container) rows)))
  due_among [] within = refl
  due_among (row ∷ rows) within =
      let rest = due_among rows (λ r k. within r (inr k)) in
      ap (λ b. cond b (row.id ∷ filter (is_due s) (map (λ (row : OrderRow). row.id) rows)) (filter (is_due s) (map (λ (row : OrderRow). row.id) rows))) (due_by_rows row (within row (inl refl)))
      ∙ ap (λ l. cond ((is_first_waiting (tables version s).desk row && is_on_shelf (tables version s).desk row.container) && opens s row.ticket row.container) (row.id ∷ l) l) rest
      ∙ at (is_first_waiting (tables version s).desk row && is_on_shelf (tables version s).desk row.container) (opens s row.ticket row.container) refl
    where
      later : List ContainerOrder
      later = map (λ (o : OrderRow). record { container = o.container; order = o.id; ticket = o.ticket }) (filter (λ o. is_first_waiting (tables version s).desk o && is_on_shelf (tables version s).desk o.container) rows)

      at : (a b : Bool) → opens s row.ticket row.container ≡ b
          → cond (a && b) (row.id ∷ map (λ (o : ContainerOrder). o.order) (filter is_open_for later)) (map (λ (o : ContainerOrder). o.order) (filter is_open_for later))
          ≡ map (λ (o : ContainerOrder). o.order) (filter is_open_for (map (λ (o : OrderRow). record { container = o.container; order = o.id; ticket = o.ticket }) (cond a (row ∷ filter (λ o. is_first_waiting (tables version s).desk o && is_on_shelf (tables version s).desk o.container) rows) (filter (λ o. is_first_waiting (tables version s).desk o && is_on_shelf (tables version s).desk o.container) rows))))
      at true true e = rw e refl
      at true false e = rw e refl
      at false b e = refl

  -- the orders that are due are those of the candidates that are open to their readers
  pub due_shown : filter (is_due s) (numbers_to (length s.orders)) ≡ map (λ (o : ContainerOrder). o.order) (filter is_open_for (candidates_of (tables version s).desk))
  due_shown =
      ap (filter (is_due s)) (to_from (length s.orders) ∙ sym (numbers_of_rows 1 s.orders))
      ∙ due_among (order_rows s) (λ row k. k)
