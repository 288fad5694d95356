-- The statements on what was ordered that a reader's card tells: what their texts mean, what they tell, and why they fail.
use Rattle.std.proofs.Common.{◌≡◌, ◌≤◌, ◌<◌, ◌^◌, ℕ, ℤ, pos, List, [], ◌∷◌, length, codes, ◌&&◌, Result, IfOk, IfErr}
use Rattle.std.proofs.Common.{nat_eq, refl, arith, map, filter, true, false, Bool, cond, Less, Equal, Greater}
use Rattle.std.proofs.Common.{Ordering, ap, ap₂, ◌∙◌, ◌||◌, ◌++◌, not, sym, subst, get_or, ◌+◌}
use Rattle.std.proofs.Math.Bool.{and-false}
use Rattle.std.proofs.lemmas.List.Sorted.{IsPermutation-filter_both, IsPermutation-trans}
use Rattle.std.specs.List.Sorted.{IsNonDecreasingBy}
use Rattle.sqlite.specs.Listing.{understood}
use Rattle.sqlite_tied.specs.Compute.{everything}
use Rattle.tree_core.proofs.Lists.{eqb_comm}
use Rattle.office_tables.proofs.Common.{pull_back}
use Rattle.office_tables.proofs.Rows.{filters, same_test}
use Rattle.office_tables.proofs.statements.CountOf.{counting, count_finds, count_faults}
use Rattle.desk_store.proofs.Common.{AllByRecursion, AreCounted, Binary, Command, Compare, Eq, Finds, FindsFirst}
use Rattle.desk_store.proofs.Common.{HasCause, Holds, IfOk-weaker, Int, IsPermutation, IsSorted, IsTotalOrder}
use Rattle.desk_store.proofs.Common.{IsUnlimited, Key, Means, Misses, OrderLine, OrderRow, Row, Select, State}
use Rattle.desk_store.proofs.Common.{StoreFault, Term, Version, ⊤, ascending, ascending-filter, asking, both}
use Rattle.desk_store.proofs.Common.{by_one_int, col, count_by, counted_rises, eq_ints, eqb-true, get_or-map}
use Rattle.desk_store.proofs.Common.{has_not_ended, int_cmp, int_cmp_total, int_eq, is_lt, last_faults, last_finds}
use Rattle.desk_store.proofs.Common.{last_of, le_refl, length-map, map-append, most_orders, nat_lt, nat_tests}
use Rattle.desk_store.proofs.Common.{on_total, only_order, op2, order_cells, orders, same_number, schema}
use Rattle.desk_store.proofs.Common.{select_faults, select_finds}

-- ---- how many orders there are

abbrev pub last_order_text : List ℕ
last_order_text = codes "SELECT id FROM orders ORDER BY id DESC LIMIT 1"

abbrev pub last_order_command : Command
last_order_command = Select (last_of orders) (codes "id" ∷ [])

pub last_order_means : (v : Version) → Means v last_order_text 0 last_order_command
unfolding understood everything
last_order_means v = record { is = refl; plain = (refl, refl); whole = (le_refl _, refl, refl); unlisted = refl }

-- ---- the orders of a ticket in a state

lesser : (a b : ℕ) → is_lt (int_cmp (pos a) (pos b)) ≡ nat_lt a b
lesser a b = by (nat_lt a b) (nat_lt b a)
  where
    by : (x y : Bool) → is_lt (cond x Less (cond y Greater Equal)) ≡ x
    by true y = refl
    by false true = refl
    by false false = refl

abbrev pub by_order : OrderRow → OrderRow → Ordering
by_order a b = int_cmp (pos a.id) (pos b.id)

pub by_order_total : IsTotalOrder by_order
by_order_total = on_total (λ (o : OrderRow). pos o.id) int_cmp_total

abbrev pub line_of : OrderRow → OrderLine
line_of o = record { order = o.id; container = o.container; state = o.state }

abbrev pub line_cells : OrderLine → Row
line_cells o = Int (pos o.order) ∷ Int (pos o.container) ∷ Int (pos o.state) ∷ []

abbrev pub in_order : List (Term × Key)
in_order = (col 1 0, ascending Binary) ∷ []

abbrev lines_there : List Term
lines_there = op2 (Compare Eq Binary) (col 1 2) (col 0 0) ∷ op2 (Compare Eq Binary) (col 1 5) (col 0 1) ∷ []

abbrev line_columns : List Term
line_columns = col 1 0 ∷ col 1 3 ∷ col 1 5 ∷ []

abbrev line_names : List (List ℕ)
line_names = codes "id" ∷ codes "container" ∷ codes "state" ∷ []

abbrev pub lines_text : List ℕ
lines_text = codes "SELECT id, container, state FROM orders WHERE ticket = ?1 AND state = ?2 ORDER BY id"

abbrev pub lines_command : Command
lines_command = Select (asking orders lines_there line_columns in_order) line_names

pub lines_means : (v : Version) → Means v lines_text 2 lines_command
unfolding understood everything
lines_means v = record { is = refl; plain = (refl, refl); whole = (le_refl _, refl, refl); unlisted = refl }

each_read : (xs : List OrderRow) → AllByRecursion (λ _. ⊤) xs
each_read [] = tt
each_read (x ∷ xs) = (tt, each_read xs)

-- the ticket's orders in this state
abbrev pub in_state : ℕ → ℕ → OrderRow → Bool
in_state t n o = nat_eq t o.ticket && nat_eq o.state n

module _ (old new : State) (t n : ℕ) (v : Version) (has : old.now.schema ≡ schema v) (xs : List OrderRow) (stored : Holds orders order_cells old xs) {X : Type 0} (items : X → List OrderLine) (r : Result X StoreFault) where
  pub lines_find : AreCounted (λ (o : OrderRow). o.id) xs → IfOk r (λ found. Finds line_cells lines_text (Int (pos t) ∷ Int (pos n) ∷ []) old new (items found))
      → IfOk r (λ found. items found ≡ map line_of (filter (in_state t n) xs))
  lines_find counted found =
      IfOk-weaker r _ _ (λ all it. it.2 ∙ ap (map line_of) (only_order by_order by_order_total (filter (in_state t n) xs) it.0 (ascending-filter _ (in_state t n) xs (counted_rises (λ (o : OrderRow). o.id) 1 xs counted)) it.1.1 it.1.0))
      (select_finds v orders lines_text lines_there line_columns in_order line_names (Int (pos t) ∷ Int (pos n) ∷ []) (lines_means v) old new has order_cells xs stored
      (in_state t n) (λ o. both (same_number o.ticket t) (same_number o.state n ∙ eqb_comm n o.state)) (λ o. line_cells (line_of o)) (λ (o : OrderRow). Int (pos o.id) ∷ []) (λ _. refl) by_order (λ _. refl) (λ a b. by_one_int (pos a.id) (pos b.id))
      line_cells items line_of (λ _. refl) r found)

  pub lines_fault : IsUnlimited old → IfErr r (Misses line_cells (λ _. ⊤) lines_text (Int (pos t) ∷ Int (pos n) ∷ []) old new)
      → IfErr r (HasCause old new)
  lines_fault free =
      select_faults v orders lines_text lines_there line_columns in_order line_names (Int (pos t) ∷ Int (pos n) ∷ []) (lines_means v) old new has order_cells xs stored
      (in_state t n) (λ o. both (same_number o.ticket t) (same_number o.state n ∙ eqb_comm n o.state)) (λ o. line_cells (line_of o)) (λ (o : OrderRow). Int (pos o.id) ∷ []) (λ _. refl) by_order (λ _. refl) (λ a b. by_one_int (pos a.id) (pos b.id))
      line_cells items line_of (λ _. refl) (λ _. ⊤) refl free (each_read xs) r

-- ---- both lists in one order

-- an order waits or is out, and never both
apart : (mine : Bool) (n : ℕ) → ((mine && (nat_eq n 1 || nat_eq n 2)) && nat_eq n 1) ≡ (mine && nat_eq n 1)
apart false n = refl
apart true n = elim (nat_eq n 1) as (λ b. ((b || nat_eq n 2) && b) ≡ b) [ true ↦ refl | false ↦ and-false (nat_eq n 2) ]

later : (mine : Bool) (n : ℕ) → ((mine && (nat_eq n 1 || nat_eq n 2)) && not (nat_eq n 1)) ≡ (mine && nat_eq n 2)
later false n = refl
later true n = by (nat_eq n 1) (nat_eq n 2) refl refl
  where
    by : (x y : Bool) → nat_eq n 1 ≡ x → nat_eq n 2 ≡ y → ((x || y) && not x) ≡ y
    by true true h k = absurd (let one = eqb-true n 1 h in let two = eqb-true n 2 k in omega (arith, one, two))
    by true false h k = refl
    by false true h k = refl
    by false false h k = refl

abbrev pub is_live : ℕ → OrderRow → Bool
is_live t o = nat_eq t o.ticket && has_not_ended o

both_lists : (t : ℕ) (xs : List OrderRow) → IsPermutation (filter (is_live t) xs) (filter (in_state t 1) xs ++ filter (in_state t 2) xs)
both_lists t xs =
    subst (IsPermutation (filter (is_live t) xs))
    (ap₂ (λ l m. l ++ m)
    (filters (is_live t) (λ (o : OrderRow). nat_eq o.state 1) xs ∙ same_test _ _ (λ (o : OrderRow). apart (nat_eq t o.ticket) o.state) xs)
    (filters (is_live t) (λ (o : OrderRow). not (nat_eq o.state 1)) xs ∙ same_test _ _ (λ (o : OrderRow). later (nat_eq t o.ticket) o.state) xs))
    (IsPermutation-filter_both (λ (o : OrderRow). nat_eq o.state 1) (λ (o : OrderRow). not (nat_eq o.state 1)) (λ o. refl) (filter (is_live t) xs))

rows_sorted : (zs : List OrderRow) → IsNonDecreasingBy (λ (l : OrderLine). l.order) (map line_of zs) → IsSorted by_order zs
rows_sorted zs up k d low high =
    let long = length-map zs line_of in
    let le : (get_or zs k d).id ≤ (get_or zs (k + 1) d).id =
    rw (sym (ap (λ (l : OrderLine). l.order) (get_or-map line_of zs k d (line_of d) (omega (arith, high)))), sym (ap (λ (l : OrderLine). l.order) (get_or-map line_of zs (k + 1) d (line_of d) high)))
    (up k (k + 1) (line_of d) (omega arith) (omega (arith, high, long))) in
    lesser (get_or zs (k + 1) d).id (get_or zs k d).id ∙ grind (arith, nat_tests, le)

pub lines_together : (t : ℕ) (xs : List OrderRow) → AreCounted (λ (o : OrderRow). o.id) xs → (waiting out lines : List OrderLine)
    → waiting ≡ map line_of (filter (in_state t 1) xs) → out ≡ map line_of (filter (in_state t 2) xs)
    → IsPermutation (waiting ++ out) lines → IsNonDecreasingBy (λ (l : OrderLine). l.order) lines
    → lines ≡ map line_of (filter (is_live t) xs)
lines_together t xs counted waiting out lines first second same up =
    let both = filter (in_state t 1) xs ++ filter (in_state t 2) xs in
    let back = pull_back line_of (waiting ++ out) lines same both (ap₂ (λ l m. l ++ m) first second ∙ sym (map-append line_of (filter (in_state t 1) xs) (filter (in_state t 2) xs))) in
    let rising = ascending-filter _ (is_live t) xs (counted_rises (λ (o : OrderRow). o.id) 1 xs counted) in
    back.2 ∙ ap (map line_of) (only_order by_order by_order_total (filter (is_live t) xs) back.0 rising
    (rows_sorted back.0 (subst (IsNonDecreasingBy (λ (l : OrderLine). l.order)) back.2 up))
    (IsPermutation-trans (filter (is_live t) xs) both back.0 (both_lists t xs) back.1))

-- ---- how many a ticket placed on a day

abbrev pub placed_text : List ℕ
placed_text = codes "SELECT count(*) FROM orders WHERE ticket = ?1 AND day = ?2"

abbrev placed_there : List Term
placed_there = op2 (Compare Eq Binary) (col 1 2) (col 0 0) ∷ op2 (Compare Eq Binary) (col 1 4) (col 0 1) ∷ []

abbrev pub placed_command : Command
placed_command = Select (counting orders placed_there) (codes "count(*)" ∷ [])

pub placed_means : (v : Version) → Means v placed_text 2 placed_command
unfolding understood everything
placed_means v = record { is = refl; plain = (refl, refl); whole = (le_refl _, refl, refl); unlisted = refl }

module _ (old new : State) (v : Version) (has : old.now.schema ≡ schema v) (xs : List OrderRow) (stored : Holds orders order_cells old xs) (few : length xs ≤ most_orders) (r : Result ℕ StoreFault) where
  pub last_order_finds : AreCounted (λ (o : OrderRow). o.id) xs → IfOk r (FindsFirst last_order_text [] old new)
      → IfOk r (λ n. n ≡ length xs)
  last_order_finds counted =
      last_finds (λ (o : OrderRow). o.id) v orders last_order_text (codes "id" ∷ []) (last_order_means v) old new has order_cells (λ _. refl) xs stored counted r

  pub last_order_faults : AreCounted (λ (o : OrderRow). o.id) xs → IsUnlimited old
      → IfErr r (Misses (λ n. Int (pos n) ∷ []) (λ n. n < 2 ^ 32) last_order_text [] old new)
      → IfErr r (HasCause old new)
  last_order_faults counted free =
      last_faults (λ (o : OrderRow). o.id) v orders last_order_text (codes "id" ∷ []) (last_order_means v) old new has order_cells (λ _. refl) xs stored counted refl (omega (arith, few)) free r

  module _ (t : ℕ) (day : ℤ) where
    pub placed_finds : IfOk r (FindsFirst placed_text (Int (pos t) ∷ Int day ∷ []) old new)
        → IfOk r (λ n. n ≡ count_by (λ (o : OrderRow). nat_eq t o.ticket && int_eq o.day day) xs)
    placed_finds =
        count_finds v orders placed_text placed_there (codes "count(*)" ∷ []) (Int (pos t) ∷ Int day ∷ []) (placed_means v) old new has order_cells xs stored
        (λ (o : OrderRow). nat_eq t o.ticket && int_eq o.day day) (λ o. both (same_number o.ticket t) (eq_ints o.day day)) (omega (arith, few)) r

    pub placed_faults : IsUnlimited old
        → IfErr r (Misses (λ n. Int (pos n) ∷ []) (λ n. n < 2 ^ 32) placed_text (Int (pos t) ∷ Int day ∷ []) old new)
        → IfErr r (HasCause old new)
    placed_faults free =
        count_faults v orders placed_text placed_there (codes "count(*)" ∷ []) (Int (pos t) ∷ Int day ∷ []) (placed_means v) old new has order_cells xs stored
        (λ (o : OrderRow). nat_eq t o.ticket && int_eq o.day day) (λ o. both (same_number o.ticket t) (eq_ints o.day day)) (omega (arith, few)) refl free r
