-- What a run takes, by the rows of the desk and in the state: its lines, its containers and its number.
use Rattle.std.proofs.Common.{◌≡◌, ℕ, zero, suc, ◌+◌, ◌<◌, ◌≤◌, drop, get_or, Bool, true, false, cond, ◌&&◌, ◌||◌}
use Rattle.std.proofs.Common.{nat_eq, List, [], ◌∷◌, ◌++◌, length, map, filter, take, Option, Some, None, inl, inr}
use Rattle.std.proofs.Common.{refl, sym, ap, ap₂, subst, ◌∙◌, arith}
use Rattle.std.proofs.lemmas.List.{append-nil}
use Rattle.std.proofs.lemmas.List.Elements.{filter-append, filter_more}
use Rattle.std.specs.List.{IsDistinct}
use Rattle.desk_core.proofs.OrderLemmas.{in_order-permutation}
use Rattle.desk_core.specs.Orders.{in_order}
use Rattle.desk_store.proofs.PickingCalls.{filter_both}
use Rattle.office_core.proofs.Counts.{numbered_from_one}
use Rattle.office_core.proofs.LineOrder.{any-in_order}
use Rattle.office_core.specs.State as state
use Rattle.desk_commands.specs.RunCreation.{open_orders, taken_by}
use Rattle.desk_commands.proofs.Common.{AllByRecursion, ContainerOrder, IsAscending, IsPermutation}
use Rattle.desk_commands.proofs.Common.{IsPermutation-append_right, IsPermutation-map, IsSoundOffice, Line, Order}
use Rattle.desk_commands.proofs.Common.{OrderRow, Run, RunLineRow, StandsIn, State, TakesEachOnce, Version, all_of_in}
use Rattle.desk_commands.proofs.Common.{and_parts, append_assoc, brings, candidates_of, cases_Bool, cons_option}
use Rattle.desk_commands.proofs.Common.{eqb-true, false≢true, filter_map, first, flipped, in_filter, in_map, in_rows}
use Rattle.desk_commands.proofs.Common.{is_due, is_empty, is_first_waiting, is_line_before, is_on_shelf, is_shelf}
use Rattle.desk_commands.proofs.Common.{length-map, length-rows, line_for, line_of_run, lines_from, list_any, most_runs}
use Rattle.desk_commands.proofs.Common.{nat_le, nat_lt, nat_tests, next_run, nth, numbered_within, numbers_to}
use Rattle.desk_commands.proofs.Common.{open_ones, opens, option_map, order_row, order_rows, orders_of_run, picked_due}
use Rattle.desk_commands.proofs.Common.{run_line_row, run_line_rows, run_row, some_and, stands, tables}
use Rattle.desk_commands.proofs.Common.{take-append-drop, take-map, take_all}
use Rattle.desk_commands.proofs.MovedAll.{AreWithin, all_taken}
use Rattle.desk_commands.proofs.Picked.{due_shown, is_open_for}
use Rattle.desk_commands.proofs.Reshelved.{all_left, rising_left, rising_to}

-- ---- the first of a list that pass

-- enough of them pass, so the first that pass are found
pub enough : {X : Type 0} (test : X → Bool) (most i : ℕ) (xs : List X) → most ≤ length (filter test (take i xs))
    → take most (filter test (take i xs)) ≡ take most (filter test xs)
enough test zero i xs low = refl
enough test (suc most) zero xs low = absurd (omega (arith, low))
enough test (suc most) (suc i) [] low = refl
enough test (suc most) (suc i) (x ∷ xs) low = at (test x) low (enough test most i xs) (enough test (suc most) i xs)
  where
    at : (b : Bool) → suc most ≤ length (cond b (x ∷ filter test (take i xs)) (filter test (take i xs)))
        → (most ≤ length (filter test (take i xs)) → take most (filter test (take i xs)) ≡ take most (filter test xs))
        → (suc most ≤ length (filter test (take i xs)) → take (suc most) (filter test (take i xs)) ≡ take (suc most) (filter test xs))
        → take (suc most) (cond b (x ∷ filter test (take i xs)) (filter test (take i xs))) ≡ take (suc most) (cond b (x ∷ filter test xs) (filter test xs))
    at true low one same = ap (λ l. x ∷ l) (one (omega (arith, low)))
    at false low one same = same low

-- the same behind others
pub enough_with : {X : Type 0} (first : List X) (test : X → Bool) (most i : ℕ) (xs : List X) → most ≤ length (first ++ filter test (take i xs))
    → take most (first ++ filter test (take i xs)) ≡ take most (first ++ filter test xs)
enough_with [] test most i xs low = enough test most i xs low
enough_with (x ∷ first) test zero i xs low = refl
enough_with (x ∷ first) test (suc most) i xs low = ap (λ l. x ∷ l) (enough_with first test most i xs (omega (arith, low)))

-- one more of these orders was looked at
pub one_found : (s : State) (first waiting : List ContainerOrder) (i : ℕ) (order : ContainerOrder) → i < length waiting
    → order ≡ get_or waiting i order → (answer : Bool) → answer ≡ opens s order.ticket order.container
    → {due more : List ContainerOrder} → due ≡ first ++ open_ones s (take i waiting) → more ≡ due ++ cond answer (order ∷ []) []
    → more ≡ first ++ open_ones s (take (i + 1) waiting)
one_found s first waiting i order low is answer opened due_is more_is =
    let test : ContainerOrder → Bool = λ o. opens s o.ticket o.container in
    let x = get_or waiting i order in
    more_is
    ∙ ap₂ ◌++◌ due_is (ap (λ b. cond b (order ∷ []) []) opened ∙ ap (λ (o : ContainerOrder). cond (test o) (o ∷ []) []) is)
    ∙ append_assoc first (open_ones s (take i waiting)) (cond (test x) (x ∷ []) [])
    ∙ ap (λ l. first ++ l) (sym (filter_more test waiting i order low))

-- those of the first that pass both tests are as many as are sought
pub head_enough : {X : Type 0} (opened shelved : X → Bool) (most i : ℕ) (xs : List X) → length (filter opened (filter shelved (take i xs))) ≡ most
    → filter opened (filter shelved (take i xs)) ≡ take most (filter opened (filter shelved xs))
head_enough {X} opened shelved most i xs many =
    let both : X → Bool = λ x. shelved x && opened x in
    let same = filter_both opened shelved (take i xs) in
    let low : most ≤ length (filter both (take i xs)) = omega (arith, many, ap length same) in
    let all : length (filter opened (filter shelved (take i xs))) ≤ most = omega (arith, many) in
    sym (take_all most (filter opened (filter shelved (take i xs))) all)
    ∙ ap (take most) same ∙ enough both most i xs low ∙ sym (ap (take most) (filter_both opened shelved xs))

-- those of the first and then of the others
pub head_and_rest : {X : Type 0} (opened shelved : X → Bool) (i : ℕ) (xs : List X)
    → filter opened (filter shelved (take i xs)) ++ filter opened (filter shelved (drop i xs)) ≡ filter opened (filter shelved xs)
head_and_rest opened shelved i xs =
    sym (filter-append opened (filter shelved (take i xs)) (filter shelved (drop i xs)))
    ∙ ap (filter opened) (sym (filter-append shelved (take i xs) (drop i xs)) ∙ ap (filter shelved) (take-append-drop i xs))

-- the open ones of these orders that stand on the shelf: the first of them are looked at first
module _ (s : State) (shelved : ContainerOrder → Bool) (most i : ℕ) (waiting : List ContainerOrder) {near found : List ContainerOrder} (near_is : near ≡ filter shelved (take i waiting)) (found_is : found ≡ open_ones s near) where
  of_first : found ≡ open_ones s (filter shelved (take i waiting))
  of_first = found_is ∙ ap (open_ones s) near_is

  -- they are enough
  pub found_enough : length found ≡ most → found ≡ open_orders s most (filter shelved waiting)
  found_enough many = of_first ∙ head_enough (λ (o : ContainerOrder). opens s o.ticket o.container) shelved most i waiting (sym (ap length of_first) ∙ many)

  -- the others are looked at too
  pub found_later : {far due : List ContainerOrder} → far ≡ filter shelved (drop i waiting)
      → due ≡ take most (found ++ open_ones s far) → due ≡ open_orders s most (filter shelved waiting)
  found_later far_is due_is =
      due_is
      ∙ ap (take most) (ap₂ ◌++◌ of_first (ap (open_ones s) far_is) ∙ head_and_rest (λ (o : ContainerOrder). opens s o.ticket o.container) shelved i waiting)

rising_taken : (k : ℕ) (ns : List ℕ) → IsAscending ns → IsAscending (take k ns)
rising_taken zero ns h = tt
rising_taken (suc k) [] h = tt
rising_taken (suc k) (n ∷ ns) h = (all_taken (λ m. n < m) k ns h.0, rising_taken k ns h.1)

none_mapped : {X Y : Type 0} (f : X → Y) (xs : List X) → is_empty (map f xs) ≡ is_empty xs
none_mapped f [] = refl
none_mapped f (x ∷ xs) = refl

-- ---- the lines of runs

-- an order that is taken, as a line of a run
abbrev pub as_line : ContainerOrder → Line
as_line o = record { container = o.container; order = o.order; ticket = o.ticket }

lines_more : (n : ℕ) (runs : List Run) (run : Run)
    → lines_from n (runs ++ run ∷ []) ≡ lines_from n runs ++ map (run_line_row (n + length runs)) run.lines
lines_more n [] run = append-nil (map (run_line_row n) run.lines) ∙ ap (λ k. map (run_line_row k) run.lines) (let e : n ≡ n + 0 = omega arith in e)
lines_more n (r ∷ runs) run =
    ap (λ l. map (run_line_row n) r.lines ++ l) (lines_more (suc n) runs run ∙ ap (λ k. lines_from (suc n) runs ++ map (run_line_row k) run.lines) (let e : suc n + length runs ≡ n + suc (length runs) = omega arith in e))
    ∙ sym (append_assoc (map (run_line_row n) r.lines) (lines_from (suc n) runs) (map (run_line_row (n + suc (length runs))) run.lines))

-- the lines of the last run come last
lines_end : (runs : List Run) (run : Run)
    → lines_from 1 (runs ++ run ∷ []) ≡ lines_from 1 runs ++ map (run_line_row (suc (length runs))) run.lines
lines_end runs run = lines_more 1 runs run ∙ ap (λ k. lines_from 1 runs ++ map (run_line_row k) run.lines) (let e : 1 + length runs ≡ suc (length runs) = omega arith in e)

line_rows : (n : ℕ) (os : List ContainerOrder) → map (run_line_row n) (map as_line os) ≡ map (line_of_run n) os
line_rows n [] = refl
line_rows n (o ∷ os) = ap (λ l. line_of_run n o ∷ l) (line_rows n os)

any_line : (c : ℕ) (os : List ContainerOrder)
    → list_any (λ (line : Line). nat_eq line.container c) (map as_line os) ≡ stands c (map (λ (o : ContainerOrder). o.container) os)
any_line c [] = refl
any_line c (o ∷ os) = ap (λ b. b || list_any (λ (line : Line). nat_eq line.container c) (map as_line os)) (flipped o.container c) ∙ ap (λ b. nat_eq c o.container || b) (any_line c os)

-- ---- orders that were placed

-- what is told of the order is so
pub record IsPlaced (s : State) (o : ContainerOrder) : Type 0 where
  pub order : Order
  pub there : nth s.orders o.order ≡ Some order
  pub container : order.container ≡ o.container
  pub ticket : order.ticket ≡ o.ticket

module _ (s : State) where
  line_is : (o : ContainerOrder) → IsPlaced s o → line_for s o.order ≡ Some (as_line o)
  line_is o it =
      ap (option_map (λ (order : Order). (let line : Line = record { container = order.container; order = o.order; ticket = order.ticket } in line))) it.there
      ∙ ap (λ c. Some (let line : Line = record { container = c; order = o.order; ticket = it.order.ticket } in line)) it.container
      ∙ ap (λ t. Some (let line : Line = record { container = o.container; order = o.order; ticket = t } in line)) it.ticket

  lines_for : (os : List ContainerOrder) → AllByRecursion (IsPlaced s) os
      → filter_map (line_for s) (map (λ (o : ContainerOrder). o.order) os) ≡ map as_line os
  lines_for [] h = refl
  lines_for (o ∷ os) h =
      ap (λ line. cons_option line (filter_map (line_for s) (map (λ (o : ContainerOrder). o.order) os))) (line_is o h.0)
      ∙ ap (λ l. as_line o ∷ l) (lines_for os h.1)

  abbrev IsHead : ContainerOrder → Type 0
  IsHead o = some_and (nat_eq o.order) (first (s.queue o.container)) ≡ true

  head_of : (o : ContainerOrder) → IsPlaced s o → is_due s o.order ≡ true → IsHead o
  head_of o it due =
      let tests : (some_and (nat_eq o.order) (first (s.queue it.order.container)) && (is_shelf (s.place it.order.container) && opens s it.order.ticket it.order.container)) ≡ true =
      sym (ap (some_and (λ (order : Order). some_and (nat_eq o.order) (first (s.queue order.container)) && (is_shelf (s.place order.container) && opens s order.ticket order.container))) it.there) ∙ due in
      subst (λ c. some_and (nat_eq o.order) (first (s.queue c)) ≡ true) it.container (and_parts (some_and (nat_eq o.order) (first (s.queue it.order.container))) _ tests).0

  one_head : (x : Option ℕ) (o p : ℕ) → some_and (nat_eq o) x ≡ true → some_and (nat_eq p) x ≡ true → o ≡ p
  one_head None o p a b = absurd (false≢true a)
  one_head (Some n) o p a b = eqb-true o n a ∙ sym (eqb-true p n b)

  -- orders that come later are first for other containers
  others : (o : ContainerOrder) (os : List ContainerOrder) → IsHead o → AllByRecursion (IsPlaced s) os
      → AllByRecursion (λ n. is_due s n ≡ true) (map (λ (o : ContainerOrder). o.order) os)
      → AllByRecursion (λ n. o.order < n) (map (λ (o : ContainerOrder). o.order) os)
      → AllByRecursion (λ c. nat_eq o.container c ≡ false) (map (λ (o : ContainerOrder). o.container) os)
  others o [] head placed due later = tt
  others o (x ∷ os) head placed due later = (apart, others o os head placed.1 due.1 later.1)
    where
      apart : nat_eq o.container x.container ≡ false
      apart = elim (cases_Bool (nat_eq o.container x.container)) [
        | inl same ↦
            let e = eqb-true o.container x.container same in
            let k = one_head (first (s.queue x.container)) o.order x.order (subst (λ c. some_and (nat_eq o.order) (first (s.queue c)) ≡ true) e head) (head_of x placed.0 due.0) in
            let less = later.0 in
            absurd (omega (arith, k, less))
        | inr other ↦ other
      ]

  each_once : (os : List ContainerOrder) → AllByRecursion (IsPlaced s) os
      → AllByRecursion (λ n. is_due s n ≡ true) (map (λ (o : ContainerOrder). o.order) os)
      → IsAscending (map (λ (o : ContainerOrder). o.order) os)
      → IsDistinct nat_eq (map (λ (o : ContainerOrder). o.container) os)
  unfolding IsDistinct
  each_once [] placed due rises = tt
  each_once (o ∷ os) placed due rises =
      (others o os (head_of o placed.0 due.0) placed.1 due.1 rises.0, each_once os placed.1 due.1 rises.1)

-- ---- what the next run takes

module _ (version : Version) (s : State) where
  candidate_placed : (o : ContainerOrder) → StandsIn o (candidates_of (tables version s).desk) → IsPlaced s o
  candidate_placed o k =
      let as_first : OrderRow → ContainerOrder =
      λ row. record { container = row.container; order = row.id; ticket = row.ticket } in
      let test : OrderRow → Bool =
      λ row. is_first_waiting (tables version s).desk row && is_on_shelf (tables version s).desk row.container in
      let i = in_map as_first (filter test (order_rows s)) o k in
      let m = in_rows (order_row s) s.orders i.0 (in_filter test (order_rows s) i.0 i.1).0 in
      subst (IsPlaced s) (sym (i.2 ∙ ap as_first m.3)) (record { order = m.1; there = m.2; container = refl; ticket = refl })

  module _ (sound : IsSoundOffice s) where
    pub taken_placed : AllByRecursion (IsPlaced s) (taken_by version s)
    taken_placed =
        all_taken (IsPlaced s) s.settings.run_size (filter (is_open_for version s sound) (candidates_of (tables version s).desk))
        (all_left (IsPlaced s) (is_open_for version s sound) (candidates_of (tables version s).desk)
        (all_of_in (IsPlaced s) (candidates_of (tables version s).desk) candidate_placed))

    pub picked_are : orders_of_run s ≡ map (λ (o : ContainerOrder). o.order) (taken_by version s)
    picked_are =
        ap (take s.settings.run_size) (due_shown version s sound)
        ∙ take-map (λ (o : ContainerOrder). o.order) s.settings.run_size (filter (is_open_for version s sound) (candidates_of (tables version s).desk))

    pub as_many : length (orders_of_run s) ≡ length (taken_by version s)
    as_many = ap length picked_are ∙ length-map (taken_by version s) (λ (o : ContainerOrder). o.order)

    pub none_taken : is_empty (orders_of_run s) ≡ is_empty (taken_by version s)
    none_taken = ap is_empty picked_are ∙ none_mapped (λ (o : ContainerOrder). o.order) (taken_by version s)

    lines_are : (state.new_run s).lines ≡ in_order is_line_before (map as_line (taken_by version s))
    lines_are =
        ap (λ os. in_order is_line_before (filter_map (line_for s) os)) picked_are
        ∙ ap (in_order is_line_before) (lines_for s (taken_by version s) taken_placed)

    pub brought : (c : ℕ)
        → brings (state.new_run s) c ≡ stands c (map (λ (o : ContainerOrder). o.container) (taken_by version s))
    brought c =
        ap (list_any (λ (line : Line). nat_eq line.container c)) lines_are
        ∙ any-in_order is_line_before (λ (line : Line). nat_eq line.container c) (map as_line (taken_by version s))
        ∙ any_line c (taken_by version s)

    -- the rows of the lines, as they are put and as they stand in the run
    pub same_lines : IsPermutation (run_line_rows s ++ map (line_of_run (suc (length s.runs))) (taken_by version s)) (lines_from 1 (s.runs ++ state.new_run s ∷ []))
    same_lines =
        let n = suc (length s.runs) in
        subst (IsPermutation (run_line_rows s ++ map (line_of_run n) (taken_by version s))) (sym (lines_end s.runs (state.new_run s)))
        (IsPermutation-append_right (run_line_rows s) (map (line_of_run n) (taken_by version s)) (map (run_line_row n) (state.new_run s).lines)
        (subst (λ (l : List RunLineRow). IsPermutation l (map (run_line_row n) (state.new_run s).lines)) (line_rows n (taken_by version s))
        (IsPermutation-map (run_line_row n) (map as_line (taken_by version s)) (state.new_run s).lines
        (subst (IsPermutation (map as_line (taken_by version s))) (sym lines_are) (in_order-permutation is_line_before (map as_line (taken_by version s)))))))

    pub taken_once : TakesEachOnce (taken_by version s)
    taken_once = each_once s (taken_by version s) taken_placed
        (subst (AllByRecursion (λ n. is_due s n ≡ true)) picked_are (picked_due s))
        (subst IsAscending picked_are (rising_taken s.settings.run_size (filter (is_due s) (numbers_to (length s.orders))) (rising_left (is_due s) (numbers_to (length s.orders)) (rising_to (length s.orders)))))

    in_house : (o : ContainerOrder) → IsPlaced s o → (1 ≤ o.container) × (o.container ≤ length s.catalogue.containers)
    in_house o it =
        let known = (sound.sound.desk.orders.each o.order it.order it.there).container in
        subst (λ c. (1 ≤ c) × (c ≤ length s.catalogue.containers)) it.container
        (numbered_from_one s.catalogue.containers it.order.container known, numbered_within s.catalogue.containers it.order.container known)

    all_in_house : (os : List ContainerOrder) → AllByRecursion (IsPlaced s) os
        → AreWithin (length s.catalogue.containers) (map (λ (o : ContainerOrder). o.container) os)
    all_in_house [] h = tt
    all_in_house (o ∷ os) h = (in_house o h.0, all_in_house os h.1)

    pub taken_within : AreWithin (length s.catalogue.containers) (map (λ (o : ContainerOrder). o.container) (taken_by version s))
    taken_within = all_in_house (taken_by version s) taken_placed

-- ---- the number of the next run

next_as : (version : Version) (s : State) (b : Bool) → nat_le most_runs (length s.runs) ≡ b
    → next_run (tables version s).desk ≡ cond b None (Some (suc (length s.runs)))
next_as version s b e = ap (λ n. cond (nat_lt n most_runs) (Some (suc n)) None) (length-rows run_row 1 s.runs) ∙ at b e
  where
    at : (b : Bool) → nat_le most_runs (length s.runs) ≡ b
        → cond (nat_lt (length s.runs) most_runs) (Some (suc (length s.runs))) None ≡ cond b None (Some (suc (length s.runs)))
    at true e = let less : nat_lt (length s.runs) most_runs ≡ false = grind (arith, nat_tests, e) in rw less refl
    at false e = let less : nat_lt (length s.runs) most_runs ≡ true = grind (arith, nat_tests, e) in rw less refl

-- no number is left where there were as many runs as there may be
pub none_left : (version : Version) (s : State) → None ≡ next_run (tables version s).desk
    → nat_le most_runs (length s.runs) ≡ true
none_left version s is = elim (cases_Bool (nat_le most_runs (length s.runs))) [
  | inl full ↦ full
  | inr room ↦ absurd (let bad : None ≡ Some (suc (length s.runs)) = is ∙ next_as version s false room in cc)
]

pub one_left : (version : Version) (s : State) (n : ℕ) → Some n ≡ next_run (tables version s).desk
    → (nat_le most_runs (length s.runs) ≡ false) × (n ≡ suc (length s.runs))
one_left version s n is = elim (cases_Bool (nat_le most_runs (length s.runs))) [
  | inl full ↦ absurd (let bad : Some n ≡ None = is ∙ next_as version s true full in cc)
  | inr room ↦ (room, (let e : Some n ≡ Some (suc (length s.runs)) = is ∙ next_as version s false room in cc))
]
