-- Containers that go back to the shelf, in the rows of the desk.
use Rattle.std.proofs.Common.{◌≡◌, ℕ, zero, suc, ◌||◌, ◌<◌, ◌≤◌, Bool, true, false, not, cond, ◌&&◌, nat_eq, List, []}
use Rattle.std.proofs.Common.{◌∷◌, length, map, filter, Some, None, Ok, refl, sym, ap, ◌∙◌, arith}
use Rattle.std.proofs.Math.Bool.{and_comm}
use Rattle.desk_core.specs.Orders.{in_order, put_in_order}
use Rattle.desk_core.specs.Runs as decided
use Rattle.desk_core.specs.declared.reader.Place.TheVariants.{Desk}
use Rattle.office_tables.specs.Schema as schema
use Rattle.office_core.specs.declared.command.Command.TheVariants as command
use Rattle.office_core.specs.declared.done.Done.TheVariants as done
use Rattle.desk_commands.proofs.Common.{AllByRecursion, CarriesOutStep, Database, Forest, HoldingRow, IsAscending}
use Rattle.desk_commands.proofs.Common.{IsSoundOffice, NothingToMove, OnlyTouches, OrderRow, Out, Place, RepresentsDesk}
use Rattle.desk_commands.proofs.Common.{RepresentsState, Shelf, State, Trees, Version, accepts, all_of_in, any_same}
use Rattle.desk_commands.proofs.Common.{ascending-push, at_desk_of, cons_option, containers, flipped, goes_same}
use Rattle.desk_commands.proofs.Common.{holding_row, idle, in_filter, in_numbers, is_desk, is_empty, is_idle, list_any}
use Rattle.desk_commands.proofs.Common.{nat_lt, nat_tests, numbers_to, order_rows, reads_back, refusal, reshelved}
use Rattle.desk_commands.proofs.Common.{reshelved_out, rows_of, some_and, tables, waits_for, with_all_placed}
use Rattle.desk_commands.proofs.MovedAll.{AreWithin, all_moved, rows_stay}

-- ---- whether an order waits for a container

none_kept : {X Y : Type 0} (test : X → Bool) (f : X → Y) (xs : List X)
    → is_empty (map f (filter test xs)) ≡ not (list_any test xs)
none_kept test f [] = refl
none_kept test f (x ∷ xs) = at (test x) (none_kept test f xs)
  where
    at : (b : Bool) → is_empty (map f (filter test xs)) ≡ not (list_any test xs)
        → is_empty (map f (cond b (x ∷ filter test xs) (filter test xs))) ≡ not (b || list_any test xs)
    at true rest = refl
    at false rest = rest

pub awaited : (s : State) → IsSoundOffice s → (c : ℕ)
    → not (list_any (waits_for c) (order_rows s)) ≡ is_empty (s.queue c)
awaited s sound c =
    ap not (any_same (waits_for c) (λ (row : OrderRow). nat_eq row.container c && nat_eq row.state 1) (order_rows s)
    (λ row. and_comm (nat_eq 1 row.state) (nat_eq c row.container) ∙ ap (λ b. b && nat_eq 1 row.state) (flipped c row.container) ∙ ap (λ b. nat_eq row.container c && b) (flipped 1 row.state)))
    ∙ sym (none_kept (λ (row : OrderRow). nat_eq row.container c && nat_eq row.state 1) (λ (row : OrderRow). row.id) (order_rows s))
    ∙ ap (λ (queue : ℕ → List ℕ). is_empty (queue c)) (reads_back s sound.sound.desk).queues

-- ---- those that are told are those that nobody waits for

abbrev told_of : State → List HoldingRow → List (ℕ × Bool)
told_of s rows = map (λ (h : HoldingRow). (h.container, list_any (waits_for h.container) (order_rows s))) (filter (λ h. nat_eq 1 h.place) rows)

told_idle : (s : State) → IsSoundOffice s → (cs : List ℕ)
    → decided.idle_containers (told_of s (rows_of s.place cs)) ≡ filter (is_idle s) cs
told_idle s sound [] = refl
told_idle s sound (c ∷ cs) = at (s.place c) (told_idle s sound cs)
  where
    kept : (b : Bool) (rest : List (ℕ × Bool))
        → map (λ (x : ℕ × Bool). x.0) (cond (not b) ((c, b) ∷ rest) rest) ≡ cond (not b) (c ∷ map (λ (x : ℕ × Bool). x.0) rest) (map (λ (x : ℕ × Bool). x.0) rest)
    kept true rest = refl
    kept false rest = refl

    at : (p : Place) → decided.idle_containers (told_of s (rows_of s.place cs)) ≡ filter (is_idle s) cs
        → decided.idle_containers (told_of s (cons_option (holding_row c p) (rows_of s.place cs))) ≡ cond (is_desk p && is_empty (s.queue c)) (c ∷ filter (is_idle s) cs) (filter (is_idle s) cs)
    at Shelf rest = rest
    at (Out o) rest = rest
    at Desk rest =
        kept (list_any (waits_for c) (order_rows s)) (filter (λ (x : ℕ × Bool). not x.1) (told_of s (rows_of s.place cs)))
        ∙ ap (λ l. cond (not (list_any (waits_for c) (order_rows s))) (c ∷ l) l) rest
        ∙ ap (λ b. cond b (c ∷ filter (is_idle s) cs) (filter (is_idle s) cs)) (awaited s sound c)

-- numbers that rise are in order
before_all : (n : ℕ) (ns : List ℕ) → AllByRecursion (λ m. n < m) ns → put_in_order nat_lt n ns ≡ n ∷ ns
before_all n [] h = refl
before_all n (m ∷ ms) h = let less = h.0 in let e : nat_lt m n ≡ false = grind (arith, nat_tests, less) in rw e refl

rising_order : (ns : List ℕ) → IsAscending ns → in_order nat_lt ns ≡ ns
rising_order [] h = refl
rising_order (n ∷ ns) h = ap (put_in_order nat_lt n) (rising_order ns h.1) ∙ before_all n ns h.0

left_at : {X : Type 0} (P : X → Type 0) (b : Bool) (n : X) (ns : List X) → P n → AllByRecursion P ns
    → AllByRecursion P (cond b (n ∷ ns) ns)
left_at P true n ns good h = (good, h)
left_at P false n ns good h = h

pub all_left : {X : Type 0} (P : X → Type 0) (test : X → Bool) (ns : List X) → AllByRecursion P ns
    → AllByRecursion P (filter test ns)
all_left P test [] h = tt
all_left P test (n ∷ ns) h = left_at P (test n) n (filter test ns) h.0 (all_left P test ns h.1)

rising_at : (b : Bool) (n : ℕ) (ns : List ℕ) → AllByRecursion (λ m. n < m) ns → IsAscending ns
    → IsAscending (cond b (n ∷ ns) ns)
rising_at true n ns above h = (above, h)
rising_at false n ns above h = h

pub rising_left : (test : ℕ → Bool) (ns : List ℕ) → IsAscending ns → IsAscending (filter test ns)
rising_left test [] h = tt
rising_left test (n ∷ ns) h =
    rising_at (test n) n (filter test ns) (all_left (λ m. n < m) test ns h.0) (rising_left test ns h.1)

pub rising_to : (n : ℕ) → IsAscending (numbers_to n)
rising_to zero = tt
rising_to (suc n) = ascending-push (numbers_to n) (suc n) (rising_to n) (all_of_in (λ m. m < suc n) (numbers_to n) (λ m k. let h = (in_numbers n m k).1 in omega (arith, h)))

module _ (version : Version) (s : State) (sound : IsSoundOffice s) where
  -- what is picked of what is told
  picks_idle : decided.reshelved_containers (at_desk_of (tables version s).desk) ≡ idle s
  picks_idle =
      ap (in_order nat_lt) (told_idle s sound (containers s))
      ∙ rising_order (idle s) (rising_left (is_idle s) (containers s) (rising_to (length s.catalogue.containers)))

  -- it was picked, and it was told whether there is any
  pub idle_told : {told : List (ℕ × Bool)} {picked seen : List ℕ} {none b : Bool}
      → picked ≡ decided.reshelved_containers told → told ≡ at_desk_of (tables version s).desk
      → none ≡ is_empty seen → seen ≡ picked → none ≡ b → (picked ≡ idle s) × (is_empty (idle s) ≡ b)
  idle_told picked_is told_is none_is same is =
      let all = picked_is ∙ ap decided.reshelved_containers told_is ∙ picks_idle in
      (all, ap is_empty (sym all) ∙ ap is_empty (sym same) ∙ sym none_is ∙ is)

  idle_within : AreWithin (length s.catalogue.containers) (idle s)
  idle_within = all_of_in (λ c. (1 ≤ c) × (c ≤ length s.catalogue.containers)) (idle s) (λ c k. in_numbers (length s.catalogue.containers) c (in_filter (is_idle s) (containers s) c k).0)

  pub nothing_idle : is_empty (idle s) ≡ true → refusal s command.Reshelve ≡ Some NothingToMove
  nothing_idle none = rw none refl

  module _ (places : Trees → Forest ℕ → Type 0) where
    pub reshelves : ((old new : Trees) (f : Forest ℕ) → new schema.link.tree ≡ old schema.link.tree → places old f → places new f)
        → (before now : Database) → is_empty (idle s) ≡ false → RepresentsState places version before s
        → now.schema ≡ before.schema → OnlyTouches (schema.holding.tree ∷ []) before now
        → RepresentsDesk now.trees (with_all_placed Shelf (idle s) (tables version s).desk)
        → CarriesOutStep places version s command.Reshelve (Ok (done.Reshelve (idle s))) now
    reshelves same before now some it schema_is only shown =
        let why : refusal s command.Reshelve ≡ None = rw some refl in
        let t = reshelved s in
        let stay : order_rows t ≡ order_rows s =
        rows_stay s t (λ o. goes_same s t o refl (λ c. refl) (λ c. ap (λ p. some_and (nat_eq o) p) (reshelved_out s c)) refl) refl in
        accepts places version s command.Reshelve same before now (schema.holding.tree ∷ []) refl why tt it schema_is only
        t refl refl refl (with_all_placed Shelf (idle s) (tables version s).desk) shown
        (ap (λ (rows : List OrderRow). record (tables version t).desk { orders = rows }) stay
        ∙ ap (λ (rows : List HoldingRow). record (tables version s).desk { holdings = rows }) (all_moved s.place Shelf (length s.catalogue.containers) (idle s) idle_within))
        (done.Reshelve (idle s)) refl
