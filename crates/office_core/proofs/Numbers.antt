-- Numbers are given in order, from 1 on.
use Rattle.std.proofs.Common.{◌≡◌, ℕ, zero, suc, ◌+◌, ◌-◌, ◌≤◌, List, [], ◌∷◌, ◌++◌, length, Option, Some, None, Ok}
use Rattle.std.proofs.Common.{Err, refl, sym, ap, ◌∙◌, subst, arith, length-append}
use Rattle.desk_core.specs.declared.reader.Place.{Place}
use Rattle.office_core.specs.declared.command.Command.TheVariants as command
use Rattle.office_core.proofs.Common.{Bytes, Command, Containers, Desk, GivenInOrder, Kind, Orders, Out, Refusal, Runs}
use Rattle.office_core.proofs.Common.{Shelf, StartsAtOne, State, Taken, Tickets, Units, after, all_given, boxes_after}
use Rattle.office_core.proofs.Common.{cancelled, container_of, distinct, given_numbers, intake_of, issued, new_boxes}
use Rattle.office_core.proofs.Common.{next_after, next_number, numbers_from, option_to_list, order_given, result_of}
use Rattle.office_core.proofs.Common.{returned, run_given, state_after, step, ticket_given, with_import}
use Rattle.office_core.proofs.Steps.{step_at}
use Rattle.office_core.proofs.Boxes.{step_apart}
use Rattle.office_core.proofs.Readers.{length-renewed}

-- these numbers are all from low to below high, in order
record Fill (low high : ℕ) (ns : List ℕ) : Type 0 where
  are : ns ≡ numbers_from low (high - low)
  no_lower : low ≤ high

none_between : (low high : ℕ) → high ≡ low → Fill low high []
none_between low high e =
    let none : high - low ≡ 0 = omega (arith, e) in
    record { are = ap (numbers_from low) (sym none); no_lower = omega (arith, e) }

next_one : (n : ℕ) → Fill n (suc n) (n ∷ [])
next_one n = let one : suc n - n ≡ 1 = omega arith in record { are = ap (numbers_from n) (sym one); no_lower = omega arith }

numbers_further : (m a b : ℕ) → numbers_from m a ++ numbers_from (m + a) b ≡ numbers_from m (a + b)
numbers_further m zero b = let e : m + zero ≡ m = omega arith in let d : zero + b ≡ b = omega arith in ap (λ k. numbers_from k b) e ∙ ap (numbers_from m) (sym d)
numbers_further m (suc a) b =
    let e : m + suc a ≡ suc m + a = omega arith in
    let d : suc a + b ≡ suc (a + b) = omega arith in
    ap (λ k. m ∷ (numbers_from (suc m) a ++ numbers_from k b)) e ∙ (ap (λ l. m ∷ l) (numbers_further (suc m) a b) ∙ ap (numbers_from m) (sym d))

fill_further : (low mid high : ℕ) (ms ns : List ℕ) → Fill low mid ms → Fill mid high ns → Fill low high (ms ++ ns)
fill_further low mid high ms ns x y =
    let h = x.no_lower in
    let k = y.no_lower in
    let e : mid ≡ low + (mid - low) = omega (arith, h) in
    let d : (mid - low) + (high - mid) ≡ high - low = omega (arith, h, k) in
    record {
      are = ap (λ l. l ++ ns) x.are ∙ (ap (λ l. numbers_from low (mid - low) ++ l) (y.are ∙ ap (λ n. numbers_from n (high - mid)) e) ∙ (numbers_further low (mid - low) (high - mid) ∙ ap (numbers_from low) d));
      no_lower = omega (arith, h, k);
    }

fill_at : (low high high' : ℕ) (ns : List ℕ) → high ≡ high' → Fill low high ns → Fill low high' ns
fill_at low high high' ns e b = subst (λ h. Fill low h ns) e b

-- how long the lists are after a command

one_more : {X : Type 0} (xs : List X) (x : X) → length (xs ++ x ∷ []) ≡ suc (length xs)
one_more xs x = let e = length-append xs (x ∷ []) in omega (arith, e)

-- the fields that the desk's commands leave
record SameCounts (s t : State) : Type 0 where
  readers : length t.readers ≡ length s.readers
  orders : length t.orders ≡ length s.orders
  runs : length t.runs ≡ length s.runs
  boxes : length t.catalogue.containers ≡ length s.catalogue.containers
  units : t.catalogue.next ≡ s.catalogue.next

none_changed : (s : State) → SameCounts s s
none_changed s = record { readers = refl; orders = refl; runs = refl; boxes = refl; units = refl }

cancelled_same : (s : State) (o : ℕ) (k : Option ℕ) → SameCounts s (cancelled s o k)
cancelled_same s o None = none_changed s
cancelled_same s o (Some c) = record { readers = refl; orders = refl; runs = refl; boxes = refl; units = refl }

issued_same : (s : State) (c : ℕ) (q : List ℕ) → SameCounts s (issued s c q)
issued_same s c [] = none_changed s
issued_same s c (o ∷ os) = record { readers = refl; orders = refl; runs = refl; boxes = refl; units = refl }

returned_same : (s : State) (c : ℕ) (p : Place) → SameCounts s (returned s c p)
returned_same s c Shelf = none_changed s
returned_same s c Desk = none_changed s
returned_same s c (Out o) = record { readers = refl; orders = refl; runs = refl; boxes = refl; units = refl }

imported_lists : (s : State) (source file : Bytes) (t : Taken) → intake_of s source file ≡ t
    → distinct s.catalogue.containers ≡ s.catalogue.containers
    → (length (with_import s t).readers ≡ length s.readers) × (length (with_import s t).orders ≡ length s.orders) × (length (with_import s t).runs ≡ length s.runs) × (length s.catalogue.containers ≤ length (with_import s t).catalogue.containers) × (s.catalogue.next ≤ (with_import s t).catalogue.next)
imported_lists s source file (Err fault) e b = (refl, refl, refl, omega arith, omega arith)
imported_lists s source file (Ok intake) e b =
    let x = ap length (boxes_after s.catalogue source file intake e b) in
    let y = length-append s.catalogue.containers (new_boxes s.catalogue.containers intake.file.rows) in
    let z = next_after s.catalogue source file intake e in
    (refl, refl, refl, omega (arith, x, y), z)

-- what no command takes away
record Grows (s t : State) : Type 0 where
  boxes : length s.catalogue.containers ≤ length t.catalogue.containers
  units : s.catalogue.next ≤ t.catalogue.next

grows_same : (s t : State) → SameCounts s t → Grows s t
grows_same s t h = let b = h.boxes in let u = h.units in record { boxes = omega (arith, b); units = omega (arith, u) }

grows_after : (s : State) (asked : Command) → distinct s.catalogue.containers ≡ s.catalogue.containers
    → Grows s (after s asked)
grows_after s (command.OpenDay day) b = record { boxes = omega arith; units = omega arith }
grows_after s (command.Register name until) b = record { boxes = omega arith; units = omega arith }
grows_after s (command.Renew t until) b = record { boxes = omega arith; units = omega arith }
grows_after s (command.TakeSeat t) b = record { boxes = omega arith; units = omega arith }
grows_after s (command.LeaveSeat t) b = record { boxes = omega arith; units = omega arith }
grows_after s (command.Order t c) b = record { boxes = omega arith; units = omega arith }
grows_after s (command.Cancel o) b = grows_same s (after s (command.Cancel o)) (cancelled_same s o (container_of s o))
grows_after s command.Run b = record { boxes = omega arith; units = omega arith }
grows_after s command.Reshelve b = record { boxes = omega arith; units = omega arith }
grows_after s (command.Issue c t) b = grows_same s (after s (command.Issue c t)) (issued_same s c (s.queue c))
grows_after s (command.Return c) b = grows_same s (after s (command.Return c)) (returned_same s c (s.place c))
grows_after s (command.Permit t u until) b = record { boxes = omega arith; units = omega arith }
grows_after s (command.Revoke t u) b = record { boxes = omega arith; units = omega arith }
grows_after s (command.Import source file) b = (let a = imported_lists s source file (intake_of s source file) refl b in record { boxes = a.3; units = a.4 })
grows_after s (command.SetStatus u draft whole) b = record { boxes = omega arith; units = omega arith }
grows_after s (command.SetClosure u until) b = record { boxes = omega arith; units = omega arith }
grows_after s (command.Move u parent) b = record { boxes = omega arith; units = omega arith }
grows_after s (command.Remove u) b = record { boxes = omega arith; units = omega arith }

same_between : (n m : ℕ) → m ≡ n → Fill n m []
same_between = none_between

counts_between : (n m : ℕ) → m ≡ n → Fill (suc n) (suc m) []
counts_between n m e = none_between (suc n) (suc m) (ap suc e)

tickets_after : (s : State) (asked : Command) → distinct s.catalogue.containers ≡ s.catalogue.containers
    → Fill (suc (length s.readers)) (suc (length (after s asked).readers)) (option_to_list (ticket_given asked (Ok (result_of s asked))))
tickets_after s (command.OpenDay day) b = same_between _ _ refl
tickets_after s (command.Register name until) b =
    fill_at _ _ _ _ (ap suc (sym (one_more s.readers _))) (next_one (suc (length s.readers)))
tickets_after s (command.Renew t until) b = counts_between _ _ (length-renewed until s.readers t)
tickets_after s (command.TakeSeat t) b = same_between _ _ refl
tickets_after s (command.LeaveSeat t) b = same_between _ _ refl
tickets_after s (command.Order t c) b = same_between _ _ refl
tickets_after s (command.Cancel o) b = counts_between _ _ (cancelled_same s o (container_of s o)).readers
tickets_after s command.Run b = same_between _ _ refl
tickets_after s command.Reshelve b = same_between _ _ refl
tickets_after s (command.Issue c t) b = counts_between _ _ (issued_same s c (s.queue c)).readers
tickets_after s (command.Return c) b = counts_between _ _ (returned_same s c (s.place c)).readers
tickets_after s (command.Permit t u until) b = same_between _ _ refl
tickets_after s (command.Revoke t u) b = same_between _ _ refl
tickets_after s (command.Import source file) b =
    counts_between _ _ (imported_lists s source file (intake_of s source file) refl b).0
tickets_after s (command.SetStatus u draft whole) b = same_between _ _ refl
tickets_after s (command.SetClosure u until) b = same_between _ _ refl
tickets_after s (command.Move u parent) b = same_between _ _ refl
tickets_after s (command.Remove u) b = same_between _ _ refl

orders_after : (s : State) (asked : Command) → distinct s.catalogue.containers ≡ s.catalogue.containers
    → Fill (suc (length s.orders)) (suc (length (after s asked).orders)) (option_to_list (order_given asked (Ok (result_of s asked))))
orders_after s (command.OpenDay day) b = same_between _ _ refl
orders_after s (command.Register name until) b = same_between _ _ refl
orders_after s (command.Renew t until) b = same_between _ _ refl
orders_after s (command.TakeSeat t) b = same_between _ _ refl
orders_after s (command.LeaveSeat t) b = same_between _ _ refl
orders_after s (command.Order t c) b =
    fill_at _ _ _ _ (ap suc (sym (one_more s.orders _))) (next_one (suc (length s.orders)))
orders_after s (command.Cancel o) b = counts_between _ _ (cancelled_same s o (container_of s o)).orders
orders_after s command.Run b = same_between _ _ refl
orders_after s command.Reshelve b = same_between _ _ refl
orders_after s (command.Issue c t) b = counts_between _ _ (issued_same s c (s.queue c)).orders
orders_after s (command.Return c) b = counts_between _ _ (returned_same s c (s.place c)).orders
orders_after s (command.Permit t u until) b = same_between _ _ refl
orders_after s (command.Revoke t u) b = same_between _ _ refl
orders_after s (command.Import source file) b =
    counts_between _ _ (imported_lists s source file (intake_of s source file) refl b).1
orders_after s (command.SetStatus u draft whole) b = same_between _ _ refl
orders_after s (command.SetClosure u until) b = same_between _ _ refl
orders_after s (command.Move u parent) b = same_between _ _ refl
orders_after s (command.Remove u) b = same_between _ _ refl

runs_after : (s : State) (asked : Command) → distinct s.catalogue.containers ≡ s.catalogue.containers
    → Fill (suc (length s.runs)) (suc (length (after s asked).runs)) (option_to_list (run_given asked (Ok (result_of s asked))))
runs_after s (command.OpenDay day) b = same_between _ _ refl
runs_after s (command.Register name until) b = same_between _ _ refl
runs_after s (command.Renew t until) b = same_between _ _ refl
runs_after s (command.TakeSeat t) b = same_between _ _ refl
runs_after s (command.LeaveSeat t) b = same_between _ _ refl
runs_after s (command.Order t c) b = same_between _ _ refl
runs_after s (command.Cancel o) b = counts_between _ _ (cancelled_same s o (container_of s o)).runs
runs_after s command.Run b = fill_at _ _ _ _ (ap suc (sym (one_more s.runs _))) (next_one (suc (length s.runs)))
runs_after s command.Reshelve b = same_between _ _ refl
runs_after s (command.Issue c t) b = counts_between _ _ (issued_same s c (s.queue c)).runs
runs_after s (command.Return c) b = counts_between _ _ (returned_same s c (s.place c)).runs
runs_after s (command.Permit t u until) b = same_between _ _ refl
runs_after s (command.Revoke t u) b = same_between _ _ refl
runs_after s (command.Import source file) b =
    counts_between _ _ (imported_lists s source file (intake_of s source file) refl b).2
runs_after s (command.SetStatus u draft whole) b = same_between _ _ refl
runs_after s (command.SetClosure u until) b = same_between _ _ refl
runs_after s (command.Move u parent) b = same_between _ _ refl
runs_after s (command.Remove u) b = same_between _ _ refl

-- what is refused gives no number
none_refused_t : (asked : Command) (why : Refusal) → ticket_given asked (Err why) ≡ None
none_refused_t (command.Register name until) why = refl
none_refused_t _ why = refl

none_refused_o : (asked : Command) (why : Refusal) → order_given asked (Err why) ≡ None
none_refused_o (command.Order t c) why = refl
none_refused_o _ why = refl

none_refused_r : (asked : Command) (why : Refusal) → run_given asked (Err why) ≡ None
none_refused_r command.Run why = refl
none_refused_r _ why = refl

refused_between : (n : ℕ) (o : Option ℕ) → o ≡ None → Fill n n (option_to_list o)
refused_between n o e = subst (λ x. Fill n n (option_to_list x)) (sym e) (same_between n n refl)

step_grows : (s : State) (asked : Command) → distinct s.catalogue.containers ≡ s.catalogue.containers
    → Grows s (step s asked).0
step_grows s asked b = step_at (λ t reply. Grows s t) s asked (λ why. record { boxes = omega arith; units = omega arith }) (λ ok. grows_after s asked b)

range_between : (m n : ℕ) → m ≤ n → Fill m n (numbers_from m (n - m))
range_between m n h = record { are = refl; no_lower = h }

range_between_suc : (m n : ℕ) → m ≤ n → Fill (suc m) (suc n) (numbers_from (suc m) (n - m))
range_between_suc m n h = let e : n - m ≡ suc n - suc m = omega arith in record { are = ap (numbers_from (suc m)) e; no_lower = omega (arith, h) }

step_between : (kind : Kind) (s : State) (asked : Command) → distinct s.catalogue.containers ≡ s.catalogue.containers
    → Fill (next_number kind s) (next_number kind (step s asked).0) (given_numbers kind s asked)
step_between Tickets s asked b =
    step_at (λ t reply. Fill (suc (length s.readers)) (suc (length t.readers)) (option_to_list (ticket_given asked reply))) s asked (λ why. refused_between (suc (length s.readers)) _ (none_refused_t asked why)) (λ ok. tickets_after s asked b)
step_between Orders s asked b =
    step_at (λ t reply. Fill (suc (length s.orders)) (suc (length t.orders)) (option_to_list (order_given asked reply))) s asked (λ why. refused_between (suc (length s.orders)) _ (none_refused_o asked why)) (λ ok. orders_after s asked b)
step_between Runs s asked b =
    step_at (λ t reply. Fill (suc (length s.runs)) (suc (length t.runs)) (option_to_list (run_given asked reply))) s asked (λ why. refused_between (suc (length s.runs)) _ (none_refused_r asked why)) (λ ok. runs_after s asked b)
step_between Containers s asked b =
    range_between_suc (length s.catalogue.containers) (length (step s asked).0.catalogue.containers) (step_grows s asked b).boxes
step_between Units s asked b =
    range_between s.catalogue.next (step s asked).0.catalogue.next (step_grows s asked b).units

all_between : (kind : Kind) (s : State) (later : List Command)
    → distinct s.catalogue.containers ≡ s.catalogue.containers
    → Fill (next_number kind s) (next_number kind (state_after s later)) (all_given kind s later)
all_between kind s [] b = none_between (next_number kind s) (next_number kind s) refl
all_between kind s (asked ∷ later) b =
    fill_further (next_number kind s) (next_number kind (step s asked).0) (next_number kind (state_after s (asked ∷ later))) (given_numbers kind s asked) (all_given kind (step s asked).0 later)
    (step_between kind s asked b) (all_between kind (step s asked).0 later (step_apart s asked b))

pub given_in_order : (kind : Kind) (s : State) (later : List Command)
    → distinct s.catalogue.containers ≡ s.catalogue.containers → GivenInOrder kind s later
given_in_order kind s later b = (all_between kind s later b).are

pub starts_at_one : (kind : Kind) → StartsAtOne kind
starts_at_one Tickets settings day = refl
starts_at_one Orders settings day = refl
starts_at_one Runs settings day = refl
starts_at_one Containers settings day = refl
starts_at_one Units settings day = refl
