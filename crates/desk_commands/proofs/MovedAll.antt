-- Containers that go to one place, one after the other, in the rows of the desk.
use Rattle.std.proofs.Common.{◌≡◌, ℕ, ◌<◌, ◌≤◌, get_or, Bool, true, false, cond, ◌||◌, nat_eq, List, [], ◌∷◌, ◌++◌, ◌+◌}
use Rattle.std.proofs.Common.{length, take, zero, suc, refl, sym, ap, subst, ◌∙◌}
use Rattle.std.proofs.Math.Path.{fun_ext}
use Rattle.desk_core.specs.DeskRows.{Desk}
use Rattle.desk_commands.proofs.Common.{AllByRecursion, HoldingRow, Order, Place, RepresentsDesk, State, Trees}
use Rattle.desk_commands.proofs.Common.{all_placed, flipped, numbers_to, order_row, order_rows, placed_at, placed_to}
use Rattle.desk_commands.proofs.Common.{rows_from, rows_of, standing, stands, state_number, take_more, update_at}
use Rattle.desk_commands.proofs.Common.{with_all_placed, with_place}

-- ---- one container more

one_more_placed : (p : Place) (cs : List ℕ) (c : ℕ) (rows : List HoldingRow)
    → all_placed p (cs ++ c ∷ []) rows ≡ placed_at c p (all_placed p cs rows)
one_more_placed p [] c rows = refl
one_more_placed p (k ∷ cs) c rows = one_more_placed p cs c (placed_at k p rows)

pub next_placed : {db : Trees} (p : Place) (cs : List ℕ) (i : ℕ) (d : Desk) → i < length cs
    → RepresentsDesk db (with_place (get_or cs i 0) p (with_all_placed p (take i cs) d))
    → RepresentsDesk db (with_all_placed p (take (i + 1) cs) d)
next_placed {db} p cs i d low it =
    subst (λ (l : List ℕ). RepresentsDesk db (with_all_placed p l d)) (sym (take_more cs i 0 low))
    (subst (λ (rows : List HoldingRow). RepresentsDesk db (record d { holdings = rows })) (sym (one_more_placed p (take i cs) (get_or cs i 0) d.holdings)) it)

pub all_taken : {X : Type 0} (P : X → Type 0) (k : ℕ) (cs : List X) → AllByRecursion P cs → AllByRecursion P (take k cs)
all_taken P zero cs h = tt
all_taken P (suc k) [] h = tt
all_taken P (suc k) (c ∷ cs) h = (h.0, all_taken P k cs h.1)

-- ---- the rows of a state in which they stand there

put_all : (ℕ → Place) → List ℕ → Place → ℕ → Place
put_all place [] p = place
put_all place (c ∷ cs) p = put_all (update_at place c p) cs p

either_way : (here there : Bool) (p q : Place) → cond here p (cond there p q) ≡ cond (there || here) p q
either_way true true p q = refl
either_way true false p q = refl
either_way false true p q = refl
either_way false false p q = refl

put_each : (place : ℕ → Place) (cs : List ℕ) (p : Place) (c : ℕ) → put_all place cs p c ≡ cond (stands c cs) p (place c)
unfolding put_all
put_each place [] p c = refl
put_each place (k ∷ cs) p c =
    put_each (update_at place k p) cs p c
    ∙ either_way (stands c cs) (nat_eq k c) p (place c)
    ∙ ap (λ b. cond (b || stands c cs) p (place c)) (flipped k c)

-- the numbers of containers that there are
abbrev pub AreWithin : ℕ → List ℕ → Type 0
AreWithin n cs = AllByRecursion (λ c. (1 ≤ c) × (c ≤ n)) cs

put_all_rows : (place : ℕ → Place) (p : Place) (n : ℕ) (cs : List ℕ) → AreWithin n cs
    → rows_of (put_all place cs p) (numbers_to n) ≡ all_placed p cs (rows_of place (numbers_to n))
unfolding put_all
put_all_rows place p n [] h = refl
put_all_rows place p n (c ∷ cs) h =
    put_all_rows (update_at place c p) p n cs h.1 ∙ ap (all_placed p cs) (placed_to place p c n h.0.0 h.0.1)

pub all_moved : (place : ℕ → Place) (p : Place) (n : ℕ) (cs : List ℕ) → AreWithin n cs
    → rows_of (λ c. cond (stands c cs) p (place c)) (numbers_to n) ≡ all_placed p cs (rows_of place (numbers_to n))
all_moved place p n cs h =
    ap (λ (at : ℕ → Place). rows_of at (numbers_to n)) (sym (fun_ext (put_each place cs p)))
    ∙ put_all_rows place p n cs h

-- ---- the orders stay as they are

pub rows_stay : (s t : State) → ((o : ℕ) → standing t o ≡ standing s o) → t.orders ≡ s.orders
    → order_rows t ≡ order_rows s
rows_stay s t same orders = ap (rows_from (order_row t) 1) orders ∙ from 1 s.orders
  where
    from : (n : ℕ) (orders : List Order) → rows_from (order_row t) n orders ≡ rows_from (order_row s) n orders
    from n [] = refl
    from n (x ∷ xs) =
        ap (λ k. record { id = n; ticket = x.ticket; container = x.container; day = x.day; state = state_number k } ∷ rows_from (order_row t) (suc n) xs) (same n)
        ∙ ap (λ rows. order_row s n x ∷ rows) (from (suc n) xs)
