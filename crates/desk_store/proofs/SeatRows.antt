-- The statements on the rows of seats: what their texts mean, what they leave or tell, and why they fail.
use Rattle.std.proofs.Common.{◌≡◌, ◌<◌, ◌^◌, ℕ, pos, List, [], ◌∷◌, map, filter, codes, true, false, not, Result, OnOk}
use Rattle.std.proofs.Common.{IfOk, IfErr, nat_eq, refl, ap, ◌∙◌}
use Rattle.std.specs.declared.cmp.Ordering.{Ordering}
use Rattle.sqlite.specs.Listing.{understood}
use Rattle.sqlite_tied.specs.Compute.{everything}
use Rattle.sqlite_value.specs.Keys.{first_key}
use Rattle.office_tables.proofs.Fresh.{any_mapped}
use Rattle.office_tables.specs.Schema as tables
use Rattle.desk_store.specs.declared.taken_seats.TakenSeat.{TakenSeat}
use Rattle.desk_store.proofs.Common.{AllByRecursion, AreByNumber, Binary, Chosen, Command, Compare, Delete, Eq, Finds}
use Rattle.desk_store.proofs.Common.{HasCause, HasRows, Holds, Insert, Int, IsLive, IsOrdered, IsTotalOrder}
use Rattle.desk_store.proofs.Common.{IsUnlimited, IsWelcome, Key, Means, Misses, Null, OnlyTouches, PutsRow, Ran, Row}
use Rattle.desk_store.proofs.Common.{SeatRow, Select, State, StoreFault, Term, Trees, Values, Version, agree, ascending}
use Rattle.desk_store.proofs.Common.{asking, by_one_int, cast_int, cast_null, choosing, col, delete_faults}
use Rattle.desk_store.proofs.Common.{delete_leaves, delete_only, edit_of, insert_faults, insert_puts, int_cmp}
use Rattle.desk_store.proofs.Common.{int_cmp_total, le_refl, list_any, lit, number_welcome, on_total, only, op2, plain}
use Rattle.desk_store.proofs.Common.{same_number, schema, seat, seat_alone, seat_cells, seat_fits, select_faults}
use Rattle.desk_store.proofs.Common.{select_finds, value_rows}

-- ---- a seat is taken

abbrev pub insert_seat_text : List ℕ
insert_seat_text = codes "INSERT INTO seat (seat, ticket) VALUES (?1, ?2)"

abbrev pub insert_seat_terms : List Term
insert_seat_terms = col 0 0 ∷ lit Null ∷ col 0 1 ∷ []

abbrev pub insert_seat_command : Command
insert_seat_command = Insert 1 (Values insert_seat_terms 3)

pub insert_seat_means : (v : Version) → Means v insert_seat_text 2 insert_seat_command
unfolding understood everything
insert_seat_means v = record { is = refl; plain = (refl, refl); whole = (le_refl _, refl, refl); unlisted = refl }

same_ticket : (a b : SeatRow) → agree plain (2 ∷ []) (seat_cells a) (2 ∷ []) (seat_cells b) ≡ nat_eq b.ticket a.ticket
unfolding first_key
same_ticket a b = only (same_number a.ticket b.ticket)

seat_welcome : (s : SeatRow) (xs : List SeatRow) (v : Version) (db : Trees) → db tables.seat.tree ≡ map seat_cells xs
    → list_any (λ (x : SeatRow). nat_eq s.seat x.seat) xs ≡ false
    → list_any (λ (x : SeatRow). nat_eq s.ticket x.ticket) xs ≡ false
    → IsWelcome (schema v) db seat (seat_cells s)
seat_welcome s xs v db stored none other =
    let apart : list_any (λ r. agree plain (2 ∷ []) r (2 ∷ []) (seat_cells s)) (db tables.seat.tree) ≡ false =
    ap (list_any (λ r. agree plain (2 ∷ []) r (2 ∷ []) (seat_cells s))) stored ∙ any_mapped seat_cells _ (λ (x : SeatRow). nat_eq s.ticket x.ticket) (λ a. same_ticket a s) xs ∙ other in
    number_welcome v seat seat_cells (λ x. x.seat) (λ _. refl) s xs db stored none (rw apart refl) (record { typed = refl; present = refl; checked = refl; referred = refl; parents = refl })

module _ (old new : State) (s : SeatRow) (v : Version) (has : old.now.schema ≡ schema v) where
  abbrev params : Row
  params = Int (pos s.seat) ∷ Int (pos s.ticket) ∷ []

  news : (edit_of old.now.trees seat [] Chosen 0 (value_rows params 3 1 insert_seat_terms)).news ≡ seat_cells s ∷ []
  news = rw (cast_int (pos s.seat), cast_null, cast_int (pos s.ticket)) refl

  pub insert_seat_puts : (r : Result Unit StoreFault) → Ran insert_seat_text params old new r
      → OnOk r (PutsRow tables.seat.tree (seat_cells s) old.now new.now)
  insert_seat_puts = insert_puts v 1 seat refl insert_seat_text insert_seat_terms 3 params (insert_seat_means v) old new has (seat_cells s) news

  pub insert_seat_faults : (xs : List SeatRow) → Holds seat seat_cells old xs
      → list_any (λ (x : SeatRow). nat_eq s.seat x.seat) xs ≡ false
      → list_any (λ (x : SeatRow). nat_eq s.ticket x.ticket) xs ≡ false → IsUnlimited old → IsLive old
      → (r : Result Unit StoreFault) → Ran insert_seat_text params old new r → IfErr r (HasCause old new)
  insert_seat_faults xs stored none other =
      insert_faults v 1 seat refl insert_seat_text insert_seat_terms 3 params (insert_seat_means v) old new has (seat_cells s) news refl (seat_welcome s xs v old.now.trees stored none other)

-- ---- a seat is freed

abbrev pub clear_seat_text : List ℕ
clear_seat_text = codes "DELETE FROM seat WHERE seat = ?1"

abbrev with_its_number : List Term
with_its_number = op2 (Compare Eq Binary) (col 1 0) (col 0 0) ∷ []

abbrev pub clear_seat_command : Command
clear_seat_command = Delete 1 (choosing seat with_its_number (col 1 0 ∷ []))

pub clear_seat_means : (v : Version) → Means v clear_seat_text 1 clear_seat_command
unfolding understood everything
clear_seat_means v = record { is = refl; plain = (refl, refl); whole = (le_refl _, refl, refl); unlisted = refl }

module _ (old new : State) (n : ℕ) (v : Version) (has : old.now.schema ≡ schema v) (r : Result Unit StoreFault) (ran : Ran clear_seat_text (Int (pos n) ∷ []) old new r) where
  pub clear_seat_leaves : (xs : List SeatRow) → Holds seat seat_cells old xs → AreByNumber (λ (s : SeatRow). s.seat) xs
      → OnOk r (HasRows tables.seat.tree (map seat_cells (filter (λ (s : SeatRow). not (nat_eq n s.seat)) xs)) old.now new.now)
  clear_seat_leaves xs stored up =
      delete_leaves v 1 seat refl (seat_alone v) clear_seat_text with_its_number (col 1 0 ∷ []) (Int (pos n) ∷ []) (clear_seat_means v) old new has seat_cells (λ s. pos s.seat) (λ _. refl) xs stored up
      (λ (s : SeatRow). nat_eq n s.seat) (λ s. only (same_number s.seat n)) (λ s. Int (pos s.seat) ∷ []) (λ _. refl) (λ _. refl) r ran

  pub clear_seat_only : OnOk r (OnlyTouches (tables.seat.tree ∷ []) old.now new.now)
  clear_seat_only = delete_only v 1 seat refl clear_seat_text _ (Int (pos n) ∷ []) old new has (seat_alone v) (clear_seat_means v) r ran

  pub clear_seat_faults : IsUnlimited old → IsLive old → IfErr r (HasCause old new)
  clear_seat_faults free live =
      delete_faults v 1 seat refl (seat_alone v) clear_seat_text with_its_number (col 1 0 ∷ []) (Int (pos n) ∷ []) (clear_seat_means v) old new has (seat_fits v) refl free live r ran

-- ---- the seats that are taken

abbrev pub by_seat : SeatRow → SeatRow → Ordering
by_seat a b = int_cmp (pos a.seat) (pos b.seat)

pub by_seat_total : IsTotalOrder by_seat
by_seat_total = on_total (λ (s : SeatRow). pos s.seat) int_cmp_total

abbrev pub taken : SeatRow → TakenSeat
taken s = record { seat = s.seat; ticket = s.ticket }

abbrev pub taken_cells : TakenSeat → Row
taken_cells s = Int (pos s.seat) ∷ Int (pos s.ticket) ∷ []

abbrev in_order : List (Term × Key)
in_order = (col 1 0, ascending Binary) ∷ []

abbrev taken_columns : List Term
taken_columns = col 1 0 ∷ col 1 2 ∷ []

abbrev taken_names : List (List ℕ)
taken_names = codes "seat" ∷ codes "ticket" ∷ []

abbrev pub seats_text : List ℕ
seats_text = codes "SELECT seat, ticket FROM seat ORDER BY seat"

abbrev pub seats_command : Command
seats_command = Select (asking seat [] taken_columns in_order) taken_names

pub seats_means : (v : Version) → Means v seats_text 0 seats_command
unfolding understood everything
seats_means v = record { is = refl; plain = (refl, refl); whole = (le_refl _, refl, refl); unlisted = refl }

abbrev pub find_seat_text : List ℕ
find_seat_text = codes "SELECT seat, ticket FROM seat WHERE ticket = ?1 ORDER BY seat"

abbrev with_the_ticket : List Term
with_the_ticket = op2 (Compare Eq Binary) (col 1 2) (col 0 0) ∷ []

abbrev pub find_seat_command : Command
find_seat_command = Select (asking seat with_the_ticket taken_columns in_order) taken_names

pub find_seat_means : (v : Version) → Means v find_seat_text 1 find_seat_command
unfolding understood everything
find_seat_means v = record { is = refl; plain = (refl, refl); whole = (le_refl _, refl, refl); unlisted = refl }

module _ (old new : State) (v : Version) (has : old.now.schema ≡ schema v) (xs : List SeatRow) (stored : Holds seat seat_cells old xs) {X : Type 0} (items : X → List TakenSeat) (r : Result X StoreFault) where
  pub seats_finds : IfOk r (λ found. Finds taken_cells seats_text [] old new (items found))
      → IfOk r (λ found. (ys : List SeatRow) × IsOrdered by_seat (filter (λ _. true) xs) ys × (items found ≡ map taken ys))
  seats_finds =
      select_finds v seat seats_text [] taken_columns in_order taken_names [] (seats_means v) old new has seat_cells xs stored
      (λ _. true) (λ _. refl) (λ s. taken_cells (taken s)) (λ (s : SeatRow). Int (pos s.seat) ∷ []) (λ _. refl) by_seat (λ _. refl) (λ a b. by_one_int (pos a.seat) (pos b.seat))
      taken_cells items taken (λ _. refl) r

  pub seats_faults : AllByRecursion (λ (s : SeatRow). s.seat < 2 ^ 32) xs → IsUnlimited old
      → IfErr r (Misses taken_cells (λ s. s.seat < 2 ^ 32) seats_text [] old new) → IfErr r (HasCause old new)
  seats_faults legible free =
      select_faults v seat seats_text [] taken_columns in_order taken_names [] (seats_means v) old new has seat_cells xs stored
      (λ _. true) (λ _. refl) (λ s. taken_cells (taken s)) (λ (s : SeatRow). Int (pos s.seat) ∷ []) (λ _. refl) by_seat (λ _. refl) (λ a b. by_one_int (pos a.seat) (pos b.seat))
      taken_cells items taken (λ _. refl) (λ s. s.seat < 2 ^ 32) refl free legible r

  pub find_seat_finds : (t : ℕ)
      → IfOk r (λ found. Finds taken_cells find_seat_text (Int (pos t) ∷ []) old new (items found))
      → IfOk r (λ found. (ys : List SeatRow) × IsOrdered by_seat (filter (λ (s : SeatRow). nat_eq t s.ticket) xs) ys × (items found ≡ map taken ys))
  find_seat_finds t =
      select_finds v seat find_seat_text with_the_ticket taken_columns in_order taken_names (Int (pos t) ∷ []) (find_seat_means v) old new has seat_cells xs stored
      (λ (s : SeatRow). nat_eq t s.ticket) (λ s. only (same_number s.ticket t)) (λ s. taken_cells (taken s)) (λ (s : SeatRow). Int (pos s.seat) ∷ []) (λ _. refl) by_seat (λ _. refl) (λ a b. by_one_int (pos a.seat) (pos b.seat))
      taken_cells items taken (λ _. refl) r

  pub find_seat_faults : (t : ℕ) → AllByRecursion (λ (s : SeatRow). s.seat < 2 ^ 32) xs → IsUnlimited old
      → IfErr r (Misses taken_cells (λ s. s.seat < 2 ^ 32) find_seat_text (Int (pos t) ∷ []) old new)
      → IfErr r (HasCause old new)
  find_seat_faults t legible free =
      select_faults v seat find_seat_text with_the_ticket taken_columns in_order taken_names (Int (pos t) ∷ []) (find_seat_means v) old new has seat_cells xs stored
      (λ (s : SeatRow). nat_eq t s.ticket) (λ s. only (same_number s.ticket t)) (λ s. taken_cells (taken s)) (λ (s : SeatRow). Int (pos s.seat) ∷ []) (λ _. refl) by_seat (λ _. refl) (λ a b. by_one_int (pos a.seat) (pos b.seat))
      taken_cells items taken (λ _. refl) (λ s. s.seat < 2 ^ 32) refl free legible r
