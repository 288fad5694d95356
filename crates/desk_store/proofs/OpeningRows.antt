-- The statements of a new day: what their texts mean, what they leave, and why they fail.
use Rattle.std.proofs.Common.{◌≡◌, ℕ, ℤ, pos, List, [], ◌∷◌, map, filter, drop, codes, true, false, Result, OnOk, IfErr}
use Rattle.std.proofs.Common.{refl, subst}
use Rattle.sqlite.specs.Listing.{understood}
use Rattle.sqlite_tied.specs.Compute.{everything}
use Rattle.office_tables.specs.Schema as tables
use Rattle.desk_store.proofs.Common.{AreByNumber, Binary, Command, Compare, Delete, Eq, HasCause, HasRows, Holds, Int}
use Rattle.desk_store.proofs.Common.{IsLive, IsUnlimited, Means, Null, OfficeRow, OnlyTouches, Ran, Row, SeatRow, State}
use Rattle.desk_store.proofs.Common.{StoreFault, Term, Update, Version, cast_int, cast_null, cast_row, choosing, col}
use Rattle.desk_store.proofs.Common.{delete_faults, delete_leaves, delete_only, le_refl, lit, office, office_cells}
use Rattle.desk_store.proofs.Common.{office_kept, only, op2, same_number, schema, seat, seat_alone, seat_cells}
use Rattle.desk_store.proofs.Common.{seat_fits, update_faults, update_leaves, update_only}

-- ---- all seats become free

abbrev pub free_text : List ℕ
free_text = codes "DELETE FROM seat"

abbrev pub free_command : Command
free_command = Delete 1 (choosing seat [] (col 1 0 ∷ []))

pub free_means : (v : Version) → Means v free_text 0 free_command
unfolding understood everything
free_means v = record { is = refl; plain = (refl, refl); whole = (le_refl _, refl, refl); unlisted = refl }

none_kept : (xs : List SeatRow) → filter (λ _. false) xs ≡ []
none_kept [] = refl
none_kept (x ∷ xs) = none_kept xs

module _ (old new : State) (v : Version) (has : old.now.schema ≡ schema v) (r : Result Unit StoreFault) (ran : Ran free_text [] old new r) where
  pub free_leaves : (xs : List SeatRow) → Holds seat seat_cells old xs → AreByNumber (λ (s : SeatRow). s.seat) xs
      → OnOk r (HasRows tables.seat.tree [] old.now new.now)
  free_leaves xs stored up =
      subst (λ (kept : List SeatRow). OnOk r (HasRows tables.seat.tree (map seat_cells kept) old.now new.now)) (none_kept xs)
      (delete_leaves v 1 seat refl (seat_alone v) free_text [] (col 1 0 ∷ []) [] (free_means v) old new has seat_cells (λ s. pos s.seat) (λ _. refl) xs stored up
      (λ (s : SeatRow). true) (λ _. refl) (λ s. Int (pos s.seat) ∷ []) (λ _. refl) (λ _. refl) r ran)

  pub free_only : OnOk r (OnlyTouches (tables.seat.tree ∷ []) old.now new.now)
  free_only = delete_only v 1 seat refl free_text _ [] old new has (seat_alone v) (free_means v) r ran

  pub free_faults : IsUnlimited old → IsLive old → IfErr r (HasCause old new)
  free_faults free live = delete_faults v 1 seat refl (seat_alone v) free_text [] (col 1 0 ∷ []) [] (free_means v) old new has (seat_fits v) refl free live r ran

-- ---- the day

abbrev pub set_day_text : List ℕ
set_day_text = codes "UPDATE office SET day = ?1 WHERE one = 1"

abbrev the_one : List Term
the_one = op2 (Compare Eq Binary) (col 1 0) (lit (Int (pos 1))) ∷ []

abbrev set_day_columns : List Term
set_day_columns = col 1 0 ∷ col 1 0 ∷ lit Null ∷ col 1 2 ∷ col 1 3 ∷ col 1 4 ∷ col 1 5 ∷ col 1 6 ∷ col 1 7 ∷ col 1 8 ∷ col 0 0 ∷ col 1 10 ∷ []

abbrev pub set_day_command : Command
set_day_command = Update 7 (choosing office the_one set_day_columns)

pub set_day_means : (v : Version) → Means v set_day_text 1 set_day_command
unfolding understood everything
set_day_means v = record { is = refl; plain = (refl, refl); whole = (le_refl _, refl, refl); unlisted = refl }

module _ (old new : State) (day : ℤ) (v : Version) (has : old.now.schema ≡ schema v) (r : Result Unit StoreFault) (ran : Ran set_day_text (Int day ∷ []) old new r) where
  pub set_day_only : OnOk r (OnlyTouches (tables.office.tree ∷ []) old.now new.now)
  set_day_only = update_only v 7 office refl set_day_text _ (Int day ∷ []) old new has (set_day_means v) r ran

  module _ (o : OfficeRow) (stored : Holds office office_cells old (o ∷ [])) where
    abbrev changed : OfficeRow → OfficeRow
    changed x = record x { day = day }

    abbrev source : OfficeRow → Row
    source x = Int (pos 1) ∷ office_cells (changed x)

    casts : (x : OfficeRow) → cast_row office (drop 1 (source x)) ≡ office_cells (changed x)
    casts x =
        rw (cast_int (pos 1), cast_null, cast_int (pos x.version), cast_int (pos x.seats), cast_int (pos x.daily), cast_int (pos x.hands), cast_int (pos x.run_size), cast_int day, cast_int (pos x.next_unit)) refl

    pub set_day_leaves : OnOk r (HasRows tables.office.tree (office_cells (changed o) ∷ []) old.now new.now)
    set_day_leaves =
        update_leaves v 7 office refl set_day_text the_one set_day_columns (Int day ∷ []) (set_day_means v) old new has office_cells (λ _. pos 1) (λ _. refl) (o ∷ []) stored (tt, tt)
        (λ _. true) (λ _. only (same_number 1 1)) source (λ _. refl) (λ _. refl) changed (λ _. refl) (λ x _ _. casts x) r ran

    pub set_day_faults : IsUnlimited old → IsLive old → IfErr r (HasCause old new)
    set_day_faults free live =
        update_faults v 7 office refl set_day_text the_one set_day_columns (Int day ∷ []) (set_day_means v) old new has office_cells (λ _. pos 1) (λ _. refl) (o ∷ []) stored (tt, tt)
        (λ _. true) (λ _. only (same_number 1 1)) source (λ _. refl) (λ _. refl) changed (λ _. refl) (λ x _ _. casts x)
        (λ _. false) (office_kept v) (λ x p h. absurd (let k : false ≡ true = h in cc)) (λ _. refl) (λ _. refl) (λ _. refl) refl free live r ran
