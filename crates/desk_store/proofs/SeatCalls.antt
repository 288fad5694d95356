-- A seat that is taken or freed, on the whole desk.
use Rattle.std.proofs.Common.{◌≡◌, ℕ, ℤ, pos, List, [], ◌∷◌, map, filter, false, not, nat_eq, Some, None, Result, OnOk}
use Rattle.std.proofs.Common.{refl, ap, ◌∙◌}
use Rattle.sqlite_trees.specs.declared.store.Store as store
use Rattle.office_tables.specs.Schema as tables
use Rattle.office_tables.specs.TableStatements.{Puts}
use Rattle.desk_store.specs.Seats.{MayTake, with_seat}
use Rattle.desk_store.proofs.Common.{AreByNumber, FaultsHaveCause, HasCleanDisk, HasRows, Held, Holds, IsLegible}
use Rattle.desk_store.proofs.Common.{Leaves, OnlyTouches, RepresentsDeskAlone, SeatRow, State, StoreFault, StoreUpdates}
use Rattle.desk_store.proofs.Common.{ascending-filter, list_any, on_ok_then, put_rises, put_row, put_rows, seat}
use Rattle.desk_store.proofs.Common.{seat_cells, state, untouched_last}
use Rattle.desk_store.proofs.Frames.{with_seats}

abbrev seat_key : SeatRow → ℤ
seat_key s = pos s.seat

module _ {S : Type 0} (g : store.Ghosts S) (before after : Held S) (r : Result Unit StoreFault) where
  abbrev old : State
  old = state g before

  abbrev new : State
  new = state g after

  pub takes : (n t : ℕ)
      → Puts g tables.seat seat_cells before after r (record { seat = n; ticket = t }) (λ xs. (list_any (λ s. nat_eq n s.seat) xs ≡ false) × (list_any (λ s. nat_eq t s.ticket) xs ≡ false))
      → StoreUpdates g (tables.seat.tree ∷ []) RepresentsDeskAlone before after r (MayTake n (Some t)) IsLegible (with_seat n (Some t))
  takes n t it = record {
    call = record {
      represents_updated = λ clean beside d shown may. on_ok_then r _ _ (λ put.
          with_seats old.now new.now d shown _ put.only
          (put.rows ∙ ap (put_row (seat_cells (record { seat = n; ticket = t }))) shown.seats ∙ put_rows seat_cells seat_key (λ _. refl) (record { seat = n; ticket = t }) d.seats)
          (put_rises seat_cells seat_key (λ _. refl) (record { seat = n; ticket = t }) d.seats shown.seats_rise)) (it.puts clean);
      only = λ clean. on_ok_then r _ _ (λ put. put.only) (it.puts clean);
      goes = it.leaves.goes;
      aborts = it.leaves.aborts;
      faults = λ beside d shown may kept. it.faults d.seats shown.seats may;
    };
    spares = λ clean. untouched_last (tables.seat.tree ∷ []) old new r (it.leaves.spares clean);
  }

  pub frees : (n : ℕ) → Leaves old new r
      → (HasCleanDisk new → (xs : List SeatRow) → Holds seat seat_cells old xs → AreByNumber (λ (s : SeatRow). s.seat) xs → OnOk r (HasRows tables.seat.tree (map seat_cells (filter (λ (s : SeatRow). not (nat_eq n s.seat)) xs)) old.now new.now))
      → FaultsHaveCause old new r → (HasCleanDisk new → OnOk r (OnlyTouches (tables.seat.tree ∷ []) old.now new.now))
      → StoreUpdates g (tables.seat.tree ∷ []) RepresentsDeskAlone before after r (MayTake n None) IsLegible (with_seat n None)
  frees n leaves rows faults only = record {
    call = record {
      represents_updated = λ clean beside d shown may. on_ok_then r _ _ (λ has.
          with_seats old.now new.now d shown _ has.only has.are (ascending-filter _ (λ (s : SeatRow). not (nat_eq n s.seat)) d.seats shown.seats_rise)) (rows clean d.seats shown.seats shown.seats_rise);
      only = only;
      goes = leaves.goes;
      aborts = leaves.aborts;
      faults = λ beside d shown may kept. faults;
    };
    spares = λ clean. untouched_last (tables.seat.tree ∷ []) old new r (leaves.spares clean);
  }
