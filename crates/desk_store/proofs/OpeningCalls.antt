-- A new day, on the whole desk and the office's row: first all seats become free, then the day is written.
use Rattle.std.proofs.Common.{ℤ, List, [], ◌∷◌, Result, Err, OnOk, refl, ◌∙◌}
use Rattle.sqlite_trees.specs.declared.store.Store as store
use Rattle.office_tables.specs.Schema as tables
use Rattle.desk_store.specs.OfficeDay.{RepresentsBoth, IsLegibleHouse, opened_house}
use Rattle.desk_store.proofs.Common.{AreByNumber, Database, Desk, FaultsHaveCause, Goes, HasCleanDisk, HasRows, Held}
use Rattle.desk_store.proofs.Common.{Holds, Leaves, OfficeRow, OnlyTouches, RepresentsDesk, SeatRow, State, StoreFault}
use Rattle.desk_store.proofs.Common.{StoreUpdates, cut_then, early, goes_then, last_cause, last_touched, office}
use Rattle.desk_store.proofs.Common.{office_cells, on_err_then, on_ok_then, permit_cells, run_line_cells, seat}
use Rattle.desk_store.proofs.Common.{seat_cells, state, still_numbered, still_unlimited, touched_again, touched_wider}
use Rattle.desk_store.proofs.Common.{untouched, untouched_last, ⊤}
use Rattle.desk_store.proofs.Frames.{with_seats}

-- another row of the office is nothing to the desk
same_desk : (old new : Database) (d : Desk) → OnlyTouches (tables.office.tree ∷ []) old new → RepresentsDesk old.trees d
    → RepresentsDesk new.trees d
same_desk old new d only shown = record {
  readers = only tables.reader.tree refl refl ∙ shown.readers;
  tickets = shown.tickets;
  few_tickets = shown.few_tickets;
  seats = only tables.seat.tree refl refl ∙ shown.seats;
  seats_rise = shown.seats_rise;
  orders = only tables.orders.tree refl refl ∙ shown.orders;
  order_numbers = shown.order_numbers;
  few_orders = shown.few_orders;
  holdings = only tables.holding.tree refl refl ∙ shown.holdings;
  holdings_rise = shown.holdings_rise;
  runs = only tables.run.tree refl refl ∙ shown.runs;
  run_numbers = shown.run_numbers;
  few_runs = shown.few_runs;
  run_lines = still_numbered run_line_cells _ _ _ (only tables.run_line.tree refl refl) shown.run_lines;
  line_runs = shown.line_runs;
  permits = still_numbered permit_cells _ _ _ (only tables.permit.tree refl refl) shown.permits;
  permit_tickets = shown.permit_tickets;
}

module _ {S : Type 0} (g : store.Ghosts S) (before mid : Held S) (day : ℤ) where
  abbrev a : State
  a = state g before

  abbrev b : State
  b = state g mid

  -- the seats could not be freed
  pub not_freed : (e : StoreFault) → Leaves {X = Unit} a b (Err e) → FaultsHaveCause {X = Unit} a b (Err e)
      → StoreUpdates {X = Unit} g (tables.seat.tree ∷ tables.office.tree ∷ []) RepresentsBoth before mid (Err e) (λ _. ⊤) IsLegibleHouse (opened_house day)
  not_freed e leaves faults = record {
    call = record {
      represents_updated = λ clean beside house shown may. tt;
      only = λ clean. tt;
      goes = tt;
      aborts = leaves.aborts;
      faults = λ beside house shown may kept. faults;
    };
    spares = λ clean. untouched (tables.seat.tree ∷ tables.office.tree ∷ []) a b e (leaves.spares clean);
  }

  module _ (goes : Goes a b) (freed : HasCleanDisk b → (xs : List SeatRow) → Holds seat seat_cells a xs → AreByNumber (λ (s : SeatRow). s.seat) xs → HasRows tables.seat.tree [] a.now b.now)
      (only : HasCleanDisk b → OnlyTouches (tables.seat.tree ∷ []) a.now b.now) (after : Held S) (r : Result Unit StoreFault) where
    abbrev c : State
    c = state g after

    pub opens : Leaves b c r
        → (HasCleanDisk c → (o : OfficeRow) → Holds office office_cells b (o ∷ []) → OnOk r (HasRows tables.office.tree (office_cells (record o { day = day }) ∷ []) b.now c.now))
        → (HasCleanDisk c → OnOk r (OnlyTouches (tables.office.tree ∷ []) b.now c.now))
        → ((o : OfficeRow) → Holds office office_cells b (o ∷ []) → FaultsHaveCause b c r)
        → StoreUpdates g (tables.seat.tree ∷ tables.office.tree ∷ []) RepresentsBoth before after r (λ _. ⊤) IsLegibleHouse (opened_house day)
    opens leaves dated dates faults =
        let back = early leaves.crash in
        record {
          call = record {
            represents_updated = λ clean beside house shown may. on_ok_then r _ _ (λ has. record {
              office = has.are;
              desk = same_desk b.now c.now _ has.only (with_seats a.now b.now house.desk shown.desk [] (only (back clean)) (freed (back clean) house.desk.seats shown.desk.seats shown.desk.seats_rise).are tt);
            }) (dated clean house.office (only (back clean) tables.office.tree refl refl ∙ shown.office));
            only = λ clean. on_ok_then r _ _ (λ touched. touched_again (tables.seat.tree ∷ tables.office.tree ∷ []) a.now b.now c.now (touched_wider (tables.seat.tree ∷ []) (tables.seat.tree ∷ tables.office.tree ∷ []) a.now b.now refl (only (back clean))) (touched_wider (tables.office.tree ∷ []) (tables.seat.tree ∷ tables.office.tree ∷ []) b.now c.now refl touched)) (dates clean);
            goes = on_ok_then r _ _ (goes_then goes) leaves.goes;
            aborts = on_err_then r _ _ (cut_then goes.on) leaves.aborts;
            faults = λ beside house shown may kept clean free. last_cause a b c goes.on r leaves.aborts clean (λ cleaner.
                faults house.office (only cleaner tables.office.tree refl refl ∙ shown.office) clean (still_unlimited a b goes.on free));
          };
          spares = λ clean.
              let both = tables.seat.tree ∷ tables.office.tree ∷ [] in
              last_touched both a b c goes.on (λ cleaner. touched_wider (tables.seat.tree ∷ []) both a.now b.now refl (only cleaner)) r leaves.aborts clean (untouched_last both b c r (leaves.spares clean));
        }
