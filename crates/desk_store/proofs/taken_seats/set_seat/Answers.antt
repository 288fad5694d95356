use Rattle.std.proofs.Common.{ℕ, Option, [], ◌∷◌, sym, subst, OnOk}
use Rattle.office_tables.specs.Schema as tables
use Rattle.desk_store.specs.Seats.{MayTake, with_seat}
use Rattle.desk_store.proofs.Common.{IfSome, IsLegible, PutsRow, RepresentsDeskAlone, StoreUpdates, seat_cells, state}
use Rattle.desk_store.proofs.SeatCalls.{takes, frees}
use Rattle.desk_store.proofs.taken_seats.set_seat.Goals as goal

pub returns-in-Some : goal.returns-in-Some
returns-in-Some g c =
    record {
      updates = subst (λ (who : Option ℕ). StoreUpdates g.S.Store (tables.seat.tree ∷ []) RepresentsDeskAlone c.args.tables.now c.insert_seat.new.tables c.insert_seat.result (MayTake c.args.seat who) IsLegible (with_seat c.args.seat who)) (sym c.in-Some.is)
          (takes g.S.Store c.args.tables.now c.insert_seat.new.tables c.insert_seat.result c.args.seat c.in-Some.ticket (rw c.from.ensures at c.insert_seat.ensures));
      puts = λ clean. subst (λ (who : Option ℕ). IfSome who (λ t. OnOk c.insert_seat.result (PutsRow tables.seat.tree (seat_cells (record { seat = c.args.seat; ticket = t })) (state g.S.Store c.args.tables.now).now (state g.S.Store c.insert_seat.new.tables).now))) (sym c.in-Some.is)
          (rw c.from.ensures at c.insert_seat.ensures.puts clean);
    }

pub returns-in-None : goal.returns-in-None
returns-in-None g c =
    record {
      updates = subst (λ (who : Option ℕ). StoreUpdates g.S.Store (tables.seat.tree ∷ []) RepresentsDeskAlone c.args.tables.now c.clear_seat.new.tables c.clear_seat.result (MayTake c.args.seat who) IsLegible (with_seat c.args.seat who)) (sym c.in-None.is)
          (frees g.S.Store c.args.tables.now c.clear_seat.new.tables c.clear_seat.result c.args.seat c.clear_seat.ensures.leaves (rw c.from-in-None.ensures at c.clear_seat.ensures.rows) c.clear_seat.ensures.faults c.clear_seat.ensures.only);
      puts = λ clean. subst (λ (who : Option ℕ). IfSome who (λ t. OnOk c.clear_seat.result (PutsRow tables.seat.tree (seat_cells (record { seat = c.args.seat; ticket = t })) (state g.S.Store c.args.tables.now).now (state g.S.Store c.clear_seat.new.tables).now))) (sym c.in-None.is) tt;
    }
