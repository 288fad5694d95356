use Rattle.std.proofs.Common.{Result, [], ◌∷◌, sym, subst}
use Rattle.office_tables.specs.Schema as tables
use Rattle.desk_store.specs.OfficeDay.{RepresentsBoth, IsLegibleHouse, opened_house}
use Rattle.desk_store.proofs.Common.{StoreFault, StoreUpdates, same_fault, ⊤}
use Rattle.desk_store.proofs.OpeningCalls.{not_freed, opens}
use Rattle.desk_store.proofs.office_day.open_day.Goals as goal

pub returns-in_err-free_seats : goal.returns-in_err-free_seats
returns-in_err-free_seats g c =
    let whole = not_freed g.S.Store c.args.tables.now c.free_seats.new.tables c.args.on c.in_err-free_seats.field-0.0 c.in_err-free_seats.ensures.leaves c.in_err-free_seats.ensures.faults in
    record {
      updates = subst (λ (r : Result Unit StoreFault). StoreUpdates g.S.Store (tables.seat.tree ∷ tables.office.tree ∷ []) RepresentsBoth c.args.tables.now c.free_seats.new.tables r (λ _. ⊤) IsLegibleHouse (opened_house c.args.on))
          (sym (same_fault c.from_residual.ensures)) whole;
    }

pub returns : goal.returns
returns g c =
    let e = c.in_ok-free_seats.ensures in
    let f = c.set_day.ensures in
    record { updates = opens g.S.Store c.args.tables.now c.free_seats.new.tables c.args.on e.leaves.goes e.rows e.only c.set_day.new.tables c.set_day.result f.leaves f.rows f.only f.faults }
