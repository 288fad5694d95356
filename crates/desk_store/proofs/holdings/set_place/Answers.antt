use Rattle.std.proofs.Common.{Some, None, Ok, [], ◌∷◌, sym, subst}
use Rattle.office_tables.specs.Schema as tables
use Rattle.desk_store.proofs.Common.{Place, RepresentsDeskAlone, StoreUpdates, with_place, ⊤}
use Rattle.desk_store.proofs.HoldingWrites.{placed, shelved}
use Rattle.desk_store.proofs.holdings.set_place.Goals as goal

pub returns-in-Shelf : goal.returns-in-Shelf
returns-in-Shelf g c =
    let e = c.in_ok-clear_holding.ensures in
    record {
      updates = subst (λ (place : Place). StoreUpdates g.S.Store (tables.holding.tree ∷ []) RepresentsDeskAlone c.args.tables.now c.clear_holding.new.tables (Ok (tt {0})) (λ _. ⊤) (λ _. ⊤) (with_place c.args.container place)) (sym c.in-Shelf.is)
          (shelved g.S.Store c.args.tables.now c.clear_holding.new.tables c.args.container e.leaves.goes e.rows e.only);
    }

pub returns-in-Desk : goal.returns-in-Desk
returns-in-Desk g c =
    let e = c.in_ok-clear_holding.ensures in
    let f = rw c.from.ensures at c.insert_holding.ensures in
    record {
      updates = subst (λ (place : Place). StoreUpdates g.S.Store (tables.holding.tree ∷ []) RepresentsDeskAlone c.args.tables.now c.insert_holding.new.tables c.insert_holding.result (λ _. ⊤) (λ _. ⊤) (with_place c.args.container place)) (sym c.in-Desk.is)
          (placed g.S.Store c.args.tables.now c.clear_holding.new.tables c.args.container e.leaves.goes e.rows e.only c.insert_holding.new.tables 1 None c.insert_holding.result f.leaves f.puts f.faults);
    }

pub returns-in-Out : goal.returns-in-Out
returns-in-Out g c =
    let e = c.in_ok-clear_holding.ensures in
    let f = rw c.from-in-Out.ensures at c.insert_holding-in-Out.ensures in
    record {
      updates = subst (λ (place : Place). StoreUpdates g.S.Store (tables.holding.tree ∷ []) RepresentsDeskAlone c.args.tables.now c.insert_holding-in-Out.new.tables c.insert_holding-in-Out.result (λ _. ⊤) (λ _. ⊤) (with_place c.args.container place)) (sym c.in-Out.is)
          (placed g.S.Store c.args.tables.now c.clear_holding.new.tables c.args.container e.leaves.goes e.rows e.only c.insert_holding-in-Out.new.tables 2 (Some c.in-Out.order) c.insert_holding-in-Out.result f.leaves f.puts f.faults);
    }
