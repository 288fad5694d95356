use Rattle.std.proofs.Common.{◌∷◌, [], refl}
use Rattle.office_tables.proofs.StoreCalls.{as_updates}
use Rattle.office_tables.specs.Schema as tables
use Rattle.desk_store.proofs.MadeInTurn.{makes_then}
use Rattle.desk_commands.proofs.Common.{makes_passed, with_order_state, with_place, ⊤}
use Rattle.desk_commands.proofs.container_moves.hand_over.Goals as goal

pub returns-in_err-end_order : goal.returns-in_err-end_order
returns-in_err-end_order g c =
    let made = c.in_err-end_order.ensures.updates in
    record { updates = makes_passed _ c.from_residual.ensures made.aborts (λ s d shown may kept. made.faults s d shown tt kept) }

pub returns : goal.returns
returns g c =
    record {
      updates = makes_then g.S.Store c.args.tables.now c.end_order.new.tables c.set_place.new.tables _ c.set_place.result (λ _. ⊤) (λ _. ⊤)
          (with_order_state c.args.order c.args.next) (with_place c.args.container c.args.place) (tables.orders.tree ∷ []) (tables.holding.tree ∷ []) (tables.orders.tree ∷ tables.holding.tree ∷ [])
          (as_updates c.in_ok-end_order.ensures.updates) (as_updates c.set_place.ensures.updates)
          (λ d may. tt) refl refl;
    }
