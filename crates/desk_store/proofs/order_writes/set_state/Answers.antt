use Rattle.std.proofs.Common.{refl}
use Rattle.desk_store.proofs.Common.{changes, known_change}
use Rattle.desk_store.proofs.OrderWrites.{set_state_means, set_state_leaves, set_state_only, set_state_faults}
use Rattle.desk_store.proofs.order_writes.set_state.Goals as goal

pub change-requires : goal.change-requires
change-requires g c = known_change (set_state_means g.P.Versioned.version) refl

pub returns : goal.returns
returns g c =
    changes g.P.Versioned.version c.change.ensures.leaves (rw (c.cell.ensures, c.cell-2.ensures) at c.change.ensures.ran)
    (λ v has ran xs stored counted. set_state_leaves _ _ c.args.order c.args.next v has c.change.result ran xs stored counted)
    (λ v has ran. set_state_only _ _ c.args.order c.args.next v has c.change.result ran)
    (λ v has ran xs stored counted free. set_state_faults _ _ c.args.order c.args.next v has c.change.result ran xs stored counted free c.change.ensures.live)
