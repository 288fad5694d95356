use Rattle.std.proofs.Common.{refl}
use Rattle.desk_store.proofs.Common.{known_change, thins}
use Rattle.desk_store.proofs.HoldingWrites.{clear_holding_means, clear_holding_leaves, clear_holding_only}
use Rattle.desk_store.proofs.HoldingWrites.{clear_holding_faults}
use Rattle.desk_store.proofs.holdings.clear_holding.Goals as goal

pub change-requires : goal.change-requires
change-requires g c = known_change (clear_holding_means g.P.Versioned.version) refl

pub returns : goal.returns
returns g c =
    thins g.P.Versioned.version c.change.ensures.leaves (rw c.cell.ensures at c.change.ensures.ran)
    (λ v has ran xs stored up. clear_holding_leaves _ _ c.args.container v has c.change.result ran xs stored up)
    (λ v has ran. clear_holding_only _ _ c.args.container v has c.change.result ran)
    (λ v has ran free. clear_holding_faults _ _ c.args.container v has c.change.result ran free c.change.ensures.live)
