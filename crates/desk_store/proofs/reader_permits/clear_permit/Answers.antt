use Rattle.std.proofs.Common.{refl}
use Rattle.desk_store.proofs.Common.{known_change, thins_numbered}
use Rattle.desk_store.proofs.PermitRows.{clear_permit_means, clear_permit_leaves, clear_permit_only}
use Rattle.desk_store.proofs.PermitRows.{clear_permit_faults}
use Rattle.desk_store.proofs.reader_permits.clear_permit.Goals as goal

pub change-requires : goal.change-requires
change-requires g c = known_change (clear_permit_means g.P.Versioned.version) refl

pub returns : goal.returns
returns g c =
    thins_numbered g.P.Versioned.version c.change.ensures.leaves (rw (c.cell.ensures, c.cell-2.ensures) at c.change.ensures.ran)
    (λ v has ran ps shown. clear_permit_leaves _ _ c.args.ticket c.args.unit v has c.change.result ran ps shown)
    (λ v has ran. clear_permit_only _ _ c.args.ticket c.args.unit v has c.change.result ran)
    (λ v has ran free. clear_permit_faults _ _ c.args.ticket c.args.unit v has c.change.result ran free c.change.ensures.live)
