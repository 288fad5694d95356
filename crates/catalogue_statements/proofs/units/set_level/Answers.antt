use Rattle.std.proofs.Common.{refl}
use Rattle.catalogue_statements.proofs.Common.{changes, known_change}
use Rattle.catalogue_statements.proofs.UnitWrites.{set_level_means, set_level_leaves, set_level_only, set_level_faults}
use Rattle.catalogue_statements.proofs.units.set_level.Goals as goal

pub change-requires : goal.change-requires
change-requires g c = known_change (set_level_means g.P.Versioned.version) refl

pub returns : goal.returns
returns g c =
    changes g.P.Versioned.version c.change.ensures.leaves (rw (c.cell.ensures, c.words.ensures) at c.change.ensures.ran)
    (λ v has ran xs stored up. set_level_leaves _ _ c.args.id c.args.values.now v has xs stored up c.change.result ran)
    (λ v has ran. set_level_only _ _ c.args.id v has c.change.result c.args.values.now ran)
    (λ v has ran xs stored up free. set_level_faults _ _ c.args.id c.args.values.now v has xs stored up c.change.result ran free c.change.ensures.live)
