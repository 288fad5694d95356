use Rattle.std.proofs.Common.{refl}
use Rattle.desk_store.proofs.Common.{known_change, thins}
use Rattle.desk_store.proofs.OpeningRows.{free_means, free_leaves, free_only, free_faults}
use Rattle.desk_store.proofs.office_day.free_seats.Goals as goal

pub change-requires : goal.change-requires
change-requires g c = known_change (free_means g.P.Versioned.version) refl

pub returns : goal.returns
returns g c =
    thins g.P.Versioned.version c.change.ensures.leaves c.change.ensures.ran
    (λ v has ran xs stored up. free_leaves _ _ v has c.change.result ran xs stored up)
    (λ v has ran. free_only _ _ v has c.change.result ran)
    (λ v has ran free. free_faults _ _ v has c.change.result ran free c.change.ensures.live)
