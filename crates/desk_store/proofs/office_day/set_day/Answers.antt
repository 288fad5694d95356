use Rattle.std.proofs.Common.{refl}
use Rattle.desk_store.proofs.Common.{caused, done, known_change, state}
use Rattle.desk_store.proofs.OpeningRows.{set_day_means, set_day_leaves, set_day_only, set_day_faults}
use Rattle.desk_store.proofs.office_day.set_day.Goals as goal

pub change-requires : goal.change-requires
change-requires g c = known_change (set_day_means g.P.Versioned.version) refl

pub returns-clause-rows : goal.returns-clause-rows
returns-clause-rows g c clean o stored =
    let old = state g.S.Store c.args.tables.now in
    let new = state g.S.Store c.change.new.tables in
    done old c.change.result _ (rw c.day.ensures at (c.change.ensures.ran clean)) (λ ran. set_day_leaves old new c.args.on g.P.Versioned.version ran.0 c.change.result ran.1 o stored)

pub returns-clause-only : goal.returns-clause-only
returns-clause-only g c clean =
    let old = state g.S.Store c.args.tables.now in
    let new = state g.S.Store c.change.new.tables in
    done old c.change.result _ (rw c.day.ensures at (c.change.ensures.ran clean)) (λ ran. set_day_only old new c.args.on g.P.Versioned.version ran.0 c.change.result ran.1)

pub returns-clause-faults : goal.returns-clause-faults
returns-clause-faults g c o stored clean free =
    let old = state g.S.Store c.args.tables.now in
    let new = state g.S.Store c.change.new.tables in
    caused old new c.change.result (rw c.day.ensures at (c.change.ensures.ran clean)) (λ ran. set_day_faults old new c.args.on g.P.Versioned.version ran.0 c.change.result ran.1 o stored free c.change.ensures.live)
