use Rattle.std.proofs.Common.{refl}
use Rattle.office_tables.proofs.RowWrites.{ran_well, ran_badly}
use Rattle.catalogue_statements.proofs.Common.{caused, done, known_change, state}
use Rattle.catalogue_statements.proofs.UnitDeletes.{remove_unit_text, remove_unit_it, remove_unit_removes}
use Rattle.catalogue_statements.proofs.UnitDeletes.{remove_unit_only, the_one}
use Rattle.catalogue_statements.proofs.UnitFaults.{remove_unit_means, remove_unit_cause}
use Rattle.catalogue_statements.proofs.units.remove_unit.Goals as goal

pub change-requires : goal.change-requires
change-requires g c = known_change (remove_unit_means g.P.Versioned.version) refl

pub returns-clause-removes : goal.returns-clause-removes
returns-clause-removes g c clean xs stored up there =
    let old = state g.S.Store c.args.tables.now in
    let new = state g.S.Store c.change.new.tables in
    done old c.change.result _ (rw c.cell.ensures at (c.change.ensures.ran clean)) (λ here. let one = the_one c.args.id xs up there in
    ran_well remove_unit_text _ old new c.change.result _ here.1
    (λ count ran. remove_unit_removes old.now new.now c.args.id xs one.0 g.P.Versioned.version stored up one.1 one.2 (remove_unit_it old new c.args.id count g.P.Versioned.version here.0 ran)))

pub returns-clause-only : goal.returns-clause-only
returns-clause-only g c clean =
    let old = state g.S.Store c.args.tables.now in
    let new = state g.S.Store c.change.new.tables in
    done old c.change.result _ (rw c.cell.ensures at (c.change.ensures.ran clean)) (λ here. ran_well remove_unit_text _ old new c.change.result _ here.1
    (λ count ran. remove_unit_only old.now new.now c.args.id g.P.Versioned.version (remove_unit_it old new c.args.id count g.P.Versioned.version here.0 ran)))

pub returns-clause-faults : goal.returns-clause-faults
returns-clause-faults g c told clean free =
    let old = state g.S.Store c.args.tables.now in
    let new = state g.S.Store c.change.new.tables in
    caused old new c.change.result (rw c.cell.ensures at (c.change.ensures.ran clean)) (λ here. ran_badly remove_unit_text _ old new c.change.result here.1 (remove_unit_cause old new c.args.id g.P.Versioned.version here.0 told c.change.ensures.live free))
