use Rattle.std.proofs.Common.{refl}
use Rattle.catalogue_statements.proofs.Common.{caused, done, known_change, state}
use Rattle.catalogue_statements.proofs.OfficeStatements.{set_next_means, set_next_leaves, set_next_only}
use Rattle.catalogue_statements.proofs.OfficeStatements.{set_next_faults}
use Rattle.catalogue_statements.proofs.office.set_next_unit.Goals as goal

pub change-requires : goal.change-requires
change-requires g c = known_change (set_next_means g.P.Versioned.version) refl

pub returns-clause-rows : goal.returns-clause-rows
returns-clause-rows g c clean version o stored =
    done (state g.S.Store c.args.tables.now) c.change.result _ (rw c.cell.ensures at (c.change.ensures.ran clean)) (λ ran. set_next_leaves _ _ c.args.next g.P.Versioned.version ran.0 version o stored c.change.result ran.1)

pub returns-clause-only : goal.returns-clause-only
returns-clause-only g c clean =
    done (state g.S.Store c.args.tables.now) c.change.result _ (rw c.cell.ensures at (c.change.ensures.ran clean)) (λ ran. set_next_only _ _ c.args.next g.P.Versioned.version ran.0 c.change.result ran.1)

pub returns-clause-faults : goal.returns-clause-faults
returns-clause-faults g c version o stored clean free =
    caused (state g.S.Store c.args.tables.now) (state g.S.Store c.change.new.tables) c.change.result (rw c.cell.ensures at (c.change.ensures.ran clean)) (λ ran. set_next_faults _ _ c.args.next g.P.Versioned.version ran.0 version o stored c.change.result ran.1 free c.change.ensures.live)
