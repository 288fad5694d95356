use Rattle.catalogue_statements.proofs.Common.{known_query, looks_up}
use Rattle.catalogue_statements.proofs.HousingStatements.{housings_means, of_unit_finds, of_unit_faults}
use Rattle.catalogue_statements.proofs.containers.housings_of.Goals as goal

pub find-requires : goal.find-requires
find-requires g c = known_query (housings_means g.P.Versioned.version)

pub returns : goal.returns
returns g c =
    looks_up g.P.Versioned.version c.find.ensures.reads (rw c.cell.ensures at c.find.ensures.ran)
    (λ v has found xs stored _. of_unit_finds _ _ v has xs stored c.args.unit (λ found. found.items) c.find.result found)
    (λ v has missed xs stored _ free. of_unit_faults _ _ v has xs stored c.args.unit (λ found. found.items) c.find.result free missed)
