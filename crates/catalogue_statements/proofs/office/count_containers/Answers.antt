use Rattle.catalogue_statements.proofs.Common.{container, numbered_container_cells}
use Rattle.catalogue_statements.proofs.CountCalls.{known, records_counted}
use Rattle.catalogue_statements.proofs.OfficeStatements.{counts_containers}
use Rattle.catalogue_statements.proofs.office.count_containers.Goals as goal

pub count-requires : goal.count-requires
count-requires g c = known (counts_containers g.P.Versioned.version)

pub returns : goal.returns
returns g c = records_counted container numbered_container_cells c.count.result (c.count.ensures container (counts_containers g.P.Versioned.version))
