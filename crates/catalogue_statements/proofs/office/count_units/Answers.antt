use Rattle.catalogue_statements.proofs.Common.{cells_of_unit, unit}
use Rattle.catalogue_statements.proofs.CountCalls.{known, records_counted}
use Rattle.catalogue_statements.proofs.OfficeStatements.{counts_units}
use Rattle.catalogue_statements.proofs.office.count_units.Goals as goal

pub count-requires : goal.count-requires
count-requires g c = known (counts_units g.P.Versioned.version)

pub returns : goal.returns
returns g c = records_counted unit cells_of_unit c.count.result (c.count.ensures unit (counts_units g.P.Versioned.version))
