use Rattle.office_core.proofs.Comes.{comes_new}
use Rattle.office_core.proofs.NumbersGiven.{each_is_units}
use Rattle.office_core.proofs.NumberedRows.{numbers_rows}
use Rattle.office_core.proofs.laws.units_come_new.Goals as goal

pub returns-clause-new : goal.returns-clause-new
returns-clause-new c = comes_new

pub returns-clause-each : goal.returns-clause-each
returns-clause-each c = each_is_units

pub returns-clause-rows : goal.returns-clause-rows
returns-clause-rows c = numbers_rows
