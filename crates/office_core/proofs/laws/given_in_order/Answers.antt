use Rattle.office_core.proofs.Numbers.{given_in_order as in_order, starts_at_one}
use Rattle.office_core.proofs.laws.given_in_order.Goals as goal

pub returns-clause-first : goal.returns-clause-first
returns-clause-first c = starts_at_one

pub returns-clause-on : goal.returns-clause-on
returns-clause-on c = λ kind s commands g. in_order kind s commands g.boxes
