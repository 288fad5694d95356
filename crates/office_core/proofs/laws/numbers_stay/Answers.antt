use Rattle.office_core.proofs.StaysNamed.{stays_named}
use Rattle.office_core.proofs.laws.numbers_stay.Goals as goal

pub returns : goal.returns
returns c = λ s commands g. stays_named s commands g.boxes
