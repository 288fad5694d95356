use Rattle.office_core.proofs.Remarking.{remarks_on_rows}
use Rattle.office_core.proofs.laws_of_rules.remarks_say_what_holds.Goals as goal

pub returns : goal.returns
returns c = remarks_on_rows
