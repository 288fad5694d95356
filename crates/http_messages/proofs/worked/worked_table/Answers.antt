use Rattle.std.proofs.Common.{refl}
use Rattle.http_messages.proofs.worked.worked_table.Goals as goal

pub returns : goal.returns
returns c = record { lines = refl }
