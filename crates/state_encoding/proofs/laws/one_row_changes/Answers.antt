use Rattle.state_encoding.proofs.TableLaws.{one_row_changes as changes}
use Rattle.state_encoding.proofs.laws.one_row_changes.Goals as goal

pub returns : goal.returns
returns c = changes
