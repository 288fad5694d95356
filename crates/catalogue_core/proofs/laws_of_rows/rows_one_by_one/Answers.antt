use Rattle.catalogue_core.proofs.RowsMerged.{row_by_row}
use Rattle.catalogue_core.proofs.laws_of_rows.rows_one_by_one.Goals as goal

pub returns : goal.returns
returns c = row_by_row
