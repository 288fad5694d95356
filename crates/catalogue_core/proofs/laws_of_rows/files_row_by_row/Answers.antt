use Rattle.catalogue_core.proofs.RowsMerged.{taken_row_by_row}
use Rattle.catalogue_core.proofs.laws_of_rows.files_row_by_row.Goals as goal

pub returns : goal.returns
returns c = taken_row_by_row
