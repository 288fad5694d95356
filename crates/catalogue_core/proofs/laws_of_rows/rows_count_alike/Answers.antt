use Rattle.catalogue_core.proofs.RowCounts.{changed_counts, new_counts, same_counts}
use Rattle.catalogue_core.proofs.laws_of_rows.rows_count_alike.Goals as goal

pub returns-clause-changed : goal.returns-clause-changed
returns-clause-changed c = changed_counts

pub returns-clause-new : goal.returns-clause-new
returns-clause-new c = new_counts

pub returns-clause-same : goal.returns-clause-same
returns-clause-same c = same_counts
