use Rattle.std.proofs.Common.{◌≡◌, map, take}
use Rattle.office_tables.proofs.from_row.read_all.Given as goal

abbrev pub invariant-loop-row : goal.invariant-loop-row
invariant-loop-row g l = (xs : _) → l.rows ≡ map g.T.FromRow.cells xs → l.all.items ≡ take l.row-index xs
