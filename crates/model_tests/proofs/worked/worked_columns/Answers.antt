use Rattle.std.proofs.Common.{refl}
use Rattle.atom_csv.specs.Columns.{columns}
use Rattle.model_tests.proofs.worked.worked_columns.Goals as goal

pub returns : goal.returns
unfolding columns
returns c = record {
  named = refl;
  several = refl;
  blank_entries = refl;
  joined_entries = refl;
  ends = refl;
  another_case = refl;
  title_twice = refl;
  unread_twice = refl;
}
