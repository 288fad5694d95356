use Rattle.std.proofs.Common.{refl}
use Rattle.std.specs.Fmt.{digits}
use Rattle.program_tests.proofs.worked.worked_faults.Goals as goal

pub returns : goal.returns
unfolding digits
returns c = record {
  statuses = refl;
  texts = refl;
  plain_line = refl;
  file_line = refl;
  container_line = refl;
  words = refl;
  openings = refl;
  files = refl;
  busy_office = refl;
  input = refl;
}
