use Rattle.std.proofs.Common.{refl}
use Rattle.office_core.proofs.NoLeak.{answers_alike}
use Rattle.office_core.proofs.laws.nothing_leaks.Goals as goal

pub returns-clause-alike : goal.returns-clause-alike
returns-clause-alike c = answers_alike

pub returns-clause-questions : goal.returns-clause-questions
returns-clause-questions c = record {
  fonds = refl;
  aid = λ u. refl;
  page = λ u. refl;
  reader_orders = λ t. refl;
  queue = λ c. refl;
  run_slip = λ n. refl;
  issued_now = refl;
  reader_permits = λ t. refl;
}
