use Rattle.std.proofs.Common.{refl}
use Rattle.http_messages.specs.HeadScan.{scan}
use Rattle.model_tests.proofs.worked.worked_scans.Goals as goal

pub returns : goal.returns
unfolding scan
returns c = record {
  empty_lines = refl;
  returns = refl;
  line_feeds = refl;
  return_in_line = refl;
  return_at_end = refl;
  begun = refl;
  nothing = refl;
}
