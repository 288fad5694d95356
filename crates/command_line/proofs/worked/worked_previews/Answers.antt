use Rattle.std.proofs.Common.{refl}
use Rattle.clap.proofs.OnLiterals.{clap_on_literals}
use Rattle.command_line.proofs.worked.worked_previews.Goals as goal

pub returns : goal.returns
unfolding clap_on_literals
returns c = record {
  of_file = refl;
  of_input = refl;
  two_files = refl;
  no_country = refl;
  no_repo = refl;
  no_code = refl;
  with_store = refl;
}
