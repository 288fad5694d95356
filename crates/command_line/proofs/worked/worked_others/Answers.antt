use Rattle.std.proofs.Common.{refl}
use Rattle.clap.proofs.OnLiterals.{clap_on_literals}
use Rattle.command_line.proofs.worked.worked_others.Goals as goal

pub returns : goal.returns
unfolding clap_on_literals
returns c = record {
  nothing = refl;
  help_command = refl;
  help_option = refl;
  unknown = refl;
  capital = refl;
  own_name = refl;
}
