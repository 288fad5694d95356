use Rattle.std.proofs.Common.{refl}
use Rattle.clap.proofs.OnLiterals.{clap_on_literals}
use Rattle.command_line.proofs.worked.worked_tasks.Goals as goal

pub returns : goal.returns
unfolding clap_on_literals
returns c = record {
  imported = refl;
  of_no_source = refl;
  no_file = refl;
  to_no_store = refl;
  talked = refl;
  talked_to_none = refl;
  checked = refl;
  migrated = refl;
  served = refl;
  most_served = refl;
  port_zero = refl;
  port_too_high = refl;
  no_connection = refl;
  too_many_connections = refl;
  without_port = refl;
  without_connections = refl;
}
