-- The rows of a sound state have none of the causes 6 to 10, and meet the desk's keys.
use Rattle.std.proofs.Common.{ap}
use Rattle.std.specs.Prelude.{not}
use Rattle.state_encoding.proofs.Common.{SoundTablesPass, State, Version}
use Rattle.state_encoding.proofs.DeskKeys.{meets_keys}
use Rattle.state_encoding.proofs.ReadersPass.{readers_pass}
use Rattle.state_encoding.proofs.OrdersPass.{orders_pass, holdings_pass}
use Rattle.state_encoding.proofs.RunsPass.{runs_pass, day_passes}

pub desk_passes : (version : Version) (s : State) → SoundTablesPass version s
desk_passes version s g =
    record {
      keys = meets_keys version s g.desk;
      causes = record {
        readers = ap not (readers_pass version s g);
        orders = ap not (orders_pass version s g);
        holdings = ap not (holdings_pass version s g);
        runs = ap not (runs_pass version s g);
        day = day_passes version s g;
      };
    }
