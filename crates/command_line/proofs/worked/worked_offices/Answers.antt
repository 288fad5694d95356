use Rattle.std.proofs.Common.{refl}
use Rattle.clap.proofs.OnLiterals.{clap_on_literals}
use Rattle.command_line.proofs.worked.worked_offices.Goals as goal

pub returns : goal.returns
unfolding clap_on_literals
returns c = record {
  begun = refl;
  begun_nowhere = refl;
  tried = refl;
  tried_in_store = refl;
  most_seats = refl;
  more_seats = refl;
  no_seats = refl;
  fewer_seats = refl;
  ten_seats = refl;
  without_seats = refl;
  without_daily = refl;
  without_hands = refl;
  without_run = refl;
  without_day = refl;
}
