-- What an office allows in its reading room.
use Rattle.desk_core.specs.declared.reader.Limits.{Limits}
use Rattle.office_core.specs.State.{State}

-- its settings, as the desk's limits
abbrev pub limits_of : State → Limits
limits_of s = record {
  seats = s.settings.seats;
  daily = s.settings.daily;
  hands = s.settings.hands;
  run = s.settings.run_size;
}
