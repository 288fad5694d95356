-- A new office is sound.
use Rattle.std.proofs.Common.{refl, arith}
use Rattle.std.specs.List.{IsDistinct}
use Rattle.std.specs.Prelude.{ℤ}
use Rattle.office_core.proofs.Common.{AreGoodSettings, AreGoodUnits, IsDayNumber, IsSound, Settings, start}
use Rattle.office_core.proofs.SoundDesk.{desk_start}

no_units : (settings : Settings) (day : ℤ) → AreGoodUnits (start settings day).catalogue
unfolding IsDistinct
no_units settings day =
    record {
      each = tt;
      ids = tt;
      pairs = tt;
      given = tt;
      next = (omega arith, omega arith);
      few = omega arith;
      depth = omega arith;
    }

pub starts_sound : (settings : Settings) (day : ℤ) → AreGoodSettings settings → IsDayNumber day
    → IsSound (start settings day)
starts_sound settings day g d =
    record {
      settings = g;
      days = record { today = d; readers = tt; orders = tt; runs = tt; permits = λ t. tt; closures = tt };
      units = no_units settings day;
      containers = record { named = refl; few = omega arith };
      permits = λ t. tt;
      desk = desk_start settings day;
    }
