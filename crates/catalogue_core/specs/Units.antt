-- Units of description: their records, how they are identified, and when they are closed.
use Rattle.std.specs.Prelude.{ℕ, ℤ, Bool, ◌&&◌, nat_eq, Option}
use Rattle.std.specs.Str.{bytes_eq}
use Rattle.isad_core.specs.Texts.{Bytes}
use Rattle.isad_core.specs.declared.values.Values.{Values}
use Rattle.visibility.specs.Marks.{is_later}

pub record Unit : Type 0 where
  pub id : ℕ  -- its number in this office
  pub source : Bytes  -- where its description came from
  pub legacy : Bytes  -- its number there
  pub values : Values
  pub draft : Bool
  pub until : Option ℤ  -- the first day on which its closure holds no more

-- the unit has this number
abbrev pub has_id : ℕ → Unit → Bool
has_id id unit = nat_eq id unit.id

-- the unit is the one with this number in this source
abbrev pub is_from : Bytes → Bytes → Unit → Bool
is_from source legacy unit = bytes_eq unit.source source && bytes_eq unit.legacy legacy

abbrev pub is_unit_closed : ℤ → Unit → Bool
is_unit_closed today unit = is_later today unit.until
