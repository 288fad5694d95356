-- The marks that a caller gives of the units of a sound office.
use Rattle.std.proofs.Common.{List, Option, Some, None}
use Rattle.visibility.specs.declared.marks.Mark.{Mark}
use Rattle.known_units.specs.KnownUnits.{KnowsIf}
use Rattle.catalogue_commands.proofs.Common.{IsSoundOffice, State, TellOf, distinct_ids}

-- no two of these units have the same number
pub known_if : (s : State) → IsSoundOffice s → (given : Option (List Mark)) → TellOf s.catalogue given
    → KnowsIf s.catalogue given
known_if s sound None it = tt
known_if s sound (Some marks) it = record { walk = it; distinct = distinct_ids s.catalogue sound.sound.units }
