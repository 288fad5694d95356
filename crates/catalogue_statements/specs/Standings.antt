-- What a unit's row says about it, except where its description came from.
use Rattle.catalogue_core.specs.Units.{Unit}
use Rattle.catalogue_statements.specs.declared.row_types.Standing.{Standing}

abbrev pub standing_of : Unit → Standing
standing_of u = record { level = u.values.level; draft = u.draft; until = u.until }
