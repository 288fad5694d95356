-- What the reading room needs from the office's own row.
use Rattle.catalogue_statements.specs.declared.office.OfficeRow.{OfficeRow}
use Rattle.desk_core.specs.declared.reader.Limits.{Limits}

-- its settings, as the desk's limits
abbrev pub limits_of_row : OfficeRow → Limits
limits_of_row row = record { seats = row.seats; daily = row.daily; hands = row.hands; run = row.run_size }
