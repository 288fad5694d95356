-- Settings that can be read back from the office's row: texts that are UTF-8, and numbers that fit their types.
use Rattle.std.specs.Prelude.{◌≡◌, ◌<◌, ◌^◌, true, IsUtf8}
use Rattle.isad_core.specs.Days.{is_day_number}
use Rattle.catalogue_statements.specs.declared.office.OfficeRow.{OfficeRow}

pub record AreLegibleSettings (o : OfficeRow) : Type 0 where
  pub country : IsUtf8 o.country
  pub repo : IsUtf8 o.repo
  pub seats : o.seats < 2 ^ 32
  pub daily : o.daily < 2 ^ 32
  pub hands : o.hands < 2 ^ 32
  pub run_size : o.run_size < 2 ^ 32
  pub day : is_day_number o.day ≡ true
