-- The causes for which a file is refused, by their numbers.
use Rattle.std.specs.Prelude.{ℕ}
use Rattle.atom_csv.specs.declared.cause.Cause.{Cause}
use Rattle.atom_csv.specs.declared.cause.Cause.TheVariants.{NotUtf8, NoHeader, NoLegacyId, HeaderTwice, FieldCount}
use Rattle.atom_csv.specs.declared.cause.Cause.TheVariants.{BlankLegacyId, Repeated, Slug, TooManyRows, TooLong}
use Rattle.atom_csv.specs.declared.cause.Cause.TheVariants.{NoParent}
use Rattle.atom_csv.specs.declared.cause.Cause.TheVariants.{TooDeep}

abbrev pub cause_number : Cause → ℕ
cause_number NotUtf8 = 1
cause_number NoHeader = 2
cause_number NoLegacyId = 3
cause_number HeaderTwice = 4
cause_number FieldCount = 5
cause_number BlankLegacyId = 6
cause_number Repeated = 7
cause_number Slug = 8
cause_number TooManyRows = 9
cause_number TooLong = 10
cause_number NoParent = 11
cause_number TooDeep = 12
