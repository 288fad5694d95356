-- The rows of offices with other settings, computed.
use Rattle.std.proofs.Common.{refl}
use Rattle.std.proofs.Math.Utf8.{encode}
use Rattle.std.specs.Fmt.{digits}
use Rattle.std.specs.Str.{is_utf8, chars}
use Rattle.csv.specs.Machine.{next_record}
use Rattle.csv.specs.Reading.{records_from, strip_bom}
use Rattle.atom_csv.specs.Columns.{columns}
use Rattle.atom_csv.specs.Values.{text_elements}
use Rattle.catalogue_core.specs.ContainerContents.{is_open}
use Rattle.catalogue_core.specs.Intake.{take}
use Rattle.office_core.specs.WorkedSettings.{OneOfEach, SomeOfEach, MostOfEach}

pub one_of_each : OneOfEach
unfolding is_open take is_utf8 chars encode records_from strip_bom next_record columns text_elements
one_of_each = refl

pub some_of_each : SomeOfEach
unfolding is_open take is_utf8 chars encode records_from strip_bom next_record columns text_elements
some_of_each = refl

pub most_of_each : MostOfEach
unfolding is_open take is_utf8 chars encode records_from strip_bom next_record columns text_elements digits
most_of_each = record { seats = refl; desk = refl }
