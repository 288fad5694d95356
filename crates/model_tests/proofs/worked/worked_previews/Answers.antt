use Rattle.std.proofs.Common.{refl}
use Rattle.std.proofs.Math.Utf8.{encode}
use Rattle.std.specs.Fmt.{digits}
use Rattle.std.specs.Str.{is_utf8, chars}
use Rattle.csv.specs.Machine.{next_record}
use Rattle.csv.specs.Reading.{records_from, strip_bom}
use Rattle.atom_csv.specs.Columns.{columns}
use Rattle.atom_csv.specs.Values.{text_elements}
use Rattle.catalogue_core.specs.ContainerContents.{is_open}
use Rattle.catalogue_core.specs.Intake.{take}
use Rattle.model_tests.proofs.worked.worked_previews.Goals as goal

pub returns : goal.returns
unfolding is_open take is_utf8 chars encode records_from strip_bom next_record columns text_elements digits
returns c = record {
  nothing = refl;
  one_fonds = refl;
  series = refl;
  two_fonds = refl;
  draft = refl;
  no_id = refl;
  blank_id = refl;
  no_parent = refl;
}
