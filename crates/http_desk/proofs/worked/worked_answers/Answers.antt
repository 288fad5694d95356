use Rattle.std.proofs.Common.{refl}
use Rattle.std.proofs.Math.Utf8.{encode}
use Rattle.std.specs.Fmt.{digits}
use Rattle.std.specs.Str.{is_utf8, chars}
use Rattle.csv.specs.Machine.{next_record}
use Rattle.csv.specs.Reading.{records_from, strip_bom}
use Rattle.serde_json.proofs.OnLiterals.{serde_json_on_literals}
use Rattle.isad_core.specs.Days.{day_text}
use Rattle.atom_csv.specs.Columns.{columns}
use Rattle.atom_csv.specs.Values.{text_elements}
use Rattle.catalogue_core.specs.ContainerContents.{is_open}
use Rattle.catalogue_core.specs.Intake.{take}
use Rattle.http_messages.specs.Answers.{head_text, continue_text}
use Rattle.http_desk.proofs.worked.worked_answers.Goals as goal

pub returns : goal.returns
unfolding head_text continue_text is_open take is_utf8 chars encode records_from strip_bom next_record columns text_elements digits day_text serde_json_on_literals
returns c = record {
  fonds = refl;
  nothing = refl;
  head = refl;
  draft = refl;
  unknown = refl;
  no_route = refl;
  no_length = refl;
  refused = refl;
}
