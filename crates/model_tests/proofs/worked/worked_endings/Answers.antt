use Rattle.std.proofs.Common.{refl, lit<, lit≤}
use Rattle.std.proofs.Math.Utf8.{encode}
use Rattle.std.specs.Fmt.{digits}
use Rattle.std.specs.Str.{is_utf8, chars}
use Rattle.csv.specs.Machine.{next_record}
use Rattle.csv.specs.Reading.{records_from, strip_bom}
use Rattle.serde_json.proofs.OnLiterals.{serde_json_on_literals}
use Rattle.isad_core.specs.Days.{day_text}
use Rattle.atom_csv.specs.Columns.{columns}
use Rattle.atom_csv.specs.Values.{text_elements}
use Rattle.catalogue_core.specs.ContainerContents.{is_open}
use Rattle.catalogue_core.specs.Intake.{take}
use Rattle.http_messages.specs.Answers.{head_text, continue_text}
use Rattle.http_messages.specs.HeadScan.{scan}
use Rattle.http_messages.specs.declared.head_scan.HeadScanState.TheVariants.{Middle}
use Rattle.model_tests.proofs.worked.worked_endings.Goals as goal

pub returns : goal.returns
unfolding head_text continue_text scan is_open take is_utf8 chars encode records_from strip_bom next_record columns text_elements digits day_text serde_json_on_literals
returns c = record {
  longest_blank = (lit< tt, refl);
  shortest_too_long = (lit≤ tt, Middle, refl);
  asked = refl;
  last_but_one = refl;
  last = refl;
  goes_on = refl;
  refused = refl;
  refused_head = refl;
  no_text_to_head = refl;
  after_waiting = refl;
  half_a_body = refl;
  too_long = refl;
  chunked = refl;
  last_answer = refl;
  last_state = refl;
  cut = tt;
  closed_too_long = tt;
  closed_refused = tt;
}
