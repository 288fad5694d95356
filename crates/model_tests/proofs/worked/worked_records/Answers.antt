use Rattle.std.proofs.Common.{refl}
use Rattle.std.proofs.Math.Utf8.{encode}
use Rattle.std.specs.Str.{is_utf8, chars}
use Rattle.csv.specs.Machine.{next_record}
use Rattle.csv.specs.Reading.{records_from, strip_bom}
use Rattle.atom_csv.specs.Columns.{columns}
use Rattle.atom_csv.specs.Values.{text_elements}
use Rattle.model_tests.proofs.worked.worked_records.Goals as goal

pub returns : goal.returns
unfolding is_utf8 chars encode records_from strip_bom next_record columns text_elements
returns c = record {
  numbers = refl;
  published = refl;
  told_again = refl;
  counted = refl;
  blank_first = refl;
  blank_later = refl;
  same = refl;
  other = refl;
  fewer = refl;
  more = refl;
  no_id = refl;
  repeated = refl;
  slug = refl;
  slug_and_parent = refl;
  last_row = refl;
  late = refl;
  late_blank = refl;
  longest = refl;
  too_long = refl;
  several_causes = refl;
  mark = refl;
  no_text = refl;
}
