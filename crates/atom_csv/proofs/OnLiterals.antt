-- What an answer unfolds to compute what the bytes of a literal say.
use Rattle.std.specs.Str.{chars, is_utf8}
use Rattle.csv.specs.Machine.{next_record}
use Rattle.csv.specs.Reading.{records_from, strip_bom}
use lib.Utf8.{encode}
use Rattle.atom_csv.specs.Columns.{columns}
use Rattle.atom_csv.specs.Values.{text_elements}
use Rattle.atom_csv.proofs.Common.{⊤}

unfoldable pub files_on_literals : ⊤
unfolding next_record records_from strip_bom is_utf8 chars encode columns text_elements
files_on_literals = tt
