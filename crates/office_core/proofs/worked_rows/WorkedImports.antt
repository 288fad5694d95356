-- The rows of imports, closures and moves, computed.
use Rattle.std.proofs.Common.{refl}
use Rattle.std.proofs.Math.Utf8.{encode}
use Rattle.std.specs.Fmt.{digits}
use Rattle.std.specs.Str.{is_utf8, chars}
use Rattle.csv.specs.Machine.{next_record}
use Rattle.csv.specs.Reading.{records_from, strip_bom}
use Rattle.atom_csv.specs.Columns.{columns}
use Rattle.atom_csv.specs.Values.{text_elements}
use Rattle.catalogue_core.specs.ContainerContents.{is_open}
use Rattle.catalogue_core.specs.Intake.{take}
use Rattle.office_core.specs.WorkedImports.{LevelsWithoutRank, OneMissing, ChangedAlone, NewBelow, ClosuresKept}
use Rattle.office_core.specs.WorkedImports.{TooDeepBeforeTheGate}

pub levels_without_rank : LevelsWithoutRank
unfolding is_open take is_utf8 chars encode records_from strip_bom next_record columns text_elements
levels_without_rank = refl

pub one_missing : OneMissing
unfolding is_open take is_utf8 chars encode records_from strip_bom next_record columns text_elements
one_missing = refl

pub changed_alone : ChangedAlone
unfolding is_open take is_utf8 chars encode records_from strip_bom next_record columns text_elements
changed_alone = refl

pub new_below : NewBelow
unfolding is_open take is_utf8 chars encode records_from strip_bom next_record columns text_elements digits
new_below = record { known_draft = refl; new_draft = refl; closed = refl }

pub closures_kept : ClosuresKept
unfolding is_open take is_utf8 chars encode records_from strip_bom next_record columns text_elements digits
closures_kept = record { past = refl; today = refl; shortened = refl; shown = refl }

pub too_deep_before_the_gate : TooDeepBeforeTheGate
unfolding is_open take is_utf8 chars encode records_from strip_bom next_record columns text_elements digits
too_deep_before_the_gate = refl
