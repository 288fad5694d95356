-- The rows of the catalogue, computed.
use Rattle.std.proofs.Common.{refl}
use Rattle.std.proofs.Math.Utf8.{encode}
use Rattle.std.specs.Fmt.{digits}
use Rattle.std.specs.Str.{is_utf8, chars}
use Rattle.csv.specs.Machine.{next_record}
use Rattle.csv.specs.Reading.{records_from, strip_bom}
use Rattle.atom_csv.specs.Columns.{columns}
use Rattle.atom_csv.specs.Values.{text_elements}
use Rattle.catalogue_core.specs.ContainerContents.{is_open}
use Rattle.catalogue_core.specs.Intake.{take}
use Rattle.office_core.specs.WorkedCatalogue.{SourcesApart, KnownRowsStay, BoxesTurned, LevelsOfParents}
use Rattle.office_core.specs.WorkedCatalogue.{TooMuchBeforeTheGate, BranchCounted, LastPlaces, BoxesInOrder}

pub sources_apart : SourcesApart
unfolding is_open take is_utf8 chars encode records_from strip_bom next_record columns text_elements
sources_apart = refl

pub known_rows_stay : KnownRowsStay
unfolding is_open take is_utf8 chars encode records_from strip_bom next_record columns text_elements
known_rows_stay = refl

pub boxes_turned : BoxesTurned
unfolding is_open take is_utf8 chars encode records_from strip_bom next_record columns text_elements
boxes_turned = refl

pub levels_of_parents : LevelsOfParents
unfolding is_open take is_utf8 chars encode records_from strip_bom next_record columns text_elements
levels_of_parents = refl

pub too_much_before_the_gate : TooMuchBeforeTheGate
unfolding is_open take is_utf8 chars encode records_from strip_bom next_record columns text_elements
too_much_before_the_gate = refl

pub branch_counted : BranchCounted
unfolding is_open take is_utf8 chars encode records_from strip_bom next_record columns text_elements
branch_counted = refl

pub last_places : LastPlaces
unfolding is_open take is_utf8 chars encode records_from strip_bom next_record columns text_elements digits
last_places = record { new_children = refl; new_tops = refl; in_walk_order = refl; moved_where_it_was = refl; moved_below = refl; moved_to_the_top = refl; strayed_stays = refl }

pub boxes_in_order : BoxesInOrder
unfolding is_open take is_utf8 chars encode records_from strip_bom next_record columns text_elements digits
boxes_in_order = record { first = refl; turned = refl }
