-- The place of a column among all that are read.
use Rattle.std.proofs.Common.{◌≡◌, ◌<◌, length, map, get_or, refl, lit<}
use Rattle.atom_csv.specs.Columns.{columns}
use Rattle.atom_csv.specs.declared.column.Column.TheVariants as column
use Rattle.atom_csv.proofs.Common.{Column, tag_of, the_type}

-- what is told of each column stands at the column's place
pub at_place : {X : Type 0} (f : Column → X) (k : Column) (d : X) → get_or (map f columns) (tag_of the_type k) d ≡ f k
unfolding columns
at_place f column.LegacyId d = refl
at_place f _ d = refl

pub place_within : {X : Type 0} (f : Column → X) (k : Column) → tag_of the_type k < length (map f columns)
unfolding columns
place_within f column.LegacyId = lit< tt
place_within f _ = lit< tt
