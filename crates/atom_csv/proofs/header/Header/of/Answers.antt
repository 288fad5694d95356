use Rattle.std.proofs.Common.{◌∙◌, ap, map, List, Bor}
use Rattle.atom_csv.specs.Columns.{columns}
use Rattle.atom_csv.proofs.Common.{Bytes, column_name, is_column_name, position}
use Rattle.atom_csv.proofs.FieldLemmas.{places_seen}
use Rattle.atom_csv.proofs.header.Header.of.Goals as goal

pub invariant_of-result : goal.invariant_of-result
invariant_of-result c =
    c.in_ok-places.ensures
    ∙ (ap (λ (xs : List (Bor Bytes)). map (λ k. position (λ x. is_column_name (column_name k) x.now) xs) columns) c.as_slice.ensures.value ∙ places_seen c.in_ok-names.names.items)
