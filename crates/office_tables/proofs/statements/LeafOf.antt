-- Tables that two crates change: no foreign key refers to them, and their own keys fit the schema.
use Rattle.std.proofs.Common.{◌≡◌, true, false, refl}
use Rattle.sqlite_schema.specs.Names.{same_name}
use Rattle.sqlite_value.specs.Keys.{joined}
use Rattle.office_tables.specs.Schema.{Version, First, Second}
use Rattle.office_tables.proofs.Common.{office, permit, references_fit, schema, seat}
use Rattle.office_tables.proofs.Steps.{is_referred_to}
use Rattle.office_tables.proofs.UpdateCauses.{KeepsTable}

pub seat_alone : (v : Version) → is_referred_to (schema v) seat.tree ≡ false
unfolding joined same_name
seat_alone v = refl

pub seat_fits : (v : Version) → references_fit (schema v) seat false true ≡ true
unfolding joined same_name
seat_fits v = refl

pub permit_alone : (v : Version) → is_referred_to (schema v) permit.tree ≡ false
unfolding joined same_name
permit_alone v = refl

pub permit_fits : (v : Version) → references_fit (schema v) permit false true ≡ true
unfolding joined same_name
permit_fits v = refl

-- an UPDATE of the office's row breaks no key
pub office_kept : (v : Version) → KeepsTable (λ _. false) (schema v) 7 office
unfolding joined same_name
office_kept First = record { listed = refl; apart = refl; spared = refl; fits = refl }
office_kept Second = record { listed = refl; apart = refl; spared = refl; fits = refl }
