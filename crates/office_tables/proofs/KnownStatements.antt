-- A text is one of our statements if its meaning is proved.
use Rattle.std.proofs.Common.{◌≡◌, ℕ, List, true}
use Rattle.office_tables.specs.ChangeStatement.{changes_rows}
use Rattle.office_tables.specs.Versions.{Version}
use Rattle.office_tables.proofs.Common.{Command, IsChange, IsQuery, Means}

pub known_query : {v : Version} {sql : List ℕ} {count : ℕ} {command : Command} → Means v sql count command → IsQuery v sql
known_query means = record { count = _; command = _; means = means }

pub known_change : {v : Version} {sql : List ℕ} {count : ℕ} {command : Command} → Means v sql count command
    → changes_rows command ≡ true → IsChange v sql
known_change means changes = record { count = _; command = _; changes = changes; means = means }
