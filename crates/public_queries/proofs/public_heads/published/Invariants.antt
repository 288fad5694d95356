use Rattle.std.proofs.Common.{◌≡◌, filter, take}
use Rattle.std.specs.List.{find}
use Rattle.known_units.specs.KnownUnits.{KnowsUnits}
use Rattle.public_queries.proofs.Common.{Forest, Unit, has_id, is_published, nodes}
use Rattle.public_queries.proofs.public_heads.published.Given as goal

abbrev pub invariant-loop-unit : goal.invariant-loop-unit
invariant-loop-unit l =
    (f : Forest Unit) → KnowsUnits f l.forest
    → l.ids.items ≡ filter (λ id. is_published (find (has_id id) (nodes f))) (take l.unit-index l.units)
