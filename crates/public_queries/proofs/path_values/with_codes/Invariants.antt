use Rattle.std.proofs.Common.{◌≡◌, [], map}
use Rattle.public_queries.proofs.Common.{UnitValues, coded_way, identifier, repository_of, reverse}
use Rattle.public_queries.proofs.path_values.with_codes.Given as goal

abbrev pub invariant-loop-unit : goal.invariant-loop-unit
invariant-loop-unit l = record {
  units : reverse l.units.items ≡ coded_way (repository_of l.known) [] [] l.yielded;
  ids : l.ids.items ≡ map (λ (u : UnitValues). identifier u.values) l.yielded;
}
