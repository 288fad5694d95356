use Rattle.std.proofs.Common.{◌≡◌, take, map}
use Rattle.serde_json.specs.View.{view}
use Rattle.desk_queries.proofs.json_values.values_of.Given as goal

abbrev pub invariant-loop-thing : goal.invariant-loop-thing
invariant-loop-thing g l = map view l.values.items ≡ map g.T.Told.told (take l.thing-index l.things)
