-- The values of a unit, as calls return them: all of them, its texts alone, or its containers alone.
use Rattle.std.specs.Prelude.{ℕ, [], map, find, replicate, Option, None, option_map, unwrap_or}
use Rattle.isad_core.specs.declared.values.Values.{Values}
use Rattle.tree_core.specs.Forest.{nodes}
use Rattle.catalogue_core.specs.Units.{has_id}
use Rattle.catalogue_core.specs.CatalogueMerge.{Catalogue, box_number}
use Rattle.catalogue_store.specs.declared.unit_values.UnitContainers.{UnitContainers}
use Rattle.catalogue_store.specs.declared.unit_values.UnitValues.{UnitValues}

-- the values of the unit with this number, and the numbers of its containers in its order; none if no unit has it
abbrev pub values_of_unit : ℕ → Catalogue → Option UnitValues
values_of_unit id c = option_map (λ u. record { values = u.values; containers = map (box_number c.containers) u.values.boxes }) (find (has_id id) (nodes c.forest))

-- no text of any of the 25 elements, and no container
abbrev pub no_values : Values
no_values = record { level = []; texts = replicate 25 None; boxes = [] }

-- the values of the unit with this number, or no values if no unit has it
abbrev pub values_or_none : ℕ → Catalogue → Values
values_or_none id c = unwrap_or (option_map (λ u. u.values) (find (has_id id) (nodes c.forest))) no_values

-- the containers of that unit with their numbers
abbrev pub containers_of_unit : ℕ → Catalogue → UnitContainers
containers_of_unit id c = record {
  boxes = (values_or_none id c).boxes;
  numbers = map (box_number c.containers) (values_or_none id c).boxes;
}
