-- What is known about the units of a path.
use Rattle.std.specs.Prelude.{List, [], ◌∷◌, ◌++◌, map}
use Rattle.isad_core.specs.Codes.{code_of}
use Rattle.isad_core.specs.Texts.{Bytes}
use Rattle.isad_core.specs.Values.{identifier}
use Rattle.isad_core.specs.declared.values.BoxKey.{BoxKey}
use Rattle.catalogue_core.specs.Aids.{Repository}
use Rattle.catalogue_core.specs.CatalogueMerge.{box_number}
use Rattle.catalogue_core.specs.Pages.{Coded}
use Rattle.catalogue_core.specs.Units.{Unit}
use Rattle.catalogue_store.specs.declared.unit_values.UnitValues.{UnitValues}
use Rattle.public_queries.specs.declared.path_values.OnPath.{OnPath}

-- the values of a unit, and the numbers of its containers
abbrev pub unit_values : List BoxKey → Unit → UnitValues
unit_values boxes unit = record { values = unit.values; containers = map (box_number boxes) unit.values.boxes }

-- the identifiers of units with these values
abbrev pub identifiers_of : List UnitValues → List Bytes
identifiers_of units = map (λ unit. identifier unit.values) units

-- a unit with the code that it has below units with these identifiers
abbrev pub on_path : Repository → List Bytes → UnitValues → OnPath
on_path at above unit = record {
  code = code_of at.country at.repo (above ++ identifier unit.values ∷ []);
  unit = unit;
}

-- These units with their codes, the lowest first. `above` are the identifiers of the units above, and `higher` are
-- those units themselves.
abbrev pub coded_way : Repository → List Bytes → List OnPath → List UnitValues → List OnPath
coded_way at above higher [] = higher
coded_way at above higher (unit ∷ way) =
    coded_way at (above ++ identifier unit.values ∷ []) (on_path at above unit ∷ higher) way

-- the unit's code and values
abbrev pub coded_of : OnPath → Coded
coded_of unit = record { code = unit.code; values = unit.unit.values }
