-- What can be read back from a table: texts that are UTF-8.
use Rattle.std.specs.Prelude.{IsUtf8, IfSome}
use Rattle.std.specs.List.{AllByRecursion}
use Rattle.isad_core.specs.declared.values.BoxKey.{BoxKey}
use Rattle.isad_core.specs.declared.values.Values.{Values}

pub record IsLegibleBox (box : BoxKey) : Type 0 where
  pub name : IsUtf8 box.name
  pub location : IsUtf8 box.location
  pub kind : IsUtf8 box.kind

-- the level, the texts of the other elements, and what is written on the containers
pub record AreLegibleValues (values : Values) : Type 0 where
  pub level : IsUtf8 values.level
  pub texts : AllByRecursion (λ text. IfSome text IsUtf8) values.texts
  pub boxes : AllByRecursion IsLegibleBox values.boxes
