-- When the marks of a forest that is kept in memory are those of a catalogue's units.
use Rattle.std.specs.Prelude.{List, Option, IfSome}
use Rattle.tree_core.specs.Forest.{Forest, HasDistinctIds, each}
use Rattle.visibility.specs.declared.marks.Mark.{Mark}
use Rattle.catalogue_core.specs.CatalogueMerge.{Catalogue}
use Rattle.catalogue_core.specs.UnitMarks.{AreWalkMarks}
use Rattle.catalogue_core.specs.Units.{Unit}

-- These are the marks of the units of this forest in walk order, and no two units have the same number.
pub record KnowsUnits (f : Forest Unit) (marks : List Mark) : Type 0 where
  pub walk : AreWalkMarks f marks
  pub distinct : HasDistinctIds (each (λ (unit : Unit). unit.id) f)

-- if marks are given, they are those of this catalogue
abbrev pub TellOf : Catalogue → Option (List Mark) → Type 0
TellOf c given = IfSome given (AreWalkMarks c.forest)

-- the same, and no two units of the catalogue have the same number
abbrev pub KnowsIf : Catalogue → Option (List Mark) → Type 0
KnowsIf c given = IfSome given (KnowsUnits c.forest)
