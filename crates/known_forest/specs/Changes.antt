-- Changes of marks.
use Rattle.visibility.specs.declared.marks.Mark.{Mark}
use Rattle.known_forest.specs.declared.changes.Change.{Change}
use Rattle.known_forest.specs.declared.changes.Change.TheVariants.{Draft, Until, Boxed}

-- a mark with the change
abbrev pub changed : Change → Mark → Mark
changed (Draft draft) mark = record mark { draft = draft }
changed (Until until) mark = record mark { until = until }
changed (Boxed boxed) mark = record mark { boxed = boxed }
