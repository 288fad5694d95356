use Rattle.std.proofs.Common.{◌≡◌, length}
use Rattle.isad_core.specs.Levels.{names_level}
use Rattle.isad_core.proofs.level.names.Given as goal

abbrev pub invariant-loop-letters : goal.invariant-loop-letters
invariant-loop-letters l = names_level l.letters l.wanted ≡ names_level l.initial.letters l.initial.wanted

abbrev pub decreases-loop-letters : goal.decreases-loop-letters
decreases-loop-letters l = length l.letters
