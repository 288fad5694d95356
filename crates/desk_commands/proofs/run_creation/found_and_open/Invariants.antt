use Rattle.std.proofs.Common.{◌≡◌, ◌≤◌, ◌-◌, ◌++◌, take, length}
use Rattle.catalogue_core.specs.UnitMarks.{AreWalkMarks}
use Rattle.desk_commands.proofs.Common.{CanBeJudged, HasCleanDisk, LeavesUnchanged, RepresentsState, State, open_ones}
use Rattle.desk_commands.proofs.Common.{state}
use Rattle.desk_commands.proofs.run_creation.found_and_open.Given as goal

abbrev pub invariant-loop-place : goal.invariant-loop-place
invariant-loop-place g l = record {
  looks : LeavesUnchanged (state g.S.Store l.fn.tables) (state g.S.Store l.tables);
  within : l.place ≤ length l.waiting;
  so_far : HasCleanDisk (state g.S.Store l.tables) → (s : State) → CanBeJudged s → RepresentsState g.P.Places.represents g.P.Versioned.version (state g.S.Store l.fn.tables).now s → l.today ≡ s.day
      → AreWalkMarks s.catalogue.forest l.known → l.due.items ≡ l.fn.first.items ++ open_ones s (take l.place l.waiting);
}

-- the orders that are left to be judged
abbrev pub decreases-loop-place : goal.decreases-loop-place
decreases-loop-place g l = length l.waiting - l.place
