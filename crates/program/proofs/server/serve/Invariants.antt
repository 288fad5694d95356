-- so many connections were served
use Rattle.std.proofs.Common.{true}
use Rattle.program.specs.Connections.{Serves}
use Rattle.program.proofs.server.serve.Given as goal

abbrev pub invariant-loop-connection : goal.invariant-loop-connection
invariant-loop-connection g l =
    (g.M.Machine.is_intact l.office → g.M.Machine.is_intact l.initial.office)
    × Serves g.M.Machine.represents g.M.Machine.is_intact g.M.Machine.is_open g.M.Machine.recovers l.connection (g.P.Port.history l.initial.port) (g.P.Port.history l.port) l.initial.office l.office true
