use Rattle.std.proofs.Common.{arith}
use Rattle.program.proofs.ServedLemmas.{and_none, and_one, unserved}
use Rattle.program.proofs.server.serve.Goals as goal

pub loop-connection-init : goal.loop-connection-init
loop-connection-init g c = (
  λ intact. intact,
  unserved g.M.Machine.represents g.M.Machine.is_intact g.M.Machine.is_open g.M.Machine.recovers (g.P.Port.history c.args.port.now) c.args.office.now,
)

pub loop-connection-preserved : goal.loop-connection-preserved
loop-connection-preserved g c =
    let (it, heard, answers, through) = c.if-not-serve_one.ensures.served in (
      λ intact. c.loop-connection.invariant.0 (c.if-not-serve_one.ensures.intact intact),
      and_one _ _ _ _ c.loop-connection.connection _ _ _ _ _ _ c.loop-connection.invariant.1 c.if-not-serve_one.ensures.intact it heard answers through,
    )

pub returns-then-not-serve_one-clause-served : goal.returns-then-not-serve_one-clause-served
returns-then-not-serve_one-clause-served g c =
    let (answers, same) = c.if-not-serve_one.ensures.served in
    and_none _ _ _ _ c.loop-connection.connection c.args.connections _ _ _ _ _ _ c.loop-connection.invariant.1 (omega (arith, c.loop-connection-test.true)) answers same
