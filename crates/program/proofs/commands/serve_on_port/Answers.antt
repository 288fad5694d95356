use Rattle.std.proofs.Common.{false, inl, inr, refl, true}
use Rattle.program.proofs.Common.{after_listening}
use Rattle.program.proofs.ServedLemmas.{known_as, unserved}
use Rattle.program.proofs.StoreLemmas.{failed_as}
use Rattle.program.proofs.commands.serve_on_port.Goals as goal

pub returns-in_err-listen-clause-fault : goal.returns-in_err-listen-clause-fault
returns-in_err-listen-clause-fault g c =
    failed_as c.from_residual.result _ _ c.from_residual.ensures.1
    (inl (c.in_err-listen.ensures.fault, unserved g.M.Machine.represents g.M.Machine.is_intact g.M.Machine.is_open g.M.Machine.recovers (g.P.Port.history c.listen.new.port) c.args.office.now))

pub returns-then-serve-clause-done : goal.returns-then-serve-clause-done
returns-then-serve-clause-done g c =
    let (listens, bound) = c.in_ok-listen.ensures.done in
    let told = after_listening (g.P.Port.history c.args.port.now) c.args.number in (
      listens,
      known_as g.M.Machine.represents g.M.Machine.is_intact g.M.Machine.is_open g.M.Machine.recovers c.args.connections told (g.P.Port.history c.listen.new.port) (g.P.Port.history c.serve.new.port)
          c.args.office.now c.serve.new.office true bound c.if-serve.ensures.served,
    )

pub returns-else-serve-clause-fault : goal.returns-else-serve-clause-fault
returns-else-serve-clause-fault g c =
    let (listens, bound) = c.in_ok-listen.ensures.done in
    let told = after_listening (g.P.Port.history c.args.port.now) c.args.number in
    inr (
      refl,
      listens,
      known_as g.M.Machine.represents g.M.Machine.is_intact g.M.Machine.is_open g.M.Machine.recovers c.args.connections told (g.P.Port.history c.listen.new.port) (g.P.Port.history c.serve.new.port)
          c.args.office.now c.serve.new.office false bound c.if-serve.ensures.served,
    )
