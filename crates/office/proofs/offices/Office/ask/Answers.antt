use Rattle.std.proofs.Common.{rules, subst}
use Rattle.office.proofs.Common.{HasCleanDisk, IsAtRest, early, state}
use Rattle.office.proofs.Machines.{answered_call}
use Rattle.office.proofs.offices.Office.ask.Goals as goal

pub returns-clause-call : goal.returns-clause-call
returns-clause-call g c =
    let told = c.ask_in.ensures.asks in
    let call = answered_call g.S.Store g.P.Places.represents g.P.Versioned.version c.self.inside.closed c.ask_in.new.closed c.args.query c.ask_in.result
    (early told.crash) told.answers told.same in
    search (rules, call)

pub returns-clause-rested : goal.returns-clause-rested
returns-clause-rested g c = subst (λ h. HasCleanDisk (state g.S.Store h) → IsAtRest g.P.Versioned.version (state g.S.Store h)) c.self.view_is c.self.invariant.0.rests
