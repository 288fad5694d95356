use Rattle.std.proofs.Common.{inl, refl}
use Rattle.program.proofs.StoreLemmas.{talk_broken, talk_done}
use Rattle.program.proofs.commands.talk.Goals as goal

pub returns-in-Err-clause-fault : goal.returns-in-Err-clause-fault
returns-in-Err-clause-fault g c = inl (refl, (c.in-Err.ensures.fault, refl))

pub returns-clause-done : goal.returns-clause-done
returns-clause-done g c =
    talk_done _ _ c.args.finding.start c.close_office.result _ _ _ _ c.in-Ok.office c.talk_with-talked.new.office.office c.in-Ok.ensures.found c.talk_with-talked.ensures.store.intact
    c.close_office.ensures c.talk_with-talked.result c.talk_with-talked.ensures.done

pub returns-clause-fault : goal.returns-clause-fault
returns-clause-fault g c =
    talk_broken _ _ c.args.finding.start c.close_office.result _ _ _ _ c.in-Ok.office c.talk_with-talked.new.office.office c.in-Ok.ensures.found c.talk_with-talked.ensures.store.intact
    c.close_office.ensures c.talk_with-talked.result c.talk_with-talked.ensures.broken
