use Rattle.std.proofs.Common.{inl, refl}
use Rattle.program.proofs.Common.{IfErr-weaker, IsRecovered, RepresentsSpanRows, Second, after_listening}
use Rattle.program.proofs.Common.{has_clean_disk, is_shown, is_still_open, on_ok_weaker, over_files}
use Rattle.program.proofs.ServedLemmas.{seen_as}
use Rattle.program.proofs.StoreLemmas.{either_so, serve_done, serve_failed}
use Rattle.program.proofs.commands.serve_store.Goals as goal

pub returns-in-Err-clause-fault : goal.returns-in-Err-clause-fault
returns-in-Err-clause-fault g c = inl ((c.in-Err.ensures.fault, refl), refl)

pub returns-clause-done : goal.returns-clause-done
returns-clause-done g c =
    let served = c.serve_on_port-served in
    let office = c.in-Ok.office in
    let after = served.new.office.office in
    let told = g.P.Port.history c.args.port.now in
    let told_after = g.P.Port.history served.new.port in
    serve_done _ _ c.args.finding.start c.close_office.result c.args.out.now served.new.out c.args.number c.args.connections told told_after office after c.in-Ok.ensures.found
    served.ensures.intact c.close_office.ensures served.result
    (on_ok_weaker served.result (λ (listens, it).
    (listens, seen_as {told = after_listening told c.args.number} {told_after = told_after} (is_shown over_files RepresentsSpanRows Second) (has_clean_disk over_files) (is_still_open over_files) (IsRecovered over_files) office after it it.sessions))
    served.ensures.done)

pub returns-clause-fault : goal.returns-clause-fault
returns-clause-fault g c =
    let served = c.serve_on_port-served in
    let office = c.in-Ok.office in
    let after = served.new.office.office in
    let told = g.P.Port.history c.args.port.now in
    let told_after = g.P.Port.history served.new.port in
    serve_failed _ _ c.args.finding.start c.close_office.result c.args.out.now served.new.out c.args.number c.args.connections told told_after office after c.in-Ok.ensures.found
    served.ensures.intact c.close_office.ensures served.result
    (IfErr-weaker served.result _ _ (λ f why. either_so
    (λ (fails, it). (fails, seen_as {told = told_after} {told_after = told_after} (is_shown over_files RepresentsSpanRows Second) (has_clean_disk over_files) (is_still_open over_files) (IsRecovered over_files) office after it it.sessions))
    (λ (is, listens, it).
    (is, listens, seen_as {told = after_listening told c.args.number} {told_after = told_after} (is_shown over_files RepresentsSpanRows Second) (has_clean_disk over_files) (is_still_open over_files) (IsRecovered over_files) office after it it.sessions)) why)
    served.ensures.fault)
