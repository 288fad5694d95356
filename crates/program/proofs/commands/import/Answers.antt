use Rattle.std.proofs.Common.{inl, inr, refl}
use Rattle.program.proofs.Common.{HasTakenIn, WasBusy}
use Rattle.program.proofs.StoreLemmas.{import_done, import_failed}
use Rattle.program.proofs.commands.import.Goals as goal

pub returns-in-Err-open_office-clause-fault : goal.returns-in-Err-open_office-clause-fault
returns-in-Err-open_office-clause-fault g c = record { why = inr (inl (c.in-Err-open_office.ensures.fault, refl)) }

pub returns-in-Err-taken-clause-fault : goal.returns-in-Err-taken-clause-fault
returns-in-Err-taken-clause-fault g c =
    let busy : WasBusy _ _ c.args.source c.in-Err-taken.busy c.close_office-files.result = record {
      office = c.in-Ok-open_office.office;
      after = c.take_in-taken.new.office;
      opened = c.in-Ok-open_office.ensures.found;
      file = c.in-Ok.bytes.items;
      same = c.in-Err-taken.ensures.back;
      cause = c.in-Err-taken.ensures.cause;
      crash = c.take_in-taken.ensures.crash;
      closed = c.close_office-files.ensures;
    } in
    record { why = inr (inr (inl (c.in-Err-taken.ensures.busy, refl, busy))) }

pub returns-in-Ok-taken-clause-done : goal.returns-in-Ok-taken-clause-done
returns-in-Ok-taken-clause-done g c =
    let taken : HasTakenIn _ _ c.args.source _ c.close_office-files.result = record {
      office = c.in-Ok-open_office.office;
      after = c.take_in-taken.new.office;
      opened = c.in-Ok-open_office.ensures.found;
      file = c.in-Ok.bytes.items;
      step = c.in-Ok-taken.ensures.steps;
      kept = c.in-Ok-taken.ensures.kept;
      crash = c.take_in-taken.ensures.crash;
      closed = c.close_office-files.ensures;
    } in
    import_done _ _ c.args.finding.start c.close_office-files.result _ _ c.args.source _ taken c.tell_reply.result c.tell_reply.ensures.done

pub returns-in-Ok-taken-clause-fault : goal.returns-in-Ok-taken-clause-fault
returns-in-Ok-taken-clause-fault g c =
    let taken : HasTakenIn _ _ c.args.source _ c.close_office-files.result = record {
      office = c.in-Ok-open_office.office;
      after = c.take_in-taken.new.office;
      opened = c.in-Ok-open_office.ensures.found;
      file = c.in-Ok.bytes.items;
      step = c.in-Ok-taken.ensures.steps;
      kept = c.in-Ok-taken.ensures.kept;
      crash = c.take_in-taken.ensures.crash;
      closed = c.close_office-files.ensures;
    } in
    import_failed _ _ c.args.finding.start c.close_office-files.result _ _ c.args.source _ taken c.tell_reply.result c.tell_reply.ensures.fault
