use Rattle.std.proofs.Common.{inl, inr, refl}
use Rattle.program.proofs.Common.{IsBroughtOver, IsNotBroughtOver}
use Rattle.program.proofs.StoreLemmas.{failed_with, held_in, on_ok_with}
use Rattle.program.proofs.commands.migrate.Goals as goal

pub returns-in-Ok-brought-clause-done : goal.returns-in-Ok-brought-clause-done
returns-in-Ok-brought-clause-done g c =
    let brought : IsBroughtOver _ _ c.close-files.result = record {
      found = c.in-Ok.conn;
      after = c.migrate-brought.new.conn;
      is_store = λ clean. (held_in _ _ (c.in-Ok.ensures.opened clean).0 (c.in-Ok.ensures.found clean), c.in-Ok.ensures.ordered clean);
      same = c.in-Ok-brought.ensures.same;
      kept = c.in-Ok-brought.ensures.kept;
      crash = c.migrate-brought.ensures.crash;
      closed = c.close-files.ensures (λ clean. (c.in-Ok-brought.ensures.office.rests clean).ended);
    } in
    on_ok_with c.tell_migration.result _ _ brought c.tell_migration.ensures.done

pub returns-in-Ok-brought-clause-fault : goal.returns-in-Ok-brought-clause-fault
returns-in-Ok-brought-clause-fault g c =
    let brought : IsBroughtOver _ _ c.close-files.result = record {
      found = c.in-Ok.conn;
      after = c.migrate-brought.new.conn;
      is_store = λ clean. (held_in _ _ (c.in-Ok.ensures.opened clean).0 (c.in-Ok.ensures.found clean), c.in-Ok.ensures.ordered clean);
      same = c.in-Ok-brought.ensures.same;
      kept = c.in-Ok-brought.ensures.kept;
      crash = c.migrate-brought.ensures.crash;
      closed = c.close-files.ensures (λ clean. (c.in-Ok-brought.ensures.office.rests clean).ended);
    } in
    failed_with c.tell_migration.result _ _ c.tell_migration.ensures.fault (λ f why. record { why = inr (inr (brought, why)) })

pub returns-in-Err-brought-clause-fault : goal.returns-in-Err-brought-clause-fault
returns-in-Err-brought-clause-fault g c =
    let stays : IsNotBroughtOver _ _ _ c.close-files.result = record {
      found = c.in-Ok.conn;
      after = c.migrate-brought.new.conn;
      is_store = λ clean. (held_in _ _ (c.in-Ok.ensures.opened clean).0 (c.in-Ok.ensures.found clean), c.in-Ok.ensures.ordered clean);
      why = c.in-Err-brought.fault;
      told = c.from-in-Err-brought.ensures;
      back = c.in-Err-brought.ensures.back;
      cause = c.in-Err-brought.ensures.cause;
      crash = c.migrate-brought.ensures.crash;
      closed = c.close-files.ensures (λ clean. (c.in-Err-brought.ensures.back clean).ended);
    } in
    record { why = inr (inl (stays, refl)) }
