use Rattle.std.proofs.Common.{IsTrue, inr, subst, sym}
use Rattle.program.proofs.Common.{HasCleanDisk, IsIn, RepresentsSpanRows, Second, file_state, founded}
use Rattle.program.proofs.StoreLemmas.{held_in}
use Rattle.program.proofs.stores.make_office.Goals as goal

pub known_sound-requires : goal.known_sound-requires
known_sound-requires g c = record {
  sound = λ clean. (founded c.args.settings, (c.in-Ok-create.ensures.sound, c.in-Ok-create.ensures.represents clean));
}

pub returns-in-Ok-create-clause-founded : goal.returns-in-Ok-create-clause-founded
returns-in-Ok-create-clause-founded g c =
    subst (λ office. HasCleanDisk (file_state office) → IsIn RepresentsSpanRows Second (founded c.args.settings) (file_state office))
    (sym c.known_sound.ensures.same) c.in-Ok-create.ensures.represents

pub returns-in-Ok-create-clause-kept : goal.returns-in-Ok-create-clause-kept
returns-in-Ok-create-clause-kept g c =
    subst (λ office. HasCleanDisk (file_state office) → IsTrue (file_state office).is_open) (sym c.known_sound.ensures.same)
    c.in-Ok-create.ensures.kept

pub returns-in-Err-create-clause-fault : goal.returns-in-Err-create-clause-fault
returns-in-Err-create-clause-fault g c = inr (
    record {
      found = c.in-Ok.made.0;
      after = c.in-Err-create.conn;
      is_store = λ clean. (held_in _ _ (c.in-Ok.ensures.opened clean).0 (c.in-Ok.ensures.found clean), c.in-Ok.ensures.ordered clean);
      why = c.in-Err-create.fault;
      told = c.from.ensures;
      cause = c.in-Err-create.ensures.cause;
      back = c.in-Err-create.ensures.back;
      crash = c.in-Err-create.ensures.crash_back;
      closed = c.close-files.ensures (λ clean. (c.in-Err-create.ensures.back clean).ended);
    }
    )
