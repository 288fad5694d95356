use Rattle.std.proofs.Common.{inl, inr, refl, subst, sym}
use Rattle.sqlite.specs.WalFiles.{image_at}
use Rattle.office.specs.Adoption.{state_in}
use Rattle.program.proofs.Common.{HasCleanDisk, IsFound, Second, early, file_state}
use Rattle.program.proofs.ClosedLemmas.{as_found}
use Rattle.program.proofs.KeptLemmas.{opens_so}
use Rattle.program.proofs.StoreLemmas.{held_in}
use Rattle.program.proofs.stores.open_office.Goals as goal

pub known_sound-requires : goal.known_sound-requires
known_sound-requires g c = record {
  sound = λ clean.
      let ordered = c.in-Ok.ensures.ordered (early c.in-Ok-adopt.ensures.crash clean) in
      (state_in Second (file_state c.in-Ok.conn).now.trees, (c.in-Ok-adopt.ensures.sound clean (c.in-Ok-adopt.ensures.kept clean) ordered, c.in-Ok-adopt.ensures.represents clean ordered));
}

pub returns-in-Ok-adopt-clause-found : goal.returns-in-Ok-adopt-clause-found
returns-in-Ok-adopt-clause-found g c =
    let found = file_state c.in-Ok.conn in
    let is_found : HasCleanDisk (file_state c.in-Ok-adopt.office) → IsFound (image_at g.S.Start) (file_state c.in-Ok-adopt.office) = λ clean.
    let clean_found = early c.in-Ok-adopt.ensures.crash clean in
    let opened = c.in-Ok-adopt.ensures.opens clean in
    let held = held_in _ found (c.in-Ok.ensures.opened clean_found).0 (c.in-Ok.ensures.found clean_found) in
    let ordered = c.in-Ok.ensures.ordered clean_found in
    record {
      found = found.now;
      held = held;
      ordered = ordered;
      verdict = opened.sound;
      kept = c.in-Ok-adopt.ensures.kept clean;
      same = opened.same;
      left = opens_so _ found.now (file_state c.in-Ok-adopt.office) held opened.sound opened.same;
      represents = c.in-Ok-adopt.ensures.represents clean ordered;
      sound = λ open_still. c.in-Ok-adopt.ensures.sound clean open_still ordered;
    } in
    subst (λ office. HasCleanDisk (file_state office) → IsFound (image_at g.S.Start) (file_state office)) (sym c.known_sound.ensures.same) is_found

pub returns-in-Err-adopt-clause-fault : goal.returns-in-Err-adopt-clause-fault
returns-in-Err-adopt-clause-fault g c =
    let left = c.close.ensures (λ clean. (c.in-Err-adopt.ensures.back clean).ended) in
    inr (
      c.in-Err-adopt.fault,
      c.from.ensures,
      record {
        found = c.in-Ok.conn;
        after = c.in-Err-adopt.conn;
        is_store = λ clean. (held_in _ _ (c.in-Ok.ensures.opened clean).0 (c.in-Ok.ensures.found clean), c.in-Ok.ensures.ordered clean);
        crash = c.in-Err-adopt.ensures.crash_back;
        same = λ clean. (c.in-Err-adopt.ensures.back clean).now;
        sound = λ clean. tt;
        cause = c.in-Err-adopt.ensures.cause;
        left = left;
        stays = as_found _ c.in-Ok.conn c.in-Err-adopt.conn c.close.result (λ f. inl refl) (λ clean. (c.in-Ok.ensures.opened clean).0)
            c.in-Ok.ensures.found c.in-Err-adopt.ensures.crash_back (λ clean. (c.in-Err-adopt.ensures.back clean).now) left;
      },
    )
