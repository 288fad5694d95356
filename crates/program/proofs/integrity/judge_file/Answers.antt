use Rattle.std.proofs.Common.{inl, refl}
use Rattle.program.proofs.ClosedLemmas.{as_found}
use Rattle.program.proofs.StoreLemmas.{held_in}
use Rattle.program.proofs.integrity.judge_file.Goals as goal

pub returns-clause-judged : goal.returns-clause-judged
returns-clause-judged g c =
    let left = c.close.ensures c.judge-judged.ensures.ended in
    record {
      found = c.in_ok-conn.conn;
      after = c.judge-judged.result.1;
      is_store = λ clean. (held_in _ _ (c.in_ok-conn.ensures.opened clean).0 (c.in_ok-conn.ensures.found clean), c.in_ok-conn.ensures.ordered clean);
      crash = c.judge-judged.ensures.crash;
      same = c.judge-judged.ensures.same;
      sound = c.judge-judged.ensures.sound;
      cause = c.judge-judged.ensures.cause;
      left = left;
      stays = as_found _ c.in_ok-conn.conn c.judge-judged.result.1 c.close.result (λ f. inl refl) (λ clean. (c.in_ok-conn.ensures.opened clean).0)
          c.in_ok-conn.ensures.found c.judge-judged.ensures.crash c.judge-judged.ensures.same left;
    }
