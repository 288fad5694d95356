use Rattle.std.proofs.Common.{◌∙◌, ◌++◌, List, ℕ, ap, append-nil, arith, rules, subst, sym, take}
use Rattle.http_desk.proofs.Sends.{moves_front}
use Rattle.program.proofs.Common.{Appends, Appends-trans}
use Rattle.program.proofs.Calls.{made_one}
use Rattle.program.proofs.streams.write_within.Goals as goal
use Rattle.program.proofs.streams.write_within.Goals.{in-Ok, in-Err-Interrupted}

pub loop-write-preserved : goal.loop-write-preserved
loop-write-preserved g c =
    let (done, split, appended) = c.loop-write.invariant.came in
    let rest = c.loop-write.rest.now in
    record {
      came = elim c.match-write.branch [
        | in-Ok w ↦
            let (some, within, added) = w.in-Ok.ensures.took in (
              done ++ take w.in-Ok.n rest,
              moves_front _ done rest w.in-Ok.n split ∙ ap (λ (l : List ℕ). (done ++ take w.in-Ok.n rest) ++ l) (sym (ap (λ b. b.now) w.rest-is)),
              Appends-trans _ _ _ _ _ appended added,
            )
        | in-Err-Interrupted w ↦ (
          done,
          split ∙ ap (λ (l : List ℕ). done ++ l) (sym (ap (λ b. b.now) w.rest-is)),
          subst (Appends c.begin_stream.new.self.bytes c.write.new.self.bytes) (append-nil done) (Appends-trans _ _ _ _ _ appended w.in-Err-Interrupted.ensures.nothing),
        )
      ];
      made = made_one c.loop-write.write c.begin_stream.new.self c.loop-write.writer c.write.new.self c.loop-write.invariant.made c.write.ensures.calls;
      good = elim c.match-write.branch [
        | in-Ok w ↦ w.in-Ok.ensures.failed ∙ c.loop-write.invariant.good
        | in-Err-Interrupted w ↦ search rules
      ];
      turns = omega (arith, c.write.ensures.turns, c.loop-write.invariant.turns);
    }
