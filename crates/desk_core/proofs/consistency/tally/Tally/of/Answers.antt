use Rattle.std.proofs.Common.{◌≡◌, ◌+◌, ◌<◌, ◌≤◌, length, get_or, set, ap, ◌∙◌, arith}
use Rattle.desk_core.proofs.Common.{get_or_default, length-set}
use Rattle.desk_core.proofs.Tallies.{tally_more, tally_past, few_more}
use Rattle.desk_core.proofs.consistency.tally.Tally.of.Goals.{then-at-len, else-at-len}
use Rattle.desk_core.proofs.consistency.tally.Tally.of.Goals as goal

pub loop-number-preserved : goal.loop-number-preserved
loop-number-preserved c =
    let xs = c.args.numbers.now in
    let counts = c.loop-number.counts.items in
    let i = c.loop-number.number-index in
    let at = get_or xs i 0 in
    let low = c.loop-number-test.true in
    let before = c.loop-number.invariant in
    elim c.if-at-len.branch [
      | then-at-len w ↦
          let fits : at < length counts = omega (arith, w.if-at-len.true, c.len.ensures) in
          let is : c.if-at-len.counts.items ≡ set counts at (get_or counts at 0 + 1) = ap (λ v. v.items) w.counts-is ∙ ap (λ n. set counts at (n + 1)) (w.index_mut.ensures.value ∙ get_or_default counts at w.index_mut.result.now 0 fits) in
          let long : length c.if-at-len.counts.items ≡ length counts = ap length is ∙ length-set counts at (get_or counts at 0 + 1) in
          record {
            slots = long ∙ before.slots;
            few = λ n. let le = few_more counts i at n fits before.few in let same = ap (λ ys. get_or ys n 0) is in omega (arith, le, same);
            so_far = λ n below. ap (λ ys. get_or ys n 0) is ∙ tally_more xs counts i n low fits before.so_far (omega (arith, below, long));
          }
      | else-at-len w ↦
          let is : c.if-at-len.counts.items ≡ counts = ap (λ v. v.items) w.counts-is in
          let past : length counts ≤ at = omega (arith, w.if-at-len.false, c.len.ensures) in
          let long : length c.if-at-len.counts.items ≡ length counts = ap length is in
          record {
            slots = long ∙ before.slots;
            few = λ n. let le = before.few n in let same = ap (λ ys. get_or ys n 0) is in omega (arith, le, same);
            so_far = λ n below. ap (λ ys. get_or ys n 0) is ∙ tally_past xs counts i n low past before.so_far (omega (arith, below, long));
          }
    ]
