use Rattle.std.proofs.Common.{◌≡◌, ◌∙◌, ◌<◌, ◌-◌, sym, ap, arith, length, true, get_or, suc, ℕ, List, take}
use Rattle.atom_csv.proofs.Common.{IsCharBoundary-before_ascii, IsCharBoundary-end, is_space, take-length, trim_end}
use Rattle.atom_csv.proofs.TrimLemmas.{end_more, space_is_ascii}
use Rattle.atom_csv.proofs.trim.trim_end.Goals as goal

pub loop-end-init : goal.loop-end-init
loop-end-init c =
    let text = c.args.text.now in
    let len : length c.as_bytes-bytes.result.now ≡ length text = ap length c.as_bytes-bytes.ensures.value in
    rw len (record {
      within = omega arith;
      same = ap trim_end (take-length text);
      whole = IsCharBoundary-end text;
    })

pub loop-end-preserved : goal.loop-end-preserved
loop-end-preserved c =
    let text = c.args.text.now in
    let i = c.loop-end.end - 1 in
    let within = c.loop-end.invariant.within in
    let there = c.loop-end-test.true in
    let lt : i < length text = omega arith in
    let space : is_space (get_or text i 0) ≡ true = ap (λ (bs : List ℕ). is_space (get_or bs i 0)) (sym c.as_bytes-bytes.ensures.value) ∙ (sym c.is_space.ensures ∙ c.if-is_space.true) in
    let next : suc i ≡ c.loop-end.end = omega arith in
    record {
      within = omega arith;
      same = end_more text i lt space ∙ (ap (λ n. trim_end (take n text)) next ∙ c.loop-end.invariant.same);
      whole = IsCharBoundary-before_ascii text i lt (space_is_ascii (get_or text i 0) space);
    }
