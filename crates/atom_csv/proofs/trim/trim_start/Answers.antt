use Rattle.std.proofs.Common.{◌≡◌, ◌∙◌, ◌<◌, sym, ap, refl, arith, length, true, get_or, ℕ, List}
use Rattle.atom_csv.proofs.Common.{IsCharBoundary-after_ascii, IsCharBoundary-start, is_space}
use Rattle.atom_csv.proofs.TrimLemmas.{space_is_ascii, start_more}
use Rattle.atom_csv.proofs.trim.trim_start.Goals as goal

pub loop-start-init : goal.loop-start-init
loop-start-init c = record {
  within = omega arith;
  same = refl;
  whole = IsCharBoundary-start c.args.text.now c.utf8.text;
}

pub loop-start-preserved : goal.loop-start-preserved
loop-start-preserved c =
    let text = c.args.text.now in
    let i = c.loop-start.start in
    let same = c.as_bytes-bytes.ensures.value in
    let lt : i < length text = omega (arith, ap length same) in
    let space : is_space (get_or text i 0) ≡ true = ap (λ (bs : List ℕ). is_space (get_or bs i 0)) (sym same) ∙ (sym c.is_space.ensures ∙ c.if-is_space.true) in
    record {
      within = omega arith;
      same = start_more text i lt space ∙ c.loop-start.invariant.same;
      whole = IsCharBoundary-after_ascii text i c.utf8.text lt (space_is_ascii (get_or text i 0) space);
    }
