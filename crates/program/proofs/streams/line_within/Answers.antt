use Rattle.std.proofs.Common.{◌∙◌, ◌++◌, [], List, ℕ, ap, append-nil, append_assoc, codes, sym}
use Rattle.program.proofs.Common.{Appends-trans}
use Rattle.program.proofs.streams.line_within.Goals as goal

pub returns-in_err-left-clause-front : goal.returns-in_err-left-clause-front
returns-in_err-left-clause-front g c =
    let (front, (rest, split), written) = c.write_within.ensures.front in
    (front, (rest ++ codes "\n", ap (λ (l : List ℕ). l ++ codes "\n") split ∙ append_assoc front rest (codes "\n")), written)

pub returns-in_err-write_within-clause-front : goal.returns-in_err-write_within-clause-front
returns-in_err-write_within-clause-front g c =
    let (front, (rest, split), written) = c.write_within-2.ensures.front in (
      c.args.bytes.now ++ front,
      (rest, ap (λ (l : List ℕ). c.args.bytes.now ++ l) split ∙ sym (append_assoc c.args.bytes.now front rest)),
      Appends-trans _ _ _ _ _ c.in_ok-left.ensures.whole written,
    )

pub returns-clause-front : goal.returns-clause-front
returns-clause-front g c = (
  c.args.bytes.now ++ codes "\n",
  ([], sym (append-nil (c.args.bytes.now ++ codes "\n"))),
  Appends-trans _ _ _ _ _ c.in_ok-left.ensures.whole c.in_ok-write_within.ensures.whole,
)
