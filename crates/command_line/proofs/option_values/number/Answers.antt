use Rattle.std.proofs.Common.{◌≡◌, ◌∙◌, ◌≤◌, ℕ, Some, arith, refl, subst, sym}
use Rattle.command_line.proofs.Common.{ExplainsUnsignedError, HasUnsignedDigitsIfOk, IsSome, ParsesUnsigned, found_of}
use Rattle.command_line.proofs.Common.{one_text-rows, signed_reads, without_minus}
use Rattle.command_line.proofs.option_values.number.Goals as goal

-- what was read is a number
read : (c : goal.After-get_one) → (n : ℕ) × (c.get_one.result ≡ Some n) × (0 ≤ n) × (n ≤ 4294967295)
read c =
    let (text, one, inside) = c.requires in
    let asked = one_text-rows (found_of c.args.found.now) c.args.name.now ∙ one in
    signed_reads _ (λ bs r. ParsesUnsigned 32 10 bs r × ExplainsUnsignedError 10 bs r × HasUnsignedDigitsIfOk bs r) 32 0 4294967295 text c.get_one.result
    (c.get_one.ensures.value (without_minus text) asked) (λ u x g. g.0) (omega arith) inside

pub unwrap-requires : goal.unwrap-requires
unwrap-requires c = subst IsSome (sym (read c).1) refl

pub returns : goal.returns
returns c =
    let (text, one, inside) = c.requires in
    let asked = one_text-rows (found_of c.args.found.now) c.args.name.now ∙ one in
    let gives = rw c.unwrap.ensures at c.get_one.ensures.value (without_minus text) asked in
    (without_minus text, one, sym gives.0.1)
