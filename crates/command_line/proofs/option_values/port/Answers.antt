use Rattle.std.proofs.Common.{◌≡◌, ◌∙◌, ◌≤◌, ℕ, Some, arith, refl, subst, sym, codes}
use Rattle.command_line.proofs.Common.{ExplainsUnsignedError, HasUnsignedDigitsIfOk, IsSome, ParsesUnsigned, found_of}
use Rattle.command_line.proofs.Common.{one_text-rows, signed_reads, without_minus}
use Rattle.command_line.proofs.Bounded.{bounded}
use Rattle.command_line.proofs.option_values.port.Goals as goal

-- what was read is a number
read : (c : goal.After-get_one) → (n : ℕ) × (c.get_one.result ≡ Some n) × (1 ≤ n) × (n ≤ 65535)
read c =
    let (text, one, inside) = c.requires in
    let asked = one_text-rows (found_of c.args.found.now) (codes "port") ∙ one in
    signed_reads _ (λ bs r. ParsesUnsigned 16 10 bs r × ExplainsUnsignedError 10 bs r × HasUnsignedDigitsIfOk bs r) 16 1 65535 text c.get_one.result
    (c.get_one.ensures.value (without_minus text) asked) (λ u x g. g.0) (omega arith) inside

pub unwrap-requires : goal.unwrap-requires
unwrap-requires c = subst IsSome (sym (read c).1) refl

pub returns-clause-value : goal.returns-clause-value
returns-clause-value c =
    let (text, one, inside) = c.requires in
    let asked = one_text-rows (found_of c.args.found.now) (codes "port") ∙ one in
    let gives = rw c.unwrap.ensures at c.get_one.ensures.value (without_minus text) asked in
    (without_minus text, one, sym gives.0.1)

pub returns-clause-least : goal.returns-clause-least
returns-clause-least c =
    let (text, one, inside) = c.requires in
    let asked = one_text-rows (found_of c.args.found.now) (codes "port") ∙ one in
    let read =
    signed_reads _ (λ bs r. ParsesUnsigned 16 10 bs r × ExplainsUnsignedError 10 bs r × HasUnsignedDigitsIfOk bs r) 16 1 65535 text c.get_one.result
    (c.get_one.ensures.value (without_minus text) asked) (λ u x g. g.0) (omega arith) inside in
    (bounded 1 65535 _ _ c.unwrap.ensures read).0
