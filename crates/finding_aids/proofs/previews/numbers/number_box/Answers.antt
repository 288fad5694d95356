use Rattle.std.proofs.Common.{◌≡◌, ◌+◌, true, false, sym, ap, ◌∙◌}
use Rattle.finding_aids.proofs.Common.{is_some, mapped_number}
use Rattle.finding_aids.proofs.NumberLemmas.{none_from, numbered_again, numbered_new, on_ok_both}
use Rattle.finding_aids.proofs.previews.numbers.number_box.Goals as goal

pub returns-then-is_some : goal.returns-then-is_some
returns-then-is_some c = λ seen h.
    let found : is_some (mapped_number c.args.numbers.now c.args.container.now) ≡ true =
    ap is_some (sym c.number_of.ensures) ∙ (sym c.is_some.ensures ∙ c.if-is_some.true) in
    numbered_again seen c.args.container.now c.args.numbers.now h found

pub returns : goal.returns
returns c =
    let missing : is_some (mapped_number c.args.numbers.now c.args.container.now) ≡ false =
    ap is_some (sym c.number_of.ensures) ∙ (sym c.is_some.ensures ∙ c.if-is_some.false) in
    on_ok_both c.set_number.result
    (λ set count. λ seen h. numbered_new seen c.args.container.now c.args.numbers.now c.set_number.new.numbers (c.len.result + 1) h missing
    (ap (λ n. n + 1) c.len.ensures.len) set (count (none_from _ missing)))
    c.set_number.ensures.set c.set_number.ensures.count
