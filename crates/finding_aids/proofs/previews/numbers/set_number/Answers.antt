use Rattle.std.proofs.Common.{◌+◌, ap, ◌∙◌}
use Rattle.finding_aids.proofs.Common.{btree_map_len, if◌then◌else◌, is_some}
use Rattle.finding_aids.proofs.NumberLemmas.{number_found, number_set}
use Rattle.finding_aids.proofs.previews.numbers.set_number.Goals as goal

pub returns-clause-set : goal.returns-clause-set
returns-clause-set c =
    number_set c.args.numbers.now c.insert.new.self c.args.container.now _ _ _ c.args.number c.as_str.ensures c.as_str-2.ensures c.as_str-3.ensures
    c.in_ok-insert.ensures.updates.0

pub returns-clause-count : goal.returns-clause-count
returns-clause-count c = λ missing.
    let old = c.in_ok-insert.ensures.old ∙ (number_found c.args.numbers.now c.args.container.now _ _ _ c.as_str.ensures c.as_str-2.ensures c.as_str-3.ensures ∙ missing) in
    c.in_ok-insert.ensures.len ∙ ap (λ o. btree_map_len c.args.numbers.now + (if is_some o then 0 else 1)) old
