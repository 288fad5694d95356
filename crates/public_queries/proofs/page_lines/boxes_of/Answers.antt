use Rattle.std.proofs.Common.{ℕ, Bor, map, ap, sym, ◌∙◌}
use Rattle.std.proofs.lemmas.Iterator.{YieldsList-from_slice, YieldsList-from_zip}
use Rattle.std.proofs.lemmas.Iterator.Consumers.{YieldsList-end}
use Rattle.std.specs.Option.{option_copied}
use Rattle.sqlite_trees.proofs.ListLemmas.{map-map}
use Rattle.public_queries.proofs.Common.{BoxKey}
use Rattle.public_queries.proofs.page_lines.boxes_of.Goals as goal

pub returns : goal.returns
returns c =
    let from = option_copied c.args.from in
    let all = YieldsList-end (YieldsList-from_zip (YieldsList-from_slice c.args.unit.now.containers (cc)) (YieldsList-from_slice c.args.unit.now.values.boxes (cc))) c.loop-number.yielded c.loop-number.number-iterator c.loop-number.yielded_by c.next.result c.next.new.self c.in-None.is c.next.ensures.steps in
    c.loop-number.invariant
    ∙ sym (map-map (λ (housed : ℕ × BoxKey). (housed.0, housed.1.name, from)) (λ (housed : Bor ℕ × Bor BoxKey). (housed.0.now, housed.1.now)) c.loop-number.yielded)
    ∙ ap (map (λ (housed : ℕ × BoxKey). (housed.0, housed.1.name, from))) all.0
