use Rattle.std.proofs.Common.{◌≡◌, ◌++◌, map, take, rules, ap, ◌∙◌, Bor}
use Rattle.desk_core.proofs.Common.{Candidate, answers_always, flat_map, is_lt, ranks_by, shelf_order, slip_head}
use Rattle.desk_core.proofs.Common.{slip_line}
use Rattle.desk_core.proofs.SlipLemmas.{lines-of_lent, shelf_order-ranks}
use Rattle.desk_core.proofs.slip.slip_text.Goals as goal

pub returns : goal.returns
returns c =
    let lent : map (λ (b : Bor Candidate). b.now) c.in_ok-lines.lines.items ≡ c.args.candidates.now = search rules in
    let lines = lines-of_lent c.args.candidates.now c.in_ok-lines.lines.items c.sort_by.new.self.items c.deref-candidate-items.result.now c.loop-candidate.candidate-index lent
    (c.in_ok-sort_by.ensures.sorted (λ (a b : Bor Candidate). is_lt (shelf_order a.now b.now)) (ranks_by shelf_order-ranks (λ (b : Bor Candidate). b.now)) (answers_always _ _ _ (λ f a r g h. search rules)))
    (c.in_ok-sort_by.ensures.stable (λ (a b : Bor Candidate). is_lt (shelf_order a.now b.now)) (ranks_by shelf_order-ranks (λ (b : Bor Candidate). b.now)) (answers_always _ _ _ (λ f a r g h. search rules)))
    c.deref-candidate-items.ensures.value c.loop-candidate-test.false in
    c.loop-candidate.invariant
    ∙ ap (λ head. head ++ flat_map (λ (b : Bor Candidate). slip_line b.now) (take c.loop-candidate.candidate-index c.deref-candidate-items.result.now)) c.in_ok-slip.ensures
    ∙ ap (λ all. slip_head c.args.run c.args.day ++ all) lines
