use Rattle.std.proofs.Common.{◌≡◌, map, rules, nat_lt, Bor, ◌∙◌}
use Rattle.desk_core.proofs.Common.{Candidate, answers_always, in_order}
use Rattle.desk_core.proofs.OrderLemmas.{sorted_by_number-is}
use Rattle.desk_core.proofs.RunLemmas.{run_of-copies}
use Rattle.desk_core.proofs.run.pick_run.Goals as goal

pub returns : goal.returns
returns c =
    let lent : map (λ (b : Bor Candidate). b.now) c.in_ok-queue.queue.items ≡ c.args.candidates.now = search rules in
    let sorted : c.sort_by_key.new.self.items ≡ in_order (λ (a b : Bor Candidate). nat_lt a.now.order b.now.order) c.in_ok-queue.queue.items =
    sorted_by_number-is (λ (b : Bor Candidate). b.now.order) c.in_ok-queue.queue.items c.sort_by_key.new.self.items
    (c.in_ok-sort_by_key.ensures.sorted (λ (b : Bor Candidate). b.now.order) (answers_always _ _ _ (λ f a r g h. search rules)))
    (c.in_ok-sort_by_key.ensures.stable (λ (b : Bor Candidate). b.now.order) (answers_always _ _ _ (λ f a r g h. search rules))) in
    run_of-copies c.args.candidates.now c.loop-candidate.run.items c.in_ok-queue.queue.items c.sort_by_key.new.self.items
    c.deref-candidate-items.result.now c.args.max c.loop-candidate.candidate-index lent sorted
    (c.deref-candidate-items.ensures.value ∙ c.truncate.ensures.items) c.loop-candidate-test.false c.loop-candidate.invariant
