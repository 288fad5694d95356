use Rattle.std.proofs.Common.{ℕ, Vec, Global, [], ◌∷◌, ◌++◌, ap, sym, ◌∙◌}
use Rattle.std.specs.List.{find}
use Rattle.isad_core.specs.declared.number.Number.{Number}
use Rattle.public_queries.proofs.Common.{has_id, is_published, nodes}
use Rattle.public_queries.proofs.MoreItems.{kept_more, left_out}
use Rattle.public_queries.proofs.public_heads.published.Goals as goal
use Rattle.public_queries.proofs.public_heads.published.Goals.{then-is_published+in_ok-push, else-is_published}

pub loop-unit-preserved : goal.loop-unit-preserved
loop-unit-preserved c f it =
    let units = c.args.units.now in
    let i = c.loop-unit.unit-index in
    let open_one = λ (id : ℕ). is_published (find (has_id id) (nodes f)) in
    let so_far = c.loop-unit.invariant f it in
    let told = sym (c.is_published.ensures f it) in
    elim c.if-is_published.branch [
      | then-is_published+in_ok-push w ↦
          ap (λ (v : Vec Number Global). v.items) w.ids-is ∙ w.in_ok-push.ensures.items ∙ ap (λ l. l ++ c.unit-item.result ∷ []) so_far
          ∙ sym (kept_more open_one units i c.unit-item.result c.unit-item.is c.loop-unit-test.true (told ∙ w.if-is_published.true))
      | else-is_published w ↦
          ap (λ (v : Vec Number Global). v.items) w.ids-is ∙ so_far
          ∙ sym (left_out open_one units i c.unit-item.result c.unit-item.is c.loop-unit-test.true (told ∙ w.if-is_published.false))
    ]
