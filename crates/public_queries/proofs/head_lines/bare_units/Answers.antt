use Rattle.std.proofs.Common.{◌++◌, ◌∷◌, [], take, sym, ap, ◌∙◌}
use Rattle.public_queries.proofs.Common.{all_bare, bare_below, head_alone, repository_of}
use Rattle.public_queries.proofs.MoreItems.{each_more}
use Rattle.public_queries.proofs.head_lines.bare_units.Goals as goal

pub loop-head-preserved : goal.loop-head-preserved
loop-head-preserved c =
    let at = repository_of c.args.known.now in
    let ids = c.args.ids.now.items in
    let day = c.args.known.now.day in
    let head = c.head-item.result in
    let heads = c.args.heads.now in
    let i = c.loop-head.head-index in
    let inv = c.loop-head.invariant in
    let shown = c.in_ok-bare_in.ensures.shown ∙ ap (λ l. head_alone at (l ++ head.identifier ∷ []) day head) inv.ids in
    let pushed = rw c.get.ensures.same at c.in_ok-push.ensures.ok in
    record {
      below = pushed ∙ ap (λ l. l ++ (head.id, c.in_ok-bare_in.field-0) ∷ []) inv.below ∙ ap (λ x. all_bare at ids day (take i heads) ++ (head.id, x) ∷ []) shown
          ∙ sym (each_more (bare_below at ids day) heads i head c.head-item.is c.loop-head-test.true);
      ids = c.in_ok-bare_in.ensures.ids ∙ inv.ids;
    }
