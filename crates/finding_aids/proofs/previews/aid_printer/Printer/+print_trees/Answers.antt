use Rattle.std.proofs.Common.{◌≡◌, ◌≤◌, ◌<◌, ◌+◌, ◌++◌, ◌∷◌, [], List, arith, subst, sym, ap, ◌∙◌}
use Rattle.isad_core.specs.Values.{identifier}
use Rattle.finding_aids.proofs.Common.{Tree, height_of_all, number_by, out-Tree, unwrap_or}
use Rattle.finding_aids.proofs.PrintLemmas.{child_fits, child_lower, popped, tree_printed}
use Rattle.finding_aids.proofs.previews.aid_printer.Printer.+print_trees.Goals as goal

pub print_trees-requires : goal.print_trees-requires
print_trees-requires t c =
    let children = c.as_slice-in-loop-tree.ensures.value in
    let fits = child_fits c.args.depth c.args.trees.now c.loop-tree.tree-index c.tree-item.result c.loop-tree-test.true c.tree-item.is c.requires in
    let lower = child_lower c.args.trees.now c.loop-tree.tree-index c.tree-item.result c.loop-tree-test.true c.tree-item.is in
    let less : height_of_all c.as_slice-in-loop-tree.result.now < height_of_all c.args.trees.now = rw children lower in
    (omega (arith, less, c.decreases), subst (λ (ts : List Tree). c.args.depth + 1 + height_of_all ts ≤ 64) (sym children) fits)

pub loop-tree-preserved : goal.loop-tree-preserved
loop-tree-preserved t c =
    let self = c.args.self.now in
    let name : c.in_ok-text_or_empty.field-0 ≡ identifier (out-Tree c.tree-item.result).row.now.values =
    c.in_ok-text_or_empty.ensures ∙ ap (λ o. unwrap_or o []) c.text.ensures in
    let pushed : c.push.new.self.items ≡ c.loop-tree.ids.items ++ c.in_ok-text_or_empty.field-0 ∷ [] = c.in_ok-push.ensures.items in
    record {
      printed = tree_printed (record { country = self.country.now; repo = self.repo.now }) (number_by self.numbers) c.args.out.now.items c.loop-tree.out.items c.print_unit.new.out.items c.print_trees.new.out.items
          c.args.ids.now.items c.loop-tree.ids.items c.push.new.self.items c.as_slice.result.now c.in_ok-text_or_empty.field-0 c.args.depth c.args.trees.now c.loop-tree.tree-index c.tree-item.result c.as_slice-in-loop-tree.result.now
          c.loop-tree-test.true c.tree-item.is c.as_slice-in-loop-tree.ensures.value c.loop-tree.invariant.ids name pushed c.as_slice.ensures.value c.loop-tree.invariant.printed c.in_ok-print_unit.ensures c.in_ok-print_trees.ensures.printed;
      ids = popped c.loop-tree.ids.items c.print_trees.new.ids.items c.pop.new.self.items c.in_ok-text_or_empty.field-0 _ (c.in_ok-print_trees.ensures.ids ∙ pushed) (omega arith) c.pop.ensures.rest ∙ c.loop-tree.invariant.ids;
    }
