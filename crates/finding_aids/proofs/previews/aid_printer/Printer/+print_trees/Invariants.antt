use Rattle.std.proofs.Common.{◌≡◌, ◌++◌, take}
use Rattle.finding_aids.proofs.Common.{aid, grove, height_of_all, number_by, shown_by}
use Rattle.finding_aids.proofs.previews.aid_printer.Printer.+print_trees.Given as goal

abbrev pub decreases-print_trees : goal.decreases-print_trees
decreases-print_trees l = height_of_all l.trees.now

abbrev pub invariant-loop-tree : goal.invariant-loop-tree
invariant-loop-tree l = record {
  printed : l.out.items ≡ l.initial.out.items ++ aid (shown_by (record { country = l.self.country.now; repo = l.self.repo.now }) (number_by l.self.numbers) l.initial.ids.items l.depth (grove (take l.tree-index l.trees)));
  ids : l.ids.items ≡ l.initial.ids.items;
}
