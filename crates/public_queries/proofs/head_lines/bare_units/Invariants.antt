use Rattle.std.proofs.Common.{◌≡◌, take}
use Rattle.public_queries.proofs.Common.{all_bare, repository_of}
use Rattle.public_queries.proofs.head_lines.bare_units.Given as goal

abbrev pub invariant-loop-head : goal.invariant-loop-head
invariant-loop-head l = record {
  below : l.below ≡ all_bare (repository_of l.known) l.initial.ids.items l.known.day (take l.head-index l.heads);
  ids : l.ids.items ≡ l.initial.ids.items;
}
