use Rattle.std.proofs.Common.{◌≡◌, ℕ, nat_eq, take}
use Rattle.desk_store.proofs.Common.{HoldingLine, list_any}
use Rattle.desk_store.proofs.run_candidates.containers_off_shelf.Given as goal

abbrev pub invariant-loop-line : goal.invariant-loop-line
invariant-loop-line l = record {
  so_far : (c : ℕ) → list_any (nat_eq c) l.known.keys ≡ list_any (λ (h : HoldingLine). nat_eq c h.container) (take l.line-index l.fn.lines);
}
