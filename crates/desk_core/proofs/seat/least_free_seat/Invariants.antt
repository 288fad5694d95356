use Rattle.std.proofs.Common.{◌≡◌, ℕ, ◌<◌, ◌≤◌, get_or, true, nat_eq}
use Rattle.desk_core.proofs.Common.{list_any}
use Rattle.desk_core.proofs.seat.least_free_seat.Given as goal

-- every seat below the least is taken, and none of those that were looked at is the least
abbrev pub invariant-loop-seat : goal.invariant-loop-seat
invariant-loop-seat l = record {
  positive : 1 ≤ l.least;
  taken_below : (seat : ℕ) → 1 ≤ seat → seat < l.least → list_any (nat_eq seat) l.taken ≡ true;
  not_yet : (i : ℕ) → i < l.seat-index → get_or l.taken i 0 ≡ l.least → ⊥;
}
