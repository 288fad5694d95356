-- One more call of a stream.
use Rattle.std.proofs.Common.{◌≡◌, ◌⊎◌, ◌≤◌, ◌+◌, ℕ, inl, inr, arith}
use Rattle.std.proofs.Math.Nat.{min-eq_left, min_comm}
use Rattle.program.proofs.Common.{HaveMade, Stream, cases_lt, one_more_call}

-- a call counts, unless the count has reached its end
counted_least : (n : ℕ) → (n + 1 ≤ one_more_call n) ⊎ (18446744073709551615 ≤ one_more_call n)
counted_least n = elim (cases_lt n 18446744073709551615) [
  | inl below ↦ inl (omega (arith, min-eq_left {n = n + 1} {m = 18446744073709551615} (omega arith)))
  | inr above ↦ inr (omega (arith, min_comm (n + 1) 18446744073709551615, min-eq_left {n = 18446744073709551615} {m = n + 1} (omega arith)))
]

pub made_one : (number : ℕ) (old mid new : Stream) → HaveMade number old mid → new.calls ≡ one_more_call mid.calls
    → HaveMade (number + 1) old new
made_one number old mid new made one = elim (counted_least mid.calls) [
  | inl more ↦ elim made [
    | inl enough ↦ inl (omega (arith, one))
    | inr full ↦ inr (omega (arith, one))
  ]
  | inr full ↦ inr (omega (arith, one))
]
