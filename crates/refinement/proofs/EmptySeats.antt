-- A new office's seats are empty.
use Rattle.std.proofs.Common.{◌≡◌, ℕ, zero, suc, [], replicate, None, refl}
use Rattle.refinement.proofs.Common.{seat_rows_from}

-- nobody sits
pub none_seated : (n k : ℕ) → seat_rows_from n (replicate k None) ≡ []
none_seated n zero = refl
none_seated n (suc k) = none_seated (suc n) k
