-- A number that was read lies within its limits.
use Rattle.std.proofs.Common.{◌≡◌, ◌≤◌, ℕ, Option, Some, subst}

pub bounded : (least most : ℕ) (r : Option ℕ) (v : ℕ) → r ≡ Some v → (n : ℕ) × (r ≡ Some n) × (least ≤ n) × (n ≤ most)
    → (least ≤ v) × (v ≤ most)
bounded least most r v is (n, also, low, high) =
    let same : n ≡ v = cc in
    (subst (λ m. least ≤ m) same low, subst (λ m. m ≤ most) same high)
