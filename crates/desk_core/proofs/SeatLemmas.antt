-- The least free seat, against a walk along the taken ones.
use Rattle.std.proofs.Common.{◌≡◌, ℕ, zero, suc, ◌+◌, ◌<◌, ◌≤◌, Bool, true, false, not, cond, List, length, get_or}
use Rattle.std.proofs.Common.{Option, Some, None, refl, sym, ap, ◌∙◌, ⊎_elim, arith, nat_eq, eqb, find}
use Rattle.std.proofs.lemmas.Bool.Decides.{eqb_tells}
use Rattle.desk_core.specs.Decisions.{free_seat}
use Rattle.desk_core.proofs.Common.{All, cases_lt, false≢true, get_or_default, list_any, list_any_none, range_with_len}

abbrev found : (test : ℕ → Bool) (from n : ℕ) → Bool → Option ℕ
found test from n passes = cond passes (Some from) (find test (range_with_len (from + 1) n))

found-at : (test : ℕ → Bool) (from n k : ℕ) (passes : Bool) → test from ≡ passes → from ≤ k
    → ((j : ℕ) → from ≤ j → j < k → test j ≡ false) → test k ≡ true
    → (from + 1 ≤ k → find test (range_with_len (from + 1) n) ≡ Some k) → found test from n passes ≡ Some k
found-at test from n k true here low before there further =
    ⊎_elim (λ below. absurd (false≢true (sym (before from (omega arith) below) ∙ here))) (λ not_below. let same : from ≡ k = omega arith in ap Some same) (cases_lt from k)
found-at test from n k false here low before there further =
    ⊎_elim (λ below. further (omega arith)) (λ not_below. let same : k ≡ from = omega arith in absurd (false≢true (sym here ∙ sym (ap test same) ∙ there))) (cases_lt from k)

-- the first of a range that passes, where none before it does
pub find-range_at : (test : ℕ → Bool) (from n k : ℕ) → from ≤ k → k < from + n
    → ((j : ℕ) → from ≤ j → j < k → test j ≡ false) → test k ≡ true → find test (range_with_len from n) ≡ Some k
find-range_at test from zero k low high before there = absurd (omega arith)
find-range_at test from (suc n) k low high before there =
    found-at test from n k (test from) refl low before there
    (λ above. find-range_at test (from + 1) n k above (omega arith) (λ j l h. before j (omega arith) h) there)

-- no number of a range passes
pub find-range_none : (test : ℕ → Bool) (from n : ℕ) → ((j : ℕ) → from ≤ j → j < from + n → test j ≡ false)
    → find test (range_with_len from n) ≡ None
find-range_none test from zero none = refl
find-range_none test from (suc n) none =
    rw (none from (omega arith) (omega arith)) (find-range_none test (from + 1) n (λ j l h. none j (omega arith) (omega arith)))

-- a number that stands at no place is none of them
other : (n : ℕ) (numbers : List ℕ) → ((i : ℕ) → i < length numbers → get_or numbers i 0 ≡ n → ⊥)
    → All (λ x. eqb n x ≡ false) numbers
other n numbers apart i d h =
    ⊎_elim (λ same. absurd (apart i h (get_or_default numbers i 0 d h ∙ sym same.1))) (λ different. different.0) (eqb_tells n (get_or numbers i d))

-- a seat is free where all before it are taken, and none that is taken is it
pub free_seat-at : (taken : List ℕ) (seats least : ℕ) → 1 ≤ least → least ≤ seats
    → ((seat : ℕ) → 1 ≤ seat → seat < least → list_any (nat_eq seat) taken ≡ true)
    → ((i : ℕ) → i < length taken → get_or taken i 0 ≡ least → ⊥) → free_seat taken seats ≡ Some least
free_seat-at taken seats least low high below apart =
    find-range_at _ 1 seats least low (omega arith) (λ seat l h. ap not (below seat l h)) (ap not (list_any_none _ taken (other least taken apart)))

-- no seat is free where each is taken
pub free_seat-none : (taken : List ℕ) (seats : ℕ)
    → ((seat : ℕ) → 1 ≤ seat → seat ≤ seats → list_any (nat_eq seat) taken ≡ true) → free_seat taken seats ≡ None
free_seat-none taken seats all = find-range_none _ 1 seats (λ seat l h. ap not (all seat l (omega arith)))
