-- The loop that counts how often each number stands in a list.
use Rattle.std.proofs.Common.{◌≡◌, ℕ, ◌+◌, ◌<◌, ◌≤◌, List, length, get_or, set, take, ap, sym, ◌∙◌, inl, inr, arith}
use Rattle.std.proofs.Common.{nat_eq}
use Rattle.std.proofs.lemmas.Bool.{eq-eqb}
use Rattle.desk_core.proofs.Common.{cases_eq, count_by, count_by_more_no, count_by_more_yes, get_or-set_other}
use Rattle.desk_core.proofs.Common.{get_or-set_same, ne_eqb}

-- the next number has a slot
pub tally_more : (xs counts : List ℕ) (i n : ℕ) → i < length xs → get_or xs i 0 < length counts
    → ((m : ℕ) → m < length counts → get_or counts m 0 ≡ count_by (nat_eq m) (take i xs)) → n < length counts
    → get_or (set counts (get_or xs i 0) (get_or counts (get_or xs i 0) 0 + 1)) n 0 ≡ count_by (nat_eq n) (take (i + 1) xs)
tally_more xs counts i n lt fits so below =
    let at = get_or xs i 0 in
    elim (cases_eq n at) [
      | inl e ↦
          ap (λ m. get_or (set counts at (get_or counts at 0 + 1)) m 0) e
          ∙ get_or-set_same counts at (get_or counts at 0 + 1) 0 fits
          ∙ ap (λ m. m + 1) (so at fits)
          ∙ ap (λ m. count_by (nat_eq m) (take i xs) + 1) (sym e)
          ∙ sym (count_by_more_yes (nat_eq n) xs i 0 lt (eq-eqb n at e))
      | inr ne ↦
          get_or-set_other counts at n (get_or counts at 0 + 1) 0 ne
          ∙ so n below
          ∙ sym (count_by_more_no (nat_eq n) xs i 0 lt (ne_eqb n at ne))
    ]

-- the next number has none
pub tally_past : (xs counts : List ℕ) (i n : ℕ) → i < length xs → length counts ≤ get_or xs i 0
    → ((m : ℕ) → m < length counts → get_or counts m 0 ≡ count_by (nat_eq m) (take i xs)) → n < length counts
    → get_or counts n 0 ≡ count_by (nat_eq n) (take (i + 1) xs)
tally_past xs counts i n lt past so below =
    so n below ∙ sym (count_by_more_no (nat_eq n) xs i 0 lt (ne_eqb n (get_or xs i 0) (λ e. absurd (omega (arith, e, past, below)))))

pub few_more : (counts : List ℕ) (i at n : ℕ) → at < length counts → ((m : ℕ) → get_or counts m 0 ≤ i)
    → get_or (set counts at (get_or counts at 0 + 1)) n 0 ≤ i + 1
few_more counts i at n fits few = elim (cases_eq n at) [
  | inl e ↦
      let same =
      ap (λ m. get_or (set counts at (get_or counts at 0 + 1)) m 0) e
      ∙ get_or-set_same counts at (get_or counts at 0 + 1) 0 fits in
      let le = few at in
      omega (arith, same, le)
  | inr ne ↦
      let same = get_or-set_other counts at n (get_or counts at 0 + 1) 0 ne in
      let le = few n in
      omega (arith, same, le)
]
