-- A container that is found by its number.
use Rattle.std.proofs.Common.{◌≡◌, ℕ, suc, ◌+◌, ◌<◌, List, [], ◌∷◌, map, filter, slice_get, Option, Some, None, Bool}
use Rattle.std.proofs.Common.{true, false, nat_eq, refl, sym, ap, ◌∙◌, arith, inl, inr}
use Rattle.std.specs.Prelude.{option_map, if◌then◌else◌}
use Rattle.catalogue_core.proofs.Imported.{same_box}
use Rattle.catalogue_store.proofs.Common.{BoxKey, Has, IsPermutation, box_number, cases_Bool, counted_from, eqb-true}
use Rattle.catalogue_store.proofs.Common.{had, has_filtered, is_same_box, number_among, one_less, told_first, unwrap_or}

from_its_number : (n : ℕ) (cs : List BoxKey) → (x : ℕ × BoxKey) → Has (counted_from (n + 1) cs) x → n < x.0
from_its_number n [] x h = absurd h
from_its_number n (c ∷ cs) x (inl e) = omega (arith, ap (λ (y : ℕ × BoxKey). y.0) e)
from_its_number n (c ∷ cs) x (inr h) = omega (arith, from_its_number (n + 1) cs x h)

positive : (cs : List BoxKey) (b : BoxKey) (n : ℕ) → number_among cs b ≡ Some n → 0 < n
positive [] b n h = absurd (let e : None ≡ Some n = h in cc)
positive (c ∷ cs) b n h = at (is_same_box c b) (number_among cs b) h
  where
    at : (same : Bool) (o : Option ℕ) → (if same then Some 1 else option_map suc o) ≡ Some n → 0 < n
    at true o e = let k : 1 ≡ n = cc in omega (arith, k)
    at false None e = absurd (cc)
    at false (Some m) e = let k : suc m ≡ n = cc in omega (arith, k)

named : (k : ℕ) (cs : List BoxKey) (b : BoxKey) (n : ℕ) (x : ℕ × BoxKey) → Has (counted_from (k + 1) cs) x
    → number_among cs b ≡ Some n → x.0 ≡ k + n → x.1 ≡ b
named k [] b n x h is at = absurd h
named k (c ∷ cs) b n x h is at = elim (cases_Bool (is_same_box c b)) [
  | inl same ↦
      let one : Some 1 ≡ Some n = rw same at is in
      let n_is : 1 ≡ n = cc in
      first h n_is (same_box c b same)
  | inr differs ↦
      let rest : option_map suc (number_among cs b) ≡ Some n = rw differs at is in
      let m = one_less (number_among cs b) n rest in
      more m.0 (λ h e. named (k + 1) cs b m.0 x h m.1 e) h m.1 m.2
]
  where
    first : Has (counted_from (k + 1) (c ∷ cs)) x → 1 ≡ n → c ≡ b → x.1 ≡ b
    first (inl e) n_is same = ap (λ (y : ℕ × BoxKey). y.1) e ∙ same
    first (inr h) n_is same = absurd (omega (arith, from_its_number (k + 1) cs x h, at, n_is))

    more : (m : ℕ) → (Has (counted_from (k + 1 + 1) cs) x → x.0 ≡ k + 1 + m → x.1 ≡ b)
        → Has (counted_from (k + 1) (c ∷ cs)) x → number_among cs b ≡ Some m → n ≡ suc m → x.1 ≡ b
    more m rest (inl e) is n_is = absurd (omega (arith, ap (λ (y : ℕ × BoxKey). y.0) e, at, n_is, positive cs b m is))
    more m rest (inr h) is n_is = rest h (omega (arith, at, n_is))

-- what is found by a container's number is that container
pub found_is : (cs : List BoxKey) (b key : BoxKey) (n : ℕ) (ys : List (ℕ × BoxKey)) → n ≡ box_number cs b
    → IsPermutation (filter (λ (c : ℕ × BoxKey). nat_eq n c.0) (counted_from 1 cs)) ys
    → slice_get (map (λ (c : ℕ × BoxKey). c.1) ys) 0 ≡ Some key → key ≡ b
found_is cs b key n ys number same first =
    let there = told_first (λ (c : ℕ × BoxKey). c.1) ys key first in
    let x = there.0 in
    let kept = has_filtered (λ (c : ℕ × BoxKey). nat_eq n c.0) (counted_from 1 cs) x (had (filter (λ (c : ℕ × BoxKey). nat_eq n c.0) (counted_from 1 cs)) ys same x there.1) in
    let at : n ≡ x.0 = eqb-true n x.0 kept.1 in
    there.2 ∙ by_number (number_among cs b) refl x kept.0 (sym at ∙ number)
  where
    by_number : (o : Option ℕ) → number_among cs b ≡ o → (x : ℕ × BoxKey) → Has (counted_from 1 cs) x
        → x.0 ≡ unwrap_or (number_among cs b) 0 → x.1 ≡ b
    by_number None is x h e =
        absurd (omega (arith, from_its_number 0 cs x h, e, ap (λ (o : Option ℕ). unwrap_or o 0) is))
    by_number (Some m) is x h e = named 0 cs b m x h is (e ∙ ap (λ (o : Option ℕ). unwrap_or o 0) is ∙ omega arith)
