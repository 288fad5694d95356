-- Containers and their numbers, as more become known.
use Rattle.std.proofs.Common.{◌≡◌, ℕ, suc, ◌+◌, true, false, not, List, [], ◌∷◌, ◌++◌, length, filter, None, Some, refl}
use Rattle.std.proofs.Common.{sym, ap, ◌∙◌, arith, inl, inr, append-nil}
use Rattle.std.specs.Prelude.{option_map, unwrap_or, if◌then◌else◌}
use Rattle.isad_core.proofs.BoxLemmas.{distinct_more, same_sym}
use Rattle.catalogue_core.proofs.DistinctFront.{found_any, known_distinct}
use Rattle.catalogue_core.proofs.ImportedAgain.{box_itself}
use Rattle.catalogue_statements.proofs.Common.{BoxKey, box_number, cases_Bool, distinct, distinct_append, has_right}
use Rattle.catalogue_statements.proofs.Common.{is_same_box, is_some, list_all, list_any, number_among, some_from}
use Rattle.catalogue_statements.proofs.Common.{test_from}

-- ---- each container once

-- a container that is known, and one that is not
pub with_known : (cs : List BoxKey) (b : BoxKey) → distinct cs ≡ cs → list_any (is_same_box b) cs ≡ true
    → distinct (cs ++ b ∷ []) ≡ cs
with_known cs b apart there = distinct_more cs b ∙ ap (λ any. distinct cs ++ (if any then [] else b ∷ [])) there ∙ append-nil (distinct cs) ∙ apart

pub with_new : (cs : List BoxKey) (b : BoxKey) → distinct cs ≡ cs → list_any (is_same_box b) cs ≡ false
    → distinct (cs ++ b ∷ []) ≡ cs ++ b ∷ []
with_new cs b apart missing = distinct_more cs b ∙ ap (λ any. distinct cs ++ (if any then [] else b ∷ [])) missing ∙ ap (λ l. l ++ b ∷ []) apart

-- ---- numbers

pub known_numbered : (cs : List BoxKey) (b : BoxKey) (n : ℕ) → number_among cs b ≡ Some n → list_any (is_same_box b) cs ≡ true
known_numbered cs b n h = sym (found_any cs b) ∙ ap is_some h

pub unknown_unnumbered : (cs : List BoxKey) (b : BoxKey) → number_among cs b ≡ None → list_any (is_same_box b) cs ≡ false
unknown_unnumbered cs b h = sym (found_any cs b) ∙ ap is_some h

-- a container that is known keeps its number when more follow
kept_in : (cs more : List BoxKey) (b : BoxKey) → list_any (is_same_box b) cs ≡ true
    → number_among (cs ++ more) b ≡ number_among cs b
kept_in [] more b h = absurd (let e : false ≡ true = h in cc)
kept_in (c ∷ cs) more b h =
    elim (cases_Bool (is_same_box c b)) [
      | inl same ↦ rw same refl
      | inr differs ↦
          let other : is_same_box b c ≡ false = sym (same_sym c b) ∙ differs in
          let rest : list_any (is_same_box b) cs ≡ true = rw other at h in
          rw differs (ap (option_map suc) (kept_in cs more b rest))
    ]

pub keeps_number : (cs bs : List BoxKey) (b : BoxKey) → distinct cs ≡ cs → list_any (is_same_box b) cs ≡ true
    → number_among (distinct (cs ++ bs)) b ≡ number_among cs b
keeps_number cs bs b apart there =
    let more = filter (λ b. not (list_any (λ c. is_same_box c b) cs)) (distinct bs) in
    ap (λ l. number_among l b) (distinct_append cs bs ∙ ap (λ l. l ++ more) apart) ∙ kept_in cs more b there

-- and stays known
pub still_known : (cs bs : List BoxKey) (b : BoxKey) → distinct cs ≡ cs → list_any (is_same_box b) cs ≡ true
    → list_any (is_same_box b) (distinct (cs ++ bs)) ≡ true
still_known cs bs b apart there =
    sym (found_any (distinct (cs ++ bs)) b) ∙ ap is_some (keeps_number cs bs b apart there) ∙ found_any cs b ∙ there

-- a new container gets the next number
number_of_new : (cs : List BoxKey) (b : BoxKey) → list_any (is_same_box b) cs ≡ false
    → number_among (cs ++ b ∷ []) b ≡ Some (length cs + 1)
number_of_new [] b h = rw (box_itself b) refl
number_of_new (c ∷ cs) b h =
    elim (cases_Bool (is_same_box c b)) [
      | inl same ↦ absurd (let other : is_same_box b c ≡ true = sym (same_sym c b) ∙ same in let e : true ≡ false = rw other at h in cc)
      | inr differs ↦
          let other : is_same_box b c ≡ false = sym (same_sym c b) ∙ differs in
          let rest : list_any (is_same_box b) cs ≡ false = rw other at h in
          rw differs (ap (option_map suc) (number_of_new cs b rest) ∙ ap Some (omega arith))
    ]

pub box_number_known : (cs : List BoxKey) (b : BoxKey) (n : ℕ) → distinct cs ≡ cs → number_among cs b ≡ Some n
    → n ≡ box_number (distinct (cs ++ b ∷ [])) b
box_number_known cs b n apart h =
    sym (ap (λ l. box_number l b) (with_known cs b apart (known_numbered cs b n h)) ∙ ap (λ o. unwrap_or o 0) h)

pub box_number_new : (cs : List BoxKey) (b : BoxKey) → distinct cs ≡ cs → number_among cs b ≡ None
    → length cs + 1 ≡ box_number (distinct (cs ++ b ∷ [])) b
box_number_new cs b apart h =
    let missing = unknown_unnumbered cs b h in
    sym (ap (λ l. box_number l b) (with_new cs b apart missing) ∙ ap (λ o. unwrap_or o 0) (number_of_new cs b missing))

-- the containers that were told are known
pub all_known : (cs bs : List BoxKey) → list_all (λ b. list_any (is_same_box b) (distinct (cs ++ bs))) bs ≡ true
all_known cs bs = test_from (λ b. list_any (is_same_box b) (distinct (cs ++ bs))) bs (λ b h. known_distinct (cs ++ bs) b ∙ some_from (is_same_box b) (cs ++ bs) b (has_right cs bs b h) (box_itself b))
