-- Containers that rows say are those rows, and each stands once.
use Rattle.std.proofs.Common.{◌≡◌, ℕ, zero, suc, ◌≤◌, Bool, true, false, cond, not, List, [], ◌∷◌, length, Some, refl}
use Rattle.std.proofs.Common.{sym, ap, ◌∙◌, nat_eq, inl, inr, arith, map}
use Rattle.std.specs.List.{IsDistinct}
use Rattle.std.specs.Prelude.{unwrap_or}
use Rattle.state_encoding.proofs.Common.{AllByRecursion, BoxKey, ContainerRow, In, and_parts, are_numbered_from}
use Rattle.state_encoding.proofs.Common.{box_from, box_itself, box_number, container_row, distinct, eq-eqb, eqb-true}
use Rattle.state_encoding.proofs.Common.{false_from_ne_true, false≢true, filter, is_same_box, is_same_container}
use Rattle.state_encoding.proofs.Common.{list_any, nth, number_among, option_map, or_left, or_right, rows_from}
use Rattle.state_encoding.proofs.Common.{same_box, slice_get}
use Rattle.state_encoding.proofs.RowsByNumber.{each_in}

abbrev are_counted : ℕ → List ContainerRow → Bool
are_counted n rows = are_numbered_from (λ (row : ContainerRow). row.id) n rows

pub containers_are_said : (n : ℕ) (rows : List ContainerRow) → are_counted n rows ≡ true
    → rows_from container_row n (map box_from rows) ≡ rows
containers_are_said n [] h = refl
containers_are_said n (row ∷ rows) h =
    let p = and_parts (nat_eq row.id n) (are_counted (suc n) rows) h in
    ap (λ i. record { id = i; name = row.name; location = row.location; kind = row.kind } ∷ rows_from container_row (suc n) (map box_from rows)) (sym (eqb-true row.id n p.0))
    ∙ ap (λ l. row ∷ l) (containers_are_said (suc n) rows p.1)

-- ---- containers that are all different

pub boxes_apart : (rows : List ContainerRow) → IsDistinct is_same_container rows
    → IsDistinct is_same_box (map box_from rows)
unfolding IsDistinct
boxes_apart [] d = tt
boxes_apart (row ∷ rows) d = (mapped rows d.0, boxes_apart rows d.1)
  where
    mapped : (xs : List ContainerRow) → AllByRecursion (λ other. is_same_container row other ≡ false) xs
        → AllByRecursion (λ box. is_same_box (box_from row) box ≡ false) (map box_from xs)
    mapped [] h = tt
    mapped (x ∷ xs) h = (h.0, mapped xs h.1)

keeps_all : (p : BoxKey → Bool) (xs : List BoxKey) → AllByRecursion (λ x. p x ≡ true) xs → filter p xs ≡ xs
keeps_all p [] h = refl
keeps_all p (x ∷ xs) h = ap (λ b. cond b (x ∷ filter p xs) (filter p xs)) h.0 ∙ ap (λ l. x ∷ l) (keeps_all p xs h.1)

negated : (p : BoxKey → Bool) (xs : List BoxKey) → AllByRecursion (λ x. p x ≡ false) xs
    → AllByRecursion (λ x. not (p x) ≡ true) xs
negated p [] h = tt
negated p (x ∷ xs) h = (ap not h.0, negated p xs h.1)

pub stay_distinct : (boxes : List BoxKey) → IsDistinct is_same_box boxes → distinct boxes ≡ boxes
unfolding IsDistinct
stay_distinct [] d = refl
stay_distinct (b ∷ boxes) d =
    ap (λ l. b ∷ filter (λ later. not (is_same_box b later)) l) (stay_distinct boxes d.1)
    ∙ ap (λ l. b ∷ l) (keeps_all (λ later. not (is_same_box b later)) boxes (negated (is_same_box b) boxes d.0))

-- containers of different numbers are different
pub numbers_tell : (number : BoxKey → ℕ) (boxes : List BoxKey) → IsDistinct nat_eq (map number boxes)
    → IsDistinct is_same_box boxes
unfolding IsDistinct
numbers_tell number [] d = tt
numbers_tell number (b ∷ boxes) d = (others boxes d.0, numbers_tell number boxes d.1)
  where
    others : (xs : List BoxKey) → AllByRecursion (λ n. nat_eq (number b) n ≡ false) (map number xs)
        → AllByRecursion (λ x. is_same_box b x ≡ false) xs
    others [] h = tt
    others (x ∷ xs) h = (false_from_ne_true (is_same_box b x) (λ e. false≢true (sym h.0 ∙ eq-eqb (number b) (number x) (ap number (same_box b x e)))), others xs h.1)

-- ---- the number of a container

pub in_get : (boxes : List BoxKey) (i : ℕ) (b : BoxKey) → slice_get boxes i ≡ Some b → In b boxes
in_get [] i b e = cc
in_get (c ∷ boxes) zero b e = inl (cc)
in_get (c ∷ boxes) (suc i) b e = inr (in_get boxes i b e)

pub numbered_back : (boxes : List BoxKey) (i : ℕ) (b : BoxKey) → IsDistinct is_same_box boxes
    → slice_get boxes i ≡ Some b → number_among boxes b ≡ Some (suc i)
unfolding IsDistinct
numbered_back [] i b d e = cc
numbered_back (c ∷ boxes) zero b d e =
    let same : c ≡ b = cc in
    ap (λ x. cond x (Some 1) (option_map suc (number_among boxes b))) (ap (is_same_box c) (sym same) ∙ box_itself c)
numbered_back (c ∷ boxes) (suc i) b d e =
    ap (λ x. cond x (Some 1) (option_map suc (number_among boxes b))) (each_in (λ x. is_same_box c x ≡ false) boxes b d.0 (in_get boxes i b e))
    ∙ ap (option_map suc) (numbered_back boxes i b d.1 e)

pub back_to_number : (boxes : List BoxKey) (n : ℕ) (b : BoxKey) → IsDistinct is_same_box boxes → nth boxes n ≡ Some b
    → box_number boxes b ≡ n
back_to_number boxes zero b d e = cc
back_to_number boxes (suc i) b d e = ap (λ r. unwrap_or r 0) (numbered_back boxes i b d e)

pub one_numbered : (boxes : List BoxKey) (n : ℕ) → 1 ≤ n → n ≤ length boxes → (b : BoxKey) × (nth boxes n ≡ Some b)
one_numbered boxes zero l h = absurd (omega (arith, l))
one_numbered [] (suc i) l h = absurd (omega (arith, h))
one_numbered (b ∷ boxes) (suc zero) l h = (b, refl)
one_numbered (b ∷ boxes) (suc (suc i)) l h = one_numbered boxes (suc i) (omega arith) (omega (arith, h))

pub is_there : (boxes : List BoxKey) (b : BoxKey) → In b boxes → list_any (is_same_box b) boxes ≡ true
is_there [] b i = absurd i
is_there (c ∷ boxes) b (inl e) =
    or_left (is_same_box b c) (list_any (is_same_box b) boxes) (ap (is_same_box b) (sym e) ∙ box_itself b)
is_there (c ∷ boxes) b (inr i) = or_right (is_same_box b c) (list_any (is_same_box b) boxes) (is_there boxes b i)
