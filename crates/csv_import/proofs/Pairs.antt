-- Two slices that a loop goes through side by side.
use Rattle.std.proofs.Common.{◌≡◌, ℕ, ◌<◌, List, ap, get_or, length, ◌∙◌}

-- these are their items at this index
pub record ArePair {A B : Type 0} (firsts : List A) (seconds : List B) (i : ℕ) (one : A) (other : B) : Type 0 where
  pub low : i < length firsts
  pub within : i < length seconds
  pub first : one ≡ get_or firsts i one
  pub second : other ≡ get_or seconds i other

-- as the turn of the loop tells
pub pair_of : {A B : Type 0} {firsts : List A} {seconds : List B} (i : ℕ) (one : A) (other : B)
    → (i < length firsts) × (i < length seconds) × ((d : A) → one ≡ get_or firsts i d) × ((d : B) → other ≡ get_or seconds i d)
    → ArePair firsts seconds i one other
pair_of i one other turn = record { low = turn.0; within = turn.1; first = turn.2 one; second = turn.3 other }

-- the loop goes through what the iterator was made of
pub both_begin : {Z I J A B : Type 0} {start made : Z} {front : I} {firsts : List A} {seconds : List B} (first : Z → I) (second : Z → J) (rest : I → List A) (others : J → List B)
    → start ≡ made → first made ≡ front → rest front ≡ firsts → others (second made) ≡ seconds
    → (rest (first start) ≡ firsts) × (others (second start) ≡ seconds)
both_begin first second rest others same front firsts seconds =
    (ap (λ z. rest (first z)) same ∙ (ap rest front ∙ firsts), ap (λ z. others (second z)) same ∙ seconds)
