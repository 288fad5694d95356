-- What is withheld from a reader and what the public sees of a small forest, worked out by hand.
use Rattle.std.specs.Prelude.{◌≡◌, ℕ, Bool, true, false, List, [], ◌∷◌, nat_eq}
use Rattle.tree_core.specs.Forest.{Empty, Node}
use Rattle.visibility.specs.Visibility.{is_withheld, public}
use Rattle.tree_core.specs.WorkedExamples.{leaf}

-- 1 is a draft and 2 is closed; the reader has a permit for 3
abbrev pub withheld : Bool → List ℕ → Bool
withheld = is_withheld (nat_eq 1) (nat_eq 2) (nat_eq 3)

pub record Withheld : Type 0 where
  pub below_draft : withheld false (1 ∷ 4 ∷ []) ≡ true
  pub draft_below : withheld false (3 ∷ 1 ∷ []) ≡ true
  pub below_closed : withheld false (2 ∷ 4 ∷ []) ≡ true
  pub permitted : withheld false (2 ∷ 3 ∷ []) ≡ false
  pub permitted_above : withheld true (2 ∷ 4 ∷ []) ≡ false
  pub neither : withheld false (4 ∷ 5 ∷ []) ≡ false
  -- of a draft with a unit below it, a closed unit with one below it, and another unit with one below it
  pub shown : public (nat_eq 1) (nat_eq 2) (Node 1 (leaf 5 Empty) (Node 2 (leaf 6 Empty) (Node 4 (leaf 7 Empty) Empty)))
      ≡ Node (2, true) Empty (Node (4, false) (leaf (7, false) Empty) Empty)
