-- Rows of units that are added one after another, or in place of others: texts and containers alike.
use Rattle.std.proofs.Common.{◌≡◌, ℕ, List, [], ◌∷◌, ◌++◌, map, filter, Bool, true, false, not, nat_eq, refl, sym, ap}
use Rattle.std.proofs.Common.{ap₂, subst, ◌∙◌, append-nil}
use Rattle.std.proofs.lemmas.List.Elements.{filter-append}
use Rattle.std.specs.Prelude.{◌&&◌}
use Rattle.catalogue_statements.proofs.Common.{AllByRecursion, IsPermutation, IsPermutation-append_comm}
use Rattle.catalogue_statements.proofs.Common.{IsPermutation-append_left, IsPermutation-append_right}
use Rattle.catalogue_statements.proofs.Common.{IsPermutation-filter, IsPermutation-map, IsPermutation-trans, WithCells}
use Rattle.catalogue_statements.proofs.Common.{all-append, all-filter, all-permutation, all_weaker, and-false}
use Rattle.catalogue_statements.proofs.Common.{append_assoc, eq-eqb, eqb-false, eqb-true, filter_all, filter_none}
use Rattle.catalogue_statements.proofs.Common.{filters, map-append, ne_eqb, same_test}

module _ {A C : Type 0} (unit_of : A → ℕ) (cell_of : A → C) where
  abbrev With : ℕ → List C → List A → List A → Type 0
  With = WithCells unit_of cell_of

  -- the cells of a unit
  abbrev cells_of : ℕ → List A → List C
  cells_of u xs = map cell_of (filter (λ a. nat_eq u (unit_of a)) xs)

  -- the rows of the other units
  abbrev without : ℕ → List A → List A
  without n xs = filter (λ a. not (nat_eq n (unit_of a))) xs

  -- some cells, and then others
  pub cells_then : (n : ℕ) (a b : List C) (xs ys zs : List A) → With n a xs ys → With n b ys zs → With n (a ++ b) xs zs
  cells_then n a b xs ys zs p q = record {
    more = p.more ++ q.more;
    are = IsPermutation-trans ((p.more ++ q.more) ++ xs) (q.more ++ ys) zs
        (IsPermutation-trans ((p.more ++ q.more) ++ xs) (q.more ++ (p.more ++ xs)) (q.more ++ ys)
        (subst (IsPermutation ((p.more ++ q.more) ++ xs)) (append_assoc q.more p.more xs) (IsPermutation-append_left xs (p.more ++ q.more) (q.more ++ p.more) (IsPermutation-append_comm p.more q.more)))
        (IsPermutation-append_right q.more (p.more ++ xs) ys p.are))
        q.are;
    tell = subst (IsPermutation (a ++ b)) (sym (map-append cell_of p.more q.more))
        (IsPermutation-trans (a ++ b) (map cell_of p.more ++ b) (map cell_of p.more ++ map cell_of q.more)
        (IsPermutation-append_left b a (map cell_of p.more) p.tell) (IsPermutation-append_right (map cell_of p.more) b (map cell_of q.more) q.tell));
    theirs = all-append (λ x. unit_of x ≡ n) p.more q.more p.theirs q.theirs;
  }

  both_parts : (u n : ℕ) (cells : List C) (xs ys : List A) → (w : With n cells (without n xs) ys)
      → IsPermutation (cells_of u w.more ++ cells_of u (without n xs)) (cells_of u ys)
  both_parts u n cells xs ys w =
      let mine = λ (a : A). nat_eq u (unit_of a) in
      subst (λ l. IsPermutation l (cells_of u ys)) (ap (map cell_of) (filter-append mine w.more (without n xs)) ∙ map-append cell_of (filter mine w.more) (filter mine (without n xs)))
      (IsPermutation-map cell_of (filter mine (w.more ++ without n xs)) (filter mine ys) (IsPermutation-filter mine (w.more ++ without n xs) ys w.are))

  -- a unit that gets these cells in place of its own has no others
  pub own_cells : (n : ℕ) (cells : List C) (xs ys : List A) → With n cells (without n xs) ys
      → IsPermutation cells (cells_of n ys)
  own_cells n cells xs ys w =
      let mine = λ (a : A). nat_eq n (unit_of a) in
      let all : cells_of n w.more ≡ map cell_of w.more =
      ap (map cell_of) (filter_all mine w.more (all_weaker (λ a. unit_of a ≡ n) (λ a. mine a ≡ true) (λ a h. eq-eqb n (unit_of a) (sym h)) w.more w.theirs)) in
      let none : cells_of n (without n xs) ≡ [] =
      ap (map cell_of) (filters (λ a. not (mine a)) mine xs ∙ same_test (λ a. not (mine a) && mine a) (λ _. false) (λ a. never (mine a)) xs ∙ nothing xs) in
      let parts = both_parts n n cells xs ys w in
      IsPermutation-trans cells (map cell_of w.more) (cells_of n ys) w.tell (subst (λ l. IsPermutation l (cells_of n ys)) (ap₂ ◌++◌ all none ∙ append-nil (map cell_of w.more)) parts)
    where
      never : (b : Bool) → (not b && b) ≡ false
      never true = refl
      never false = refl

      nothing : (xs : List A) → filter (λ _. false) xs ≡ []
      nothing [] = refl
      nothing (x ∷ xs) = nothing xs

  -- and the others keep theirs
  pub others_cells : (n u : ℕ) (cells : List C) (xs ys : List A) → nat_eq n u ≡ false → With n cells (without n xs) ys
      → IsPermutation (cells_of u xs) (cells_of u ys)
  others_cells n u cells xs ys apart w =
      let theirs = λ (a : A). nat_eq u (unit_of a) in
      let none : cells_of u w.more ≡ [] =
      ap (map cell_of) (filter_none theirs w.more (all_weaker (λ a. unit_of a ≡ n) (λ a. theirs a ≡ false) (λ a h. ap (nat_eq u) h ∙ ne_eqb u n (λ e. eqb-false n u apart (sym e))) w.more w.theirs)) in
      let same : cells_of u (without n xs) ≡ cells_of u xs =
      ap (map cell_of) (filters (λ a. not (nat_eq n (unit_of a))) theirs xs ∙ same_test (λ a. not (nat_eq n (unit_of a)) && theirs a) theirs (λ a. still (unit_of a)) xs) in
      subst (λ l. IsPermutation l (cells_of u ys)) (ap₂ ◌++◌ none same) (both_parts u n cells xs ys w)
    where
      at : (v : ℕ) (b : Bool) → nat_eq u v ≡ b → (not (nat_eq n v) && b) ≡ b
      at v false e = and-false (not (nat_eq n v))
      at v true e = let k : nat_eq n v ≡ false = ap (nat_eq n) (sym (eqb-true u v e)) ∙ apart in rw k refl

      still : (v : ℕ) → (not (nat_eq n v) && nat_eq u v) ≡ nat_eq u v
      still v = at v (nat_eq u v) refl

  -- each row is of a unit that is there
  pub all_theirs : (P : ℕ → Type 0) (n : ℕ) (cells : List C) (xs ys : List A) → P n
      → AllByRecursion (λ a. P (unit_of a)) xs → With n cells (without n xs) ys → AllByRecursion (λ a. P (unit_of a)) ys
  all_theirs P n cells xs ys here there w =
      all-permutation (λ a. P (unit_of a)) (w.more ++ without n xs) ys w.are
      (all-append (λ a. P (unit_of a)) w.more (without n xs)
      (all_weaker (λ a. unit_of a ≡ n) (λ a. P (unit_of a)) (λ a h. subst P (sym h) here) w.more w.theirs)
      (all-filter (λ a. P (unit_of a)) (λ a. not (nat_eq n (unit_of a))) xs there))

  -- a unit that has no row yet
  pub without_none : (n : ℕ) (xs : List A) → AllByRecursion (λ a. nat_eq n (unit_of a) ≡ false) xs → without n xs ≡ xs
  without_none n xs none =
      filter_all (λ a. not (nat_eq n (unit_of a))) xs (all_weaker (λ a. nat_eq n (unit_of a) ≡ false) (λ a. not (nat_eq n (unit_of a)) ≡ true) (λ a h. ap not h) xs none)
