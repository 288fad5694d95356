-- Records that are taken out one after another, by a number that each of them tells.
use Rattle.std.proofs.Common.{◌≡◌, ℕ, List, [], ◌∷◌, ◌++◌, filter, Bool, true, false, not, ◌&&◌, ◌||◌, nat_eq, refl}
use Rattle.std.proofs.Common.{sym, ap, ◌∙◌}
use Rattle.std.proofs.lemmas.List.Folds.{list_any-append}
use Rattle.catalogue_statements.proofs.Common.{eqb_comm, filters, kept_all, list_any, or_not, same_test}
use Rattle.catalogue_statements.proofs.Common.{without_records}
use Rattle.catalogue_statements.proofs.Statuses.{any_more}

module _ {A : Type 0} (key : A → ℕ) where
  pub without_none : (xs : List A) → without_records key [] xs ≡ xs
  without_none xs = kept_all xs

  pub without_more : (ids : List ℕ) (id : ℕ) (xs : List A)
      → filter (λ x. not (nat_eq id (key x))) (without_records key ids xs) ≡ without_records key (ids ++ id ∷ []) xs
  without_more ids id xs =
      filters (λ x. not (list_any (nat_eq (key x)) ids)) (λ x. not (nat_eq id (key x))) xs
      ∙ same_test (λ x. not (list_any (nat_eq (key x)) ids) && not (nat_eq id (key x))) (λ x. not (list_any (nat_eq (key x)) (ids ++ id ∷ []))) (λ x.
      ap (λ b. not (list_any (nat_eq (key x)) ids) && not b) (eqb_comm id (key x))
      ∙ or_not (list_any (nat_eq (key x)) ids) (nat_eq (key x) id)
      ∙ ap not (sym (any_more (nat_eq (key x)) ids id))) xs

  any_both : (p : ℕ → Bool) (xs ys : List ℕ)
      → (not (list_any p xs) && not (list_any p ys)) ≡ not (list_any p (xs ++ ys))
  any_both p xs ys = or_not (list_any p xs) (list_any p ys) ∙ ap not (sym (list_any-append p xs ys))

  -- some, and then others
  pub without_then : (a b : List ℕ) (xs : List A) → without_records key b (without_records key a xs) ≡ without_records key (a ++ b) xs
  without_then a b xs =
      filters (λ x. not (list_any (nat_eq (key x)) a)) (λ x. not (list_any (nat_eq (key x)) b)) xs
      ∙ same_test (λ x. not (list_any (nat_eq (key x)) a) && not (list_any (nat_eq (key x)) b)) (λ x. not (list_any (nat_eq (key x)) (a ++ b))) (λ x. any_both (nat_eq (key x)) a b) xs

  -- one
  pub without_one : (id : ℕ) (xs : List A) → filter (λ x. not (nat_eq id (key x))) xs ≡ without_records key (id ∷ []) xs
  without_one id xs = same_test (λ x. not (nat_eq id (key x))) (λ x. not (list_any (nat_eq (key x)) (id ∷ []))) (λ x. ap not (eqb_comm id (key x) ∙ or_none (nat_eq (key x) id))) xs
    where
      or_none : (b : Bool) → b ≡ (b || false)
      or_none true = refl
      or_none false = refl
