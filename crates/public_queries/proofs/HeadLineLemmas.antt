-- Which units are shown.
use Rattle.std.proofs.Common.{◌≡◌, Bool, true, false, not, ◌&&◌, List, [], ◌∷◌, ◌++◌, refl, ap, ◌∙◌}
use Rattle.public_queries.proofs.Common.{Head, are_open, is_open_on, shows_last, ℤ}

pub shows_last-push : (day : ℤ) (above : List Head) (last : Head)
    → shows_last day (above ++ last ∷ []) ≡ (are_open day above && not last.draft)
shows_last-push day [] last = refl
shows_last-push day (head ∷ []) last = at (is_open_on day head)
  where
    at : (a : Bool) → (a && not last.draft) ≡ ((a && true) && not last.draft)
    at true = refl
    at false = refl
shows_last-push day (head ∷ next ∷ above) last =
    ap (λ b. is_open_on day head && b) (shows_last-push day (next ∷ above) last)
    ∙ at (is_open_on day head) (are_open day (next ∷ above))
  where
    at : (a b : Bool) → (a && (b && not last.draft)) ≡ ((a && b) && not last.draft)
    at true b = refl
    at false b = refl
