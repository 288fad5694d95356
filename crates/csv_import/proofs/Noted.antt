-- Numbers in a source that are noted.
use Rattle.std.proofs.Common.{◌≡◌, Bool, true, false, cond, ◌||◌, refl, sym, ap, ◌∙◌}
use Rattle.csv_import.proofs.Common.{Bytes, bytes_eq, one_text, other_way, same_text}

-- one that is added, or was there
pub added_or_there : (added q : Bytes) (there : Bool) → cond (bytes_eq added q) true there ≡ (bytes_eq q added || there)
added_or_there added q there = at (bytes_eq added q) refl
  where
    at : (b : Bool) → bytes_eq added q ≡ b → cond b true there ≡ (bytes_eq q added || there)
    at true e = sym (ap (λ (b : Bool). b || there) (ap (λ (r : Bytes). bytes_eq r added) (sym (one_text added q e)) ∙ same_text added))
    at false e = sym (ap (λ (b : Bool). b || there) (other_way added q e))

module _ (before after : Bytes → Bool) (added : Bytes) (more : (q : Bytes) → after q ≡ (bytes_eq q added || before q)) where
  pub noted_itself : after added ≡ true
  noted_itself = more added ∙ ap (λ (b : Bool). b || before added) (same_text added)

  pub still_noted : (q : Bytes) → before q ≡ true → after q ≡ true
  still_noted q was = more q ∙ either (bytes_eq q added) (before q) was
    where
      either : (a b : Bool) → b ≡ true → (a || b) ≡ true
      either true b h = refl
      either false b h = h
