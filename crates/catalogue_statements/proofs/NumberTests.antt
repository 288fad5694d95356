-- What a condition on two numbers tests.
use Rattle.std.proofs.Common.{◌≡◌, ℕ, pos, Bool, true, false, cond, refl, sym, ap, ◌∙◌, nat_lt, nat_le, arith}
use Rattle.std.specs.declared.cmp.Ordering.TheVariants.{Less, Equal, Greater}
use Rattle.sqlite.specs.Ops.{binary}
use Rattle.office_tables.proofs.Tests.{flag}
use Rattle.catalogue_statements.proofs.Common.{Binary, Compare, Int, Le, is_le, is_true, nat_tests, value_cmp-Int}

pub at_most : (a b : ℕ) → is_true (binary (Compare Le Binary) (Int (pos a)) (Int (pos b))) ≡ nat_le a b
unfolding binary
at_most a b =
    flag _ ∙ ap is_le (value_cmp-Int (pos a) (pos b))
    ∙ there (nat_lt a b) (nat_lt b a) (nat_le a b) (λ h. grind (arith, nat_tests, h)) (λ h. grind (arith, nat_tests, h)) (λ h k. grind (arith, nat_tests, h, k))
  where
    there : (x y z : Bool) → (x ≡ true → z ≡ true) → (y ≡ true → z ≡ false) → (x ≡ false → y ≡ false → z ≡ true)
        → is_le (cond x Less (cond y Greater Equal)) ≡ z
    there true y z f t k = sym (f refl)
    there false true z f t k = sym (t refl)
    there false false z f t k = sym (k refl refl)
