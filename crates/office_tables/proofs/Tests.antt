-- What the conditions of the statements test.
use Rattle.std.proofs.Common.{◌≡◌, ℕ, ℤ, List, [], ◌∷◌, Bool, true, false, ◌&&◌, Option, Some, None, refl, ap, ap₂, ◌∙◌}
use Rattle.std.proofs.Common.{pos, nat_eq, arith}
use Rattle.std.proofs.lemmas.Map.Text.{is_eq-slice_cmp}
use Rattle.std.specs.Cmp.{both_ways, tied_itself}
use Rattle.std.specs.FinMap.{int_cmp-IsAntisymmetric}
use Rattle.sqlite.specs.Ops.{binary, is_true, from_truth}
use Rattle.sqlite.specs.Values.{or_null}
use Rattle.sqlite_sql.specs.declared.ops.BinaryOp.TheVariants.{Compare, Is}
use Rattle.sqlite_sql.specs.declared.ops.CompareOp.TheVariants.{Eq}
use Rattle.office_tables.specs.Tests.{same_int, same_text, same_maybe}
use Rattle.office_tables.proofs.Common.{Binary, Int, Null, Text, ascending, bytes_eq, int_cmp, int_cmp_total, is_eq}
use Rattle.office_tables.proofs.Common.{key_cmp, nat_tests, ordering_then, then-Equal, value_cmp-Int, value_cmp-Null}
use Rattle.office_tables.proofs.Common.{value_cmp-Text, value_cmp-apart}
use Rattle.office_tables.proofs.Rows.{eq_from}

pub flag : (b : Bool) → is_true (from_truth (Some b)) ≡ b
flag true = refl
flag false = refl

-- one term of WHERE, and two
pub only : {a b : Bool} → a ≡ b → (a && true) ≡ b
only {a} {b} e = elim a as (λ x. (x && true) ≡ x) [ true ↦ refl | false ↦ refl ] ∙ e

pub both : {a b c d : Bool} → a ≡ b → c ≡ d → (a && (c && true)) ≡ (b && d)
both e f = ap₂ ◌&&◌ e (only f)

pub either_first : (a b : Bool) → (a && b) ≡ (b && a)
either_first true true = refl
either_first true false = refl
either_first false true = refl
either_first false false = refl

pub eq_ints : (a b : ℤ) → is_true (binary (Compare Eq Binary) (Int a) (Int b)) ≡ same_int a b
unfolding binary
eq_ints a b = flag _ ∙ ap is_eq (value_cmp-Int a b)

pub eq_texts : (a b : List ℕ) → is_true (binary (Compare Eq Binary) (Text a) (Text b)) ≡ same_text a b
unfolding binary
eq_texts a b = flag _ ∙ ap is_eq (value_cmp-Text a b)

pub is_maybes : (a b : Option ℤ) → is_true (binary (Is Binary) (or_null Int a) (or_null Int b)) ≡ same_maybe a b
unfolding binary
is_maybes None None = flag _ ∙ ap is_eq (value_cmp-Null Null)
is_maybes None (Some b) = flag _ ∙ ap is_eq (value_cmp-Null (Int b))
is_maybes (Some a) None = flag _ ∙ ap is_eq (value_cmp-apart (Int a) Null (λ e. cc))
is_maybes (Some a) (Some b) = flag _ ∙ ap is_eq (value_cmp-Int a b)

-- ---- numbers and texts, as the definitions compare them

pub same_nat : (a b : ℕ) → same_int (pos a) (pos b) ≡ nat_eq b a
same_nat a b = both_ways (same_int (pos a) (pos b)) (nat_eq b a)
    (λ h. let e = int_cmp-IsAntisymmetric (pos a) (pos b) (eq_from (int_cmp (pos a) (pos b)) h) in let k : a ≡ b = cc in grind (arith, nat_tests, k))
    (λ h. let k : b ≡ a = grind (arith, nat_tests, h) in ap (λ n. is_eq (int_cmp (pos a) (pos n))) k ∙ ap is_eq (tied_itself int_cmp_total (pos a)))

pub same_number : (a b : ℕ) → is_true (binary (Compare Eq Binary) (Int (pos a)) (Int (pos b))) ≡ nat_eq b a
same_number a b = eq_ints (pos a) (pos b) ∙ same_nat a b

pub same_bytes : (a b : List ℕ) → is_true (binary (Compare Eq Binary) (Text a) (Text b)) ≡ bytes_eq a b
same_bytes a b = eq_texts a b ∙ is_eq-slice_cmp a b

pub by_one_int : (a b : ℤ) → key_cmp 0 (ascending Binary ∷ []) (Int a ∷ []) (Int b ∷ []) ≡ int_cmp a b
by_one_int a b = then-Equal _ ∙ value_cmp-Int a b

pub by_two_ints : (a b c d : ℤ)
    → key_cmp 0 (ascending Binary ∷ ascending Binary ∷ []) (Int a ∷ Int c ∷ []) (Int b ∷ Int d ∷ []) ≡ ordering_then (int_cmp a b) (int_cmp c d)
by_two_ints a b c d = ap₂ ordering_then (value_cmp-Int a b) (then-Equal _ ∙ value_cmp-Int c d)
