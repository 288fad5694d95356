-- Names of ASCII letters are UTF-8.
use Rattle.std.proofs.Common.{◌≡◌, ℕ, zero, suc, ◌<◌, Bool, true, false, ◌||◌, [], ◌∷◌, arith}
use Rattle.std.proofs.lemmas.Str.{IsUtf8-from_ascii}
use Rattle.std.specs.Prelude.{◌&&◌, nat_eq, length}
use Rattle.catalogue_core.proofs.Common.{Bytes, IsUtf8, and_parts, eqb-true, is_between, is_source, is_source_letter}
use Rattle.catalogue_core.proofs.Common.{leb-true, list_all, nat_le, slice_index}

each_low : (test : ℕ → Bool) → ((b : ℕ) → test b ≡ true → b < 128) → (bs : Bytes) → list_all test bs ≡ true → (i : ℕ)
    → slice_index bs i < 128
each_low test low [] h zero = omega arith
each_low test low [] h (suc i) = omega arith
each_low test low (b ∷ bs) h zero = low b (and_parts (test b) (list_all test bs) h).0
each_low test low (b ∷ bs) h (suc i) = each_low test low bs (and_parts (test b) (list_all test bs) h).1 i

-- a text whose every byte passes a test that passes ASCII alone
pub ascii_legible : (test : ℕ → Bool) → ((b : ℕ) → test b ≡ true → b < 128) → (bs : Bytes) → list_all test bs ≡ true
    → IsUtf8 bs
ascii_legible test low bs h = IsUtf8-from_ascii bs (each_low test low bs h)

pub between_low : (low high b : ℕ) → high < 128 → is_between low high b ≡ true → b < 128
between_low low high b small h =
    let up = leb-true b high (and_parts (nat_le low b) (nat_le b high) h).1 in
    omega (arith, up, small)

either : (a b : Bool) (P : Type 0) → (a ≡ true → P) → (b ≡ true → P) → (a || b) ≡ true → P
either true b P f g e = f cc
either false b P f g e = g e

letter_low : (b : ℕ) → is_source_letter b ≡ true → b < 128
letter_low b h =
    either (is_between 65 90 b) _ (b < 128) (between_low 65 90 b (omega arith))
    (either (is_between 97 122 b) _ (b < 128) (between_low 97 122 b (omega arith))
    (either (is_between 48 57 b) _ (b < 128) (between_low 48 57 b (omega arith))
    (either (nat_eq b 46) _ (b < 128) (λ e. let same = eqb-true b 46 e in omega (arith, same))
    (either (nat_eq b 95) (nat_eq b 45) (b < 128) (λ e. let same = eqb-true b 95 e in omega (arith, same)) (λ e. let same = eqb-true b 45 e in omega (arith, same))))))
    h

pub source_legible : (source : Bytes) → is_source source ≡ true → IsUtf8 source
source_legible source h =
    let letters = (and_parts (nat_le (length source) 64) (list_all is_source_letter source) (and_parts (nat_le 1 (length source)) (nat_le (length source) 64 && list_all is_source_letter source) h).1).1 in
    ascii_legible is_source_letter letter_low source letters
