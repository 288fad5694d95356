-- White space at the ends of a text, one byte more or less.
use Rattle.std.proofs.Common.{◌≡◌, ◌∙◌, ◌+◌, ◌<◌, ◌∷◌, [], ℕ, suc, Bool, true, false, List, length, take, drop, get_or}
use Rattle.std.proofs.Common.{refl, sym, ap, arith, drop-cons, reverse}
use Rattle.atom_csv.proofs.Common.{eqb-true, if◌then◌else◌, is_line_break, is_space, reverse-append, take-suc, trim_end}
use Rattle.atom_csv.proofs.Common.{trim_start, ◌==◌, ◌||◌}

either : (a b : Bool) → (P : Type 0) → (a ≡ true → P) → (b ≡ true → P) → (a || b) ≡ true → P
either true b P f g e = f refl
either false b P f g e = g e

-- white space is ASCII
pub space_is_ascii : (b : ℕ) → is_space b ≡ true → b < 128
space_is_ascii b e =
    either ((b == 32) || (b == 9)) (is_line_break b) (b < 128)
    (either (b == 32) (b == 9) (b < 128) (λ h. small 32 (eqb-true b 32 h) (omega arith)) (λ h. small 9 (eqb-true b 9 h) (omega arith)))
    (either (b == 13) (b == 10) (b < 128) (λ h. small 13 (eqb-true b 13 h) (omega arith)) (λ h. small 10 (eqb-true b 10 h) (omega arith)))
    e
  where
    small : (n : ℕ) → b ≡ n → n < 128 → b < 128
    small n same lt = omega arith

pub start_more : (xs : List ℕ) (i : ℕ) → i < length xs → is_space (get_or xs i 0) ≡ true
    → trim_start (drop (i + 1) xs) ≡ trim_start (drop i xs)
start_more xs i lt is =
    let next : i + 1 ≡ suc i = omega arith in
    ap (λ n. trim_start (drop n xs)) next
    ∙ sym (ap trim_start (drop-cons xs i 0 lt) ∙ ap (λ (b : Bool). if b then trim_start (drop (suc i) xs) else get_or xs i 0 ∷ drop (suc i) xs) is)

last_first : (xs : List ℕ) (i : ℕ) → i < length xs → reverse (take (suc i) xs) ≡ get_or xs i 0 ∷ reverse (take i xs)
last_first xs i lt = ap reverse (take-suc xs i 0 lt) ∙ reverse-append (take i xs) (get_or xs i 0 ∷ [])

pub end_more : (xs : List ℕ) (i : ℕ) → i < length xs → is_space (get_or xs i 0) ≡ true
    → trim_end (take i xs) ≡ trim_end (take (suc i) xs)
end_more xs i lt is =
    sym (ap (λ ys. reverse (trim_start ys)) (last_first xs i lt) ∙ ap (λ (b : Bool). reverse (if b then trim_start (reverse (take i xs)) else get_or xs i 0 ∷ reverse (take i xs))) is)
