use Rattle.std.proofs.Common.{◌≡◌, ◌<◌, ◌∙◌, ℕ, zero, suc, pos, negsuc, [], ◌∷◌, length, Result, Ok, Err, None, refl}
use Rattle.std.proofs.Common.{sym, ap, arith}
use Rattle.std.proofs.lemmas.Bool.{false≢true}
use Rattle.std.specs.Prelude.{IfOk, IsOk}
use Rattle.std.specs.Result.{result_ok}
use Rattle.sqlite.specs.declared.types.Value.{Value}
use Rattle.sqlite.specs.declared.types.Value.TheVariants.{Null, Int, Real, Text, Blob}
use Rattle.row_decoding.proofs.Common.{Row, StoreFault, column, number_in}
use Rattle.row_decoding.proofs.cells.number_of.Goals as goal

-- a column with a number is there
there : (row : Row) (at n : ℕ) → column row at ≡ Int (pos n) → at < length row
there [] at n is = absurd (cc)
there (v ∷ row) zero n is = omega arith
there (v ∷ row) (suc at) n is = let low = there row at n is in omega (arith, low)

-- what was read of it, whether there is a number or not
read : (row : Row) (at : ℕ) (r : Result ℕ StoreFault) → IfOk r (λ n. column row at ≡ Int (pos n))
    → ((n : ℕ) → at < length row → column row at ≡ Int (pos n) → IsOk r) → result_ok r ≡ number_in (column row at)
read row at (Ok n) is known = sym (ap number_in is)
read row at (Err e) is known = none (column row at) refl
  where
    none : (v : Value) → column row at ≡ v → None ≡ number_in v
    none (Int (pos n)) here = absurd (false≢true (known n (there row at n here) here))
    none (Int (negsuc n)) here = refl
    none Null here = refl
    none (Real x) here = refl
    none (Text t) here = refl
    none (Blob b) here = refl

pub returns : goal.returns
returns c =
    let told = c.number_at.ensures in
    c.ok.ensures.value ∙ read c.args.row.now c.args.at c.number_at.result told.value told.known
