-- A call that hands on the fault of a step.
use Rattle.std.proofs.Common.{◌≡◌, Result, Ok, Err, sym, subst}
use Rattle.office.proofs.Common.{IsErr, IsErrAnd}

-- what holds of a call that failed with this fault, holds of its result
pub handed_on : {X E : Type 0} (P : Result X E → Type 0) (r : Result X E) (e : E) → IsErr r × IsErrAnd r (λ f. f ≡ e)
    → P (Err e) → P r
handed_on P (Ok x) e handed it = let never = handed.0 in absurd (cc)
handed_on P (Err f) e handed it = subst (λ f. P (Err f)) (sym handed.1) it
