use Rattle.std.proofs.Common.{rules, ◌≡◌, ◌≢◌, inl, inr, ◌<◌, pos, List, [], ◌∷◌, Some, None, slice_get, length, sym}
use Rattle.std.proofs.Common.{ap, subst, ◌∙◌, arith}
use Rattle.sqlite.specs.Reading.{IsReadError}
use Rattle.sqlite.specs.declared.error.ErrorCode.TheVariants.{OutOfMemory}
use Rattle.office_tables.specs.declared.fault.StoreFault.TheVariants as fault
use Rattle.office_tables.proofs.Common.{Error, Int, Row, SqliteFailure, Value, column, fault_of}
use Rattle.office_tables.proofs.from_row.first_or_zero.Goals as goal

-- a cell that can be read fails for want of memory alone
only_memory : (value : Value) (e : Error) → IsReadError 0 value e → (e ≢ SqliteFailure OutOfMemory → ⊥) → e ≡ SqliteFailure OutOfMemory
only_memory value e (inl is) none = absurd (none (λ same. let clash = sym is ∙ same in cc))
only_memory value e (inr (inl is)) none = absurd (none (λ same. let clash = sym is ∙ same in cc))
only_memory value e (inr (inr (inl is))) none = absurd (none (λ same. let clash = sym is ∙ same in cc))
only_memory value e (inr (inr (inr (inl is)))) none = absurd (none (λ same. let clash = sym is ∙ same in cc))
only_memory value e (inr (inr (inr (inr is)))) none = is

pub returns-in_err-get-in-Some-clause-faults : goal.returns-in_err-get-in-Some-clause-faults
returns-in_err-get-in-Some-clause-faults c [] is low =
    absurd (let none : None ≡ Some c.in-Some.row.now = sym (ap (λ (l : List Row). slice_get l 0) is) ∙ sym c.in-Some.ensures.value in cc)
returns-in_err-get-in-Some-clause-faults c (x ∷ xs) is low =
    let first : Some (Int (pos x) ∷ []) ≡ Some c.in-Some.row.now = sym (ap (λ (l : List Row). slice_get l 0) is) ∙ sym c.in-Some.ensures.value in
    let same : c.in-Some.row.now ≡ Int (pos x) ∷ [] = cc in
    let there : 0 < length c.in-Some.row.now = subst (λ (r : Row). 0 < length r) (sym same) (omega arith) in
    let read = only_memory (column c.in-Some.row.now 0) c.in_err-get-in-Some.field-0.0 c.in_err-get-in-Some.ensures.named
    (λ other. c.in_err-get-in-Some.ensures.kind other there (x, ap (λ (r : Row). column r 0) same, low.0)) in
    let why : fault_of c.in_err-get-in-Some.field-0.0 ≡ fault.Memory = ap fault_of read in
    search (rules, why)
