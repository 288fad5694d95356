-- What a query's records are.
use Rattle.std.proofs.Common.{◌≡◌, inl, inr, ℕ, List, map, sym, subst, Result, Ok, Err, IfErr}
use Rattle.sqlite.specs.State.{Shown, FailsToQuery}
use Rattle.office_tables.specs.Faults.{HasCause}
use Rattle.office_tables.proofs.Common.{AllByRecursion, Error, Misses, Row, State, StoreFault, fault_of}

-- every fault of a query has its cause, where its rows are legible records
pub all_caused : {A X : Type 0} (cells : A → Row) (IsLegible : A → Type 0) (sql : List ℕ) (params : Row) (old new : State) (r : Result X StoreFault)
    → IfErr r (Misses cells IsLegible sql params old new)
    → ((e : Error) → FailsToQuery sql params old new e → HasCause old new (fault_of e))
    → ((rows : List Row) → Shown sql params old new rows → (xs : List A) × (rows ≡ map cells xs) × AllByRecursion IsLegible xs)
    → IfErr r (HasCause old new)
all_caused cells IsLegible sql params old new (Ok x) missed why legible = tt
all_caused cells IsLegible sql params old new (Err e) (inl h) why legible =
    subst (HasCause old new) (sym h.1) (why h.0 h.2)
all_caused cells IsLegible sql params old new (Err e) (inr h) why legible = let it = legible h.0 h.1 in subst (HasCause old new) (sym (h.2 it.0 it.1 it.2)) tt
