-- The causes of the faults of a call's later steps.
use Rattle.std.proofs.Common.{Ok, Err, Result, IfErr, OnErr}
use Rattle.office_tables.specs.Faults.{HasCause}
use Rattle.office_tables.proofs.Common.{Continues, HasCleanDisk, IsAborted, State, StoreFault}
use Rattle.office_tables.proofs.Calls.{early}
use Rattle.office_tables.proofs.Causes.{cause_then}

-- the fault of the last step, whose result is the call's; before that step the disk was clean
pub last_cause : {X : Type 0} (a b c : State) → Continues a b → (r : Result X StoreFault) → OnErr r (IsAborted b c)
    → HasCleanDisk c → (HasCleanDisk b → IfErr r (HasCause b c)) → IfErr r (HasCause a c)
last_cause a b c p (Ok x) cut clean h = tt
last_cause a b c p (Err e) cut clean h = let before = early cut.crash clean in cause_then a b c p before e (h before)

-- the fault of a step after which the call ends
pub next_cause : (a b c : State) → Continues a b → IsAborted b c → HasCleanDisk c → (e : StoreFault)
    → (HasCleanDisk b → HasCause b c e) → HasCause a c e
next_cause a b c p cut clean e h = let before = early cut.crash clean in cause_then a b c p before e (h before)
