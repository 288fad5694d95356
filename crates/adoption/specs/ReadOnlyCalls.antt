-- What a call that makes several others leaves.
use Rattle.std.specs.Prelude.{Result, OnOk, OnErr}
use Rattle.sqlite.specs.State.{State, Survives}
use Rattle.office_tables.specs.Step.{LeavesUnchanged, IsAborted}
use Rattle.office_tables.specs.declared.fault.StoreFault.{StoreFault}

-- nothing is changed, or the transaction was aborted
pub record Looks {X : Type 0} (old new : State) (r : Result X StoreFault) : Type 0 where
  pub crash : Survives old new (λ _. ⊥)
  pub looks : OnOk r (LeavesUnchanged old new)
  pub aborts : OnErr r (IsAborted old new)
