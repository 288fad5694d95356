-- How a transaction begins and ends.
use Rattle.std.specs.Prelude.{◌≡◌, ◌⊎◌, false, IsTrue}
use Rattle.sqlite.specs.State.{State, IsUnchanged, IsRolledBack}
use Rattle.office_tables.specs.Step.{IsBack}

-- nothing was done, or everything since the last commit was rolled back
abbrev pub IsStopped : State → State → Type 0
IsStopped old new = IsUnchanged old new ⊎ IsRolledBack old new

-- what the connection saw is committed, and no transaction is open any more
pub record Committed (old new : State) : Type 0 where
  pub was_open : IsTrue old.is_open
  pub is_open : IsTrue new.is_open
  pub now : new.now ≡ old.now
  pub committed : new.committed ≡ old.now
  pub ended : new.in_transaction ≡ false

-- a call has ended the transaction without a commit, whether one was open or not
pub record IsEnded (old new : State) : Type 0 where
  pub back : IsTrue old.in_transaction → IsBack old new
  pub nothing : old.in_transaction ≡ false → IsStopped old new
