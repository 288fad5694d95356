-- What closed tables end as, once those that they lent are given back, or where no transaction began.
use Rattle.std.specs.Prelude.{◌≡◌, false, Result, IfErr}
use Rattle.std.specs.Borrow.{LendsSoOk, Fml, RattleType, MutBor}
use Rattle.sqlite_trees.specs.declared.store.Store as store
use Rattle.sqlite.specs.Held.{Held, state}
use Rattle.sqlite.specs.State.{State, HasCleanDisk, Survives}
use Rattle.office_tables.specs.Faults.{HasOuterCause}
use Rattle.office_tables.specs.Transactions.{IsStopped}
use Rattle.office_tables.specs.declared.fault.StoreFault.{StoreFault}
use Rattle.office_tables.specs.declared.versions.Versioned as versioned
use Rattle.office_tables.specs.contracts.tables.Closed as closed
use Rattle.office_tables.specs.contracts.tables.Tables as tables

-- no transaction has begun
pub record BeganNot {X : Type 0} (old new : State) (r : Result X StoreFault) : Type 0 where
  pub stopped : HasCleanDisk new → IsStopped old new
  pub faults : HasCleanDisk new → old.in_transaction ≡ false → IfErr r (HasOuterCause old new)
  pub crash : Survives old new (λ _. ⊥)

module _ (P S : RattleType) (p : versioned.Ghosts P.Denot) (s : store.Ghosts S.Denot) where
  abbrev pub LendsBegun : MutBor (Held S.Denot) → Result (MutBor (Held S.Denot)) StoreFault → Fml
  LendsBegun c r = LendsSoOk (closed.the_row P S p s) (tables.the_row P S p s) c r (λ n w. n ≡ w) (λ n. BeganNot (state s c.now) (state s n) r)
