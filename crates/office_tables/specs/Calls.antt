-- What a call promises about tables that represent a model: a catalogue, or a desk.
use Rattle.std.specs.Prelude.{ℕ, ⊤, List, Result, IfOk, IfErr, OnOk, OnErr}
use Rattle.sqlite_trees.specs.declared.store.Store as store
use Rattle.sqlite.specs.Effect.{Database}
use Rattle.sqlite.specs.Tree.{Trees}
use Rattle.sqlite.specs.Held.{Held, state}
use Rattle.sqlite.specs.State.{HasCleanDisk}
use Rattle.office_tables.specs.Faults.{FaultsHaveCause}
use Rattle.office_tables.specs.Step.{Goes, IsAborted, LeavesUnchanged, OnlyTouches, Spares, IsSame}
use Rattle.office_tables.specs.declared.fault.StoreFault.{StoreFault}

-- the rows represent the model, with nothing beside it
abbrev pub RepresentsAlone : {Model : Type 0} → (Trees → Model → Type 0) → Database → ⊤ → Model → Type 0
RepresentsAlone represents db beside m = represents db.trees m

-- In each record the tables represent the model beside what stays, such as the settings of the office. `Premises` has
-- the words by which a contract names the parts.

module _ {S X Stays Model : Type 0} (g : store.Ghosts S) (touched : List ℕ) (represents : Database → Stays → Model → Type 0) (before after : Held S) (r : Result X StoreFault) (needs bounds : Model → Type 0) (made : Model → Model) where
  -- A call makes another model of one that is as it needs, and touches these tables only. Of such a model within the
  -- bounds, it fails only for want of memory, because of the disk, or outside a transaction. The transaction then goes
  -- on, or was rolled back.
  pub record Updates : Type 0 where
    pub represents_updated : HasCleanDisk (state g after) → (s : Stays) (m : Model) → represents (state g before).now s m → needs m → OnOk r (represents (state g after).now s (made m))
    pub only : HasCleanDisk (state g after) → OnOk r (OnlyTouches touched (state g before).now (state g after).now)
    pub goes : OnOk r (Goes (state g before) (state g after))
    pub aborts : OnErr r (IsAborted (state g before) (state g after))
    pub faults : (s : Stays) (m : Model) → represents (state g before).now s m → needs m → bounds m → FaultsHaveCause (state g before) (state g after) r

  -- The same of a call of a store. If it fails and the transaction goes on, it has touched these tables only, whatever
  -- the rows are; and it says `Disk` only if the disk failed, now or earlier.
  pub record StoreUpdates : Type 0 where
    pub call : Updates
    pub open call use *
    pub spares : HasCleanDisk (state g after) → IfErr r (Spares (OnlyTouches touched) (state g before) (state g after))

module _ {S X Stays Model : Type 0} (g : store.Ghosts S) (represents : Database → Stays → Model → Type 0) (before after : Held S) (r : Result X StoreFault) (more bounds : Model → Type 0) (answer : Stays → Model → X → Type 0) where
  -- A call answers this of the model, and changes nothing. Within both bounds it fails only for want of memory, because
  -- of the disk, or outside a transaction. The transaction then goes on, or was rolled back.
  pub record Answers : Type 0 where
    pub answers : HasCleanDisk (state g after) → (s : Stays) (m : Model) → represents (state g before).now s m → IfOk r (answer s m)
    pub looks : OnOk r (LeavesUnchanged (state g before) (state g after))
    pub aborts : OnErr r (IsAborted (state g before) (state g after))
    pub faults : (s : Stays) (m : Model) → represents (state g before).now s m → more m → bounds m → FaultsHaveCause (state g before) (state g after) r

  -- The same of a call of a store. If it fails and the transaction goes on, every row is as it was, whatever the rows
  -- are; and it says `Disk` only if the disk failed, now or earlier.
  pub record StoreAnswers : Type 0 where
    pub call : Answers
    pub open call use *
    pub spares : HasCleanDisk (state g after) → IfErr r (Spares IsSame (state g before) (state g after))
