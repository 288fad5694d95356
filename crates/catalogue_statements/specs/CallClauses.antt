-- Clauses of a call of one or more statements, each said of the connection before it and after it.
use Rattle.std.specs.Prelude.{ℕ, ⊤, List, Result, IfOk, OnOk}
use Rattle.sqlite_trees.specs.declared.store.Store as store
use Rattle.sqlite.specs.Effect.{Database}
use Rattle.sqlite.specs.Held.{Held, state}
use Rattle.sqlite.specs.Tree.{Trees}
use Rattle.sqlite.specs.State.{HasCleanDisk}
use Rattle.office_tables.specs.ChangeStatement.{LeavesOr}
use Rattle.office_tables.specs.Faults.{FaultsHaveCause}
use Rattle.office_tables.specs.Query.{Reads}
use Rattle.office_tables.specs.Step.{IsSame, OnlyTouches}
use Rattle.office_tables.specs.declared.fault.StoreFault.{StoreFault}

infix 1 ◌makes◌ ◌within◌makes◌
-- it reads, and changes no row
abbrev pub OnlyReads : {S X : Type 0} → store.Ghosts S → Held S → Held S → Result X StoreFault → Type 0
OnlyReads g before after r = Reads (state g before) (state g after) r

-- if it succeeds, only the tables with these trees may have other rows
abbrev pub ChangesOnly : {S X : Type 0} → store.Ghosts S → List ℕ → Held S → Held S → Result X StoreFault → Type 0
ChangesOnly g touched before after r = HasCleanDisk (state g after) → OnOk r (OnlyTouches touched (state g before).now (state g after).now)

-- every fault has its cause, if the disk is clean and no limit is set
abbrev pub FailsWithCause : {S X : Type 0} → store.Ghosts S → Held S → Held S → Result X StoreFault → Type 0
FailsWithCause g before after r = FaultsHaveCause (state g before) (state g after) r

-- where the tables represent a model, it succeeds only if it may take this model
abbrev pub AcceptsOnly : {S X Stays Model : Type 0} → store.Ghosts S → (Database → Stays → Model → Type 0) → Held S → Held S → Result X StoreFault → (Model → Type 0) → Type 0
AcceptsOnly {S} {X} {Stays} {Model} g represents before after r may = HasCleanDisk (state g after) → (s : Stays) (m : Model) → represents (state g before).now s m → OnOk r (may m)

-- A call of several statements. It touches the tables with these trees only, also if it fails.
pub record WritesOnly {S X : Type 0} (g : store.Ghosts S) (touched : List ℕ) (before after : Held S) (r : Result X StoreFault) : Type 0 where
  pub leaves : LeavesOr (OnlyTouches touched) (state g before) (state g after) r
  pub only : ChangesOnly g touched before after r

-- Where the tables hold one thing, such as a list of rows, a call makes another of it. If it succeeds, it touches the tables
-- with these trees only; if it fails, the rows are as `Left` says. If the tables and what they hold are within the
-- bounds, every fault has a cause.
pub record WritesOr {S M X : Type 0} (g : store.Ghosts S) (touched : List ℕ) (Left : Database → Database → Type 0) (holds : Trees → M → Type 0) (before after : Held S) (r : Result X StoreFault) (bounds : Trees → M → Type 0) (made : M → X → Trees → Type 0) : Type 0 where
  pub leaves : LeavesOr Left (state g before) (state g after) r
  pub only : ChangesOnly g touched before after r
  pub makes : HasCleanDisk (state g after) → (m : M) → holds (state g before).now.trees m → IfOk r (λ x. made m x (state g after).now.trees)
  pub faults : (m : M) → holds (state g before).now.trees m → bounds (state g before).now.trees m → FailsWithCause g before after r

-- a call of several statements, which touches the tables with these trees only, also if it fails
abbrev pub Writes : {S M X : Type 0} → store.Ghosts S → List ℕ → (Trees → M → Type 0) → Held S → Held S → Result X StoreFault → (Trees → M → Type 0) → (M → X → Trees → Type 0) → Type 0
Writes g touched holds before after r bounds made = WritesOr g touched (OnlyTouches touched) holds before after r bounds made

-- a call that writes by one statement at most: if it fails, every row is as it was
abbrev pub WritesAtOnce : {S M X : Type 0} → store.Ghosts S → List ℕ → (Trees → M → Type 0) → Held S → Held S → Result X StoreFault → (Trees → M → Type 0) → (M → X → Trees → Type 0) → Type 0
WritesAtOnce g touched holds before after r bounds made = WritesOr g touched IsSame holds before after r bounds made

-- how a contract names the parts of `Writes` and `WritesAtOnce`: what it makes, and the bounds in which each of its faults
-- has a cause, if there are any
abbrev pub ◌makes◌ : {M X : Type 0} → ((bounds : Trees → M → Type 0) → (M → X → Trees → Type 0) → Type 0) → (M → X → Trees → Type 0) → Type 0
call makes effect = call (λ _ _. ⊤) effect

abbrev pub ◌within◌makes◌ : {M X : Type 0} → ((bounds : Trees → M → Type 0) → (M → X → Trees → Type 0) → Type 0) → (Trees → M → Type 0) → (M → X → Trees → Type 0) → Type 0
call within bounds makes effect = call bounds effect
