-- One of our queries: what it returns, and what it leaves.
use Rattle.std.specs.Prelude.{◌≡◌, ◌⊎◌, ℕ, pos, List, [], ◌∷◌, map, slice_index_or, Result, IfOk, IfErr, OnOk, OnErr}
use Rattle.std.specs.Prelude.{IsTrue}
use Rattle.std.specs.List.{AllByRecursion}
use Rattle.sqlite.specs.Order.{Row}
use Rattle.sqlite.specs.Command.{Command}
use Rattle.sqlite.specs.State.{State, HasCleanDisk, Shown, FailsToQuery, IsUnchanged, Survives}
use Rattle.sqlite.specs.declared.error.Error.{Error}
use Rattle.sqlite.specs.declared.types.Value.TheVariants.{Int}
use Rattle.office_tables.specs.ChangeStatement.{IsOutside}
use Rattle.office_tables.specs.Faults.{fault_of}
use Rattle.office_tables.specs.StatementMeaning.{Means}
use Rattle.office_tables.specs.Schema.{Version, schema}
use Rattle.office_tables.specs.Step.{LeavesUnchanged, IsAborted, Spares, IsSame}
use Rattle.office_tables.specs.declared.fault.StoreFault.{StoreFault}
use Rattle.office_tables.specs.declared.fault.StoreFault.TheVariants as fault

-- The text is known; while the disk is clean, the tables are ours and a transaction is open.
pub record IsOurQuery (sql : List ℕ) (s : State) : Type 0 where
  pub count : ℕ
  pub command : Command
  pub here : HasCleanDisk s → (v : Version) × (s.now.schema ≡ schema v) × IsTrue s.in_transaction × Means v sql count command

-- The text is known. With the tables of this version it means this command.
pub record IsQuery (version : Version) (sql : List ℕ) : Type 0 where
  pub count : ℕ
  pub command : Command
  pub means : Means version sql count command

-- What a call that reads leaves: nothing is changed; or the call fails, the disk is blamed for its own failures only,
-- and every row is as it was or the transaction was rolled back.
pub record Reads {X : Type 0} (old new : State) (r : Result X StoreFault) : Type 0 where
  pub crash : Survives old new (λ _. ⊥)
  pub looks : OnOk r (LeavesUnchanged old new)
  pub aborts : OnErr r (IsAborted old new)
  pub spares : HasCleanDisk new → IfErr r (Spares IsSame old new)

-- these are the records of the rows that the query shows
pub record Finds {A : Type 0} (cells : A → Row) (sql : List ℕ) (params : Row) (old new : State) (found : List A) : Type 0 where
  pub rows : List Row
  pub shown : Shown sql params old new rows
  pub are : (xs : List A) → rows ≡ map cells xs → found ≡ xs

-- this is the number in the first row that the query shows, or 0 if it shows no row
pub record FindsFirst (sql : List ℕ) (params : Row) (old new : State) (found : ℕ) : Type 0 where
  pub rows : List Row
  pub shown : Shown sql params old new rows
  pub is : (xs : List ℕ) → rows ≡ map (λ n. Int (pos n) ∷ []) xs → found ≡ slice_index_or xs 0 0

-- the query was refused; or, if its rows are such records, they were not read for want of memory
abbrev pub Misses : {A : Type 0} → (A → Row) → (A → Type 0) → List ℕ → Row → State → State → StoreFault → Type 0
Misses {A} cells IsLegible sql params old new e =
    ((why : Error) × (e ≡ fault_of why) × FailsToQuery sql params old new why)
    ⊎ ((rows : List Row) × Shown sql params old new rows × ((xs : List A) → rows ≡ map cells xs → AllByRecursion IsLegible xs → e ≡ fault.Memory))

-- this is what the rows that the query shows come to, one after another
pub record Gathers {G : Type 0} (Holds : List Row → G → Type 0) (sql : List ℕ) (params : Row) (old new : State) (all : G) : Type 0 where
  pub rows : List Row
  pub shown : Shown sql params old new rows
  pub holds : Holds rows all

-- there was no memory for it, and nothing is changed; or the query was refused
abbrev pub StopsShort : List ℕ → Row → State → State → StoreFault → Type 0
StopsShort sql params old new e =
    ((e ≡ fault.Memory) × IsUnchanged old new) ⊎ ((why : Error) × (e ≡ fault_of why) × FailsToQuery sql params old new why)

-- what a query over the tables of this version returned, or why it failed; or no transaction is open
abbrev pub FoundInside : {X : Type 0} → Version → State → (X → Type 0) → (StoreFault → Type 0) → Result X StoreFault → Type 0
FoundInside version old Found Missed r = IsOutside old r ⊎ ((old.now.schema ≡ schema version) × IfOk r Found × IfErr r Missed)
