-- What one statement does, from what became of its text. While the disk is clean, the tables are those of a version.
use Rattle.std.proofs.Common.{◌≡◌, ◌⊎◌, inl, inr, ℤ, List, [], ◌∷◌, map, Result, Ok, IfOk, IfErr, OnOk, sym, subst}
use Rattle.sqlite_trees.specs.declared.store.Store as store
use Rattle.office_tables.specs.Faults.{HasCause}
use Rattle.office_tables.specs.NumberedStatements.{PutsNumbered, ThinsNumbered}
use Rattle.office_tables.specs.TableStatements.{LooksUp, Puts, Changes, Thins}
use Rattle.office_tables.specs.Versions.{Version}
use Rattle.office_tables.proofs.Common.{HasCleanDisk, HasRows, Held, Holds, HoldsNumbered, IsOutside, IsUnlimited}
use Rattle.office_tables.proofs.Common.{Leaves, OnlyTouches, PutsRow, Reads, Row, State, StoreFault, Table, next_rowid}
use Rattle.office_tables.proofs.Common.{schema, state}

-- ---- what holds of a statement that ran, holds as well where none ran

pub answered : {X Y : Type 0} (old : State) (r : Result X StoreFault) (P : X → Type 0) → IsOutside old r ⊎ Y
    → (Y → IfOk r P) → IfOk r P
answered old r P (inl outside) then = subst (λ r. IfOk r P) (sym outside.1) tt
answered old r P (inr it) then = then it

pub done : {X Y : Type 0} (old : State) (r : Result X StoreFault) (P : Type 0) → IsOutside old r ⊎ Y → (Y → OnOk r P)
    → OnOk r P
done old r P (inl outside) then = subst (λ r. OnOk r P) (sym outside.1) tt
done old r P (inr it) then = then it

pub caused : {X Y : Type 0} (old new : State) (r : Result X StoreFault) → IsOutside old r ⊎ Y
    → (Y → IfErr r (HasCause old new)) → IfErr r (HasCause old new)
caused old new r (inl outside) then = subst (λ r. IfErr r (HasCause old new)) (sym outside.1) outside.0
caused old new r (inr it) then = then it

-- where a call succeeded, a transaction was open
pub found_in : {X Y : Type 0} (old : State) (x : X) → IsOutside old (Ok x) ⊎ Y → Y
found_in old x (inl outside) = absurd (let clash = outside.1 in cc)
found_in old x (inr it) = it

-- ---- one statement: with the tables of one version, and with those of either
module _ {S X : Type 0} {g : store.Ghosts S} {before after : Held S} {r : Result X StoreFault} where
  pub looks_up_in : {M F N : Type 0} {holds : State → M → Type 0} {orderly kept : M → Type 0} {answer : M → X → Type 0} (v : Version)
      → Reads (state g before) (state g after) r
      → (HasCleanDisk (state g after) → IsOutside (state g before) r ⊎ (((state g before).now.schema ≡ schema v) × F × N))
      → ((state g before).now.schema ≡ schema v → F → (m : M) → holds (state g before) m → orderly m → IfOk r (answer m))
      → ((state g before).now.schema ≡ schema v → N → (m : M) → holds (state g before) m → kept m → IsUnlimited (state g before) → IfErr r (HasCause (state g before) (state g after)))
      → LooksUp g holds before after r orderly kept answer
  looks_up_in v reads ran answers faults = record {
    reads = reads;
    answers = λ clean m held order. answered (state g before) r _ (ran clean) (λ it. answers it.0 it.1 m held order);
    faults = λ m held kept clean free. caused (state g before) (state g after) r (ran clean) (λ it. faults it.0 it.2 m held kept free);
  }

  pub looks_up : {M F N : Type 0} {holds : State → M → Type 0} {orderly kept : M → Type 0} {answer : M → X → Type 0} (v : Version)
      → Reads (state g before) (state g after) r
      → (HasCleanDisk (state g after) → IsOutside (state g before) r ⊎ (((state g before).now.schema ≡ schema v) × F × N))
      → ((v : Version) → (state g before).now.schema ≡ schema v → F → (m : M) → holds (state g before) m → orderly m → IfOk r (answer m))
      → ((v : Version) → (state g before).now.schema ≡ schema v → N → (m : M) → holds (state g before) m → kept m → IsUnlimited (state g before) → IfErr r (HasCause (state g before) (state g after)))
      → LooksUp g holds before after r orderly kept answer
  looks_up v reads ran answers faults = looks_up_in v reads ran (answers v) (faults v)

  pub puts_in : {R F : Type 0} {table : Table} {cells : R → Row} {added : R} {room : List R → Type 0} (v : Version)
      → Leaves (state g before) (state g after) r
      → (HasCleanDisk (state g after) → IsOutside (state g before) r ⊎ (((state g before).now.schema ≡ schema v) × F))
      → ((state g before).now.schema ≡ schema v → F → OnOk r (PutsRow table.tree (cells added) (state g before).now (state g after).now))
      → ((state g before).now.schema ≡ schema v → F → (xs : List R) → Holds table cells (state g before) xs → room xs → IsUnlimited (state g before) → IfErr r (HasCause (state g before) (state g after)))
      → Puts g table cells before after r added room
  puts_in v leaves ran puts faults = record {
    leaves = leaves;
    puts = λ clean. done (state g before) r _ (ran clean) (λ it. puts it.0 it.1);
    faults = λ xs held room clean free. caused (state g before) (state g after) r (ran clean) (λ it. faults it.0 it.1 xs held room free);
  }

  pub puts_row : {R F : Type 0} {table : Table} {cells : R → Row} {added : R} {room : List R → Type 0} (v : Version)
      → Leaves (state g before) (state g after) r
      → (HasCleanDisk (state g after) → IsOutside (state g before) r ⊎ (((state g before).now.schema ≡ schema v) × F))
      → ((v : Version) → (state g before).now.schema ≡ schema v → F → OnOk r (PutsRow table.tree (cells added) (state g before).now (state g after).now))
      → ((v : Version) → (state g before).now.schema ≡ schema v → F → (xs : List R) → Holds table cells (state g before) xs → room xs → IsUnlimited (state g before) → IfErr r (HasCause (state g before) (state g after)))
      → Puts g table cells before after r added room
  puts_row v leaves ran puts faults = puts_in v leaves ran (puts v) (faults v)

  pub changes_in : {R F : Type 0} {table : Table} {cells : R → Row} {orderly : List R → Type 0} {left : List R → List R} (v : Version)
      → Leaves (state g before) (state g after) r
      → (HasCleanDisk (state g after) → IsOutside (state g before) r ⊎ (((state g before).now.schema ≡ schema v) × F))
      → ((state g before).now.schema ≡ schema v → F → (xs : List R) → Holds table cells (state g before) xs → orderly xs → OnOk r (HasRows table.tree (map cells (left xs)) (state g before).now (state g after).now))
      → ((state g before).now.schema ≡ schema v → F → OnOk r (OnlyTouches (table.tree ∷ []) (state g before).now (state g after).now))
      → ((state g before).now.schema ≡ schema v → F → (xs : List R) → Holds table cells (state g before) xs → orderly xs → IsUnlimited (state g before) → IfErr r (HasCause (state g before) (state g after)))
      → Changes g table cells before after r orderly left
  changes_in v leaves ran rows only faults = record {
    leaves = leaves;
    rows = λ clean xs held order. done (state g before) r _ (ran clean) (λ it. rows it.0 it.1 xs held order);
    only = λ clean. done (state g before) r _ (ran clean) (λ it. only it.0 it.1);
    faults = λ xs held kept clean free. caused (state g before) (state g after) r (ran clean) (λ it. faults it.0 it.1 xs held kept free);
  }

  pub changes : {R F : Type 0} {table : Table} {cells : R → Row} {orderly : List R → Type 0} {left : List R → List R} (v : Version)
      → Leaves (state g before) (state g after) r
      → (HasCleanDisk (state g after) → IsOutside (state g before) r ⊎ (((state g before).now.schema ≡ schema v) × F))
      → ((v : Version) → (state g before).now.schema ≡ schema v → F → (xs : List R) → Holds table cells (state g before) xs → orderly xs → OnOk r (HasRows table.tree (map cells (left xs)) (state g before).now (state g after).now))
      → ((v : Version) → (state g before).now.schema ≡ schema v → F → OnOk r (OnlyTouches (table.tree ∷ []) (state g before).now (state g after).now))
      → ((v : Version) → (state g before).now.schema ≡ schema v → F → (xs : List R) → Holds table cells (state g before) xs → orderly xs → IsUnlimited (state g before) → IfErr r (HasCause (state g before) (state g after)))
      → Changes g table cells before after r orderly left
  changes v leaves ran rows only faults = changes_in v leaves ran (rows v) (only v) (faults v)

  pub thins_in : {R F : Type 0} {table : Table} {cells : R → Row} {orderly : List R → Type 0} {left : List R → List R} (v : Version)
      → Leaves (state g before) (state g after) r
      → (HasCleanDisk (state g after) → IsOutside (state g before) r ⊎ (((state g before).now.schema ≡ schema v) × F))
      → ((state g before).now.schema ≡ schema v → F → (xs : List R) → Holds table cells (state g before) xs → orderly xs → OnOk r (HasRows table.tree (map cells (left xs)) (state g before).now (state g after).now))
      → ((state g before).now.schema ≡ schema v → F → OnOk r (OnlyTouches (table.tree ∷ []) (state g before).now (state g after).now))
      → ((state g before).now.schema ≡ schema v → F → IsUnlimited (state g before) → IfErr r (HasCause (state g before) (state g after)))
      → Thins g table cells before after r orderly left
  thins_in v leaves ran rows only faults = record {
    leaves = leaves;
    rows = λ clean xs held order. done (state g before) r _ (ran clean) (λ it. rows it.0 it.1 xs held order);
    only = λ clean. done (state g before) r _ (ran clean) (λ it. only it.0 it.1);
    faults = λ clean free. caused (state g before) (state g after) r (ran clean) (λ it. faults it.0 it.1 free);
  }

  pub thins : {R F : Type 0} {table : Table} {cells : R → Row} {orderly : List R → Type 0} {left : List R → List R} (v : Version)
      → Leaves (state g before) (state g after) r
      → (HasCleanDisk (state g after) → IsOutside (state g before) r ⊎ (((state g before).now.schema ≡ schema v) × F))
      → ((v : Version) → (state g before).now.schema ≡ schema v → F → (xs : List R) → Holds table cells (state g before) xs → orderly xs → OnOk r (HasRows table.tree (map cells (left xs)) (state g before).now (state g after).now))
      → ((v : Version) → (state g before).now.schema ≡ schema v → F → OnOk r (OnlyTouches (table.tree ∷ []) (state g before).now (state g after).now))
      → ((v : Version) → (state g before).now.schema ≡ schema v → F → IsUnlimited (state g before) → IfErr r (HasCause (state g before) (state g after)))
      → Thins g table cells before after r orderly left
  thins v leaves ran rows only faults = thins_in v leaves ran (rows v) (only v) (faults v)

  pub puts_numbered : {R F : Type 0} {table : Table} {cells : ℤ × R → Row} {added : R} {room : State → List R → Type 0} (v : Version)
      → Leaves (state g before) (state g after) r
      → (HasCleanDisk (state g after) → IsOutside (state g before) r ⊎ (((state g before).now.schema ≡ schema v) × F))
      → ((v : Version) → (state g before).now.schema ≡ schema v → F → OnOk r (PutsRow table.tree (cells (next_rowid ((state g before).now.trees table.tree), added)) (state g before).now (state g after).now))
      → ((v : Version) → (state g before).now.schema ≡ schema v → F → (xs : List R) → HoldsNumbered table cells (state g before) xs → room (state g before) xs → IsUnlimited (state g before) → IfErr r (HasCause (state g before) (state g after)))
      → PutsNumbered g table cells before after r added room
  puts_numbered v leaves ran puts faults = record {
    leaves = leaves;
    puts = λ clean. done (state g before) r _ (ran clean) (λ it. puts v it.0 it.1);
    faults = λ xs held room clean free. caused (state g before) (state g after) r (ran clean) (λ it. faults v it.0 it.1 xs held room free);
  }

  pub thins_numbered : {R F : Type 0} {table : Table} {cells : ℤ × R → Row} {left : List R → List R} (v : Version)
      → Leaves (state g before) (state g after) r
      → (HasCleanDisk (state g after) → IsOutside (state g before) r ⊎ (((state g before).now.schema ≡ schema v) × F))
      → ((v : Version) → (state g before).now.schema ≡ schema v → F → (xs : List R) → HoldsNumbered table cells (state g before) xs → OnOk r (HoldsNumbered table cells (state g after) (left xs)))
      → ((v : Version) → (state g before).now.schema ≡ schema v → F → OnOk r (OnlyTouches (table.tree ∷ []) (state g before).now (state g after).now))
      → ((v : Version) → (state g before).now.schema ≡ schema v → F → IsUnlimited (state g before) → IfErr r (HasCause (state g before) (state g after)))
      → ThinsNumbered g table cells before after r left
  thins_numbered v leaves ran rows only faults = record {
    leaves = leaves;
    rows = λ clean xs held. done (state g before) r _ (ran clean) (λ it. rows v it.0 it.1 xs held);
    only = λ clean. done (state g before) r _ (ran clean) (λ it. only v it.0 it.1);
    faults = λ clean free. caused (state g before) (state g after) r (ran clean) (λ it. faults v it.0 it.1 free);
  }
