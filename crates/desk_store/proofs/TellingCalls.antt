-- A call of the store that reads in several steps, of whatever the tables show.
use Rattle.std.proofs.Common.{◌≡◌, Result, Ok, Err}
use Rattle.sqlite_trees.specs.declared.store.Store as store
use Rattle.office_tables.proofs.StoreCalls.{tells_well}
use Rattle.office_tables.specs.declared.fault.StoreFault.TheVariants.{Memory}
use Rattle.desk_store.proofs.Common.{Database, HasCause, HasCleanDisk, Held, IsAborted, IsSame, IsUnlimited}
use Rattle.desk_store.proofs.Common.{LeavesUnchanged, Spares, State, StoreAnswers, StoreFault, cut_after, spares_full}
use Rattle.desk_store.proofs.Common.{state, tells_cut, tells_not, ⊤}
use Rattle.desk_store.proofs.ToldCalls.{shown_on}

module _ {Model : Type 0} {represents : Database → ⊤ → Model → Type 0} {S Y : Type 0} {kept may : Model → Type 0} {g : store.Ghosts S} {before after : Held S} {b : State} {answer : ⊤ → Model → Y → Type 0} where
  -- it ends with the fault of a step
  pub ends_not : LeavesUnchanged (state g before) b → {e : StoreFault}
      → IsAborted b (state g after) → (HasCleanDisk (state g after) → Spares IsSame b (state g after) e)
      → ((m : Model) → represents b.now tt m → may m → kept m → HasCleanDisk (state g after) → IsUnlimited b → HasCause b (state g after) e)
      → {r : Result Y StoreFault} → r ≡ Err e → StoreAnswers g represents before after r may kept answer
  ends_not looked {e = e} cut spares why {r = r} is =
      tells_cut is looked cut spares
      (λ beside m shown allowed legible cleaner clean free. why m (shown_on represents looked cleaner m shown) allowed legible clean free)

module _ {Model : Type 0} {represents : Database → ⊤ → Model → Type 0} {S Y : Type 0} {kept may : Model → Type 0} {g : store.Ghosts S} {before after : Held S} {answer : ⊤ → Model → Y → Type 0} where
  -- it ends with what was read
  pub ends_well : LeavesUnchanged (state g before) (state g after) → (y : Y)
      → (HasCleanDisk (state g after) → (m : Model) → represents (state g before).now tt m → answer tt m y)
      → StoreAnswers g represents before after (Ok y) may kept answer
  ends_well looked y is = tells_well looked (λ clean beside m shown. is clean m shown)

  -- there was no memory for what was read
  pub ends_full : LeavesUnchanged (state g before) (state g after) → {r : Result Y StoreFault} → r ≡ Err Memory
      → StoreAnswers g represents before after r may kept answer
  ends_full looked {r = r} is = tells_not is (cut_after looked.goes.on) (spares_full looked) (λ beside m shown allowed legible clean free. tt)
