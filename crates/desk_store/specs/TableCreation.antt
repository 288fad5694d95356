-- The schema while the desk's tables are created: after those of the readers, then of the orders, then of the runs. The
-- table of the permits comes last.
use Rattle.std.specs.Prelude.{[], ◌∷◌, Result, OnOk, OnErr, IfErr}
use Rattle.sqlite_trees.specs.declared.store.Store as store
use Rattle.sqlite.specs.Effect.{Database}
use Rattle.sqlite.specs.Held.{Held, state}
use Rattle.sqlite.specs.State.{State, HasCleanDisk}
use Rattle.sqlite.specs.Schema.{Schema}
use Rattle.sqlite_catalog.specs.Listing.{automatic}
use Rattle.office_tables.specs.Creation.{IsMaking}
use Rattle.office_tables.specs.Faults.{HasCause}
use Rattle.office_tables.specs.Step.{Continues, IsAborted}
use Rattle.office_tables.specs.declared.fault.StoreFault.{StoreFault}
use Rattle.office_tables.specs.Schema.{reader, seat, orders, holding, run, run_line, waiting_key, placed_key, live_key}

abbrev pub reader_schema : Schema
reader_schema = record { tables = reader ∷ seat ∷ []; indexes = automatic seat 0 (2 ∷ []) 2 ∷ []; views = [] }

abbrev pub order_schema : Schema
order_schema = record {
  tables = reader ∷ seat ∷ orders ∷ [];
  indexes = automatic seat 0 (2 ∷ []) 2 ∷ automatic orders 0 waiting_key 4 ∷ automatic orders 1 placed_key 5 ∷ automatic orders 2 live_key 6 ∷ [];
  views = [];
}

abbrev pub run_schema : Schema
run_schema = record {
  tables = reader ∷ seat ∷ orders ∷ holding ∷ run ∷ run_line ∷ [];
  indexes = automatic seat 0 (2 ∷ []) 2 ∷ automatic orders 0 waiting_key 4 ∷ automatic orders 1 placed_key 5 ∷ automatic orders 2 live_key 6
      ∷ automatic run_line 0 (1 ∷ 2 ∷ []) 10 ∷ [];
  views = [];
}

-- What a step of the creation makes of a store that has the tables made so far and no others: the tables of the next schema.
-- If it fails, there is a cause, and the transaction goes on or was rolled back.
module _ {S : Type 0} (g : store.Ghosts S) (here next : Schema) (before after : Held S) (r : Result Unit StoreFault) where
  abbrev old : State
  old = state g before

  abbrev new : State
  new = state g after

  pub record Makes : Type 0 where
    pub made : (start : Database) → IsMaking [] here start old → OnOk r (Continues old new × IsMaking [] next start new)
    pub faults : (start : Database) → IsMaking [] here start old → HasCleanDisk new → IfErr r (HasCause old new)
    pub aborts : (start : Database) → IsMaking [] here start old → OnErr r (IsAborted old new)
