-- A DELETE and an UPDATE touch no other table, whatever rows there are.
use Rattle.std.proofs.Common.{◌≡◌, ℕ, List, [], ◌∷◌, length, false, true, refl, Some, Result, OnOk, slice_get}
use Rattle.sqlite.specs.Command.TheVariants.{Delete}
use Rattle.sqlite.specs.Listing.{understood}
use Rattle.office_tables.specs.Schema.{Version}
use Rattle.office_tables.proofs.Common.{Means, OnlyTouches, Program, Ran, Row, State, StoreFault, Table, Update}
use Rattle.office_tables.proofs.Common.{mode_of, runs_as, schema, statement_of}
use Rattle.office_tables.proofs.RowWrites.{ran_well}
use Rattle.office_tables.proofs.Steps.{deleted, Deleted, updated_with, Updated, is_referred_to, plain}
use Rattle.office_tables.proofs.Touching.{touched}
use Rattle.office_tables.proofs.ParentUpdates.{no_works_on_update, as_many, updates_freely}
use Rattle.office_tables.proofs.UpdateCauses.{IsIdle}

all_free : (v : Version) → updates_freely (schema v) ≡ true
all_free v = refl

-- no action of a foreign key is set off
pub idle : (v : Version) (s : State) (table : Table) → IsIdle (schema v) (mode_of s) table s.now.trees
idle v s table rows = no_works_on_update (schema v) 0 table.tree _ _ (all_free v) (as_many s.now.trees table rows)

module _ (v : Version) (at : ℕ) (table : Table) (there : slice_get (schema v).tables at ≡ Some (plain table)) (sql : List ℕ) (q : Program) (params : Row) (old new : State) (has : old.now.schema ≡ schema v) where
  pub delete_only : is_referred_to (schema v) table.tree ≡ false → Means v sql (length params) (Delete at q)
      → (r : Result Unit StoreFault) → Ran sql params old new r → OnOk r (OnlyTouches (table.tree ∷ []) old.now new.now)
  delete_only alone means r ran = ran_well sql params old new r _ ran (λ count h.
      let wrote = runs_as sql params old new (schema v) has (Delete at q) means.is means.plain count h in
      let it : Deleted (schema v) at table there (mode_of old) params q old.now new.now =
      deleted (schema v) at table there old.step_limit (mode_of old) params (statement_of sql (understood (schema v) sql)) q old.now new.now wrote.tally alone has wrote.changed in
      touched v old.now new.now table.tree it.applies.tables)

  pub update_only : Means v sql (length params) (Update at q) → (r : Result Unit StoreFault) → Ran sql params old new r
      → OnOk r (OnlyTouches (table.tree ∷ []) old.now new.now)
  update_only means r ran = ran_well sql params old new r _ ran (λ count h.
      let wrote = runs_as sql params old new (schema v) has (Update at q) means.is means.plain count h in
      let it : Updated (schema v) at table there (mode_of old) params q old.now new.now =
      updated_with (schema v) at table there old.step_limit (mode_of old) params (statement_of sql (understood (schema v) sql)) q old.now new.now wrote.tally (idle v old (plain table)) has wrote.changed in
      touched v old.now new.now table.tree it.applies.tables)
