-- What a statement that changes rows leaves.
use Rattle.std.proofs.Common.{◌≡◌, ℕ, List, true, false, Option, Some, None, Ok, Err, Result, IfErr, OnOk, refl, sym}
use Rattle.std.proofs.Common.{ap, subst, slice_get}
use Rattle.sqlite.specs.Command.TheVariants.{Delete}
use Rattle.sqlite.specs.Listing.{understood}
use Rattle.sqlite.specs.State.{CommitsBy, Writes}
use Rattle.office_tables.specs.ChangeStatement.{changes_rows}
use Rattle.office_tables.specs.Faults.{HasCause}
use Rattle.office_tables.proofs.Common.{AtPlace, BlamesDisk, Command, Database, Does, Error, Executes, Goes}
use Rattle.office_tables.proofs.Common.{HasCleanDisk, Insert, IsAborted, IsOurs, IsSame, Mode, OnRows, Ran, Row, Runs}
use Rattle.office_tables.proofs.Common.{Spares, State, StoreFault, Survives, Table, Tally, Update, fault_of, mode_of}
use Rattle.office_tables.proofs.Common.{runs_as, schema, statement_of}
use Rattle.office_tables.proofs.Calls.{early, Knows, known_in, is_write, write_cut, write_continues}
use Rattle.office_tables.proofs.Steps.{went, same_value}
use Rattle.office_tables.proofs.WriteCauses.{write_disk}
use Rattle.office_tables.proofs.Errors.{stops}
use Rattle.office_tables.proofs.Sparing.{spares_stopped}

at_rows : (limit : Option ℕ) (mode : Mode) (params : Row) (before after : Database) (tally : Tally) (command : Command) (table : Option Table)
    → AtPlace (λ t. OnRows (record { limit = limit; keys = mode.keys; schema = before.schema; table = t; params = params }) mode None command before.trees) table (Ok (tally, after))
    → after.schema ≡ before.schema
at_rows limit mode params before after tally command None h = absurd (cc)
at_rows limit mode params before after tally command (Some t) h =
    let done = went h in
    ap (λ (d : Database). d.schema) (ap (λ (p : Tally × Database). p.1) (same_value (went (went done.2).2).2))

keeps_schema : (limit : Option ℕ) (mode : Mode) (params : Row) (before after : Database) (text : List ℕ) (tally : Tally) (command : Command)
    → changes_rows command ≡ true
    → Does limit mode params before text None command (Ok (tally, after)) → after.schema ≡ before.schema
keeps_schema limit mode params before after text tally (Insert at from) is h =
    at_rows limit mode params before after tally (Insert at from) (slice_get before.schema.tables at) h
keeps_schema limit mode params before after text tally (Update at q) is h =
    at_rows limit mode params before after tally (Update at q) (slice_get before.schema.tables at) h
keeps_schema limit mode params before after text tally (Delete at q) is h =
    at_rows limit mode params before after tally (Delete at q) (slice_get before.schema.tables at) h
keeps_schema limit mode params before after text tally _ is h = absurd (let e : false ≡ true = is in cc)

as_write : (old new : State) (command : Command) (text : List ℕ) (params : Row) (count : ℕ)
    → changes_rows command ≡ true → Runs old new None command text params count
    → Writes old new None command text params count
as_write old new (Insert at from) text params count is h = h
as_write old new (Update at q) text params count is h = h
as_write old new (Delete at q) text params count is h = h
as_write old new _ text params count is h = absurd (let e : false ≡ true = is in cc)

is_one : (command : Command) → changes_rows command ≡ true → is_write command ≡ true
is_one (Insert at from) is = refl
is_one (Update at q) is = refl
is_one (Delete at q) is = refl
is_one _ is = absurd (let e : false ≡ true = is in cc)

module _ (sql : List ℕ) (params : Row) (old new : State) (ours : IsOurs sql old) (survives : Survives old new (CommitsBy sql params old)) where
  known : HasCleanDisk old → Knows sql ours.command old
  known clean = let it = ours.here clean in known_in (schema it.0) sql ours.command old it.1 it.2 it.3.is it.3.plain

  pub went_well : (count : ℕ) → (HasCleanDisk new → Executes sql params old new (Ok count)) → Goes old new
  went_well count runs =
      let wrote = λ (clean : HasCleanDisk new). let it = ours.here (early survives clean) in
      as_write old new ours.command (statement_of sql (understood (schema it.0) sql)) params count ours.changes (runs_as sql params old new (schema it.0) it.1 ours.command it.3.is it.3.plain count (runs clean)) in
      record {
        on = write_continues sql params old new ours.command (is_one ours.command ours.changes) known (λ clean. (wrote clean).shown) survives;
        schema = λ clean. let done = wrote clean in keeps_schema old.step_limit (mode_of old) params old.now new.now _ done.tally ours.command ours.changes done.changed;
      }

  pub was_cut : (e : Error) → (HasCleanDisk new → Executes sql params old new (Err e)) → IsAborted old new
  was_cut e runs = write_cut sql params old new ours.command (is_one ours.command ours.changes) known e runs survives

  pub blames : (e : Error) → (HasCleanDisk new → Executes sql params old new (Err e)) → HasCleanDisk new
      → BlamesDisk old new (fault_of e)
  blames e runs clean = write_disk sql params old new ours.command (is_one ours.command ours.changes) (known (early survives clean)) e (runs clean)

  pub statement_spares : (e : Error) → (HasCleanDisk new → Executes sql params old new (Err e)) → HasCleanDisk new
      → Spares IsSame old new (fault_of e)
  statement_spares e runs clean =
      spares_stopped old new (fault_of e) (blames e runs clean) (stops sql params old new e (runs clean))

-- ---- what callers cite

pub ran_well : (sql : List ℕ) (params : Row) (old new : State) (r : Result Unit StoreFault) (P : Type 0)
    → Ran sql params old new r → ((count : ℕ) → Executes sql params old new (Ok count) → P) → OnOk r P
ran_well sql params old new (Ok done) P ran h = h ran.0 ran.1
ran_well sql params old new (Err fault) P ran h = tt

pub ran_badly : (sql : List ℕ) (params : Row) (old new : State) (r : Result Unit StoreFault) → Ran sql params old new r
    → ((e : Error) → Executes sql params old new (Err e) → HasCause old new (fault_of e)) → IfErr r (HasCause old new)
ran_badly sql params old new (Ok done) ran h = tt
ran_badly sql params old new (Err fault) ran h = subst (HasCause old new) (sym ran.1) (h ran.0 ran.2)
