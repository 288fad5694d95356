-- That no write which is refused blames the disk.
use Rattle.std.proofs.Common.{◌≡◌, ◌⊎◌, inl, inr, ℕ, List, Bool, true, false, Ok, Err, Result, Option, Some, None}
use Rattle.std.proofs.Common.{IfErr, OnErr, ℤ, [], slice_get, fold, if◌then◌else◌, refl, sym, ap, subst, subst₂, ◌∙◌}
use Rattle.std.specs.Bool.{MatchBool}
use Rattle.sqlite.specs.Command.TheVariants.{Delete}
use Rattle.sqlite.specs.Source.TheVariants as source
use Rattle.sqlite.specs.State.{ExecutesIn, IsNotRun}
use Rattle.sqlite.specs.State as state
use Rattle.sqlite_catalog.specs.declared.error.Refusal as alter
use Rattle.sqlite_catalog.specs.declared.error.Refusal.TheVariants as why
use Rattle.sqlite_rules.specs.declared.error.Refusal.{Refusal}
use Rattle.sqlite_rules.specs.declared.error.Refusal.TheVariants.{Violates}
use Rattle.sqlite_trees.specs.declared.error.StoreError.TheVariants.{OutOfMemory}
use Rattle.office_tables.specs.declared.fault.StoreFault.TheVariants as fault
use Rattle.office_tables.proofs.Common.{AtPlace, BadReference, BlamesDisk, Broken, Command, Compiled, Concludes}
use Rattle.office_tables.proofs.Common.{ConstraintViolation, Continues, Corrupt, Counter, CounterIn, Counts, CountsIn}
use Rattle.office_tables.proofs.Common.{CreateIndex, CreateTable, Database, Defines, Does, Edit, Edited, Error}
use Rattle.office_tables.proofs.Common.{ExecuteReturnedResults, Executes, Fails, ForeignKey, Full, Given, Gives}
use Rattle.office_tables.proofs.Common.{HasCleanDisk, Insert, Io, IsAborted, IsMisplaced, IsNoStatement, IsNoText}
use Rattle.office_tables.proofs.Common.{IsPlain, Keys, MakesIndex, MakesSequence, MakesTable, Mismatch, Mode, NoRowid}
use Rattle.office_tables.proofs.Common.{OnRows, Part, Program, Queried, RefusesToAlter, Row, RunsCommand, Schema}
use Rattle.office_tables.proofs.Common.{Source, Sourced, SqliteFailure, State, StoreError, StoreFault, Table, Task}
use Rattle.office_tables.proofs.Common.{Then, TooDeep, Trees, Unstorable, Update, WritesRows, Written, alter_error}
use Rattle.office_tables.proofs.Common.{cases_Bool, command_of, count_of, edit_error, edit_of, fault_of, higher, ids_of}
use Rattle.office_tables.proofs.Common.{int_cmp, is_lt, lacks_sequence, mode_of, rowids_for, sequence, sequence_text}
use Rattle.office_tables.proofs.Common.{shows_rows, stamped, store_error, text_of, timed}
use Rattle.office_tables.proofs.Calls.{early, Knows, is_write}
use Rattle.office_tables.proofs.Causes.{cause_then}

-- the fault is the disk's
abbrev is_disk : StoreFault → Bool
is_disk fault.Memory = false
is_disk fault.Disk = true
is_disk fault.Schema = false

-- no error of the part is the disk's
abbrev Blames : {A : Type 0} → Part A → Type 0
Blames {A} P = (e : Error) → P (Err (Some e)) → is_disk (fault_of e) ≡ false

pub by : (e x : Error) → e ≡ x → is_disk (fault_of x) ≡ false → is_disk (fault_of e) ≡ false
by e x is h = ap (λ e. is_disk (fault_of e)) is ∙ h

given : {A : Type 0} (a : A) → Blames (Gives a)
given a e h = absurd (cc)

refused : {A : Type 0} (x e : Error) → is_disk (fault_of x) ≡ false
    → ◌≡◌ {A = Result A (Option Error)} (Err (Some e)) (Err (Some x)) → is_disk (fault_of e) ≡ false
refused x e h is = by e x (cc) h

-- the part stopped there with this error
at_stop : {A : Type 0} {e : Error} {stop : Option Error} → ◌≡◌ {A = Result A (Option Error)} (Err (Some e)) (Err stop)
    → stop ≡ Some e
at_stop is = cc

either : {A : Type 0} (b : Bool) (P Q : Part A) → Blames P → Blames Q → Blames (λ out. MatchBool b (P out) (Q out))
either true P Q p q e h = p e h
either false P Q p q e h = q e h

-- ---- rows

queried : (limit : Option ℕ) (db : Database) (q : Program) (params : Row) → Blames (Queried limit db q params)
queried limit db q params e (inl h) = by e _ h.0 refl
queried limit db q params e (inr (inl h)) = by e _ h.0 refl
queried limit db q params e (inr (inr h)) = by e _ h.0 refl

sourced : (limit : Option ℕ) (db : Database) (params : Row) (from : Source) → Blames (Sourced limit db params from)
sourced limit db params (source.Values terms width) e (inl h) = by e _ h.0 refl
sourced limit db params (source.Values terms width) e (inr h) = by e _ h.0 refl
sourced limit db params (source.Query q) e h = queried limit db q params e h

edit_blames : (r : Refusal) → is_disk (fault_of (edit_error r)) ≡ false
edit_blames (Violates rule) = refl
edit_blames Mismatch = refl
edit_blames NoRowid = refl
edit_blames BadReference = refl
edit_blames TooDeep = refl

edits : (schema : Schema) (keys : Keys) (db : Trees) (edit : Edit) → Blames (Edited schema keys db edit)
edits schema keys db edit e (None, h, is) = absurd (cc)
edits schema keys db edit e (Some r, h, is) = by e (edit_error r) (cc) (edit_blames r)

module _ (task : Task) where
  counter_in : (db : Trees) (counters : Option Table) → Blames (CounterIn task db counters)
  counter_in db None e h = refused _ e refl h
  counter_in db (Some t) e h = given _ e h

  counter : (db : Trees) → Blames (Counter task db)
  counter db = either task.table.is_counted (CounterIn task db (sequence task.schema)) (Gives None) (counter_in db (sequence task.schema)) (given None)

  counts_in : (db : Trees) (n : Option Row) (top : ℤ) (counters : Option Table)
      → Blames (CountsIn task db n top counters)
  counts_in db n top None e h = refused _ e refl h
  counts_in db n top (Some t) e h = edits _ _ _ _ e h

  counts : (db : Trees) (n : Option Row) (top : ℤ) → Blames (Counts task db n top)
  counts db n top =
      either (if task.table.is_counted then is_lt (int_cmp (count_of n) top) else false) (CountsIn task db n top (sequence task.schema)) (Gives db) (counts_in db n top (sequence task.schema)) (given db)

  concludes : (mode : Mode) (w : Written) → Blames (Concludes task mode None w)
  concludes mode w e (inl (stop, h, is)) = by e (SqliteFailure (ConstraintViolation ForeignKey)) (let same : Some e ≡ Some (SqliteFailure (ConstraintViolation ForeignKey)) = sym (at_stop is) ∙ h.1 in cc) refl
  concludes mode w e (inr (defect, t, inl (stop, h, is))) = absurd (cc)
  concludes mode w e (inr (defect, t, inr (rows, g, last))) = absurd (cc)

  inserts : (at : ℕ) (from : Source) (db : Trees) → Blames (WritesRows task db (Insert at from))
  inserts at from db e (inl (stop, h, is)) =
      let all : Database = record { schema = task.schema; trees = db } in
      sourced task.limit all (stamped task.table task.params) from e (subst (λ s. Sourced task.limit all (stamped task.table task.params) from (Err s)) (at_stop is) h)
  inserts at from db e (inr (rows, r, inl (stop, h, is))) =
      counter db e (subst (λ s. Counter task db (Err s)) (at_stop is) h)
  inserts at from db e (inr (rows, r, inr (n, c, inl (stop, h, is)))) =
      edits _ _ _ _ e (subst (λ s. Edited task.schema task.keys db (edit_of db task.table [] (rowids_for task.table (count_of n)) 0 rows) (Err s)) (at_stop is) h)
  inserts at from db e (inr (rows, r, inr (n, c, inr (mid, w, inl (stop, h, is))))) =
      let top = fold higher (count_of n) (edit_of db task.table [] (rowids_for task.table (count_of n)) 0 rows).news in
      counts mid n top e (subst (λ s. Counts task mid n top (Err s)) (at_stop is) h)
  inserts at from db e (inr (rows, r, inr (n, c, inr (mid, w, inr (next, k, last))))) = absurd (cc)

  updates : (at : ℕ) (q : Program) (db : Trees) → Blames (WritesRows task db (Update at q))
  updates at q db e (inl (stop, h, is)) =
      let all : Database = record { schema = task.schema; trees = db } in
      queried task.limit all q task.params e (subst (λ s. Queried task.limit all q task.params (Err s)) (at_stop is) h)
  updates at q db e (inr (rows, r, inl (stop, h, is))) =
      edits _ _ _ _ e (subst (λ s. Edited task.schema task.keys db (edit_of db task.table (ids_of rows) Given 1 rows) (Err s)) (at_stop is) h)
  updates at q db e (inr (rows, r, inr (next, w, last))) = absurd (cc)

  deletes : (at : ℕ) (q : Program) (db : Trees) → Blames (WritesRows task db (Delete at q))
  deletes at q db e (inl (stop, h, is)) =
      let all : Database = record { schema = task.schema; trees = db } in
      queried task.limit all q task.params e (subst (λ s. Queried task.limit all q task.params (Err s)) (at_stop is) h)
  deletes at q db e (inr (rows, r, inl (stop, h, is))) =
      edits _ _ _ _ e (subst (λ s. Edited task.schema task.keys db (edit_of db task.table (ids_of rows) Given 0 []) (Err s)) (at_stop is) h)
  deletes at q db e (inr (rows, r, inr (next, w, last))) = absurd (cc)

  on_rows : (mode : Mode) (command : Command) (db : Trees) → Blames (WritesRows task db command)
      → Blames (OnRows task mode None command db)
  on_rows mode command db writes e (inl (stop, h, is)) =
      writes e (subst (λ s. WritesRows task db command (Err s)) (at_stop is) h)
  on_rows mode command db writes e (inr (w, h, rest)) = concludes mode w e rest

-- ---- definitions

alter_blames : (r : alter.Refusal) → is_disk (fault_of (alter_error r)) ≡ false
alter_blames (why.Invalid e) = refl
alter_blames why.NameTaken = refl
alter_blames why.BadName = refl
alter_blames why.BadKey = refl
alter_blames why.BadText = refl
alter_blames why.TooBig = refl
alter_blames (why.Violates rule) = refl

alters : (text : List ℕ) (P : alter.Refusal → Type 0) (e : Error) → IsNoText text e ⊎ RefusesToAlter P e
    → is_disk (fault_of e) ≡ false
alters text P e (inl h) = by e _ h.1 refl
alters text P e (inr h) = by e (alter_error h.0) h.2 (alter_blames h.0)

sequences : (db : Database) → Blames (MakesSequence db)
sequences db = either (lacks_sequence db.schema) (MakesTable sequence_text db) (Gives db) (λ e h. alters sequence_text _ e h) (given db)

tables : (mode : Mode) (text : List ℕ) (db : Database) → Blames (Defines mode (Then (MakesTable text db) MakesSequence))
tables mode text db e (inl (stop, inl (halt, h, was), is)) =
    alters text _ e (subst (λ s. MakesTable text db (Err s)) (at_stop (was_is was is)) h)
  where
    was_is : {A B : Type 0} {e : Error} {stop halt : Option Error}
        → ◌≡◌ {A = Result A (Option Error)} (Err stop) (Err halt)
        → ◌≡◌ {A = Result B (Option Error)} (Err (Some e)) (Err stop)
        → ◌≡◌ {A = Result B (Option Error)} (Err (Some e)) (Err halt)
    was_is was is = cc
tables mode text db e (inl (stop, inr (made, t, h), is)) =
    sequences made e (subst (λ s. MakesSequence made (Err s)) (at_stop is) h)
tables mode text db e (inr (after, m, last)) = absurd (cc)

indexes : (mode : Mode) (text : List ℕ) (db : Database) (table : Table)
    → Blames (Defines mode (MakesIndex text db table))
indexes mode text db table e (inl (stop, h, is)) =
    alters text _ e (subst (λ s. MakesIndex text db table (Err s)) (at_stop is) h)
indexes mode text db table e (inr (after, m, last)) = absurd (cc)

-- ---- statements

module _ (limit : Option ℕ) (mode : Mode) (params : Row) (db : Database) (text : List ℕ) where
  task_at : Table → Task
  task_at table = record { limit = limit; keys = mode.keys; schema = db.schema; table = table; params = params }

  pub does_blame : (command : Command) → is_write command ≡ true → Blames (Does limit mode params db text None command)
  unfolding task_at
  does_blame (Insert at from) w = placed (slice_get db.schema.tables at)
    where
      placed : (o : Option Table) → Blames (AtPlace (λ t. OnRows (task_at t) mode None (Insert at from) db.trees) o)
      placed None e h = refused _ e refl h
      placed (Some t) e h = on_rows (task_at t) mode (Insert at from) db.trees (inserts (task_at t) at from db.trees) e h
  does_blame (Update at q) w = placed (slice_get db.schema.tables at)
    where
      placed : (o : Option Table) → Blames (AtPlace (λ t. OnRows (task_at t) mode None (Update at q) db.trees) o)
      placed None e h = refused _ e refl h
      placed (Some t) e h = on_rows (task_at t) mode (Update at q) db.trees (updates (task_at t) at q db.trees) e h
  does_blame (Delete at q) w = placed (slice_get db.schema.tables at)
    where
      placed : (o : Option Table) → Blames (AtPlace (λ t. OnRows (task_at t) mode None (Delete at q) db.trees) o)
      placed None e h = refused _ e refl h
      placed (Some t) e h = on_rows (task_at t) mode (Delete at q) db.trees (deletes (task_at t) at q db.trees) e h
  does_blame CreateTable w = tables mode text db
  does_blame (CreateIndex at) w = placed (slice_get db.schema.tables at)
    where
      placed : (o : Option Table) → Blames (AtPlace (λ t. Defines mode (MakesIndex text db t)) o)
      placed None e h = refused _ e refl h
      placed (Some t) e h = indexes mode text db t e h
  does_blame _ w = absurd (cc)

module _ (old new : State) where
  pub fair : (f : StoreFault) → is_disk f ≡ false → BlamesDisk old new f
  fair fault.Memory is = tt
  fair fault.Disk is = absurd (let clash : true ≡ false = is in cc)
  fair fault.Schema is = tt

  fair_store : (too_big : Type 0) (cause : StoreError) → state.HasCause old new too_big cause
      → BlamesDisk old new (fault_of (store_error cause))
  fair_store too_big OutOfMemory h = tt
  fair_store too_big Io h = inl h
  fair_store too_big Corrupt h = inl h
  fair_store too_big Full h = inl h
  fair_store too_big Broken h = inr h
  fair_store too_big Unstorable h = tt

  pub fair_failure : (too_big : Type 0) (e : Error) → Fails old new too_big e → BlamesDisk old new (fault_of e)
  fair_failure too_big e failed =
      subst (λ e. BlamesDisk old new (fault_of e)) (sym failed.1) (fair_store too_big failed.0 failed.2)

pub no_statement : (s : State) (sql : List ℕ) (params : Row) (e : Error) → IsNoStatement s sql params e
    → is_disk (fault_of e) ≡ false
no_statement s sql params e (inl h) = by e _ h.2 refl
no_statement s sql params e (inr (c, u, inl h)) = by e _ h.1 refl
no_statement s sql params e (inr (c, u, inr (inl h))) = by e _ h.1 refl
no_statement s sql params e (inr (c, u, inr (inr h))) = by e _ h.1 refl

misplaced : (s : State) (command : Command) (e : Error) → IsMisplaced s command e → is_disk (fault_of e) ≡ false
misplaced s command e (inl h) = by e _ h.0 refl
misplaced s command e (inr h) = by e _ h.0 refl

module _ (sql : List ℕ) (params : Row) (old new : State) (command : Command) (writes : is_write command ≡ true) (known : Knows sql command old) where
  ran : (c : Compiled) (full : Row) → c.command ≡ command → c.returning ≡ None → (e : Error)
      → RunsCommand old new sql c full (Err e) → BlamesDisk old new (fault_of e)
  ran c full is none e (inl (inl h, same)) = fair old new (fault_of e) (misplaced old c.command e h)
  ran c full is none e (inl (inr h, same)) =
      let text = text_of sql c in
      fair old new (fault_of e) (does_blame old.step_limit (mode_of old) full old.now text command writes e
      (subst₂ (λ k r. Does old.step_limit (mode_of old) full old.now text r k (Err (Some e))) is none h.1))
  ran c full is none e (inr failed) = fair_failure old new _ e failed

  -- a write that fails blames the disk for its own failures only
  pub write_disk : (e : Error) → Executes sql params old new (Err e) → BlamesDisk old new (fault_of e)
  unfolding ExecutesIn IsNotRun
  write_disk e (inl (inl refused)) = fair old new (fault_of e) (no_statement old sql params e refused.0)
  write_disk e (inl (inr failed)) = fair_failure old new ⊥ e failed
  write_disk e (inr it) =
      let plain = subst IsPlain it.1.is known.plain in
      elim (cases_Bool (shows_rows false it.0)) [
        | inl represents ↦ fair old new (fault_of e) (by e ExecuteReturnedResults (let same = (rw represents at it.2).0 in cc) refl)
        | inr runs ↦ ran it.0 (timed params it.0.formats it.1.now) (sym (ap command_of it.1.is) ∙ known.is) plain.0 e (rw runs at it.2)
      ]

-- a later step's fault is the whole call's
pub disk_then : (a b c : State) → Continues a b → HasCleanDisk b → (e : StoreFault) → BlamesDisk b c e
    → BlamesDisk a c e
disk_then a b c p clean fault.Memory h = tt
disk_then a b c p clean fault.Disk h = cause_then a b c p clean fault.Disk h
disk_then a b c p clean fault.Schema h = tt

-- the fault of the last step, whose result is the call's
pub last_disk : {X : Type 0} (a b c : State) → Continues a b → (r : Result X StoreFault) → OnErr r (IsAborted b c)
    → HasCleanDisk c → IfErr r (BlamesDisk b c) → IfErr r (BlamesDisk a c)
last_disk a b c p (Ok x) cut clean h = tt
last_disk a b c p (Err e) cut clean h = disk_then a b c p (early cut.crash clean) e h
