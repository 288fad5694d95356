-- What a failing call spares, by how its steps ended.
use Rattle.std.proofs.Common.{◌≡◌, ◌≢◌, ◌⊎◌, inl, inr, ℕ, List, true, nat_eq, Ok, Err, Result, Option, IfErr, OnErr}
use Rattle.std.proofs.Common.{refl, ap, subst}
use Rattle.sqlite.specs.Listing.{understood}
use Rattle.sqlite.specs.State.{FailsToQuery, IsNotRun}
use Rattle.office_tables.specs.declared.fault.StoreFault.TheVariants as fault
use Rattle.office_tables.proofs.Common.{BlamesDisk, Command, Continues, Database, Error, FailsToShow, HasCleanDisk}
use Rattle.office_tables.proofs.Common.{IsAborted, IsBack, IsPlain, IsSame, IsStopped, LeavesUnchanged, OnlyTouches}
use Rattle.office_tables.proofs.Common.{RefusesToRead, Row, Rows, Select, Spares, State, StoreFault, fault_of, list_all}
use Rattle.office_tables.proofs.Common.{list_any, timed}
use Rattle.office_tables.proofs.Calls.{early, back_then}
use Rattle.office_tables.proofs.Errors.{fails}
use Rattle.office_tables.proofs.Touching.{touched_again, touched_wider}
use Rattle.office_tables.proofs.WriteCauses.{by, fair, fair_failure, no_statement, disk_then}

-- ---- one statement

-- a fault that is not the disk's
pub own_fault : (a b : State) (e : StoreFault) → e ≢ fault.Disk → BlamesDisk a b e
own_fault a b fault.Memory other = tt
own_fault a b fault.Disk other = absurd (other refl)
own_fault a b fault.Schema other = tt

-- it was not carried out, or the transaction was taken back
pub spares_stopped : (a b : State) (e : StoreFault) → BlamesDisk a b e → IsStopped a b → Spares IsSame a b e
spares_stopped a b e disk (inl same) = record { disk = disk; rows = inl same.0.now_is }
spares_stopped a b e disk (inr back) = record {
  disk = disk;
  rows = inr (record { was_open = back.was_open; now = λ h. (back.undone h).0; committed = λ h. (back.undone h).1; ended = back.autocommit });
}

module _ (sql : List ℕ) (params : Row) (old new : State) (plain : IsPlain (understood old.now.schema sql)) where
  refused : (limit : Option ℕ) (command : Command) (db : Database) (params : Row) (e : Error)
      → RefusesToRead limit command db params e → BlamesDisk old new (fault_of e)
  refused limit (Select q names) db params e (inl h) = fair old new (fault_of e) (by e _ h.0 refl)
  refused limit (Select q names) db params e (inr (inl h)) = fair old new (fault_of e) (by e _ h.0 refl)
  refused limit (Select q names) db params e (inr (inr h)) = fair old new (fault_of e) (by e _ h.0 refl)
  refused limit (Rows values width names) db params e h = fair old new (fault_of e) (by e _ h.0 refl)
  refused limit _ db params e h = fair old new (fault_of e) (by e _ h refl)

  -- a query that fails blames the disk for its own failures only
  pub read_disk : (e : Error) → FailsToQuery sql params old new e → BlamesDisk old new (fault_of e)
  unfolding FailsToQuery IsNotRun
  read_disk e (inl (inl h)) = fair old new (fault_of e) (no_statement old sql params e h.0)
  read_disk e (inl (inr failed)) = fair_failure old new ⊥ e failed
  read_disk e (inr it) =
      let full = timed params it.0.formats it.1.now in
      let none = (subst IsPlain it.1.is plain).0 in
      let shown = subst (FailsToShow old new sql it.0 full e) none it.2 in
      refused old.step_limit it.0.command shown.0 full e shown.2

  pub query_spares : (e : Error) → FailsToQuery sql params old new e → Spares IsSame old new (fault_of e)
  query_spares e h = spares_stopped old new (fault_of e) (read_disk e h) (fails sql params old new e h)

-- ---- one step after another

-- what is left is said in other words
pub spares_as : {L M : Database → Database → Type 0} (a b : State) (e : StoreFault) → (L a.now b.now → M a.now b.now)
    → Spares L a b e → Spares M a b e
spares_as {L} {M} a b e turn it = record { disk = it.disk; rows = turned it.rows }
  where
    turned : L a.now b.now ⊎ IsBack a b → M a.now b.now ⊎ IsBack a b
    turned (inl left) = inl (turn left)
    turned (inr back) = inr back

-- after a step that succeeded
pub spares_then : {L M : Database → Database → Type 0} (a b c : State) → Continues a b → HasCleanDisk b
    → (e : StoreFault) → (L b.now c.now → M a.now c.now) → Spares L b c e → Spares M a c e
spares_then {L} {M} a b c on clean e turn it =
    record { disk = disk_then a b c on clean e it.disk; rows = turned it.rows }
  where
    turned : L b.now c.now ⊎ IsBack b c → M a.now c.now ⊎ IsBack a c
    turned (inl left) = inl (turn left)
    turned (inr back) = inr (back_then (on.within clean) back)

-- after a look
pub looked_spares : {L : Database → Database → Type 0} {a b c : State} → LeavesUnchanged a b → HasCleanDisk b
    → (e : StoreFault) → Spares L b c e → Spares L a c e
looked_spares {L = L} {a = a} {b = b} {c = c} looked clean e =
    spares_then a b c looked.goes.on clean e (subst (λ (db : Database). L db c.now) (looked.same clean))

-- rows that are as they were are touched nowhere
pub same_untouched : (touched : List ℕ) (old new : Database) → IsSame old new → OnlyTouches touched old new
same_untouched touched old new same tree there other = ap (λ (db : Database). db.trees tree) same

pub untouched : (touched : List ℕ) (a b : State) (e : StoreFault) → Spares IsSame a b e
    → Spares (OnlyTouches touched) a b e
untouched touched a b e = spares_as a b e (same_untouched touched a.now b.now)

-- after a step that touched such tables only
pub touched_spares : (touched : List ℕ) (a b c : State) → Continues a b → HasCleanDisk b
    → OnlyTouches touched a.now b.now → (e : StoreFault) → Spares (OnlyTouches touched) b c e
    → Spares (OnlyTouches touched) a c e
touched_spares touched a b c on clean only e =
    spares_then a b c on clean e (touched_again touched a.now b.now c.now only)

-- ---- what the function itself found wrong

-- after a look, by a fault that is not the disk's
pub spares_own : {a b : State} → LeavesUnchanged a b → HasCleanDisk b → (e : StoreFault) → e ≢ fault.Disk
    → Spares IsSame a b e
spares_own {a = a} {b = b} looked clean e other = record { disk = own_fault a b e other; rows = inl (looked.same clean) }

pub spares_full : {a b : State} → LeavesUnchanged a b → HasCleanDisk b → Spares IsSame a b fault.Memory
spares_full looked clean = record { disk = tt; rows = inl (looked.same clean) }

pub spares_known : {a b : State} → LeavesUnchanged a b → HasCleanDisk b → Spares IsSame a b fault.Schema
spares_known {a = a} {b = b} looked clean = record { disk = tt; rows = inl (looked.same clean) }

-- ---- the last call of a function, whose result is the function's

pub if_err_then : {X : Type 0} (r : Result X StoreFault) (P Q : StoreFault → Type 0) → ((e : StoreFault) → P e → Q e)
    → IfErr r P → IfErr r Q
if_err_then (Ok x) P Q f p = tt
if_err_then (Err e) P Q f p = f e p

-- it read, and its last step reads
pub last_spares : {X : Type 0} (a b c : State) → LeavesUnchanged a b → (r : Result X StoreFault)
    → OnErr r (IsAborted b c) → HasCleanDisk c → IfErr r (Spares IsSame b c) → IfErr r (Spares IsSame a c)
last_spares a b c looked (Ok x) cut clean h = tt
last_spares a b c looked (Err e) cut clean h = looked_spares looked (early cut.crash clean) e h

-- it wrote, and its last step writes
pub last_touched : {X : Type 0} (touched : List ℕ) (a b c : State) → Continues a b
    → (HasCleanDisk b → OnlyTouches touched a.now b.now) → (r : Result X StoreFault) → OnErr r (IsAborted b c)
    → HasCleanDisk c → IfErr r (Spares (OnlyTouches touched) b c)
    → IfErr r (Spares (OnlyTouches touched) a c)
last_touched touched a b c on only (Ok x) cut clean h = tt
last_touched touched a b c on only (Err e) cut clean h = let before = early cut.crash clean in touched_spares touched a b c on before (only before) e h

pub untouched_last : {X : Type 0} (touched : List ℕ) (a b : State) (r : Result X StoreFault)
    → IfErr r (Spares IsSame a b) → IfErr r (Spares (OnlyTouches touched) a b)
untouched_last touched a b (Ok x) h = tt
untouched_last touched a b (Err e) h = untouched touched a b e h

-- what was read cannot be taken over
pub own_last : {X : Type 0} (a b : State) → LeavesUnchanged a b → (r : Result X StoreFault)
    → IfErr r (λ e. e ≢ fault.Disk) → HasCleanDisk b → IfErr r (Spares IsSame a b)
own_last a b looked (Ok x) other clean = tt
own_last a b looked (Err e) other clean = spares_own looked clean e other

-- tables that are named, and more of them
pub wider_spares : (few many : List ℕ) (a b : State) (e : StoreFault)
    → list_all (λ t. list_any (nat_eq t) many) few ≡ true → Spares (OnlyTouches few) a b e
    → Spares (OnlyTouches many) a b e
wider_spares few many a b e all = spares_as a b e (touched_wider few many a.now b.now all)

pub wider_last : {X : Type 0} (few many : List ℕ) (a b : State) (r : Result X StoreFault)
    → list_all (λ t. list_any (nat_eq t) many) few ≡ true → IfErr r (Spares (OnlyTouches few) a b)
    → IfErr r (Spares (OnlyTouches many) a b)
wider_last few many a b (Ok x) all h = tt
wider_last few many a b (Err e) all h = wider_spares few many a b e all h
