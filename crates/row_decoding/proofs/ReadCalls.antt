-- Calls that read, one after the other.
use Rattle.std.proofs.Common.{◌≡◌, Result, Ok, Err, ap, refl}
use Rattle.sqlite.specs.State.{State, HasCleanDisk}
use Rattle.office_tables.proofs.CallEnds.{read_well, read_cut}
use Rattle.office_tables.proofs.Calls.{early, looks_then}
use Rattle.office_tables.specs.Query.{Reads}
use Rattle.office_tables.specs.Step.{LeavesUnchanged}
use Rattle.row_decoding.proofs.Common.{StoreFault}

-- the tables are as they were
pub same_trees : (a b : State) → LeavesUnchanged a b → HasCleanDisk b → b.now.trees ≡ a.now.trees
same_trees a b one clean = ap (λ d. d.trees) (one.same clean)

pub before : (a b : State) → LeavesUnchanged a b → HasCleanDisk b → HasCleanDisk a
before a b one clean = early one.goes.on.crash clean

pub reads_well : {X : Type 0} (a b : State) (x : X) → LeavesUnchanged a b → Reads a b (Ok x)
reads_well a b x one = read_well a b one

pub reads_then : {X : Type 0} (a b c : State) (r : Result X StoreFault) → LeavesUnchanged a b → Reads b c r
    → Reads a c r
reads_then a b c (Ok x) one two = read_well a c (looks_then one two.looks)
reads_then a b c (Err e) one two = read_cut a b c (Err e) e refl one two.aborts two.spares
