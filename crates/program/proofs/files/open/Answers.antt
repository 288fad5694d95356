use Rattle.std.proofs.Common.{◌≡◌, ℕ, Bool, cond, List, Option, Some, IfSome, ap₂, subst}
use Rattle.sqlite_disk.specs.Events.{Event, replay}
use Rattle.program.proofs.Common.{Image, file_state}
use Rattle.program.proofs.Ordered.{stand_in_order}
use Rattle.program.proofs.files.open.Goals as goal

pub returns-in-Ok-clause-ordered : goal.returns-in-Ok-clause-ordered
returns-in-Ok-clause-ordered g c clean =
    let opened = c.in-Ok.ensures.opened clean in
    let found = c.in-Ok.ensures.found clean in
    stand_in_order _ (file_state c.in-Ok.conn) opened.0 opened.1 found

abbrev image : List ℕ → List ℕ → Image
image log db = record { log = log; db = db }

-- what a file holds after these events, if it is the log or the database file
abbrev seen : List ℕ → List ℕ → Bool → List Event → List ℕ
seen log db is_log history = (replay (cond is_log log db) history).seen

where_some : {A : Type 0} (P : A → Type 0) (o : Option A) (a : A) → o ≡ Some a → IfSome o P → P a
where_some P o a is so = subst (λ it. IfSome it P) is so

pub returns-in-Err-default-Some-clause-fails : goal.returns-in-Err-default-Some-clause-fails
returns-in-Err-default-Some-clause-fails g c =
    let failed = c.in-Err-default-Some in
    let (files, log, db, so) = where_some _ failed.field-0-1 failed.left failed.field-0-1-is failed.ensures.cause in
    record {
      files = files;
      found = ap₂ image (ap₂ (seen g.S.Start.log g.S.Start.db) log.0 log.1) (ap₂ (seen g.S.Start.log g.S.Start.db) db.0 db.1);
      error = failed.error;
      told = c.reason_of.ensures;
      cause = λ clean. (so clean).0;
      leaves = λ clean. (so clean).1;
    }
