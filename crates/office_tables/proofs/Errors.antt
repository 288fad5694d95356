-- What an error leaves, whatever the statement is.
use Rattle.std.proofs.Common.{inl, inr, ℕ, List, false, Err, Option, Some, None, subst}
use Rattle.sqlite.specs.Listing.{understood}
use Rattle.sqlite.specs.State.{ExecutesIn, IsNotRun, FailsToQuery, Shown}
use Rattle.sqlite_schema.specs.declared.command.Returning.{Returning}
use Rattle.office_tables.proofs.Common.{Compiled, Error, Executes, FailsToShow, IsPlain, IsStopped, IsUnchanged, Row}
use Rattle.office_tables.proofs.Common.{RunsCommand, ShowsRows, State, cases_Bool, shows_rows, timed}

ran : (sql : List ℕ) (params : Row) (old new : State) (e : Error) (c : Compiled)
    → RunsCommand old new sql c params (Err e) → IsStopped old new
ran sql params old new e c (inl refused) = inl refused.1
ran sql params old new e c (inr failed) = inr failed.3

pub stops : (sql : List ℕ) (params : Row) (old new : State) (e : Error) → Executes sql params old new (Err e)
    → IsStopped old new
unfolding ExecutesIn IsNotRun
stops sql params old new e (inl (inl refused)) = inl refused.1
stops sql params old new e (inl (inr failed)) = inr failed.3
stops sql params old new e (inr it) = elim (cases_Bool (shows_rows false it.0)) [
  | inl represents ↦ inl (rw represents at it.2).1
  | inr runs ↦ ran sql (timed params it.0.formats it.1.now) old new e it.0 (rw runs at it.2)
]

pub fails : (sql : List ℕ) (params : Row) (old new : State) (e : Error) → FailsToQuery sql params old new e
    → IsStopped old new
unfolding FailsToQuery IsNotRun
fails sql params old new e (inl (inl refused)) = inl refused.1
fails sql params old new e (inl (inr failed)) = inr failed.3
fails sql params old new e (inr it) = shown it.0.returning it.2
  where
    shown : (what : Option Returning) → FailsToShow old new sql it.0 (timed params it.0.formats it.1.now) e what
        → IsStopped old new
    shown None h = inl h.3
    shown (Some what) h = ran sql (timed params it.0.formats it.1.now) old new e it.0 h

-- a query changes nothing
pub keeps : (sql : List ℕ) (params : Row) (old new : State) (rows : List Row) → IsPlain (understood old.now.schema sql)
    → Shown sql params old new rows → IsUnchanged old new
unfolding Shown
keeps sql params old new rows plain h =
    (subst (ShowsRows old new sql h.0 (timed params h.0.formats h.1.now) rows) (subst IsPlain h.1.is plain).0 h.2).3
