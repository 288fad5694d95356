use Rattle.desk_core.proofs.UnknownContainers.{nothing_found}
use Rattle.desk_commands.proofs.Common.{shows_storage, storage_of}
use Rattle.desk_commands.proofs.Spared.{does_then, is_refused}
use Rattle.desk_commands.proofs.HeadTold.{none_queued, queued_at}
use Rattle.desk_commands.proofs.Issued.{nothing_to_issue}
use Rattle.desk_commands.proofs.OneStep.{storage_passed}
use Rattle.desk_commands.proofs.issuance.issue.Goals as goal

pub returns-in_err-found : goal.returns-in_err-found
returns-in_err-found g c = let told = c.in_err-found.ensures.answers in storage_passed _ c.from_residual.ensures told.aborts told.faults

pub returns-in-Err : goal.returns-in-Err
returns-in-Err g c =
    let v = g.P.Versioned.version in
    let told = c.in_ok-found.ensures.answers in
    let none = nothing_found c.in_ok-found.found c.in-Err.why c.in-Err.ensures.refused in
    is_refused told.looks (λ clean s sound so it.
    let headed = told.answers clean tt (storage_of v s) (shows_storage v s g.P.Places.represents _ sound it) in
    nothing_to_issue g.P.Places.represents v s c.args.container c.args.ticket c.in-Err.why none.1 (none_queued s c.args.container v headed none.0))

pub returns-in-Ok : goal.returns-in-Ok
returns-in-Ok g c =
    let v = g.P.Versioned.version in
    let told = c.in_ok-found.ensures.answers in
    does_then told.looks c.issue_known.ensures (λ clean s sound so it.
    let headed = told.answers clean tt (storage_of v s) (shows_storage v s g.P.Places.represents _ sound it) in
    (so.0, so.1, queued_at s c.args.container v sound c.in-Ok.head headed c.in-Ok.ensures.found, so.2))
