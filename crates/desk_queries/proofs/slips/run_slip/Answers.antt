use Rattle.std.proofs.Common.{sym, ap, ◌∙◌}
use Rattle.office_core.specs.declared.query.Query.TheVariants as query
use Rattle.desk_queries.proofs.Common.{Text, Unknown, UnknownRun, answers_by, answers_passed, legible_storage}
use Rattle.desk_queries.proofs.Common.{shows_storage, slip, state, storage_of}
use Rattle.desk_queries.proofs.RunTold.{lines_known, run_told, told_slip}
use Rattle.desk_queries.proofs.slips.run_slip.Goals as goal

pub returns-in_err-brought : goal.returns-in_err-brought
returns-in_err-brought g c =
    let v = g.P.Versioned.version in
    let a = state g.S.Store c.args.tables.now in
    let told = c.in_err-brought.ensures.answers in
    answers_passed _ c.from_residual.ensures told.aborts
    (λ s sound it. told.faults tt (storage_of v s) (shows_storage v s g.P.Places.represents a.now sound it) (lines_known v s sound c.args.run) (legible_storage v s sound))

pub returns-in_default : goal.returns-in_default
returns-in_default g c =
    let v = g.P.Versioned.version in
    let a = state g.S.Store c.args.tables.now in
    let told = c.in_ok-brought.ensures.answers in
    answers_by g.P.Places.represents v (query.RunSlip c.args.run) a (state g.S.Store c.run.new.tables) (Unknown UnknownRun) told.looks
    (λ clean s sound it.
    ap (told_slip c.args.run) (sym c.in_default.is)
    ∙ run_told v s sound c.args.run c.in_ok-brought.field-0 (told.answers clean tt (storage_of v s) (shows_storage v s g.P.Places.represents a.now sound it)))

pub returns : goal.returns
returns g c =
    let v = g.P.Versioned.version in
    let a = state g.S.Store c.args.tables.now in
    let told = c.in_ok-brought.ensures.answers in
    answers_by g.P.Places.represents v (query.RunSlip c.args.run) a (state g.S.Store c.run.new.tables) (Text c.in_ok-text.text.items) told.looks
    (λ clean s sound it.
    ap Text ((rw c.get.ensures.same at c.in_ok-text.ensures) ∙ ap (slip c.args.run c.in-Some.brought.day) c.as_slice.ensures)
    ∙ ap (told_slip c.args.run) (sym c.in-Some.is)
    ∙ run_told v s sound c.args.run c.in_ok-brought.field-0 (told.answers clean tt (storage_of v s) (shows_storage v s g.P.Places.represents a.now sound it)))
