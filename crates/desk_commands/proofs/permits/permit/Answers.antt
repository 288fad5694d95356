use Rattle.std.proofs.Common.{sym, ◌∙◌}
use Rattle.desk_commands.proofs.Common.{known_ticket, tables}
use Rattle.desk_commands.proofs.Spared.{desk_passed, does_then, is_refused}
use Rattle.desk_commands.proofs.Permitted.{no_ticket}
use Rattle.desk_commands.proofs.permits.permit.Goals as goal

pub returns-in_err-known : goal.returns-in_err-known
returns-in_err-known g c = let told = c.in_err-known.ensures.answers in desk_passed _ c.from_residual.ensures told.aborts told.faults

pub returns-then-not-known : goal.returns-then-not-known
returns-then-not-known g c =
    let told = c.in_ok-known.ensures.answers in
    is_refused told.looks (λ clean s sound so it. no_ticket s c.args.ticket c.args.unit c.args.until
    (sym (known_ticket g.P.Versioned.version s sound c.args.ticket) ∙ sym (told.answers clean tt (tables g.P.Versioned.version s).desk it.desk) ∙ c.if-not-known.true))

pub returns : goal.returns
returns g c =
    let told = c.in_ok-known.ensures.answers in
    does_then told.looks c.give_for.ensures
    (λ clean s sound so it. sym (known_ticket g.P.Versioned.version s sound c.args.ticket) ∙ sym (told.answers clean tt (tables g.P.Versioned.version s).desk it.desk) ∙ c.if-not-known.false)
