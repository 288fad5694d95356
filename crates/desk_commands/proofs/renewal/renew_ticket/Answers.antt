use Rattle.std.proofs.Common.{sym, ◌∙◌}
use Rattle.desk_commands.proofs.Common.{known_ticket, tables}
use Rattle.desk_commands.proofs.Spared.{desk_passed, does_then, is_refused}
use Rattle.desk_commands.proofs.Renewed.{not_known}
use Rattle.desk_commands.proofs.renewal.renew_ticket.Goals as goal

pub returns-in_err-known : goal.returns-in_err-known
returns-in_err-known g c = let told = c.in_err-known.ensures.answers in desk_passed _ c.from_residual.ensures told.aborts told.faults

pub returns-then-not-known : goal.returns-then-not-known
returns-then-not-known g c =
    let v = g.P.Versioned.version in
    let told = c.in_ok-known.ensures.answers in
    is_refused told.looks (λ clean s sound so it.
    not_known v s c.args.ticket c.args.until (sym (known_ticket v s sound c.args.ticket) ∙ sym (told.answers clean tt (tables v s).desk it.desk) ∙ c.if-not-known.true))

pub returns : goal.returns
returns g c =
    let v = g.P.Versioned.version in
    let told = c.in_ok-known.ensures.answers in
    does_then told.looks c.set_last_day.ensures
    (λ clean s sound so it. sym (known_ticket v s sound c.args.ticket) ∙ sym (told.answers clean tt (tables v s).desk it.desk) ∙ c.if-not-known.false)
