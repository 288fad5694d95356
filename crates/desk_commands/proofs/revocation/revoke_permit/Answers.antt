use Rattle.std.proofs.Common.{sym, ◌∙◌}
use Rattle.desk_commands.proofs.Common.{known_ticket, tables}
use Rattle.desk_commands.proofs.Spared.{desk_passed, does_then, is_refused}
use Rattle.desk_commands.proofs.Revoked.{no_ticket}
use Rattle.desk_commands.proofs.revocation.revoke_permit.Goals as goal

pub returns-in_err-is_there : goal.returns-in_err-is_there
returns-in_err-is_there g c = let told = c.in_err-is_there.ensures.answers in desk_passed _ c.from_residual.ensures told.aborts told.faults

pub returns-then-not-is_there : goal.returns-then-not-is_there
returns-then-not-is_there g c =
    let told = c.in_ok-is_there.ensures.answers in
    is_refused told.looks (λ clean s sound so it. no_ticket s c.args.ticket c.args.unit
    (sym (known_ticket g.P.Versioned.version s sound c.args.ticket) ∙ sym (told.answers clean tt (tables g.P.Versioned.version s).desk it.desk) ∙ c.if-not-is_there.true))

pub returns : goal.returns
returns g c =
    let told = c.in_ok-is_there.ensures.answers in
    does_then told.looks c.take_back_for.ensures
    (λ clean s sound so it. (so.0, sym (known_ticket g.P.Versioned.version s sound c.args.ticket) ∙ sym (told.answers clean tt (tables g.P.Versioned.version s).desk it.desk) ∙ c.if-not-is_there.false, so.1))
