use Rattle.std.proofs.Common.{◌≡◌, true, false, not, sym, ap, ◌∙◌}
use Rattle.desk_commands.proofs.Common.{is_some, tables}
use Rattle.desk_commands.proofs.Spared.{desk_passed, does_then, is_refused}
use Rattle.desk_commands.proofs.Permitted.{has_read}
use Rattle.desk_commands.proofs.Revoked.{no_permit}
use Rattle.desk_commands.proofs.revocation.take_back_held.Goals as goal

pub returns-in_err-held : goal.returns-in_err-held
returns-in_err-held g c = let told = c.in_err-held.ensures.answers in desk_passed _ c.from_residual.ensures told.aborts told.faults

pub returns-then-is_none : goal.returns-then-is_none
returns-then-is_none g c =
    let told = c.in_ok-held.ensures.answers in
    let none : is_some c.last_day-until.result ≡ false = c.is_none.ensures ∙ ap not c.if-is_none.true in
    is_refused told.looks (λ clean s sound so it. no_permit s c.args.ticket c.args.unit so.1 so.2
    (sym (has_read g.P.Versioned.version s sound c.args.ticket c.args.unit c.deref.ensures.value (told.answers clean tt (tables g.P.Versioned.version s).desk it.desk)) ∙ ap is_some (sym c.last_day-until.ensures) ∙ none))

pub returns : goal.returns
returns g c =
    let told = c.in_ok-held.ensures.answers in
    let some : is_some c.last_day-until.result ≡ true = c.is_none.ensures ∙ ap not c.if-is_none.false in
    does_then told.looks c.take_back.ensures
    (λ clean s sound so it. (
      so.0,
      record {
        ticket = so.1;
        unit = so.2;
        permit = sym (has_read g.P.Versioned.version s sound c.args.ticket c.args.unit c.deref.ensures.value (told.answers clean tt (tables g.P.Versioned.version s).desk it.desk)) ∙ ap is_some (sym c.last_day-until.ensures) ∙ some;
      },
      so.3,
    ))
