use Rattle.std.proofs.Common.{true, false, sym, ap, ◌∙◌}
use Rattle.desk_commands.specs.Permits.{later_of}
use Rattle.desk_commands.proofs.Common.{tables}
use Rattle.desk_commands.proofs.Spared.{desk_passed, does_then, is_refused}
use Rattle.desk_commands.proofs.Permitted.{full_is, last_check, later_read}
use Rattle.desk_commands.proofs.permits.give_within.Goals as goal

pub returns-in_err-held : goal.returns-in_err-held
returns-in_err-held g c = let told = c.in_err-held.ensures.answers in desk_passed _ c.from_residual.ensures told.aborts told.faults

pub returns-then-is_full : goal.returns-then-is_full
returns-then-is_full g c =
    let told = c.in_ok-held.ensures.answers in
    is_refused told.looks (λ clean s sound so it. last_check s c.args.ticket c.args.unit c.args.asked true so.0 so.1
    (sym (full_is g.P.Versioned.version s sound c.args.ticket c.args.unit c.deref.ensures.value (told.answers clean tt (tables g.P.Versioned.version s).desk it.desk)) ∙ sym c.is_full.ensures ∙ c.if-is_full.true))

pub returns : goal.returns
returns g c =
    let told = c.in_ok-held.ensures.answers in
    does_then told.looks c.give.ensures
    (λ clean s sound so it. record {
      allowed = last_check s c.args.ticket c.args.unit c.args.asked false so.0 so.1
          (sym (full_is g.P.Versioned.version s sound c.args.ticket c.args.unit c.deref.ensures.value (told.answers clean tt (tables g.P.Versioned.version s).desk it.desk)) ∙ sym c.is_full.ensures ∙ c.if-is_full.false);
      stands = c.later-until.ensures ∙ ap (λ day. later_of day c.args.asked) c.last_day.ensures
          ∙ later_read g.P.Versioned.version s sound c.args.ticket c.args.unit c.deref-2.ensures.value (told.answers clean tt (tables g.P.Versioned.version s).desk it.desk) c.args.asked;
    })
