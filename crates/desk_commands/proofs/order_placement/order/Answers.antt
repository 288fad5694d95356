use Rattle.std.proofs.Common.{sym, ap, ◌∙◌}
use Rattle.desk_commands.proofs.Common.{card_of, has_card, is_some, tables}
use Rattle.desk_commands.proofs.Spared.{desk_passed, does_then, is_refused}
use Rattle.desk_commands.proofs.Ordered.{not_known}
use Rattle.desk_commands.proofs.order_placement.order.Goals as goal

pub returns-in_err-card : goal.returns-in_err-card
returns-in_err-card g c = let told = c.in_err-card.ensures.answers in desk_passed _ c.from_residual.ensures told.aborts told.faults

pub returns-in_default : goal.returns-in_default
returns-in_default g c =
    let told = c.in_ok-card.ensures.answers in
    is_refused told.looks (λ clean s sound so it. not_known s c.args.ticket c.args.container
    (sym (has_card g.P.Versioned.version s sound c.args.ticket c.args.today) ∙ ap is_some (sym (told.answers clean tt (tables g.P.Versioned.version s).desk it.desk)) ∙ ap is_some c.in_default.is))

pub returns : goal.returns
returns g c =
    let told = c.in_ok-card.ensures.answers in
    does_then told.looks c.order_by.ensures
    (λ clean s sound so it. (
      so.0,
      so.1,
      ap (λ day. card_of c.args.ticket day (tables g.P.Versioned.version s).desk) (sym so.0) ∙ sym (told.answers clean tt (tables g.P.Versioned.version s).desk it.desk) ∙ c.in-Some.is,
      so.2,
    ))
