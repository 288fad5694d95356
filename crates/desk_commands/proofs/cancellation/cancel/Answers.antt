use Rattle.std.proofs.Common.{sym, ◌∙◌}
use Rattle.desk_commands.proofs.Common.{tables}
use Rattle.desk_commands.proofs.Spared.{desk_passed, does_then, is_refused}
use Rattle.desk_commands.proofs.Cancelled.{known_order, not_waiting, unknown_order}
use Rattle.desk_commands.proofs.cancellation.cancel.Goals as goal

pub returns-in_err-placed : goal.returns-in_err-placed
returns-in_err-placed g c = let told = c.in_err-placed.ensures.answers in desk_passed _ c.from_residual.ensures told.aborts told.faults

pub returns-in_default : goal.returns-in_default
returns-in_default g c =
    let v = g.P.Versioned.version in
    let told = c.in_ok-placed.ensures.answers in
    is_refused told.looks (λ clean s sound so it. unknown_order v s c.args.number (told.answers clean tt (tables v s).desk it.desk) c.in_default.is)

pub returns-then-not-is_waiting : goal.returns-then-not-is_waiting
returns-then-not-is_waiting g c =
    let v = g.P.Versioned.version in
    let told = c.in_ok-placed.ensures.answers in
    is_refused told.looks (λ clean s sound so it.
    let known = known_order v s c.args.number (told.answers clean tt (tables v s).desk it.desk) c.in-Some.is in
    not_waiting v s c.args.number known.0 (known.1 ∙ sym c.is_waiting.ensures ∙ c.if-not-is_waiting.true))

pub returns : goal.returns
returns g c =
    let v = g.P.Versioned.version in
    let told = c.in_ok-placed.ensures.answers in
    does_then told.looks c.end_waiting.ensures (λ clean s sound so it.
    let known = known_order v s c.args.number (told.answers clean tt (tables v s).desk it.desk) c.in-Some.is in
    known.1 ∙ sym c.is_waiting.ensures ∙ c.if-not-is_waiting.false)
