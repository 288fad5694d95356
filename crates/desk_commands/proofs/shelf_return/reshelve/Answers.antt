use Rattle.std.proofs.Common.{◌∙◌}
use Rattle.desk_commands.proofs.Common.{tables}
use Rattle.desk_commands.proofs.Spared.{desk_passed, does_then, is_refused}
use Rattle.desk_commands.proofs.Reshelved.{idle_told, nothing_idle}
use Rattle.desk_commands.proofs.shelf_return.reshelve.Goals as goal

pub returns-in_err-told : goal.returns-in_err-told
returns-in_err-told g c = let told = c.in_err-told.ensures.answers in desk_passed _ c.from_residual.ensures told.aborts told.faults

pub returns-then-are_none : goal.returns-then-are_none
returns-then-are_none g c =
    let v = g.P.Versioned.version in
    let told = c.in_ok-told.ensures.answers in
    is_refused told.looks (λ clean s sound so it.
    let at_desk = c.deref.ensures.value ∙ told.answers clean tt (tables v s).desk it.desk in
    nothing_idle v s sound (idle_told v s sound c.in_ok-idle.ensures at_desk c.are_none.ensures c.deref-2.ensures.value c.if-are_none.true).1)

pub returns : goal.returns
returns g c =
    let v = g.P.Versioned.version in
    let told = c.in_ok-told.ensures.answers in
    does_then told.looks c.shelve.ensures (λ clean s sound so it.
    let at_desk = c.deref.ensures.value ∙ told.answers clean tt (tables v s).desk it.desk in
    idle_told v s sound c.in_ok-idle.ensures at_desk c.are_none.ensures c.deref-2.ensures.value c.if-are_none.false)
