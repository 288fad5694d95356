use Rattle.std.proofs.Common.{sym, ◌∙◌}
use Rattle.refinement.specs.Representation.{office_of as office_row}
use Rattle.desk_commands.proofs.Spared.{catalogue_passed, does_then, is_refused}
use Rattle.desk_commands.proofs.Revoked.{no_unit}
use Rattle.desk_commands.proofs.revocation.take_back_for.Goals as goal

pub returns-in_err-there : goal.returns-in_err-there
returns-in_err-there g c = let told = c.in_err-there.ensures.answers in catalogue_passed _ c.from_residual.ensures told.aborts told.faults

pub returns-then-not-there : goal.returns-then-not-there
returns-then-not-there g c =
    let told = c.in_ok-there.ensures.answers in
    is_refused told.looks
    (λ clean s sound so it. no_unit s c.args.ticket c.args.unit so.1 (sym (told.answers clean (office_row s) s.catalogue it.catalogue) ∙ c.if-not-there.true))

pub returns : goal.returns
returns g c =
    let told = c.in_ok-there.ensures.answers in
    does_then told.looks c.take_back_held.ensures
    (λ clean s sound so it. (so.0, so.1, sym (told.answers clean (office_row s) s.catalogue it.catalogue) ∙ c.if-not-there.false, so.2))
