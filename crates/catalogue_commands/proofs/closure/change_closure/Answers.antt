use Rattle.std.proofs.Common.{◌≡◌, false, refl, sym, ◌∙◌}
use Rattle.catalogue_commands.proofs.Common.{catalogue_passed, does_then, has_unit, is_refused, office_of}
use Rattle.catalogue_commands.proofs.closure.change_closure.Goals as goal

pub returns-in_err-is_there : goal.returns-in_err-is_there
returns-in_err-is_there g c = let told = c.in_err-is_there.ensures.answers in catalogue_passed _ c.from_residual.ensures told.aborts told.faults

pub returns-then-not-is_there : goal.returns-then-not-is_there
returns-then-not-is_there g c =
    let told = c.in_ok-is_there.ensures.answers in
    is_refused told.looks (λ clean s sound so it.
    let none : has_unit s.catalogue.forest c.args.unit ≡ false = sym (told.answers clean (office_of s) s.catalogue it.catalogue) ∙ c.if-not-is_there.true in
    rw none refl)

pub returns : goal.returns
returns g c =
    let told = c.in_ok-is_there.ensures.answers in
    does_then told.looks c.close_known.ensures
    (λ clean s sound so it. (so.0, sym (told.answers clean (office_of s) s.catalogue it.catalogue) ∙ c.if-not-is_there.false, so.1))
