use Rattle.std.proofs.Common.{subst, sym}
use Rattle.catalogue_commands.proofs.Common.{AreAsked, does_then, issued_of, office_passed, tables}
use Rattle.catalogue_commands.proofs.removal.remove_known.Goals as goal

pub returns-in_err-loans : goal.returns-in_err-loans
returns-in_err-loans g c = let told = c.in_err-loans.ensures.answers in office_passed _ c.from_residual.ensures told.aborts told.faults

pub returns : goal.returns
returns g c =
    let told = c.in_ok-loans.ensures.answers in
    does_then told.looks c.remove_beside.ensures
    (λ clean s sound so it. (so.0, so.1, subst (AreAsked c.args.unit s (issued_of (tables g.P.Versioned.version s).desk)) (sym c.deref.ensures.value) (told.answers clean tt s it)))
