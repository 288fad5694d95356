use Rattle.std.proofs.Common.{refl}
use Rattle.program.proofs.StoreLemmas.{failed_as}
use Rattle.program.proofs.imports.take_in.Goals as goal

pub returns-in_err-apply-clause-cause : goal.returns-in_err-apply-clause-cause
returns-in_err-apply-clause-cause g c clean s sound is =
    failed_as c.from_residual.result _ _ c.from_residual.ensures.1 (c.in_err-apply.field-0.0, refl, c.in_err-apply.ensures.cause clean s sound is)
