use Rattle.std.proofs.Common.{ap, sym, ◌∙◌}
use Rattle.catalogue_core.proofs.PublishedUnits.{before_last-push}
use Rattle.access.proofs.Common.{Mark, is_opened_above, list_any}
use Rattle.access.proofs.clean_units.is_permitted_above.Goals as goal

pub returns-in-Some : goal.returns-in-Some
returns-in-Some c =
    c.has_permit.ensures
    ∙ sym (ap is_opened_above c.in-Some.ensures.cases.0 ∙ ap (list_any (λ (mark : Mark). mark.permit)) (before_last-push c.in-Some.above.now c.in-Some.field-0-0.now))
