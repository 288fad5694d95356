use Rattle.std.proofs.Common.{◌≡◌, Some, None, sym, ◌∙◌, refl}
use Rattle.catalogue_store.proofs.Common.{cut_after, same_fault, spares_known, tells_not, tells_well}
use Rattle.catalogue_store.proofs.office.settings.Goals as goal

pub returns-in_err-row : goal.returns-in_err-row
returns-in_err-row g c =
    let e = c.in_err-row.field-0.0 in
    record { answers = tells_not (same_fault c.from_residual.ensures) c.in_err-row.ensures.reads.aborts c.in_err-row.ensures.reads.spares (λ k o it may legible clean free. c.in_err-row.ensures.faults g.P.Versioned.version o it.catalogue.office legible clean free) }

pub returns-in_default : goal.returns-in_default
returns-in_default g c =
    record { answers = tells_not refl (cut_after c.in_ok-row.ensures.reads.looks.goes.on) (spares_known c.in_ok-row.ensures.reads.looks) (λ k o it may legible clean free. let clash : None ≡ Some o = sym c.in_default.is ∙ c.in_ok-row.ensures.row clean g.P.Versioned.version o it.catalogue.office in absurd (cc)) }

pub returns : goal.returns
returns g c =
    record {
      answers = tells_well c.in_ok-row.ensures.reads.looks
          (λ clean k o it. let same : Some c.in-Some.row ≡ Some o = sym c.in-Some.is ∙ c.in_ok-row.ensures.row clean g.P.Versioned.version o it.catalogue.office in cc);
    }
