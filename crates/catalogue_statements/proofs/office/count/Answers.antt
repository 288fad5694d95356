use Rattle.std.proofs.Common.{◌≡◌, length, Some, None, Err, sym, ◌∙◌}
use Rattle.office_tables.specs.RowCounts.{cap}
use Rattle.catalogue_statements.proofs.Common.{looks_ill, looks_not, looks_well}
use Rattle.catalogue_statements.proofs.CountCalls.{count_caused, count_told}
use Rattle.catalogue_statements.proofs.office.count.Goals as goal

pub returns-in_err-number : goal.returns-in_err-number
returns-in_err-number g c table counts_rows =
    let failed = c.in_err-number.ensures in
    looks_not _ c.from_residual.ensures failed.reads.aborts failed.reads.spares (λ rows stored _ clean free. count_caused _ _ _ table _ counts_rows rows stored (Err _) (failed.ran clean) free)

pub returns-in_default : goal.returns-in_default
returns-in_default g c table counts_rows =
    let shown = c.in_ok-number.ensures in
    looks_ill shown.reads.looks (λ clean rows stored _.
    let clash : None ≡ Some (cap (length rows)) = sym c.in_default.is ∙ count_told _ _ _ table _ counts_rows rows stored _ (shown.ran clean) in
    absurd (cc))

pub returns : goal.returns
returns g c table counts_rows =
    let shown = c.in_ok-number.ensures in
    looks_well shown.reads.looks (λ clean rows stored _.
    let same : Some _ ≡ Some (cap (length rows)) = sym c.in-Some.is ∙ count_told _ _ _ table _ counts_rows rows stored _ (shown.ran clean) in
    cc)
