use Rattle.std.proofs.Common.{length, ap, ◌∙◌}
use Rattle.office_tables.specs.RowCounts.{cap}
use Rattle.catalogue_statements.proofs.Numbered.{length-counted}
use Rattle.csv_import.proofs.Common.{counted_from, most_containers, nat_lt, tells_passed}
use Rattle.csv_import.proofs.Counting.{many_counted}
use Rattle.csv_import.proofs.Tellings.{tells_so}
use Rattle.csv_import.proofs.catalogue_import.has_many_containers.Goals as goal

pub returns-in_err-containers : goal.returns-in_err-containers
returns-in_err-containers g c = record { answers = tells_passed _ c.from_residual.ensures c.in_err-containers.ensures.reads.aborts (λ k o it may legible. c.in_err-containers.ensures.faults (counted_from 1 k.containers) it.catalogue.containers tt) }

pub returns : goal.returns
returns g c =
    record {
      answers = tells_so c.in_ok-containers.ensures.reads.looks (λ clean k o it.
          let containers = c.in_ok-containers.ensures.answers clean (counted_from 1 k.containers) it.catalogue.containers tt ∙ ap cap (length-counted 1 k.containers) in
          ap (nat_lt most_containers) containers ∙ many_counted (length k.containers));
    }
