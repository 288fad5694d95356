use Rattle.std.proofs.Common.{◌∙◌, map, Some, refl, ap}
use Rattle.csv_import.proofs.Common.{looks_nowhere}
use Rattle.csv_import.proofs.Afterwards.{makes_fault, makes_full, makes_legible, makes_same, makes_then}
use Rattle.csv_import.proofs.EnteredNumbers.{units_told}
use Rattle.csv_import.proofs.RowsToCome.{are_brought, to_come}
use Rattle.csv_import.proofs.row_entry.enter_rows.Goals as goal

pub returns-in_err-units-clause-updates : goal.returns-in_err-units-clause-updates
returns-in_err-units-clause-updates g c = makes_full c.from_residual.ensures c.in_err-units.ensures.faults

pub returns-in_err-counts-clause-updates : goal.returns-in_err-counts-clause-updates
returns-in_err-counts-clause-updates g c =
    makes_fault _ c.from_residual-in_err-counts.ensures
    (makes_then looks_nowhere (makes_legible c.in_err-counts.ensures.updates) refl
    (λ o k it may clean. record { within = tt; allowed = are_brought may (c.deref.ensures.value ∙ c.in_ok-units.ensures.units) (c.deref-2.ensures.value ∙ c.in_ok-units.ensures.arrivals k may.known); same = refl }))

pub returns-clause-updates : goal.returns-clause-updates
returns-clause-updates g c =
    makes_same
    (makes_then looks_nowhere (makes_legible c.in_ok-counts.ensures.updates) refl
    (λ o k it may clean. record { within = tt; allowed = are_brought may (c.deref.ensures.value ∙ c.in_ok-units.ensures.units) (c.deref-2.ensures.value ∙ c.in_ok-units.ensures.arrivals k may.known); same = refl }))

pub returns-clause-finds : goal.returns-clause-finds
returns-clause-finds g c clean o k it may = (
  c.in_ok-counts.ensures.counts clean o k it.tables (are_brought may (c.deref.ensures.value ∙ c.in_ok-units.ensures.units) (c.deref-2.ensures.value ∙ c.in_ok-units.ensures.arrivals k may.known)),
  ap (map Some) c.in_ok-units.ensures.units ∙ units_told c.args.import.now.source.now c.args.import.now.rows.now c.args.import.now.next k _ (to_come may) may.known.each,
)
