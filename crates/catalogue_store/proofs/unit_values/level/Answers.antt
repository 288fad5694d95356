use Rattle.std.proofs.Common.{◌∙◌}
use Rattle.catalogue_store.proofs.Common.{Unit, legible_units, same_fault, state, tells_not, tells_well}
use Rattle.catalogue_store.proofs.UnitTold.{first_told}
use Rattle.catalogue_store.proofs.unit_values.level.Goals as goal

pub returns-in_err-found : goal.returns-in_err-found
returns-in_err-found g c =
    let a = state g.S.Store c.args.tables.now in
    record { answers = tells_not (same_fault c.from_residual.ensures) c.in_err-found.ensures.reads.aborts c.in_err-found.ensures.reads.spares (λ o k it may kept clean free. let at = it.catalogue.units in c.in_err-found.ensures.faults at.units at.rows (legible_units a.now.trees k at kept) clean free) }

pub returns : goal.returns
returns g c =
    let a = state g.S.Store c.args.tables.now in
    record {
      answers = tells_well c.in_ok-found.ensures.reads.looks (λ clean o k it.
          let at = it.catalogue.units in
          let got = c.in_ok-found.ensures.answers clean at.units at.rows tt in
          got.2 ∙ first_told (λ (u : Unit). u.values.level) a.now.trees k.forest at c.args.unit got.0 got.1.0);
    }
