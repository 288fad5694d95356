use Rattle.std.proofs.Common.{◌≡◌, Some, None, ap, sym, ◌∙◌, refl}
use Rattle.catalogue_core.proofs.NodeLemmas.{length-nodes}
use Rattle.office_tables.specs.RowCounts.{cap}
use Rattle.office_tables.specs.Schema as tables
use Rattle.catalogue_statements.proofs.Numbered.{length-counted}
use Rattle.catalogue_store.proofs.Common.{Database, counted_from, cut_after, early, length_permutation, looks_then}
use Rattle.catalogue_store.proofs.Common.{nodes, same_fault, spares_known, tells_cut, tells_not, tells_well}
use Rattle.catalogue_store.proofs.office.office_row.Goals as goal

pub returns-in_default : goal.returns-in_default
returns-in_default g c =
    record { answers = tells_not refl (cut_after c.in_ok-row.ensures.reads.looks.goes.on) (spares_known c.in_ok-row.ensures.reads.looks) (λ k o it may legible clean free. let clash : None ≡ Some o = sym c.in_default.is ∙ c.in_ok-row.ensures.row clean g.P.Versioned.version o it.catalogue.office in absurd (cc)) }

pub returns-in_err-units : goal.returns-in_err-units
returns-in_err-units g c =
    let e = c.in_err-units.field-0.0 in
    let looked = c.in_ok-row.ensures.reads.looks in
    record {
      answers = tells_cut (same_fault c.from_residual-in_err-units.ensures) looked c.in_err-units.ensures.reads.aborts c.in_err-units.ensures.reads.spares (λ k o it may legible at_b clean free.
          let at = it.catalogue.units in
          c.in_err-units.ensures.faults at.units (ap (λ (db : Database). db.trees tables.unit.tree) (looked.same at_b) ∙ at.rows) tt clean free);
    }

pub returns-in_err-containers : goal.returns-in_err-containers
returns-in_err-containers g c =
    let e = c.in_err-containers.field-0.0 in
    let looked = looks_then c.in_ok-row.ensures.reads.looks c.in_ok-units.ensures.reads.looks in
    record {
      answers = tells_cut (same_fault c.from_residual-in_err-containers.ensures) looked c.in_err-containers.ensures.reads.aborts c.in_err-containers.ensures.reads.spares (λ k o it may legible at_d clean free.
          c.in_err-containers.ensures.faults (counted_from 1 k.containers) (ap (λ (db : Database). db.trees tables.container.tree) (looked.same at_d) ∙ it.catalogue.containers) tt clean free);
    }

pub returns : goal.returns
returns g c =
    let looked_b = c.in_ok-row.ensures.reads.looks in
    let looked_d = looks_then looked_b c.in_ok-units.ensures.reads.looks in
    record {
      answers = tells_well (looks_then looked_d c.in_ok-containers.ensures.reads.looks) (λ clean k o it.
          let at = it.catalogue in
          let at_d = early c.in_ok-containers.ensures.reads.looks.goes.on.crash clean in
          let at_b = early c.in_ok-units.ensures.reads.looks.goes.on.crash at_d in
          let same : Some c.in-Some.row ≡ Some o = sym c.in-Some.is ∙ c.in_ok-row.ensures.row at_b g.P.Versioned.version o at.office in
          let row : c.in-Some.row ≡ o = cc in
          let units = c.in_ok-units.ensures.answers at_d at.units.units (ap (λ (db : Database). db.trees tables.unit.tree) (looked_b.same at_b) ∙ at.units.rows) tt
          ∙ ap cap (length_permutation (nodes k.forest) at.units.units at.units.are ∙ length-nodes k.forest) in
          let containers = c.in_ok-containers.ensures.answers clean (counted_from 1 k.containers) (ap (λ (db : Database). db.trees tables.container.tree) (looked_d.same at_d) ∙ at.containers) tt
          ∙ ap cap (length-counted 1 k.containers) in
          rw (row, units, containers) refl);
    }
