use Rattle.std.proofs.Common.{refl, ap, ◌∙◌}
use Rattle.office_tables.specs.Schema as tables
use Rattle.catalogue_store.specs.UnitValues.{values_or_none}
use Rattle.catalogue_store.proofs.Common.{Database, RepresentsContainers, early, looks_then, same_fault, state}
use Rattle.catalogue_store.proofs.Common.{tells_cut, tells_not, tells_well}
use Rattle.catalogue_store.proofs.UnitTold.{boxes_known, containers_told}
use Rattle.catalogue_store.proofs.unit_values.containers.Goals as goal

pub returns-in_err-numbers : goal.returns-in_err-numbers
returns-in_err-numbers g c =
    record { answers = tells_not (same_fault c.from_residual.ensures) c.in_err-numbers.ensures.reads.aborts c.in_err-numbers.ensures.reads.spares (λ o k it knows kept clean free. let at = it.catalogue.housings in c.in_err-numbers.ensures.faults at.housings at.rows clean free) }

pub returns-in_err-boxes : goal.returns-in_err-boxes
returns-in_err-boxes g c =
    let a = state g.S.Store c.args.tables.now in
    let b = state g.S.Store c.containers_of.new.tables in
    let looked = c.in_ok-numbers.ensures.reads.looks in
    record {
      answers = tells_cut (same_fault c.from_residual-in_err-boxes.ensures) looked c.in_err-boxes.ensures.reads.aborts c.in_err-boxes.ensures.reads.spares (λ o k it knows kept at_b clean free.
          let at = it.catalogue in
          let values = values_or_none c.args.unit k in
          let numbers = c.in_ok-numbers.ensures.numbers at_b at.housings.housings at.housings.rows k.containers values (containers_told a.now o k it c.args.unit) in
          let there : RepresentsContainers b.now.trees k.containers = ap (λ (db : Database). db.trees tables.container.tree) (looked.same at_b) ∙ at.containers in
          c.in_err-boxes.ensures.faults k.containers there kept.boxes values.boxes (boxes_known a.now o k it c.args.unit knows) (c.as_slice.ensures ∙ numbers) clean free);
    }

pub returns : goal.returns
returns g c =
    let a = state g.S.Store c.args.tables.now in
    let b = state g.S.Store c.containers_of.new.tables in
    let looked = c.in_ok-numbers.ensures.reads.looks in
    record {
      answers = tells_well (looks_then looked c.in_ok-boxes.ensures.reads.looks) (λ clean o k it.
          let at = it.catalogue in
          let at_b = early c.in_ok-boxes.ensures.reads.looks.goes.on.crash clean in
          let values = values_or_none c.args.unit k in
          let numbers = c.in_ok-numbers.ensures.numbers at_b at.housings.housings at.housings.rows k.containers values (containers_told a.now o k it c.args.unit) in
          let there : RepresentsContainers b.now.trees k.containers = ap (λ (db : Database). db.trees tables.container.tree) (looked.same at_b) ∙ at.containers in
          let boxes = c.in_ok-boxes.ensures.boxes clean k.containers there values.boxes (c.as_slice.ensures ∙ numbers) in
          rw (boxes, numbers) refl);
    }
