use Rattle.std.proofs.Common.{◌≡◌, ◌+◌, [], ◌∷◌, length, ap, ◌∙◌, arith}
use Rattle.office_tables.specs.Schema as tables
use Rattle.catalogue_statements.proofs.Common.{Database, RepresentsContainers, counted_from, early, goes_then}
use Rattle.catalogue_statements.proofs.Common.{same_untouched, state, touched_again}
use Rattle.catalogue_statements.proofs.Numbered.{one_container}
use Rattle.catalogue_statements.proofs.Untold.{next_free, none_alike}
use Rattle.catalogue_statements.proofs.WritingCalls.{writes_cut_looked, writes_not, writes_well}
use Rattle.catalogue_statements.proofs.housing.add_container.Goals as goal

pub returns-in_err-number : goal.returns-in_err-number
returns-in_err-number g c =
    let failed = c.in_err-number.ensures in
    writes_not c.in_err-number.field-0.0 c.from_residual.ensures failed.reads.aborts failed.reads.spares (λ boxes at _. failed.faults boxes at tt)

pub returns-in_err-insert_container : goal.returns-in_err-insert_container
returns-in_err-insert_container g c =
    let b = state g.S.Store c.next_number.new.tables in
    let n = c.in_ok-number.number in
    let next = c.in_ok-number.ensures in
    let failed = c.in_err-insert_container.ensures in
    writes_cut_looked c.in_err-insert_container.field-0.0 c.from_residual-in_err-insert_container.ensures next.reads.looks failed.leaves.aborts failed.leaves.spares
    (λ before boxes at new.
    let is : n ≡ length boxes + 1 = next.answers before boxes at tt in
    let there : RepresentsContainers b.now.trees boxes = ap (λ (db : Database). db.trees tables.container.tree) (next.reads.looks.same before) ∙ at in
    failed.faults (counted_from 1 boxes) there (next_free 1 n boxes (omega (arith, is)), none_alike 1 boxes c.args.key.now new))

pub returns : goal.returns
returns g c =
    let a = state g.S.Store c.args.tables.now in
    let b = state g.S.Store c.next_number.new.tables in
    let d = state g.S.Store c.insert_container.new.tables in
    let touched = tables.container.tree ∷ [] in
    let next = c.in_ok-number.ensures in
    let looked = next.reads.looks in
    let inserted = c.in_ok-insert_container.ensures in
    let early_b = early inserted.leaves.crash in
    writes_well (goes_then looked.goes inserted.leaves.goes) (λ clean. touched_again touched a.now b.now d.now (same_untouched touched a.now b.now (looked.same (early_b clean))) (inserted.puts clean).only)
    (λ clean boxes at.
    let before = early_b clean in
    let is = next.answers before boxes at tt in
    let there : RepresentsContainers b.now.trees boxes = ap (λ (db : Database). db.trees tables.container.tree) (looked.same before) ∙ at in
    (is, one_container b.now.trees d.now.trees c.in_ok-number.number c.args.key.now boxes is there (inserted.puts clean).rows))
