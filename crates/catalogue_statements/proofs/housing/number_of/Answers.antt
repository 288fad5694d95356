use Rattle.std.proofs.Common.{◌≡◌, ◌+◌, ◌++◌, ◌∷◌, [], length, sym, ap, subst, ◌∙◌, None, Some}
use Rattle.office_tables.specs.Schema as tables
use Rattle.catalogue_statements.proofs.Common.{Database, IfOk-weaker, RepresentsContainers, box_number, counted_from}
use Rattle.catalogue_statements.proofs.Common.{distinct, number_among, same_untouched, state, with_boxes}
use Rattle.catalogue_statements.proofs.BoxNumbers.{box_number_known, box_number_new, known_numbered, unknown_unnumbered}
use Rattle.catalogue_statements.proofs.BoxNumbers.{with_known, with_new}
use Rattle.catalogue_statements.proofs.Numbered.{number_read}
use Rattle.catalogue_statements.proofs.WritingCalls.{writes_last_looked, writes_not, writes_well}
use Rattle.catalogue_statements.proofs.housing.number_of.Goals as goal

pub returns-in_err-number : goal.returns-in_err-number
returns-in_err-number g c =
    let failed = c.in_err-number.ensures in
    writes_not c.in_err-number.field-0.0 c.from_residual.ensures failed.reads.aborts failed.reads.spares (λ boxes at _. failed.faults (counted_from 1 boxes) at tt)

pub returns-in-None : goal.returns-in-None
returns-in-None g c =
    let b = state g.S.Store c.container_number.new.tables in
    let d = state g.S.Store c.add_container.new.tables in
    let key = c.args.key.now in
    let found = c.in_ok-number.ensures in
    let looked = found.reads.looks in
    let added = c.add_container.ensures in
    writes_last_looked looked added.leaves added.only
    (λ before clean boxes at.
    let got = found.answers before (counted_from 1 boxes) at tt in
    let none : number_among boxes key ≡ None =
    sym (number_read boxes key got.0 got.1) ∙ sym got.2 ∙ c.in-None.is in
    let there : RepresentsContainers b.now.trees boxes = ap (λ (db : Database). db.trees tables.container.tree) (looked.same before) ∙ at in
    IfOk-weaker c.add_container.result (λ n. (n ≡ length boxes + 1) × RepresentsContainers d.now.trees (boxes ++ key ∷ []))
    (λ n. distinct boxes ≡ boxes → (n ≡ box_number (with_boxes boxes (key ∷ [])) key) × RepresentsContainers d.now.trees (with_boxes boxes (key ∷ [])))
    (λ n it apart.
    let all : boxes ++ key ∷ [] ≡ with_boxes boxes (key ∷ []) = sym (with_new boxes key apart (unknown_unnumbered boxes key none)) in
    (it.0 ∙ box_number_new boxes key apart none, subst (RepresentsContainers d.now.trees) all it.1))
    (added.makes clean boxes there))
    (λ before boxes at _.
    let got = found.answers before (counted_from 1 boxes) at tt in
    let none : number_among boxes key ≡ None =
    sym (number_read boxes key got.0 got.1) ∙ sym got.2 ∙ c.in-None.is in
    let there : RepresentsContainers b.now.trees boxes = ap (λ (db : Database). db.trees tables.container.tree) (looked.same before) ∙ at in
    added.faults boxes there (unknown_unnumbered boxes key none))

pub returns-in-Some : goal.returns-in-Some
returns-in-Some g c =
    let b = state g.S.Store c.container_number.new.tables in
    let key = c.args.key.now in
    let found = c.in_ok-number.ensures in
    let looked = found.reads.looks in
    writes_well looked.goes (λ clean. same_untouched (tables.container.tree ∷ []) (state g.S.Store c.args.tables.now).now b.now (looked.same clean))
    (λ clean boxes at apart.
    let got = found.answers clean (counted_from 1 boxes) at tt in
    let some : number_among boxes key ≡ Some c.in-Some.number =
    sym (number_read boxes key got.0 got.1) ∙ sym got.2 ∙ c.in-Some.is in
    let there : RepresentsContainers b.now.trees boxes = ap (λ (db : Database). db.trees tables.container.tree) (looked.same clean) ∙ at in
    (box_number_known boxes key c.in-Some.number apart some, subst (RepresentsContainers b.now.trees) (sym (with_known boxes key apart (known_numbered boxes key c.in-Some.number some))) there))
