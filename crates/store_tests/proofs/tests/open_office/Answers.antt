use Rattle.std.proofs.Common.{ℕ, IsTrue, refl, [], ap, ◌∙◌, Result, Ok, Err, OnOk}
use Rattle.sqlite.specs.Held.{state}
use Rattle.sqlite.specs.State.{State, HasCleanDisk}
use Rattle.sqlite.specs.Tree.{Trees}
use Rattle.tree_core.specs.Forest.{Forest}
use Rattle.catalogue_core.specs.CatalogueMerge.{Catalogue}
use Rattle.office_tables.proofs.Calls.{early}
use Rattle.office_tables.specs.Creation.{IsMaking}
use Rattle.office_tables.specs.Schema.{no_schema, desk_schema, desk_tables}
use Rattle.office_tables.specs.Step.{InTransaction, Continues}
use Rattle.office_tables.specs.Versions.{Version}
use Rattle.catalogue_statements.specs.Representation.{Represents}
use Rattle.catalogue_statements.specs.declared.office.OfficeRow.{OfficeRow}
use Rattle.store_tests.proofs.tests.open_office.Goals as goal

-- a new office has our tables, and its transaction goes on
inside_of : {X E : Type 0} (v : Version) (represents : Trees → Forest ℕ → Type 0) (old new : State) (r : Result X E) (o : OfficeRow) (c : Catalogue) → OnOk r (Continues old new) → (HasCleanDisk old → IsTrue old.in_transaction)
    → (HasCleanDisk new → OnOk r (Represents represents v new.now o c)) → OnOk r (InTransaction v new)
inside_of v represents old new (Ok x) o c goes inside shown = λ clean. ((shown clean).catalogue.schema_is, (goes.within clean).mode ∙ inside (early goes.crash clean))
inside_of v represents old new (Err e) o c goes inside shown = tt

pub returns : goal.returns
returns g c =
    let a1 = state g.S.Store c.begin.new.conn in
    let a2 = state g.S.Store c.create_desk.new.conn in
    let a3 = state g.S.Store c.create.new.conn in
    let making : IsMaking [] no_schema a1.now a1 = λ clean.
    let it = c.in_ok-begin.ensures.begun clean in
    (record { schema_is = ap (λ d. d.schema) it.now_is ∙ c.requires.blank (early c.begin.ensures.crash clean); kept = tt; empty = tt }, it.mode) in
    let step = c.in_ok-create_desk.ensures.made a1.now making in
    let desk : IsMaking desk_tables desk_schema a2.now a2 = λ clean.
    let it = step.1 clean in
    (record { schema_is = it.0.schema_is; kept = (refl, (refl, (refl, (refl, (refl, (refl, (refl, tt))))))); empty = tt }, it.1) in
    record { inside = inside_of g.P.Versioned.version g.P.Places.represents a2 a3 c.create.result _ _ (c.create.ensures.leaves a2.now desk).goes (λ clean. (desk clean).1) (c.create.ensures.represents a2.now desk) }
