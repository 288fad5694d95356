use Rattle.std.proofs.Common.{◌∙◌, List, map, OnOk, refl, ap, subst, sym}
use Rattle.office_tables.specs.Schema as tables
use Rattle.nested_sets.proofs.Common.{HasRows, Second, VersionedRow, changes_in, in_version_2, known_change, state}
use Rattle.nested_sets.proofs.Common.{versioned_cells}
use Rattle.nested_sets.proofs.Version.{set_version_means, set_version_leaves, set_version_only, set_version_faults}
use Rattle.nested_sets.proofs.migration_statements.set_version.Goals as goal

pub change-requires : goal.change-requires
change-requires g c = known_change set_version_means refl

pub returns : goal.returns
returns g c =
    let a = state g.S.Store c.args.tables.now in
    let b = state g.S.Store c.change.new.tables in
    let r = c.change.result in
    changes_in Second c.change.ensures.leaves (rw (c.number-2.ensures, c.number.ensures) at c.change.ensures.ran)
    (λ has ran xs held one.
    subst (λ (rows : List VersionedRow). OnOk r (HasRows tables.office.tree (map versioned_cells (map in_version_2 rows)) a.now b.now)) (sym one.1)
    (set_version_leaves a b has r ran one.0 (held ∙ ap (map versioned_cells) one.1)))
    (λ has ran. set_version_only a b has r ran)
    (λ has ran xs held one free. set_version_faults a b has r ran one.0 (held ∙ ap (map versioned_cells) one.1) free c.change.ensures.live)
