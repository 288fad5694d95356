use Rattle.std.proofs.Common.{sym, ◌∙◌}
use Rattle.integrity_checks.proofs.Common.{state}
use Rattle.integrity_checks.proofs.CatalogueDefects.{bad_containers, counted, rest_of_containers}
use Rattle.integrity_checks.proofs.ExaminationEnds.{examined, examined_last}
use Rattle.integrity_checks.proofs.catalogue_check.containers_are_good.Goals as goal

pub returns-in_default : goal.returns-in_default
returns-in_default g c =
    let one = c.in_ok-containers.ensures in
    examined one.reads.looks (λ clean version read. bad_containers version (state g.S.Store c.args.tables.now).now.trees (sym (one.answers clean) ∙ c.in_default.is))

pub returns : goal.returns
returns g c =
    let one = c.in_ok-containers.ensures in
    examined_last one.reads.looks c.housings_are_good.ensures (λ clean good follows version read.
    let db = (state g.S.Store c.args.tables.now).now.trees in
    let count = sym (one.answers clean) ∙ c.in-Some.is in
    follows version read (counted version db c.in-Some.containers count) ∙ rest_of_containers version db c.in-Some.containers count)
