use Rattle.std.proofs.Common.{◌≡◌, rules, sym, ◌∙◌, to_z, of_z, w32, w64, FitsSigned}
use Rattle.std.proofs.lemmas.Int.{to_z-of_z}
use Rattle.office_tables.specs.Schema as tables
use Rattle.integrity_checks.proofs.Common.{looks_then, state}
use Rattle.integrity_checks.proofs.ExaminationEnds.{earlier, examined, still}
use Rattle.integrity_checks.proofs.Surroundings.{numbers_met, surrounded}
use Rattle.integrity_checks.proofs.desk_rows.surroundings.Goals as goal

pub returns : goal.returns
returns g c = examined (looks_then c.in_ok-units.ensures.reads.looks c.in_ok-containers.ensures.reads.looks) (λ clean count.
    let db = (state g.S.Store c.args.tables.now).now.trees in
    let there = still c.in_ok-units.ensures.reads.looks c.in_ok-containers.ensures clean in
    let units = numbers_met (db tables.unit.tree) c.in_ok-units.units.rows.items (c.in_ok-units.ensures.answers (earlier c.in_ok-containers.ensures clean)) in
    let containers = numbers_met (db tables.container.tree) c.in_ok-containers.containers.rows.items there in
    let narrow : FitsSigned w32 c.number.result = search rules in
    let wide : FitsSigned w64 c.from-4.result = search rules in
    let is = c.from-4.ensures ∙ to_z-of_z w32 c.number.result narrow ∙ c.number.ensures.number in
    let day : c.args.today ≡ to_z w64 (of_z w64 c.from-4.result) = sym is ∙ sym (to_z-of_z w64 c.from-4.result wide) in
    surrounded _ c.args.limits.now c.args.today db (search rules) (search rules) (search rules) day (λ n. units n ∙ sym (c.sorted.ensures n)) (λ n. containers n ∙ sym (c.sorted-2.ensures n)) count)
