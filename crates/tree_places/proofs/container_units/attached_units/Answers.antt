use Rattle.std.proofs.Common.{rules}
use Rattle.std.proofs.Math.Dec.{eqb}
use Rattle.std.proofs.lemmas.List.Filters.{dedup_is}
use Rattle.tree_places.proofs.Common.{state}
use Rattle.tree_places.proofs.ContainerUnits.{attached}
use Rattle.tree_places.proofs.container_units.attached_units.Goals as goal

pub returns-clause-units : goal.returns-clause-units
returns-clause-units g c clean k units housings =
    let a = state g.S.Store c.args.tables.now in
    let found = c.in_ok-ids.ensures.answers clean housings.housings housings.rows tt in
    attached a.now.trees k units housings c.args.container found.0 c.in_ok-ids.ids.items c.dedup.new.self.items found.1.0 found.1.1 found.2 (dedup_is eqb c.in_ok-ids.ids.items c.dedup.new.self.items c.dedup.ensures.filtered)

pub returns-in_err-ids-clause-faults : goal.returns-in_err-ids-clause-faults
returns-in_err-ids-clause-faults g c k housings clean free =
    let why = c.in_err-ids.ensures.faults housings.housings housings.rows tt clean free in
    search (rules, why)
