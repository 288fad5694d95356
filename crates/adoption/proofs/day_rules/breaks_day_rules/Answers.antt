use Rattle.adoption.proofs.Common.{GoodTablesRepresentTheirState, state}
use Rattle.adoption.proofs.catalogue.Shown.{catalogue_shown}
use Rattle.adoption.proofs.tables.ShownTables.{good_state}
use Rattle.adoption.proofs.DayRules.{day_judged}
use Rattle.adoption.proofs.day_rules.breaks_day_rules.Goals as goal

pub returns : goal.returns
returns g c =
    let v = g.P.Versioned.version in
    let old = state g.S.Store c.args.tables.now in
    let law : GoodTablesRepresentTheirState g.P.Places.represents v old.now = λ good. good_state g.P.Places.represents v old.now good (catalogue_shown v old.now good g.P.Places.represents g.met.P.CheckedPlaces.shows_said) in
    day_judged g.P.Places.represents v g.S.Store c.args.tables.now c.breaks_day_rules.new.tables c.breaks_day_rules.result c.args.own.now law c.breaks_day_rules.ensures.answers c.breaks_day_rules.ensures.disk
