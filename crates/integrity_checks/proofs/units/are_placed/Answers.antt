use Rattle.std.proofs.Common.{◌∙◌}
use Rattle.integrity_checks.proofs.JudgedUnits.{numbers_alike}
use Rattle.integrity_checks.proofs.units.are_placed.Goals as goal

pub returns : goal.returns
returns c =
    c.are_good.ensures
    ∙ numbers_alike c.args.next c.args.height c.args.numbers.items c.sorted-units.result c.args.placed.items c.sorted-places.result c.sorted-units.ensures c.sorted-places.ensures
