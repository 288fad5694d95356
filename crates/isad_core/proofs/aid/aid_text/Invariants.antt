use Rattle.std.proofs.Common.{◌≡◌, take}
use Rattle.isad_core.proofs.Common.{aid}
use Rattle.isad_core.proofs.aid.aid_text.Given as goal

abbrev pub invariant-loop-unit : goal.invariant-loop-unit
invariant-loop-unit l = l.out.items ≡ aid (take l.unit-index l.units)
