use Rattle.std.proofs.Common.{◌≡◌, map, take}
use Rattle.finding_aids.proofs.Common.{BoxKey, number_by}
use Rattle.finding_aids.proofs.previews.aid_printer.Printer.number_containers.Given as goal

abbrev pub invariant-loop-container : goal.invariant-loop-container
invariant-loop-container l = l.numbered ≡ map (λ (b : BoxKey). (number_by l.self.numbers b, b.name)) (take l.container-index l.boxes)
