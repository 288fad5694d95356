use Rattle.std.proofs.Common.{◌≡◌, take}
use Rattle.access.proofs.Common.{AreWalkMarks, CanBeJudged, RepresentsWhole, open_ones, state}
use Rattle.access.proofs.Learned.{Learned}
use Rattle.access.proofs.openness.open_today.Given as goal

abbrev pub invariant-loop-order : goal.invariant-loop-order
invariant-loop-order g l =
    Learned (RepresentsWhole g.P.Places.represents g.P.Versioned.version) (state g.S.Store l.initial.tables) (state g.S.Store l.tables)
    (λ _ s. CanBeJudged s → l.today ≡ s.day → AreWalkMarks s.catalogue.forest l.known → l.open.items ≡ open_ones s
    (take l.order-index l.orders))
