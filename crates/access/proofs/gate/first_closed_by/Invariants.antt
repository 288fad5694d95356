use Rattle.std.proofs.Common.{◌≡◌, None, take}
use Rattle.access.proofs.Common.{AreWalkMarks, CanBeJudged, RepresentsWhole, first_that, is_closed_to, state}
use Rattle.access.proofs.Learned.{Learned}
use Rattle.access.proofs.gate.first_closed_by.Given as goal

abbrev pub invariant-loop-loan : goal.invariant-loop-loan
invariant-loop-loan g l =
    Learned (RepresentsWhole g.P.Places.represents g.P.Versioned.version) (state g.S.Store l.initial.tables) (state g.S.Store l.tables)
    (λ _ s. CanBeJudged s → l.today ≡ s.day → AreWalkMarks s.catalogue.forest l.known → first_that (is_closed_to s) (take l.loan-index l.loans)
    ≡ None)
