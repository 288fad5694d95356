-- the visits before this one were made, and the others wait
use Rattle.std.proofs.Common.{◌≡◌, drop, length, take}
use Rattle.headline.proofs.Common.{RepresentsSpanRows, Second, WereMade, has_clean_disk, is_shown, is_still_open}
use Rattle.headline.proofs.visits.make_all.Given as goal

abbrev pub invariant-loop-visit : goal.invariant-loop-visit
invariant-loop-visit g l =
    (length l.visits ≡ length l.initial.visits)
    × (drop l.visit-index l.visits ≡ drop l.visit-index l.initial.visits)
    × WereMade g.R.Read.remaining g.W.Write.contents (is_shown g.S.Store RepresentsSpanRows Second) (has_clean_disk g.S.Store) (is_still_open g.S.Store)
    (take l.visit-index l.initial.visits) (take l.visit-index l.visits) l.initial.office l.office
