use Rattle.std.proofs.Common.{◌≡◌, Some, subst}
use Rattle.csv_import.specs.declared.remarks.Ranked.{Ranked}
use Rattle.csv_import.proofs.Common.{IfSome, IsRankOf, IsRanked, looks_nowhere}
use Rattle.csv_import.proofs.Tellings.{tells_of, tells_so}
use Rattle.csv_import.proofs.remarks.kept_rank.Goals as goal

pub returns-in-Some : goal.returns-in-Some
returns-in-Some g c =
    let it = subst (λ o. IfSome o (λ (r : Ranked). (c.args.last.now ≡ Some r) × (r.unit ≡ c.args.unit))) c.in-Some.is c.kept_of.ensures in
    record { answers = tells_so looks_nowhere (λ clean o k shown ranked. (subst (λ n. IsRankOf k n c.in-Some.ranked.rank) it.1 (subst (IsRanked k) it.0 ranked), ranked)) }

pub returns : goal.returns
returns g c = record { answers = tells_of c.in_ok-rank.ensures.answers (λ o k shown is ranked. (is, is)) }
