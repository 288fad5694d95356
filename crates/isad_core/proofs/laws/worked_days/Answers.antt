use Rattle.std.proofs.Common.{◌≡◌, refl, pos, codes, Some, subst, arith}
use Rattle.jiff_core.proofs.SignedLemmas.{signed_arith}
use Rattle.isad_core.specs.Days.{day_text}
use Rattle.isad_core.proofs.Common.{Bytes, IsDayNumber, day_of}
use Rattle.isad_core.proofs.DateLemmas.{day_of-day_text}
use Rattle.isad_core.proofs.laws.worked_days.Goals as goal

written : day_text (pos 19782) ≡ codes "2024-02-29"
unfolding day_text
written = refl

in_range : IsDayNumber (pos 19782)
in_range = (omega (arith, signed_arith), omega (arith, signed_arith))

pub returns-clause-leap_day : goal.returns-clause-leap_day
returns-clause-leap_day c = subst (λ (text : Bytes). day_of text ≡ Some (pos 19782)) written (day_of-day_text (pos 19782) in_range)

pub returns-clause-written : goal.returns-clause-written
returns-clause-written c = written
