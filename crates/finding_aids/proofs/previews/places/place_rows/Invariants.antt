use Rattle.std.proofs.Common.{take}
use Rattle.finding_aids.proofs.Common.{IsPlacing, get_by_text}
use Rattle.finding_aids.proofs.previews.places.place_rows.Given as goal

abbrev pub invariant-loop-index : goal.invariant-loop-index
invariant-loop-index l = IsPlacing (take l.index l.rows) (get_by_text l.known) l.places.items
