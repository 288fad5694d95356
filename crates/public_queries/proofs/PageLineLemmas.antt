-- The containers on a page.
use Rattle.std.proofs.Common.{◌≡◌, ℕ, ◌+◌, ◌<◌, List, [], ◌∷◌, length, drop, get_or, Option, Some, refl, ap, ◌∙◌, arith}
use Rattle.public_queries.proofs.Common.{BoxKey, Bytes, OnPath, PageBox, box_lines, lines_or, nearest_lines}
use Rattle.public_queries.proofs.MoreItems.{left_at}

-- where a unit has containers, they are the lines
pub own_lines_first : (from : Option Bytes) (numbers : List ℕ) (boxes : List BoxKey) (further : List PageBox)
    → 0 < length boxes → lines_or from numbers boxes further ≡ box_lines from numbers boxes
own_lines_first from numbers [] further h = absurd (omega (arith, h))
own_lines_first from numbers (box ∷ boxes) further h = refl

pub nearest_here : (units : List OnPath) (i : ℕ) (unit : OnPath) → unit ≡ get_or units i unit → i < length units
    → 0 < length unit.unit.values.boxes
    → nearest_lines (drop i units) ≡ box_lines (Some unit.code) unit.unit.containers unit.unit.values.boxes
nearest_here units i unit is within h =
    ap nearest_lines (left_at units i unit is within)
    ∙ own_lines_first (Some unit.code) unit.unit.containers unit.unit.values.boxes (nearest_lines (drop (i + 1) units)) h
