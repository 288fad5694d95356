-- Where a head ends: with its first empty line. A line ends with LF, with or without CR before it.
use Rattle.std.specs.Prelude.{ℕ, ◌+◌, List, [], ◌∷◌, ◌==◌, if◌then◌else◌, Option, Some, None}
use Rattle.http_messages.specs.declared.head_scan.HeadScanState.{HeadScanState}
use Rattle.http_messages.specs.declared.head_scan.HeadScanState.TheVariants.{Lead, LeadReturn, Start, StartReturn}
use Rattle.http_messages.specs.declared.head_scan.HeadScanState.TheVariants.{Middle}
use Rattle.http_messages.specs.declared.head_scan.Scan.{Scan}
use Rattle.http_messages.specs.declared.head_scan.Scan.TheVariants.{Whole, Open}

-- the place to which a byte leads, or none if it ends the head
abbrev pub next_place : HeadScanState → ℕ → Option HeadScanState
next_place Lead b = if b == 10 then Some Lead else if b == 13 then Some LeadReturn else Some Middle
next_place LeadReturn b = if b == 10 then Some Lead else Some Middle
next_place Start b = if b == 10 then None else if b == 13 then Some StartReturn else Some Middle
next_place StartReturn b = if b == 10 then None else Some Middle
next_place Middle b = if b == 10 then Some Start else Some Middle

-- what was found, with one more byte in front of it
abbrev pub one_more : Scan → Scan
one_more (Whole n) = Whole (n + 1)
one_more (Open p) = Open p

-- what is found if a byte leads to this place, and the bytes after it go on from there
abbrev pub found_after : Option HeadScanState → (HeadScanState → Scan) → Scan
found_after None more = Whole 1
found_after (Some place) more = one_more (more place)

-- how much of a head the bytes after this place contain
abbrev pub scan_from : HeadScanState → List ℕ → Scan
scan_from p [] = Open p
scan_from p (b ∷ bytes) = found_after (next_place p b) (λ q. scan_from q bytes)

-- how much of a head the bytes contain, from the empty lines before it on
unfoldable pub scan : List ℕ → Scan
scan bytes = scan_from Lead bytes
