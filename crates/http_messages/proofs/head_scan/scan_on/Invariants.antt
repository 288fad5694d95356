-- what is left gives the rest
use Rattle.std.proofs.Common.{◌≡◌, drop}
use Rattle.http_messages.proofs.Common.{scan_from}
use Rattle.http_messages.proofs.Scans.{later}
use Rattle.http_messages.proofs.head_scan.scan_on.Given as goal

abbrev pub invariant-loop-i : goal.invariant-loop-i
invariant-loop-i l = scan_from l.initial.place l.bytes ≡ later l.i (scan_from l.place (drop l.i l.bytes))
