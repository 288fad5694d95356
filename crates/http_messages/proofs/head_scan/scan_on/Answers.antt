use Rattle.std.proofs.Common.{sym}
use Rattle.http_messages.proofs.Common.{scan_from}
use Rattle.http_messages.proofs.Scans.{later_none}
use Rattle.http_messages.proofs.head_scan.scan_on.Goals as goal

pub loop-i-init : goal.loop-i-init
loop-i-init c = sym (later_none (scan_from c.args.place c.args.bytes.now))
