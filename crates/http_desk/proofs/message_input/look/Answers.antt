use Rattle.std.proofs.Common.{arith, ◌≡◌, ◌≤◌, ◌+◌, take, sym, ◌∙◌}
use Rattle.http_messages.specs.HeadScan.{scan}
use Rattle.http_desk.proofs.Common.{Open, Whole, longest_head, scan_go_on, scan_take_limit}
use Rattle.http_desk.proofs.message_input.look.Goals as goal

found_whole : (c : goal.In-Whole) → Whole (c.args.seen + c.in-Whole.size) ≡ scan (take longest_head c.args.buffer.now)
found_whole c =
    let low : c.args.seen ≤ c.min-end.result = omega arith in
    scan_go_on c.args.seen c.min-end.result longest_head c.args.buffer.now c.args.place (Whole c.in-Whole.size) low
    c.min-end.ensures c.requires.led (sym c.in-Whole.is ∙ c.scan_on.ensures)

pub overflow_add-result : goal.overflow_add-result
overflow_add-result c =
    let few : c.args.seen + c.in-Whole.size ≤ longest_head =
    scan_take_limit longest_head c.args.buffer.now (c.args.seen + c.in-Whole.size) (sym (found_whole c)) in
    omega arith

pub returns-in-Whole : goal.returns-in-Whole
returns-in-Whole c = found_whole c

pub returns-in-Open : goal.returns-in-Open
returns-in-Open c =
    let low : c.args.seen ≤ c.min-end.result = omega arith in
    scan_go_on c.args.seen c.min-end.result longest_head c.args.buffer.now c.args.place (Open c.in-Open.next) low
    c.min-end.ensures c.requires.led (sym c.in-Open.is ∙ c.scan_on.ensures)
