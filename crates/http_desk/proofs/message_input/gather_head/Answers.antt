use Rattle.std.proofs.Common.{◌≡◌, ◌<◌, ◌+◌, [], refl, length, length-append, arith, ap, ◌∙◌, rules}
use Rattle.std.proofs.lemmas.Grind.{common_steps}
use Rattle.http_messages.specs.HeadScan.{scan}
use Rattle.http_desk.specs.declared.input_buffer.Filled.TheVariants.{AtEnd, Failed}
use Rattle.http_desk.proofs.Common.{Lead, Open, longest_head, scan_take_limit, scan_take_within}
use Rattle.http_desk.proofs.Faults.{takes_on}
use Rattle.http_desk.proofs.Fills.{reads_trans}
use Rattle.http_desk.proofs.Places.{blank_or_cut, led_on, looked, still_open}
use Rattle.http_desk.proofs.message_input.gather_head.Goals as goal

nothing_seen : scan [] ≡ Open Lead
unfolding scan
nothing_seen = refl

pub loop-size-init : goal.loop-size-init
loop-size-init g c = search (rules, nothing_seen)

pub returns-in-Whole-clause-found : goal.returns-in-Whole-clause-found
returns-in-Whole-clause-found g c =
    let e = looked c.deref.ensures.value c.look.ensures c.in-Whole.is in
    (e, scan_take_within longest_head c.loop-size.buffer.items c.in-Whole.size e, scan_take_limit longest_head c.loop-size.buffer.items c.in-Whole.size e)

pub loop-size-preserved : goal.loop-size-preserved
loop-size-preserved g c =
    let below : length c.loop-size.buffer.items < longest_head = omega arith in
    let all : c.len-seen.result ≡ length c.loop-size.buffer.items = omega arith in
    let (got, consumed, e) = c.fill.ensures.got in
    let more : length c.fill.new.buffer.items ≡ length c.loop-size.buffer.items + length got = ap length e ∙ length-append c.loop-size.buffer.items got in
    record {
      came = reads_trans _ _ _ _ _ _ c.loop-size.invariant.came c.fill.ensures.got;
      failed = grind (arith, common_steps);
      bound = grind (arith, common_steps);
      calls = takes_on c.args.reader.now c.loop-size.reader c.fill.new.reader c.loop-size.invariant.calls c.fill.ensures.calls.taken;
      few = omega arith;
      short = omega arith;
      led = led_on c.len-seen.result c.loop-size.buffer.items c.fill.new.buffer.items got c.in-Open.place all e below (looked c.deref.ensures.value c.look.ensures c.in-Open.is);
    }

pub returns-in-Lead-clause-got : goal.returns-in-Lead-clause-got
returns-in-Lead-clause-got g c = reads_trans _ _ _ _ _ _ c.loop-size.invariant.came c.fill.ensures.got

pub returns-in-Lead-clause-found : goal.returns-in-Lead-clause-found
returns-in-Lead-clause-found g c =
    still_open AtEnd c.deref.ensures.value c.look.ensures (c.in-Open.is ∙ ap Open c.in-Lead.is) c.in-AtEnd.is (λ e. cc) c.fill.ensures.same (omega arith)

pub returns-in_default-clause-got : goal.returns-in_default-clause-got
returns-in_default-clause-got g c = reads_trans _ _ _ _ _ _ c.loop-size.invariant.came c.fill.ensures.got

pub returns-in_default-clause-found : goal.returns-in_default-clause-found
returns-in_default-clause-found g c =
    let (below, «open») = still_open AtEnd c.deref.ensures.value c.look.ensures c.in-Open.is c.in-AtEnd.is (λ e. cc) c.fill.ensures.same (omega arith) in
    (below, c.in-Open.place, c.in_default.not-Lead, «open»)

pub returns-in-Failed-clause-got : goal.returns-in-Failed-clause-got
returns-in-Failed-clause-got g c = reads_trans _ _ _ _ _ _ c.loop-size.invariant.came c.fill.ensures.got

pub returns-in-Bound-clause-got : goal.returns-in-Bound-clause-got
returns-in-Bound-clause-got g c = reads_trans _ _ _ _ _ _ c.loop-size.invariant.came c.fill.ensures.got

pub returns-in-NoMemory-clause-got : goal.returns-in-NoMemory-clause-got
returns-in-NoMemory-clause-got g c = reads_trans _ _ _ _ _ _ c.loop-size.invariant.came c.fill.ensures.got

pub returns-in-Failed-clause-found : goal.returns-in-Failed-clause-found
returns-in-Failed-clause-found g c =
    let (below, «open») = still_open Failed c.deref.ensures.value c.look.ensures c.in-Open.is c.in-Failed.is (λ e. cc) c.fill.ensures.same (omega arith) in
    blank_or_cut c.fill.new.buffer.items c.in-Open.place below «open»
