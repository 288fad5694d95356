-- What comes next agrees with the calls on the reader and the writer: from one step to the next.
use Rattle.std.proofs.Common.{◌≡◌, refl, ap, ◌∙◌, sym, true, false, subst, arith, inl, inr, Option, Bool}
use Rattle.std.specs.Prelude.{◌||◌}
use Rattle.http_desk.specs.declared.output.Sent.TheVariants.{All, Bound}
use Rattle.http_desk.specs.declared.session_end.Ended.TheVariants as ends
use Rattle.http_desk.proofs.Common.{AtEndIf, Bytes, Ends, EndsAsCalled, Goes, IsNoEnd, IsUsedUp, Next, SendsAsCalled}
use Rattle.http_desk.proofs.Common.{Sent, StepsAsCalled, Stream, TakesCalls, TakesTurns, TellsReadFault}
use Rattle.http_desk.proofs.Common.{TellsSomeWriteBound, TellsWriteBound, WritesAsCalled, after_answer, after_sending}
use Rattle.http_desk.proofs.Common.{is_read_fault, is_write_fault, most_reads, send_failed}
use Rattle.http_desk.proofs.Faults.{bound_sent, closed_no_bound, flushed_after, flushed_then, goes_no_bound}
use Rattle.http_desk.proofs.Faults.{no_end_after, tells_bound, writes_told}

-- ---- one step after another

pub ends_on : {S T U : Stream → Stream → Type 0} {a b c w x y : Stream} {next : Next}
    → EndsAsCalled S a b w x Goes → EndsAsCalled T b c x y next → U a c → EndsAsCalled U a c w y next
ends_on {next = next} first second calls = record {
  at_end = second.at_end;
  flushed = λ q. second.flushed (first.flushed q);
  reads = second.reads ∙ ap (λ n. is_read_fault next || n) first.reads;
  writes = second.writes ∙ ap (λ n. is_write_fault next || n) first.writes;
  turns = λ p q.
      let (r, v, here) = second.turns p q in
      let (before, too, goes) = first.turns r v in
      (before, too, here);
  used_up = second.used_up;
  calls = calls;
  same = second.same ∙ first.same;
}

-- the same, where what comes next is told
pub ends_told : {S T U : Stream → Stream → Type 0} {a b c w x y : Stream} {next told : Next} → next ≡ told
    → EndsAsCalled S a b w x Goes → EndsAsCalled T b c x y next → U a c → EndsAsCalled U a c w y told
ends_told {T = T} {b = b} {c = c} {x = x} {y = y} is first second calls =
    ends_on first (subst (EndsAsCalled T b c x y) is second) calls

-- ---- the reader alone

pub by_reader : {T : Stream → Stream → Type 0} (r s w : Stream) (next : Next) → AtEndIf s.bytes next
    → TellsReadFault r s next → is_write_fault next ≡ false
    → (s.interrupted ≡ false → (r.interrupted ≡ false) × (next ≡ Ends ends.Bound → ⊥))
    → (next ≡ Ends ends.Bound → IsUsedUp most_reads s)
    → T r s → EndsAsCalled T r s w w next
by_reader r s w next at_end reads none bound used calls = record {
  at_end = at_end;
  flushed = λ q. flushed_then w next q;
  reads = reads;
  writes = ap (λ n. n || w.failed) (sym none);
  turns = λ p q. let (before, here) = bound p in (before, q, here);
  used_up = λ e. inl (used e);
  calls = calls;
  same = refl;
}

-- bytes came
pub came : {T : Stream → Stream → Type 0} {r s w : Stream} → s.failed ≡ r.failed
    → (s.interrupted ≡ false → r.interrupted ≡ false) → T r s
    → EndsAsCalled T r s w w Goes
came {r = r} {s = s} {w = w} reads quiet calls =
    by_reader r s w Goes tt reads refl (λ p. (quiet p, goes_no_bound)) (λ e. absurd (goes_no_bound e)) calls

-- all turns of a message were taken
pub ran_out : {RanOut Quiet : Type 0} {r s w : Stream} → StepsAsCalled false RanOut Quiet r s → IsUsedUp most_reads s
    → EndsAsCalled TakesTurns r s w w (Ends ends.Bound)
ran_out {r = r} {s = s} {w = w} steps used =
    by_reader r s w (Ends ends.Bound) tt steps.failed refl (λ p. absurd (true_false s.interrupted used.2 p)) (λ e. used) steps.taken
  where
    true_false : (b : Bool) → b ≡ true → b ≡ false → ⊥
    true_false b e f = cc

-- ---- the writer alone

not_at_end : (left : Option Bytes) (next : Next) → IsNoEnd next → AtEndIf left next
not_at_end left Goes n = tt
not_at_end left (Ends ends.End) n = absurd n
not_at_end left (Ends ends.Closed) n = tt
not_at_end left (Ends ends.Cut) n = absurd n
not_at_end left (Ends ends.ReadFault) n = tt
not_at_end left (Ends ends.WriteFault) n = tt
not_at_end left (Ends ends.Bound) n = tt

no_read_fault : (next : Next) → IsNoEnd next → is_read_fault next ≡ false
no_read_fault Goes n = refl
no_read_fault (Ends ends.End) n = refl
no_read_fault (Ends ends.Closed) n = refl
no_read_fault (Ends ends.Cut) n = refl
no_read_fault (Ends ends.ReadFault) n = absurd n
no_read_fault (Ends ends.WriteFault) n = refl
no_read_fault (Ends ends.Bound) n = refl

pub by_writer : {T : Stream → Stream → Type 0} {r w x : Stream} {next : Next} → WritesAsCalled w x next
    → TellsSomeWriteBound x next → T r r
    → EndsAsCalled T r r w x next
by_writer {r = r} {next = next} e told calls = record {
  at_end = not_at_end r.bytes next e.no_end;
  flushed = λ q. e.flushed;
  reads = ap (λ n. n || r.failed) (sym (no_read_fault next e.no_end));
  writes = e.writes;
  turns = λ p q. let (before, here) = e.turns q in (p, before, here);
  used_up = λ f. inr (told f);
  calls = calls;
  same = e.same;
}

no_write : (closing : Bool) → is_write_fault (after_answer closing) ≡ false
no_write true = refl
no_write false = refl

no_bound : (closing : Bool) → after_answer closing ≡ Ends ends.Bound → ⊥
no_bound true = closed_no_bound
no_bound false = goes_no_bound

-- what comes after a sending
pub answered : {w x : Stream} {sent : Sent} {next : Next} (closing : Bool)
    → next ≡ after_sending sent (after_answer closing)
    → (sent ≡ All → x.flushed ≡ true) → x.failed ≡ (send_failed sent || w.failed)
    → (x.interrupted ≡ false → (w.interrupted ≡ false) × (sent ≡ Bound → ⊥)) → x.name ≡ w.name → WritesAsCalled w x next
answered {w = w} {x = x} {sent = sent} {next = next} closing e flushed failed bound same = record {
  no_end = no_end_after sent closing next e;
  flushed = flushed_after x sent (after_answer closing) next e flushed;
  writes = writes_told sent (after_answer closing) next w.failed x.failed (no_write closing) e failed;
  turns = λ q.
      let (before, here) = bound q in
      (before, λ b. here (bound_sent sent (after_answer closing) (no_bound closing) (sym e ∙ b)));
  same = same;
}

-- what comes after an answer
pub answer_told : {text : Bytes} {w x : Stream} {sent : Sent} {next : Next} (closing : Bool) → SendsAsCalled text w x sent
    → next ≡ after_sending sent (after_answer closing) → WritesAsCalled w x next
answer_told closing it e = answered closing e it.flushed it.failed it.bound it.calls.0

-- a bound after it is that of its text
pub answer_bound : {text : Bytes} {w x : Stream} {sent : Sent} {next : Next} (closing : Bool) → SendsAsCalled text w x sent
    → next ≡ after_sending sent (after_answer closing) → TellsWriteBound text x next
answer_bound {text = text} {x = x} {sent = sent} {next = next} closing it e =
    tells_bound text x sent (after_answer closing) next (no_bound closing) e it.used_up

-- ---- one message

-- a message began, whose reads are counted from there
pub begun : {r r1 s w x : Stream} {next : Next} → r1 ≡ record r { given = most_reads; turns = most_reads }
    → EndsAsCalled TakesTurns r1 s w x next → EndsAsCalled (TakesCalls most_reads) r s w x next
begun {s = s} {w = w} {x = x} {next = next} is e =
    let a = subst (λ v. EndsAsCalled TakesTurns v s w x next) is e in
    record { at_end = a.at_end; flushed = a.flushed; reads = a.reads; writes = a.writes; turns = a.turns; used_up = a.used_up; calls = (a.calls.0, omega (arith, a.calls.1)); same = a.same }

-- 100 Continue was written, or was not due
pub allowed : {r w x : Stream} → x.failed ≡ w.failed → (x.interrupted ≡ false → w.interrupted ≡ false) → x.name ≡ w.name
    → (w.flushed ≡ true → x.flushed ≡ true) → EndsAsCalled TakesTurns r r w x Goes
allowed failed quiet same flushed = record {
  at_end = tt;
  flushed = flushed;
  reads = refl;
  writes = failed;
  turns = λ p q. (p, quiet q, goes_no_bound);
  used_up = λ e. absurd (goes_no_bound e);
  calls = (refl, omega arith, refl);
  same = same;
}
