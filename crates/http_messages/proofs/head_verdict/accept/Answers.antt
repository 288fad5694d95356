use Rattle.std.proofs.Common.{sym, ap, ◌∙◌, Bool}
use Rattle.std.specs.Prelude.{◌==◌}
use Rattle.http_messages.proofs.Common.{Accepted, Verdict, asks_close, header_bytes, is_continue_expectation}
use Rattle.http_messages.proofs.Common.{span_bytes, ◌&&◌, ◌||◌}
use Rattle.http_messages.proofs.Folds.{list_any_map}
use Rattle.http_messages.proofs.head_verdict.accept.Goals as goal

pub returns-clause-is : goal.returns-clause-is
returns-clause-is c =
    let f = header_bytes c.args.block.now in
    let fields = c.args.fields.now in
    let make : Bool → Bool → Verdict = λ waits closes. Accepted (record {
      method = span_bytes c.args.block.now c.args.line.method;
      target = span_bytes c.args.block.now c.args.line.target;
      length = c.args.size;
      waits = waits;
      closes = closes;
    }) in
    let w = c.is_waiting.ensures ∙ (λ i. c.args.line.minor == 1 && (c.is_some_body.ensures i && (c.expects_continue-leave.ensures ∙ sym (list_any_map is_continue_expectation f fields)) i)) in
    let k = c.is_closing.ensures ∙ ap (λ b. c.args.line.minor == 0 || b) (c.asks_to_close-close.ensures ∙ sym (list_any_map asks_close f fields)) in
    λ i. make (w i) (k i)
