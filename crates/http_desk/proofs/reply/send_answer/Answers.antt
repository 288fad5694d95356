use Rattle.std.proofs.Common.{ap, ◌∙◌, length}
use Rattle.http_desk.proofs.Common.{SendsAsCalled, answer_of_view, body_text, decimal, phrase_of, status_code}
use Rattle.http_desk.proofs.Common.{type_name}
use Rattle.http_desk.proofs.Printed.{of_pieces}
use Rattle.http_desk.proofs.reply.send_answer.Goals as goal

pub returns : goal.returns
returns g c =
    let a = answer_of_view c.args.answer in
    of_pieces (λ x. SendsAsCalled x c.args.writer.now c.send_parts.new.writer c.send_parts.result) c.args.closing a (body_text c.args.bare a) _ _ _ _ _ _ _
    (c.as_bytes-number.ensures.value ∙ c.format.ensures.text ∙ ap decimal (c.as_u16.ensures.value ∙ c.code_of.ensures ∙ ap status_code c.status-status.ensures))
    (c.phrase.ensures.phrase ∙ ap phrase_of c.status-status.ensures)
    (c.type_of.ensures.name ∙ ap type_name c.is_text.ensures)
    (c.as_bytes-length.ensures.value ∙ c.format-2.ensures.text ∙ ap (λ b. decimal (length b)) c.body.ensures)
    c.allow_line.ensures.line
    c.close_line.ensures.line
    c.written_body.ensures
    c.send_parts.ensures
