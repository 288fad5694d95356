use Rattle.std.proofs.Common.{sym, ap, ◌∙◌, map}
use Rattle.http_messages.proofs.Common.{Field, codes, find, header_bytes, is_named, option_map, span_bytes}
use Rattle.http_messages.proofs.Common.{weigh_length}
use Rattle.http_messages.proofs.Folds.{list_any_map, find_map_list, option_map_map}
use Rattle.http_messages.proofs.Weighs.{weigh_coded, weigh_on}
use Rattle.http_messages.proofs.head_verdict.weigh_fields.Goals as goal

pub returns-then-has_named-clause-is : goal.returns-then-has_named-clause-is
returns-then-has_named-clause-is c =
    let f = header_bytes c.args.block.now in
    let fields = c.args.fields.now in
    let m = span_bytes c.args.block.now c.args.line.method in
    let t = span_bytes c.args.block.now c.args.line.target in
    c.refuse-then-has_named.ensures.is
    ∙ sym (weigh_coded m t c.args.line.minor (map f fields) (sym c.if-not-has_allowed_hosts.false ∙ c.has_allowed_hosts.ensures) (list_any_map (is_named (codes "transfer-encoding")) f fields ∙ sym c.has_named.ensures ∙ c.if-has_named.true))

pub returns-else-has_named-clause-is : goal.returns-else-has_named-clause-is
returns-else-has_named-clause-is c =
    let f = header_bytes c.args.block.now in
    let fields = c.args.fields.now in
    let m = span_bytes c.args.block.now c.args.line.method in
    let t = span_bytes c.args.block.now c.args.line.target in
    let e = ap (option_map (λ (p : Field). p.1)) (find_map_list (is_named (codes "content-length")) f fields) ∙ option_map_map f (λ (p : Field). p.1) (find (λ h. is_named (codes "content-length") (f h)) fields) in
    c.weigh_said.ensures.is ∙ ap (weigh_length m t c.args.line.minor (map f fields)) (sym e)
    ∙ sym (weigh_on m t c.args.line.minor (map f fields) (sym c.if-not-has_allowed_hosts.false ∙ c.has_allowed_hosts.ensures) (list_any_map (is_named (codes "transfer-encoding")) f fields ∙ sym c.has_named.ensures ∙ c.if-has_named.false))
