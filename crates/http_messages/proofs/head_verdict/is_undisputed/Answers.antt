use Rattle.std.proofs.Common.{◌∙◌, sym, ap, map}
use Rattle.http_messages.proofs.Common.{agrees, header_bytes, list_all, ◌&&◌}
use Rattle.http_messages.proofs.Folds.{list_all_map}
use Rattle.http_messages.proofs.head_verdict.is_undisputed.Goals as goal

pub returns-then-all_digits : goal.returns-then-all_digits
returns-then-all_digits c =
    let agreed = list_all (agrees c.args.said.now) (map (header_bytes c.args.block.now) c.args.fields.now) in
    c.are_agreed.ensures ∙ sym (list_all_map (agrees c.args.said.now) (header_bytes c.args.block.now) c.args.fields.now)
    ∙ ap (λ b. b && agreed) (sym c.if-all_digits.true ∙ c.all_digits.ensures)
