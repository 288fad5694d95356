use Rattle.std.proofs.Common.{◌∙◌, ap, true}
use Rattle.command_line.proofs.Common.{IfOk-weaker, Shape, app_of_fields, on_top}
use Rattle.command_line.proofs.arguments.base_command.Goals as goal

-- each setting is the definition's
pub returns : goal.returns
returns c =
    let nameless = ap app_of_fields c.no_binary_name.ensures ∙ ap (on_top (λ (s : Shape). record s { no_binary_name = true })) c.new.ensures.app in
    let wants = ap app_of_fields c.subcommand_required.ensures ∙ ap (on_top (λ (s : Shape). record s { subcommand_required = true })) nameless in
    let helpless = ap app_of_fields c.disable_help_subcommand.ensures ∙ ap (on_top (λ (s : Shape). record s { disable_help_subcommand = true })) wants in
    let about = ap app_of_fields c.about.ensures ∙ helpless in
    let told = ap app_of_fields c.after_help.ensures ∙ about in
    IfOk-weaker c.bin_name.result _ _ (λ x h. ap app_of_fields h.0 ∙ told) c.bin_name.ensures
