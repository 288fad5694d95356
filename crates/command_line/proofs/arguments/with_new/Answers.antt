use Rattle.std.proofs.Common.{◌∙◌, ap, ap₂}
use Rattle.command_line.proofs.Common.{IfOk-weaker, app_of, with_subcommand}
use Rattle.command_line.proofs.arguments.with_new.Goals as goal

-- one command after another is added
pub returns : goal.returns
returns c =
    let previews = c.in_ok-subcommand.ensures.shape c.in_ok-preview.ensures.local ∙ ap (with_subcommand (app_of c.args.program)) c.in_ok-preview.ensures.shape in
    let inits = c.in_ok-subcommand-2.ensures.shape c.in_ok-init.ensures.local ∙ ap₂ with_subcommand previews c.in_ok-init.ensures.shape in
    IfOk-weaker c.subcommand-3.result _ _ (λ x h. h.shape c.in_ok-trial.ensures.local ∙ ap₂ with_subcommand inits c.in_ok-trial.ensures.shape) c.subcommand-3.ensures
