use Rattle.std.proofs.Common.{◌∙◌, ap, ap₂}
use Rattle.command_line.proofs.Common.{IfOk-weaker, app_of, with_subcommand}
use Rattle.command_line.proofs.arguments.with_care.Goals as goal

-- one command after another is added
pub returns : goal.returns
returns c =
    let checks = c.in_ok-subcommand.ensures.shape c.in_ok-check.ensures.local ∙ ap (with_subcommand (app_of c.args.program)) c.in_ok-check.ensures.shape in
    IfOk-weaker c.subcommand-2.result _ _ (λ x h. h.shape c.in_ok-migrate.ensures.local ∙ ap₂ with_subcommand checks c.in_ok-migrate.ensures.shape) c.subcommand-2.ensures
