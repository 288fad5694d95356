use Rattle.std.proofs.Common.{◌∙◌, ap, ap₂}
use Rattle.command_line.proofs.Common.{IfOk-weaker, app_of, with_subcommand}
use Rattle.command_line.proofs.arguments.with_work.Goals as goal

-- one command after another is added
pub returns : goal.returns
returns c =
    let imports = c.in_ok-subcommand.ensures.shape c.in_ok-import.ensures.local ∙ ap (with_subcommand (app_of c.args.program)) c.in_ok-import.ensures.shape in
    let talks = c.in_ok-subcommand-2.ensures.shape c.in_ok-talk.ensures.local ∙ ap₂ with_subcommand imports c.in_ok-talk.ensures.shape in
    IfOk-weaker c.subcommand-3.result _ _ (λ x h. h.shape c.in_ok-serve.ensures.local ∙ ap₂ with_subcommand talks c.in_ok-serve.ensures.shape) c.subcommand-3.ensures
