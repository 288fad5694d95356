use Rattle.std.proofs.Common.{◌∙◌, Some, ap, sym}
use Rattle.command_line.proofs.Common.{first_value-rows, found_of, option_map}
use Rattle.command_line.proofs.option_values.optional_text.Goals as goal

pub returns-in_ok-new-in-Some : goal.returns-in_ok-new-in-Some
returns-in_ok-new-in-Some c =
    sym (first_value-rows (found_of c.args.found.now) c.args.name.now) ∙ (sym c.get_str.ensures ∙ (ap (option_map (λ s. s.now)) c.in-Some.is ∙ ap Some (sym c.in_ok-new-in-Some.ensures)))

pub returns-in-None : goal.returns-in-None
returns-in-None c = sym (first_value-rows (found_of c.args.found.now) c.args.name.now) ∙ (sym c.get_str.ensures ∙ ap (option_map (λ s. s.now)) c.in-None.is)
