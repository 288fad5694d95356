use Rattle.std.proofs.Common.{◌∙◌, ap, sym}
use Rattle.command_line.proofs.Common.{first_value-rows, found_of, option_map}
use Rattle.command_line.proofs.Needs.{some_of}
use Rattle.command_line.proofs.option_values.value_of.Goals as goal

pub unwrap-requires : goal.unwrap-requires
unwrap-requires c = some_of (λ s. s.now) c.get_str.result _ (c.get_str.ensures ∙ first_value-rows (found_of c.args.found.now) c.args.name.now) c.requires

pub returns : goal.returns
returns c = sym (first_value-rows (found_of c.args.found.now) c.args.name.now) ∙ (sym c.get_str.ensures ∙ ap (option_map (λ s. s.now)) c.unwrap.ensures)
