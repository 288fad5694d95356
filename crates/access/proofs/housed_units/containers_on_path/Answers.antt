use Rattle.std.proofs.Common.{ap, sym, ◌∙◌}
use Rattle.access.proofs.Common.{Mark, list_any, looks_nowhere, option_to_list, or-false, says_so}
use Rattle.access.proofs.Learned.{learned_look, look_ends_so, look_fault}
use Rattle.access.proofs.housed_units.containers_on_path.Goals as goal

pub returns-in_err-containers : goal.returns-in_err-containers
returns-in_err-containers g c = look_fault c.from_residual.ensures looks_nowhere c.in_err-containers.ensures

pub returns : goal.returns
returns g c =
    look_ends_so (learned_look c.in_ok-containers.ensures) (λ xs told n.
    told n ∙ sym (or-false (list_any (says_so n c.in-Some.boxed.id) xs))
    ∙ ap (λ last. list_any (λ (mark : Mark). list_any (says_so n mark.id) xs) (option_to_list last)) (sym c.in-Some.is ∙ c.last_boxed.ensures))
