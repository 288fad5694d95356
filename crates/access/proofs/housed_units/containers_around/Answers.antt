use Rattle.std.proofs.Common.{List, None, filter, ap, ◌∙◌}
use Rattle.access.proofs.Common.{Mark, last_or, list_any, option_to_list, says_so}
use Rattle.access.proofs.Learned.{ends_so, fault_first, fault_later, learned_by, learned_more, of_catalogue}
use Rattle.access.proofs.Learned.{of_housings}
use Rattle.access.proofs.NearRows.{nearest_named}
use Rattle.access.proofs.housed_units.containers_around.Goals as goal

pub returns-in_err-path : goal.returns-in_err-path
returns-in_err-path g c = record { answers = fault_first c.from_residual.ensures (of_catalogue c.in_err-path.ensures.answers.call) }

pub returns-in_err-containers : goal.returns-in_err-containers
returns-in_err-containers g c =
    record {
      answers = fault_later c.from_residual-in_err-containers.ensures c.in_ok-path.ensures.answers.looks (of_housings c.in_err-containers.ensures);
    }

pub returns : goal.returns
returns g c =
    record {
      answers = ends_so (learned_more (learned_by (of_catalogue c.in_ok-path.ensures.answers.call)) (of_housings c.in_ok-containers.ensures)) (λ _ s so n.
          let housings = so.now.shown in
          so.now.is n
          ∙ ap (λ (marks : List Mark). list_any (λ mark. list_any (says_so n mark.id) housings.housings) (option_to_list (last_or None (filter (λ mark. mark.boxed) marks)))) c.deref.ensures.value
          ∙ nearest_named so.now.db s.catalogue.forest s.catalogue.containers housings n c.args.unit c.in_ok-path.path.items so.before);
    }
