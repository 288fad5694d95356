use Rattle.std.proofs.Common.{ap, ◌∙◌}
use Rattle.desk_store.proofs.Common.{container_with, is_some}
use Rattle.desk_store.proofs.BoxRows.{Numbered}
use Rattle.desk_store.proofs.CardCalls.{some_mapped}
use Rattle.desk_store.proofs.TellingCalls.{ends_well}
use Rattle.desk_store.proofs.container_labels.is_known.Goals as goal

pub returns : goal.returns
returns g c =
    record {
      answers = ends_well c.in_ok-found.ensures.reads.looks _ (λ clean s shown.
          c.is_some.ensures ∙ ap is_some (c.in_ok-found.ensures.answers clean s.containers shown.containers shown.numbers) ∙ some_mapped (λ (b : Numbered). b.0) (container_with c.args.container s));
    }
