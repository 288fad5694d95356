use Rattle.std.proofs.Common.{ap, ◌∙◌}
use Rattle.desk_store.proofs.Common.{is_some, reader_with}
use Rattle.desk_store.proofs.CardCalls.{some_mapped}
use Rattle.desk_store.proofs.ReaderRows.{named}
use Rattle.desk_store.proofs.readers.is_registered.Goals as goal
use Rattle.desk_store.proofs.TellingCalls.{ends_well}

pub returns : goal.returns
returns g c =
    record {
      answers = ends_well c.in_ok-found.ensures.reads.looks _ (λ clean d shown.
          c.is_some.ensures ∙ ap is_some (c.in_ok-found.ensures.answers clean d.readers shown.readers shown.tickets) ∙ some_mapped named (reader_with c.args.ticket d));
    }
