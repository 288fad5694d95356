use Rattle.csv_import.proofs.Common.{as_answers, looks_nowhere}
use Rattle.csv_import.proofs.OneRow.{finds_number}
use Rattle.csv_import.proofs.Tellings.{told_last}
use Rattle.csv_import.proofs.numbers.number_of.Goals as goal

pub returns : goal.returns
returns g c =
    record {
      answers = told_last (λ _ _. tt) (λ _ k. k.forest) (as_answers c.known.ensures.answers) looks_nowhere
          (record {
            shown = λ clean o k it. it.units;
            allowed = λ clean o k it good kept. (tt, tt);
          })
          (λ clean o k it found is good. finds_number k c.args.source.now c.args.legacy.now found good is);
    }
