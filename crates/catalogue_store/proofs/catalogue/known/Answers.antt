use Rattle.std.proofs.Common.{sym, subst}
use Rattle.std.proofs.lemmas.Result.{IfOk-weaker}
use Rattle.catalogue_statements.proofs.Finding.{finds_first}
use Rattle.catalogue_store.proofs.Common.{FindsUnit, is_from}
use Rattle.catalogue_store.proofs.catalogue.known.Goals as goal

pub returns : goal.returns
returns g c =
    let is = is_from c.args.source.now c.args.legacy.now in
    let told = c.unit_number.ensures in
    record {
      answers = record {
        call = record {
          answers = λ clean beside f shown. IfOk-weaker c.unit_number.result _ _ (λ found got. subst (FindsUnit is f) (sym got.2) (finds_first is f shown.units got.0 shown.are got.1.0)) (told.answers clean shown.units shown.rows tt);
          looks = told.reads.looks;
          aborts = told.reads.aborts;
          faults = λ beside f shown may kept. told.faults shown.units shown.rows tt;
        };
        spares = told.reads.spares;
      };
    }
