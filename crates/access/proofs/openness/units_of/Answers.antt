use Rattle.std.proofs.Common.{sym, subst}
use Rattle.std.proofs.lemmas.Result.{IfErr-weaker, IfOk-weaker}
use Rattle.std.specs.Prelude.{IsPermutation}
use Rattle.access.proofs.Common.{IsPermutation-map, Unit, named_by}
use Rattle.access.proofs.openness.units_of.Goals as goal

pub returns-clause-answers : goal.returns-clause-answers
returns-clause-answers g c =
    let told = c.attached_units.ensures in
    record {
      answers = λ clean beside s it.
          IfOk-weaker c.attached_units.result _ _ (λ units found.
          subst (IsPermutation (named_by s.catalogue c.args.container)) (sym found.2)
          (IsPermutation-map (λ (u : Unit). u.id) _ found.0 found.1.are))
          (told.units clean s.catalogue it.catalogue.catalogue.units it.catalogue.catalogue.housings);
      looks = told.reads.looks;
      aborts = told.reads.aborts;
      faults = λ beside s it may judged. told.faults s.catalogue it.catalogue.catalogue.housings;
    }

pub returns-clause-disk : goal.returns-clause-disk
returns-clause-disk g c = λ clean. IfErr-weaker c.attached_units.result _ _ (λ e spared. spared.disk) (c.attached_units.ensures.reads.spares clean)
