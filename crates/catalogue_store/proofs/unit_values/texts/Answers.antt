use Rattle.std.proofs.Common.{◌≡◌, List}
use Rattle.std.specs.Prelude.{IsUtf8}
use Rattle.catalogue_store.specs.UnitValues.{values_or_none}
use Rattle.catalogue_store.proofs.Common.{AllByRecursion, ElementRow, IsKept, RepresentsValues, TellsTexts}
use Rattle.catalogue_store.proofs.Common.{looks_nowhere, state, ⊤}
use Rattle.catalogue_store.proofs.LaterAnswers.{answers_later}
use Rattle.catalogue_store.proofs.UnitTold.{texts_told}
use Rattle.catalogue_store.proofs.ValueCauses.{legible_elements}
use Rattle.catalogue_store.proofs.unit_values.texts.Goals as goal

pub returns : goal.returns
returns g c =
    let a = state g.S.Store c.args.tables.now in
    let legible = λ (xs : List ElementRow). AllByRecursion (λ (e : ElementRow). IsUtf8 e.value) xs in
    record {
      answers = answers_later g.S.Store RepresentsValues IsKept (λ _. ⊤) (TellsTexts c.args.unit) legible (λ _. ⊤) c.args.tables.now c.args.tables.now c.texts_of.new.tables c.texts_of.result
          (λ _ k texts. texts ≡ (values_or_none c.args.unit k).texts) (λ values _ texts. texts ≡ values.texts) looks_nowhere
          (λ o k it at_a.
          let elements = it.catalogue.elements in
          record {
            part = values_or_none c.args.unit k;
            share = elements.elements;
            shown = texts_told a.now o k it c.args.unit;
            turn = λ texts is. is;
            allowed = λ may kept. (tt, legible_elements a.now.trees k.forest elements kept.units);
          })
          c.texts_of.ensures.answers;
    }
