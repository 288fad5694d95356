use Rattle.office_core.proofs.Texts.{always_texts}
use Rattle.office_core.proofs.laws_of_texts.texts_stay_texts.Goals as goal

pub returns : goal.returns
returns c = always_texts
