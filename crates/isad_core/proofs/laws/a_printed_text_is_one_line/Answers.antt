use Rattle.isad_core.proofs.Common.{single_breaks}
use Rattle.isad_core.proofs.TextLemmas.{spaced-no_breaks}
use Rattle.isad_core.proofs.laws.a_printed_text_is_one_line.Goals as goal

pub returns : goal.returns
returns c = λ text. spaced-no_breaks (single_breaks text)
