use Rattle.std.proofs.Common.{refl}
use Rattle.clap.proofs.OnLiterals.{clap_on_literals}
use Rattle.program.proofs.words.previews_are_taken.Goals as goal

pub returns-clause-preview : goal.returns-clause-preview
unfolding clap_on_literals
returns-clause-preview c = refl

pub returns-clause-no_words : goal.returns-clause-no_words
unfolding clap_on_literals
returns-clause-no_words c = refl

pub returns-clause-help : goal.returns-clause-help
unfolding clap_on_literals
returns-clause-help c = refl
