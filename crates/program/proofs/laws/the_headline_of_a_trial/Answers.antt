use Rattle.std.proofs.Common.{refl}
use Rattle.program.proofs.HeadlineLemmas.{of_a_trial}
use Rattle.program.proofs.Trials.{always_clean}
use Rattle.program.proofs.laws.the_headline_of_a_trial.Goals as goal

pub returns : goal.returns
returns c = of_a_trial _ (always_clean (λ _ _. refl))
