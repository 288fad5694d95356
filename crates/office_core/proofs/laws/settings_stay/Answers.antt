use Rattle.std.proofs.Common.{◌≡◌, refl}
use Rattle.office_core.proofs.Steps.{step_at}
use Rattle.office_core.proofs.Extends.{extends_after}
use Rattle.office_core.proofs.laws.settings_stay.Goals as goal

pub returns : goal.returns
returns c = λ s asked g. step_at (λ t reply. t.settings ≡ s.settings) s asked (λ why. refl) (λ ok. (extends_after s asked g.boxes ok).settings)
