-- Where a container is refused as not known, nothing was found of it.
use Rattle.std.proofs.Common.{◌≡◌, [], ◌∷◌, Option, Some, None, refl}
use Rattle.desk_core.specs.Refusals.{first_that_holds, known_container}
use Rattle.desk_core.specs.declared.refusal.Refusal.{Refusal}
use Rattle.desk_core.specs.declared.refusal.Refusal.TheVariants.{UnknownContainer}
use Rattle.desk_core.proofs.Common.{is_some}

pub nothing_found : {X : Type 0} (found : Option X) (why : Refusal)
    → Some why ≡ first_that_holds (known_container (is_some found) ∷ []) → (found ≡ None) × (why ≡ UnknownContainer)
nothing_found None why e = (refl, let same : Some why ≡ Some UnknownContainer = e in cc)
nothing_found (Some it) why e = absurd (let none : Some why ≡ None = e in cc)
