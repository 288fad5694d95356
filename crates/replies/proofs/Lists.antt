-- Lists in JSON.
use Rattle.std.proofs.Common.{◌≡◌, false, List, [], ◌∷◌, map, refl}
use Rattle.serde_json.specs.Data.{Data}
use Rattle.serde_json.specs.Written.{has_float}
use Rattle.office_core.specs.Json.{list}

-- where no item has a fraction, the list has none
pub no_float : {X : Type 0} (tell : X → Data) → ((x : X) → has_float (tell x) ≡ false) → (xs : List X)
    → has_float (list (map tell xs)) ≡ false
no_float tell none [] = refl
no_float tell none (x ∷ xs) = rw (none x) (no_float tell none xs)
