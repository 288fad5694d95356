use Rattle.std.proofs.Common.{◌≡◌, ℕ, take}
use Rattle.access.proofs.Common.{is_one_of, list_any, says_so, state}
use Rattle.access.proofs.Learned.{HoldsHousings, Learned}
use Rattle.access.proofs.housed_units.containers_of_each.Given as goal

abbrev pub invariant-loop-unit : goal.invariant-loop-unit
invariant-loop-unit g l =
    Learned HoldsHousings (state g.S.Store l.initial.tables) (state g.S.Store l.tables)
    (λ _ xs. (n : ℕ) → is_one_of n l.all.items ≡ list_any (λ unit. list_any (says_so n unit) xs) (take l.unit-index l.units))
