-- Granting permits.
use Rattle.std.specs.Prelude.{◌≡◌, ℕ, ℤ, int_lt, cond, nat_eq, find, List, Option, Some, None, option_map}
use Rattle.desk_store.specs.declared.reader_permits.Permit.{Permit}
use Rattle.office_core.specs.Rules.{refusal}
use Rattle.office_core.specs.State.{State, granted_until}
use Rattle.office_core.specs.declared.command.Command.TheVariants as command

-- the last day of the permit for a unit, or none if there is no permit
abbrev pub until_for : ℕ → List Permit → Option ℤ
until_for unit permits = option_map (λ (permit : Permit). permit.until) (find (λ (permit : Permit). nat_eq permit.unit unit) permits)

-- the later of two days, or the second if there is no first
abbrev pub later_of : Option ℤ → ℤ → ℤ
later_of None day = day
later_of (Some held) day = cond (int_lt held day) day held

-- no rule forbids granting the ticket a permit for the unit up to the day asked for, and `until` is its last day
pub record MayPermit (s : State) (ticket unit : ℕ) (asked until : ℤ) : Type 0 where
  pub allowed : refusal s (command.Permit ticket unit asked) ≡ None
  pub stands : until ≡ granted_until unit asked (s.permits ticket)
