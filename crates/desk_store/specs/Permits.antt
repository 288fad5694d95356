-- Permits of a reader.
use Rattle.std.specs.Prelude.{◌≡◌, ℕ, ℤ, pos, ◌&&◌, Bool, not, nat_eq, List, ◌∷◌, map, filter}
use Rattle.std.specs.Ordering.{int_cmp}
use Rattle.std.specs.declared.cmp.Ordering.{Ordering}
use Rattle.sqlite.specs.declared.types.Value.TheVariants.{Int}
use Rattle.sqlite.specs.Order.{Row}
use Rattle.sqlite.specs.Tree.{Trees, rowid}
use Rattle.sqlite_rules.specs.Lists.{Has}
use Rattle.desk_core.specs.DeskRows.{Desk, PermitRow}
use Rattle.office_tables.specs.Schema as tables
use Rattle.desk_store.specs.Representation.{IsNumberOf}
use Rattle.desk_store.specs.declared.reader_permits.Permit.{Permit}

-- the units for which a ticket has a permit, each with the last day on which it holds
abbrev pub permits_of : ℕ → Desk → List Permit
permits_of t d =
    map (λ (p : PermitRow). record { unit = p.unit; until = p.until }) (filter (λ (p : PermitRow). nat_eq t p.ticket) d.permits)

abbrev pub by_permitted_unit : Permit → Permit → Ordering
by_permitted_unit a b = int_cmp (pos a.unit) (pos b.unit)

-- the row is the ticket's permit for the unit
abbrev pub is_permit : ℕ → ℕ → PermitRow → Bool
is_permit t u p = nat_eq t p.ticket && nat_eq u p.unit

abbrev pub without_permit : ℕ → ℕ → List PermitRow → List PermitRow
without_permit t u permits = filter (λ p. not (is_permit t u p)) permits

-- the ticket has a permit for the unit up to this day, and no other permit for the unit
abbrev pub with_permit_row : ℕ → ℕ → ℤ → List PermitRow → List PermitRow
with_permit_row t u until permits = record { ticket = t; unit = u; until = until } ∷ without_permit t u permits

abbrev pub desk_with_permit : ℕ → ℕ → ℤ → Desk → Desk
desk_with_permit t u until d = record d { permits = with_permit_row t u until d.permits }

abbrev pub desk_without_permit : ℕ → ℕ → Desk → Desk
desk_without_permit t u d = record d { permits = without_permit t u d.permits }

-- the unit has its row in the catalogue
abbrev pub HasUnitRow : ℕ → Trees → Type 0
HasUnitRow u db = (row : Row) × Has (db tables.unit.tree) row × (rowid row ≡ Int (pos u))

-- the ticket was given and the unit is catalogued, so the ticket may have a permit for the unit
abbrev pub MayHave : ℕ → ℕ → Trees → Desk → Type 0
MayHave t u db d = IsNumberOf d.readers t × HasUnitRow u db
