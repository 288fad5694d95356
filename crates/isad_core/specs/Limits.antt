-- The limits of an office. `src/limits.rt` has their numbers.
use Rattle.std.specs.Prelude.{ℕ, ℤ, ◌<◌, ◌^◌}
use Rattle.isad_core.specs.declared.limits.TheConstants.{MOST_UNITS, MOST_UNIT_NUMBERS, MOST_DEEP, MOST_BYTES}
use Rattle.isad_core.specs.declared.limits.TheConstants.{MOST_ROWS, MOST_SOURCE_BYTES, MOST_CONTAINERS, MOST_NAME_BYTES}
use Rattle.isad_core.specs.declared.limits.TheConstants.{MOST_SEATS, MOST_DAILY, MOST_HANDS, MOST_RUN_SIZE}
use Rattle.isad_core.specs.declared.limits.TheConstants.{MOST_TICKETS, MOST_PERMITS, MOST_ORDERS, MOST_RUNS}
use Rattle.isad_core.specs.declared.limits.TheConstants.{MOST_CONNECTIONS, FIRST_DAY, LAST_DAY}

-- ---- the catalogue

abbrev pub most_units : ℕ
most_units = MOST_UNITS

-- the most unit numbers that are ever given
abbrev pub most_unit_numbers : ℕ
most_unit_numbers = MOST_UNIT_NUMBERS

-- the most units above one another, including the lowest
abbrev pub most_deep : ℕ
most_deep = MOST_DEEP

-- the most bytes of a field of a file that is read
abbrev pub most_bytes : ℕ
most_bytes = MOST_BYTES

-- the most rows of a file below its header
abbrev pub most_rows : ℕ
most_rows = MOST_ROWS

-- the most bytes of the name of a source
abbrev pub most_source_bytes : ℕ
most_source_bytes = MOST_SOURCE_BYTES

abbrev pub most_containers : ℕ
most_containers = MOST_CONTAINERS

-- ---- the settings of an office: each is at least 1

-- the most seats of the reading room
abbrev pub most_seats : ℕ
most_seats = MOST_SEATS

-- the most orders that a ticket may place in a day
abbrev pub most_daily : ℕ
most_daily = MOST_DAILY

-- the most containers that may be out with a ticket
abbrev pub most_hands : ℕ
most_hands = MOST_HANDS

-- the most containers that a run takes
abbrev pub most_run_size : ℕ
most_run_size = MOST_RUN_SIZE

-- ---- the desk

-- the most bytes of a reader's name
abbrev pub most_name_bytes : ℕ
most_name_bytes = MOST_NAME_BYTES

abbrev pub most_tickets : ℕ
most_tickets = MOST_TICKETS

-- the most permits of one ticket
abbrev pub most_permits : ℕ
most_permits = MOST_PERMITS

-- the most orders that are ever placed
abbrev pub most_orders : ℕ
most_orders = MOST_ORDERS

-- the most runs that are ever made
abbrev pub most_runs : ℕ
most_runs = MOST_RUNS

-- ---- a server

-- the most connections that it takes before it ends
abbrev pub most_connections : ℕ
most_connections = MOST_CONNECTIONS

-- ---- numbers

-- a number that a table can store
abbrev pub IsNumber : ℕ → Type 0
IsNumber n = n < 2 ^ 63

-- ---- days: 1900-01-01 and 9999-12-31

abbrev pub first_day : ℤ
first_day = FIRST_DAY

abbrev pub last_day : ℤ
last_day = LAST_DAY
