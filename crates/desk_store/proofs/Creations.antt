-- What the definitions of the desk's tables make.
use Rattle.std.proofs.Common.{ℕ, List, [], ◌∷◌, codes, refl}
use Rattle.sqlite.specs.Change.{created}
use Rattle.sqlite.specs.Listing.{understood}
use Rattle.sqlite.specs.Schema.{Schema}
use Rattle.sqlite.specs.Table.{Table}
use Rattle.sqlite_tied.specs.Compute.{everything}
use Rattle.office_tables.proofs.Creations.{naming}
use Rattle.office_tables.specs.Creation.{DefinesTable}
use Rattle.desk_store.proofs.Common.{desk_schema, holding, no_schema, orders, permit, reader, run, run_line, seat}

abbrev pub reader_text : List ℕ
reader_text = codes "CREATE TABLE reader (ticket INTEGER PRIMARY KEY, name TEXT NOT NULL, until INTEGER NOT NULL) STRICT"

abbrev pub seat_text : List ℕ
seat_text = codes "CREATE TABLE seat (seat INTEGER PRIMARY KEY, ticket INTEGER NOT NULL, UNIQUE (ticket)) STRICT"

abbrev pub orders_text : List ℕ
orders_text = codes "CREATE TABLE orders (id INTEGER PRIMARY KEY, ticket INTEGER NOT NULL, container INTEGER NOT NULL, day INTEGER NOT NULL, state INTEGER NOT NULL, UNIQUE (state, container, id, ticket), UNIQUE (ticket, day, id), UNIQUE (ticket, state, id)) STRICT"

abbrev pub holding_text : List ℕ
holding_text = codes "CREATE TABLE holding (container INTEGER PRIMARY KEY, held_by INTEGER, place INTEGER NOT NULL) STRICT"

abbrev pub run_text : List ℕ
run_text = codes "CREATE TABLE run (id INTEGER PRIMARY KEY, day INTEGER NOT NULL) STRICT"

abbrev pub run_line_text : List ℕ
run_line_text = codes "CREATE TABLE run_line (run INTEGER NOT NULL, container INTEGER NOT NULL, order_no INTEGER NOT NULL, ticket INTEGER NOT NULL, PRIMARY KEY (run, container)) STRICT"

abbrev pub permit_text : List ℕ
permit_text = codes "CREATE TABLE permit (ticket INTEGER NOT NULL, unit INTEGER NOT NULL REFERENCES unit ON DELETE CASCADE, until INTEGER NOT NULL, PRIMARY KEY (ticket, unit), UNIQUE (unit, ticket)) STRICT"

-- ---- the schema after each definition in turn

abbrev free : Table → Table
free t = record t { tree = 0 }

abbrev pub s1 : Schema
s1 = created no_schema (free reader)

abbrev pub s2 : Schema
s2 = created s1 (free seat)

abbrev pub s3 : Schema
s3 = created s2 (free orders)

abbrev pub s4 : Schema
s4 = created s3 (free holding)

abbrev pub s5 : Schema
s5 = created s4 (free run)

abbrev pub s6 : Schema
s6 = created s5 (free run_line)

pub reader_defined : DefinesTable [] no_schema reader_text s1
unfolding understood everything naming
reader_defined = record { table = free reader; says = record { is = refl; plain = (refl, refl); whole = refl; alone = (refl, refl) }; defined = refl; allowed = record { named = record { free = refl; utf8 = refl; unreserved = refl }; guards = refl; formed = refl; fit = refl; trees = refl; reals = refl; key_reals = refl }; uncounted = refl; is = refl; more = []; first = refl; rest = refl; last = refl }

pub seat_defined : DefinesTable [] s1 seat_text s2
unfolding understood everything naming
seat_defined = record { table = free seat; says = record { is = refl; plain = (refl, refl); whole = refl; alone = (refl, refl) }; defined = refl; allowed = record { named = record { free = refl; utf8 = refl; unreserved = refl }; guards = refl; formed = refl; fit = refl; trees = refl; reals = refl; key_reals = refl }; uncounted = refl; is = refl; more = reader ∷ []; first = refl; rest = refl; last = refl }

pub orders_defined : DefinesTable [] s2 orders_text s3
unfolding understood everything naming
orders_defined = record { table = free orders; says = record { is = refl; plain = (refl, refl); whole = refl; alone = (refl, refl) }; defined = refl; allowed = record { named = record { free = refl; utf8 = refl; unreserved = refl }; guards = refl; formed = refl; fit = refl; trees = refl; reals = refl; key_reals = refl }; uncounted = refl; is = refl; more = reader ∷ seat ∷ []; first = refl; rest = refl; last = refl }

pub holding_defined : DefinesTable [] s3 holding_text s4
unfolding understood everything naming
holding_defined = record { table = free holding; says = record { is = refl; plain = (refl, refl); whole = refl; alone = (refl, refl) }; defined = refl; allowed = record { named = record { free = refl; utf8 = refl; unreserved = refl }; guards = refl; formed = refl; fit = refl; trees = refl; reals = refl; key_reals = refl }; uncounted = refl; is = refl; more = reader ∷ seat ∷ orders ∷ []; first = refl; rest = refl; last = refl }

pub run_defined : DefinesTable [] s4 run_text s5
unfolding understood everything naming
run_defined = record { table = free run; says = record { is = refl; plain = (refl, refl); whole = refl; alone = (refl, refl) }; defined = refl; allowed = record { named = record { free = refl; utf8 = refl; unreserved = refl }; guards = refl; formed = refl; fit = refl; trees = refl; reals = refl; key_reals = refl }; uncounted = refl; is = refl; more = reader ∷ seat ∷ orders ∷ holding ∷ []; first = refl; rest = refl; last = refl }

pub run_line_defined : DefinesTable [] s5 run_line_text s6
unfolding understood everything naming
run_line_defined = record { table = free run_line; says = record { is = refl; plain = (refl, refl); whole = refl; alone = (refl, refl) }; defined = refl; allowed = record { named = record { free = refl; utf8 = refl; unreserved = refl }; guards = refl; formed = refl; fit = refl; trees = refl; reals = refl; key_reals = refl }; uncounted = refl; is = refl; more = reader ∷ seat ∷ orders ∷ holding ∷ run ∷ []; first = refl; rest = refl; last = refl }

pub permit_defined : DefinesTable [] s6 permit_text desk_schema
unfolding understood everything naming
permit_defined = record { table = free permit; says = record { is = refl; plain = (refl, refl); whole = refl; alone = (refl, refl) }; defined = refl; allowed = record { named = record { free = refl; utf8 = refl; unreserved = refl }; guards = refl; formed = refl; fit = refl; trees = refl; reals = refl; key_reals = refl }; uncounted = refl; is = refl; more = reader ∷ seat ∷ orders ∷ holding ∷ run ∷ run_line ∷ []; first = refl; rest = refl; last = refl }
