-- What the queries of whole tables mean.
use Rattle.std.proofs.Common.{ℕ, List, [], ◌∷◌, refl, codes}
use Rattle.std.proofs.Math.Nat.{le_refl}
use Rattle.sqlite.specs.Collation.TheVariants.{Binary}
use Rattle.sqlite.specs.Command.TheVariants.{Select}
use Rattle.sqlite.specs.Listing.{understood}
use Rattle.sqlite.specs.Term.{Term, col}
use Rattle.sqlite_tied.specs.Compute.{everything}
use Rattle.sqlite_value.specs.Keys.{ascending}
use Rattle.sqlite_value.specs.declared.keys.Key.{Key}
use Rattle.office_tables.proofs.Queries.{asking}
use Rattle.office_tables.specs.Schema as tables
use Rattle.office_tables.specs.StatementMeaning.{Means}
use Rattle.office_tables.specs.Versions.{Version}

abbrev pub by_first : List (Term × Key)
by_first = (col 1 0, ascending Binary) ∷ []

-- ---- seats

abbrev pub seats_text : List ℕ
seats_text = codes "SELECT seat, ticket FROM seat"

abbrev pub seats_terms : List Term
seats_terms = col 1 0 ∷ col 1 2 ∷ []

abbrev pub seats_names : List (List ℕ)
seats_names = codes "seat" ∷ codes "ticket" ∷ []

pub seats_mean : (v : Version) → Means v seats_text 0 (Select (asking tables.seat [] seats_terms []) seats_names)
unfolding understood everything
seats_mean v = record { is = refl; plain = (refl, refl); whole = (le_refl _, refl, refl); unlisted = refl }

-- ---- permits

abbrev pub permits_text : List ℕ
permits_text = codes "SELECT ticket, unit, until FROM permit"

abbrev pub permits_terms : List Term
permits_terms = col 1 1 ∷ col 1 2 ∷ col 1 3 ∷ []

abbrev pub permits_names : List (List ℕ)
permits_names = codes "ticket" ∷ codes "unit" ∷ codes "until" ∷ []

pub permits_mean : (v : Version)
    → Means v permits_text 0 (Select (asking tables.permit [] permits_terms []) permits_names)
unfolding understood everything
permits_mean v = record { is = refl; plain = (refl, refl); whole = (le_refl _, refl, refl); unlisted = refl }

-- ---- orders

abbrev pub orders_text : List ℕ
orders_text = codes "SELECT id, ticket, container, day, state FROM orders ORDER BY id"

abbrev pub orders_terms : List Term
orders_terms = col 1 0 ∷ col 1 2 ∷ col 1 3 ∷ col 1 4 ∷ col 1 5 ∷ []

abbrev pub orders_names : List (List ℕ)
orders_names = codes "id" ∷ codes "ticket" ∷ codes "container" ∷ codes "day" ∷ codes "state" ∷ []

pub orders_mean : (v : Version)
    → Means v orders_text 0 (Select (asking tables.orders [] orders_terms by_first) orders_names)
unfolding understood everything
orders_mean v = record { is = refl; plain = (refl, refl); whole = (le_refl _, refl, refl); unlisted = refl }

-- ---- holdings

abbrev pub holdings_text : List ℕ
holdings_text = codes "SELECT container, place, held_by FROM holding"

abbrev pub holdings_terms : List Term
holdings_terms = col 1 0 ∷ col 1 3 ∷ col 1 2 ∷ []

abbrev pub holdings_names : List (List ℕ)
holdings_names = codes "container" ∷ codes "place" ∷ codes "held_by" ∷ []

pub holdings_mean : (v : Version)
    → Means v holdings_text 0 (Select (asking tables.holding [] holdings_terms []) holdings_names)
unfolding understood everything
holdings_mean v = record { is = refl; plain = (refl, refl); whole = (le_refl _, refl, refl); unlisted = refl }

-- ---- runs

abbrev pub runs_text : List ℕ
runs_text = codes "SELECT id, day FROM run ORDER BY id"

abbrev pub runs_terms : List Term
runs_terms = col 1 0 ∷ col 1 2 ∷ []

abbrev pub runs_names : List (List ℕ)
runs_names = codes "id" ∷ codes "day" ∷ []

pub runs_mean : (v : Version) → Means v runs_text 0 (Select (asking tables.run [] runs_terms by_first) runs_names)
unfolding understood everything
runs_mean v = record { is = refl; plain = (refl, refl); whole = (le_refl _, refl, refl); unlisted = refl }

-- ---- run_lines

abbrev pub run_lines_text : List ℕ
run_lines_text = codes "SELECT run, container, order_no, ticket FROM run_line"

abbrev pub run_lines_terms : List Term
run_lines_terms = col 1 1 ∷ col 1 2 ∷ col 1 3 ∷ col 1 4 ∷ []

abbrev pub run_lines_names : List (List ℕ)
run_lines_names = codes "run" ∷ codes "container" ∷ codes "order_no" ∷ codes "ticket" ∷ []

pub run_lines_mean : (v : Version)
    → Means v run_lines_text 0 (Select (asking tables.run_line [] run_lines_terms []) run_lines_names)
unfolding understood everything
run_lines_mean v = record { is = refl; plain = (refl, refl); whole = (le_refl _, refl, refl); unlisted = refl }

-- ---- unit_numbers

abbrev pub unit_numbers_text : List ℕ
unit_numbers_text = codes "SELECT id FROM unit"

abbrev pub unit_numbers_terms : List Term
unit_numbers_terms = col 1 0 ∷ []

abbrev pub unit_numbers_names : List (List ℕ)
unit_numbers_names = codes "id" ∷ []

pub unit_numbers_mean : (v : Version)
    → Means v unit_numbers_text 0 (Select (asking tables.unit [] unit_numbers_terms []) unit_numbers_names)
unfolding understood everything
unit_numbers_mean v = record { is = refl; plain = (refl, refl); whole = (le_refl _, refl, refl); unlisted = refl }

-- ---- container_numbers

abbrev pub container_numbers_text : List ℕ
container_numbers_text = codes "SELECT id FROM container"

abbrev pub container_numbers_terms : List Term
container_numbers_terms = col 1 0 ∷ []

abbrev pub container_numbers_names : List (List ℕ)
container_numbers_names = codes "id" ∷ []

pub container_numbers_mean : (v : Version)
    → Means v container_numbers_text 0 (Select (asking tables.container [] container_numbers_terms []) container_numbers_names)
unfolding understood everything
container_numbers_mean v = record { is = refl; plain = (refl, refl); whole = (le_refl _, refl, refl); unlisted = refl }
