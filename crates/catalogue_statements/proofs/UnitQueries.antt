-- The queries of the units' rows: what their texts mean, what they tell, and why they fail.
use Rattle.std.proofs.Common.{◌≡◌, ℕ, ℤ, pos, List, [], ◌∷◌, map, filter, codes, true, Result, IfOk, IfErr, nat_eq}
use Rattle.std.proofs.Common.{refl, arith, SFits}
use Rattle.std.proofs.lemmas.Int.{ints}
use Rattle.std.proofs.lemmas.Option.{IfSome_then}
use Rattle.std.specs.Int.{w32}
use Rattle.sqlite.specs.Listing.{understood}
use Rattle.sqlite_tied.specs.Compute.{everything}
use Rattle.isad_core.specs.Days.{is_day_number}
use Rattle.office_tables.specs.Schema as tables
use Rattle.catalogue_statements.proofs.Common.{AllByRecursion, Binary, Bytes, Command, Compare, Eq, Finds, HasCause}
use Rattle.catalogue_statements.proofs.Common.{Holds, IfSome, Int, IsLegibleUnit, IsOrdered, IsTotalOrder, IsUnlimited}
use Rattle.catalogue_statements.proofs.Common.{Key, Means, Misses, Row, Select, State, StoreFault, Term, Text, Unit}
use Rattle.catalogue_statements.proofs.Common.{Version, accepts_program, ascending, asking, both, by_number, by_one_int}
use Rattle.catalogue_statements.proofs.Common.{cells_of_unit, col, end, eval_all, inner, int_cmp_total, is_from}
use Rattle.catalogue_statements.proofs.Common.{le_refl, on_total, only, op2, plain_query, same_bytes, same_number}
use Rattle.catalogue_statements.proofs.Common.{schema, select_faults, select_finds, unit}
use Rattle.catalogue_statements.proofs.UnitWrites.{with_its_number}

pub by_number_total : IsTotalOrder by_number
by_number_total = on_total (λ (u : Unit). pos u.id) int_cmp_total

abbrev pub in_order : List (Term × Key)
in_order = (col 1 0, ascending Binary) ∷ []

-- ---- the units from a source

abbrev pub from_text : List ℕ
from_text = codes "SELECT id FROM unit WHERE source = ?1 AND legacy = ?2 ORDER BY id"

abbrev from_there : List Term
from_there = op2 (Compare Eq Binary) (col 1 2) (col 0 0) ∷ op2 (Compare Eq Binary) (col 1 3) (col 0 1) ∷ []

abbrev pub from_command : Command
from_command = Select (asking unit from_there (col 1 0 ∷ []) in_order) (codes "id" ∷ [])

pub from_means : (v : Version) → Means v from_text 2 from_command
unfolding understood everything
from_means v = record { is = refl; plain = (refl, refl); whole = (le_refl _, refl, refl); unlisted = refl }

module _ (old new : State) (source legacy : Bytes) (v : Version) (has : old.now.schema ≡ schema v) (xs : List Unit) (stored : Holds unit cells_of_unit old xs) {X : Type 0} (items : X → List ℕ) (r : Result X StoreFault) where
  pub from_finds : IfOk r (λ found. Finds (λ n. Int (pos n) ∷ []) from_text (Text source ∷ Text legacy ∷ []) old new (items found))
      → IfOk r (λ found. (ys : List Unit) × IsOrdered by_number (filter (is_from source legacy) xs) ys × (items found ≡ map (λ (u : Unit). u.id) ys))
  from_finds =
      select_finds v unit from_text from_there (col 1 0 ∷ []) in_order (codes "id" ∷ []) (Text source ∷ Text legacy ∷ []) (from_means v) old new has cells_of_unit xs stored
      (is_from source legacy) (λ u. both (same_bytes u.source source) (same_bytes u.legacy legacy)) (λ u. Int (pos u.id) ∷ []) (λ (u : Unit). Int (pos u.id) ∷ []) (λ _. refl) by_number (λ _. refl) (λ a b. by_one_int (pos a.id) (pos b.id))
      (λ n. Int (pos n) ∷ []) items (λ (u : Unit). u.id) (λ _. refl) r

  pub from_faults : (IsLegible : ℕ → Type 0) → AllByRecursion (λ (u : Unit). IsLegible u.id) xs → IsUnlimited old
      → IfErr r (Misses (λ n. Int (pos n) ∷ []) IsLegible from_text (Text source ∷ Text legacy ∷ []) old new)
      → IfErr r (HasCause old new)
  from_faults IsLegible legible free =
      select_faults v unit from_text from_there (col 1 0 ∷ []) in_order (codes "id" ∷ []) (Text source ∷ Text legacy ∷ []) (from_means v) old new has cells_of_unit xs stored
      (is_from source legacy) (λ u. both (same_bytes u.source source) (same_bytes u.legacy legacy)) (λ u. Int (pos u.id) ∷ []) (λ (u : Unit). Int (pos u.id) ∷ []) (λ _. refl) by_number (λ _. refl) (λ a b. by_one_int (pos a.id) (pos b.id))
      (λ n. Int (pos n) ∷ []) items (λ (u : Unit). u.id) (λ _. refl) IsLegible refl free legible r

-- ---- the unit with a number

-- a SELECT of some columns of the unit with this number
module _ (old new : State) (id : ℕ) (v : Version) (has : old.now.schema ≡ schema v) (sql : List ℕ) (project : List Term) (names : List (List ℕ)) (means : Means v sql 1 (Select (asking unit with_its_number project in_order) names))
    (xs : List Unit) (stored : Holds unit cells_of_unit old xs) {T X : Type 0} (cells : T → Row) (items : X → List T) (tell : Unit → T) (answers : (u : Unit) → eval_all project ((Int (pos id) ∷ []) ∷ cells_of_unit u ∷ []) ≡ cells (tell u)) (r : Result X StoreFault) where
  pub numbered_finds : IfOk r (λ found. Finds cells sql (Int (pos id) ∷ []) old new (items found))
      → IfOk r (λ found. (ys : List Unit) × IsOrdered by_number (filter (λ (u : Unit). nat_eq id u.id) xs) ys × (items found ≡ map tell ys))
  numbered_finds =
      select_finds v unit sql with_its_number project in_order names (Int (pos id) ∷ []) means old new has cells_of_unit xs stored
      (λ (u : Unit). nat_eq id u.id) (λ u. only (same_number u.id id)) (λ u. cells (tell u)) (λ (u : Unit). Int (pos u.id) ∷ []) answers by_number (λ _. refl) (λ a b. by_one_int (pos a.id) (pos b.id))
      cells items tell (λ _. refl) r

  pub numbered_faults : (IsLegible : T → Type 0)
      → accepts_program (schema v) [] (plain_query (inner tables.unit.tree end) with_its_number project in_order) (Int (pos id) ∷ []) ≡ true
      → AllByRecursion (λ u. IsLegible (tell u)) xs → IsUnlimited old
      → IfErr r (Misses cells IsLegible sql (Int (pos id) ∷ []) old new) → IfErr r (HasCause old new)
  numbered_faults IsLegible accepted legible free =
      select_faults v unit sql with_its_number project in_order names (Int (pos id) ∷ []) means old new has cells_of_unit xs stored
      (λ (u : Unit). nat_eq id u.id) (λ u. only (same_number u.id id)) (λ u. cells (tell u)) (λ (u : Unit). Int (pos u.id) ∷ []) answers by_number (λ _. refl) (λ a b. by_one_int (pos a.id) (pos b.id))
      cells items tell (λ _. refl) IsLegible accepted free legible r

abbrev pub status_text : List ℕ
status_text = codes "SELECT draft, until FROM unit WHERE id = ?1 ORDER BY id"

abbrev pub status_columns : List Term
status_columns = col 1 6 ∷ col 1 5 ∷ []

abbrev pub status_names : List (List ℕ)
status_names = codes "draft" ∷ codes "until" ∷ []

abbrev pub status_command : Command
status_command = Select (asking unit with_its_number status_columns in_order) status_names

pub status_means : (v : Version) → Means v status_text 1 status_command
unfolding understood everything
status_means v = record { is = refl; plain = (refl, refl); whole = (le_refl _, refl, refl); unlisted = refl }

abbrev pub level_text : List ℕ
level_text = codes "SELECT level FROM unit WHERE id = ?1 ORDER BY id"

abbrev pub level_columns : List Term
level_columns = col 1 4 ∷ []

abbrev pub level_names : List (List ℕ)
level_names = codes "level" ∷ []

abbrev pub level_command : Command
level_command = Select (asking unit with_its_number level_columns in_order) level_names

pub level_means : (v : Version) → Means v level_text 1 level_command
unfolding understood everything
level_means v = record { is = refl; plain = (refl, refl); whole = (le_refl _, refl, refl); unlisted = refl }

abbrev pub standing_text : List ℕ
standing_text = codes "SELECT level, draft, until FROM unit WHERE id = ?1 ORDER BY id"

abbrev pub standing_columns : List Term
standing_columns = col 1 4 ∷ col 1 6 ∷ col 1 5 ∷ []

abbrev pub standing_names : List (List ℕ)
standing_names = codes "level" ∷ codes "draft" ∷ codes "until" ∷ []

abbrev pub standing_command : Command
standing_command = Select (asking unit with_its_number standing_columns in_order) standing_names

pub standing_means : (v : Version) → Means v standing_text 1 standing_command
unfolding understood everything
standing_means v = record { is = refl; plain = (refl, refl); whole = (le_refl _, refl, refl); unlisted = refl }

-- a day fits the type of a day's number
day_fits : (day : ℤ) → is_day_number day ≡ true → SFits w32 day
day_fits day h = grind (arith, ints, h)

pub until_fits : (u : Unit) → IsLegibleUnit u → IfSome u.until (SFits w32)
until_fits u legible = IfSome_then u.until legible.until day_fits
