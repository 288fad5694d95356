-- The statements on the office's row: what their texts mean, what they leave or tell, and why they fail. What the texts
-- of the counts mean.
use Rattle.std.proofs.Common.{◌≡◌, ℕ, pos, List, [], ◌∷◌, map, drop, codes, true, false, Equal, Result, OnOk, IfOk}
use Rattle.std.proofs.Common.{IfErr, refl, ap, ◌∙◌}
use Rattle.sqlite.specs.Listing.{understood}
use Rattle.sqlite_tied.specs.Compute.{everything}
use Rattle.catalogue_statements.specs.CountQuery.{CountsRows}
use Rattle.catalogue_statements.specs.Settings.{AreLegibleSettings}
use Rattle.catalogue_statements.proofs.Common.{Binary, Command, Compare, Eq, Finds, HasCause, HasRows, IfOk-weaker, Int}
use Rattle.catalogue_statements.proofs.Common.{IsLive, IsUnlimited, Key, Means, Misses, Null, OfficeRow, OnlyTouches}
use Rattle.catalogue_statements.proofs.Common.{Ran, Row, Select, State, StoreFault, Term, Update, Version, ascending}
use Rattle.catalogue_statements.proofs.Common.{asking, by_one_int, cast_int, cast_null, cast_row, choosing, col}
use Rattle.catalogue_statements.proofs.Common.{container, le_refl, lit, office, office_kept, office_row}
use Rattle.catalogue_statements.proofs.Common.{one_permutation, only, op2, same_number, schema, select_faults}
use Rattle.catalogue_statements.proofs.Common.{select_finds, settings_of_row, unit, update_faults, update_leaves}
use Rattle.catalogue_statements.proofs.Common.{update_only, version_number}

-- what a row of the table tells: the version, and the rest
abbrev Telling : Type 0
Telling = Version × OfficeRow

abbrev telling_row : Telling → Row
telling_row x = office_row x.0 x.1

-- ---- the number of the next unit

abbrev pub set_next_text : List ℕ
set_next_text = codes "UPDATE office SET next_unit = ?1 WHERE one = 1"

abbrev the_one : List Term
the_one = op2 (Compare Eq Binary) (col 1 0) (lit (Int (pos 1))) ∷ []

abbrev set_next_columns : List Term
set_next_columns = col 1 0 ∷ col 1 0 ∷ lit Null ∷ col 1 2 ∷ col 1 3 ∷ col 1 4 ∷ col 1 5 ∷ col 1 6 ∷ col 1 7 ∷ col 1 8 ∷ col 1 9 ∷ col 0 0 ∷ []

abbrev pub set_next_command : Command
set_next_command = Update 7 (choosing office the_one set_next_columns)

pub set_next_means : (v : Version) → Means v set_next_text 1 set_next_command
unfolding understood everything
set_next_means v = record { is = refl; plain = (refl, refl); whole = (le_refl _, refl, refl); unlisted = refl }

module _ (old new : State) (next : ℕ) (v : Version) (has : old.now.schema ≡ schema v) (version : Version) (o : OfficeRow) (stored : old.now.trees office.tree ≡ office_row version o ∷ [])
    (r : Result Unit StoreFault) (ran : Ran set_next_text (Int (pos next) ∷ []) old new r) where
  abbrev one : List Telling
  one = (version, o) ∷ []

  abbrev changed : Telling → Telling
  changed x = (x.0, record x.1 { next_unit = next })

  abbrev source : Telling → Row
  source x = Int (pos 1) ∷ telling_row (changed x)

  casts : (x : Telling) → cast_row office (drop 1 (source x)) ≡ telling_row (changed x)
  casts x =
      rw (cast_int (pos 1), cast_null, cast_int (pos (version_number x.0)), cast_int (pos x.1.seats), cast_int (pos x.1.daily), cast_int (pos x.1.hands), cast_int (pos x.1.run_size), cast_int x.1.day, cast_int (pos next)) refl

  pub set_next_leaves : OnOk r (HasRows office.tree (office_row version (record o { next_unit = next }) ∷ []) old.now new.now)
  set_next_leaves =
      update_leaves v 7 office refl set_next_text the_one set_next_columns (Int (pos next) ∷ []) (set_next_means v) old new has telling_row (λ _. pos 1) (λ _. refl) one stored (tt, tt)
      (λ _. true) (λ _. only (same_number 1 1)) source (λ _. refl) (λ _. refl) changed (λ _. refl) (λ x _ _. casts x) r ran

  pub set_next_faults : IsUnlimited old → IsLive old → IfErr r (HasCause old new)
  set_next_faults free live =
      update_faults v 7 office refl set_next_text the_one set_next_columns (Int (pos next) ∷ []) (set_next_means v) old new has telling_row (λ _. pos 1) (λ _. refl) one stored (tt, tt)
      (λ _. true) (λ _. only (same_number 1 1)) source (λ _. refl) (λ _. refl) changed (λ _. refl) (λ x _ _. casts x)
      (λ _. false) (office_kept v) (λ x p h. absurd (let k : false ≡ true = h in cc)) (λ _. refl) (λ _. refl) (λ _. refl) refl free live r ran

-- whatever the row is, no other table is touched
pub set_next_only : (old new : State) (next : ℕ) (v : Version) → old.now.schema ≡ schema v
    → (r : Result Unit StoreFault) → Ran set_next_text (Int (pos next) ∷ []) old new r
    → OnOk r (OnlyTouches (office.tree ∷ []) old.now new.now)
set_next_only old new next v has =
    update_only v 7 office refl set_next_text _ (Int (pos next) ∷ []) old new has (set_next_means v)

-- ---- the office's row

abbrev pub office_is_text : List ℕ
office_is_text = codes "SELECT country, repo, seats, daily, hands, run_size, day, next_unit FROM office ORDER BY one"

abbrev office_is_columns : List Term
office_is_columns = col 1 3 ∷ col 1 4 ∷ col 1 5 ∷ col 1 6 ∷ col 1 7 ∷ col 1 8 ∷ col 1 9 ∷ col 1 10 ∷ []

abbrev office_is_names : List (List ℕ)
office_is_names = codes "country" ∷ codes "repo" ∷ codes "seats" ∷ codes "daily" ∷ codes "hands" ∷ codes "run_size" ∷ codes "day" ∷ codes "next_unit" ∷ []

abbrev by_one : List (Term × Key)
by_one = (col 1 0, ascending Binary) ∷ []

abbrev pub office_is_command : Command
office_is_command = Select (asking office [] office_is_columns by_one) office_is_names

pub office_is_means : (v : Version) → Means v office_is_text 0 office_is_command
unfolding understood everything
office_is_means v = record { is = refl; plain = (refl, refl); whole = (le_refl _, refl, refl); unlisted = refl }

module _ (old new : State) (v : Version) (has : old.now.schema ≡ schema v) (version : Version) (o : OfficeRow) (stored : old.now.trees office.tree ≡ office_row version o ∷ []) {X : Type 0} (items : X → List OfficeRow) (r : Result X StoreFault) where
  abbrev the_row : Telling
  the_row = (version, o)

  pub office_is_finds : IfOk r (λ found. Finds settings_of_row office_is_text [] old new (items found))
      → IfOk r (λ found. items found ≡ o ∷ [])
  office_is_finds found =
      IfOk-weaker r _ _ (λ all it. it.2 ∙ ap (map (λ (x : Telling). x.1)) (one_permutation the_row it.0 it.1.0))
      (select_finds v office office_is_text [] office_is_columns by_one office_is_names [] (office_is_means v) old new has telling_row (the_row ∷ []) stored
      (λ _. true) (λ _. refl) (λ x. settings_of_row x.1) (λ _. Int (pos 1) ∷ []) (λ _. refl) (λ _ _. Equal) (λ _. refl) (λ a b. by_one_int (pos 1) (pos 1)) settings_of_row items (λ x. x.1) (λ _. refl) r found)

  pub office_is_faults : AreLegibleSettings o → IsUnlimited old
      → IfErr r (Misses settings_of_row AreLegibleSettings office_is_text [] old new) → IfErr r (HasCause old new)
  office_is_faults legible free =
      select_faults v office office_is_text [] office_is_columns by_one office_is_names [] (office_is_means v) old new has telling_row (the_row ∷ []) stored
      (λ _. true) (λ _. refl) (λ x. settings_of_row x.1) (λ _. Int (pos 1) ∷ []) (λ _. refl) (λ _ _. Equal) (λ _. refl) (λ a b. by_one_int (pos 1) (pos 1)) settings_of_row items (λ x. x.1) (λ _. refl)
      AreLegibleSettings refl free (legible, tt) r

-- ---- how many there are

abbrev pub count_units_text : List ℕ
count_units_text = codes "SELECT count(*) FROM unit"

pub counts_units : (v : Version) → CountsRows v unit count_units_text
unfolding understood everything
counts_units v = record { means = record { is = refl; plain = (refl, refl); whole = (le_refl _, refl, refl); unlisted = refl }; typed = refl }

abbrev pub count_containers_text : List ℕ
count_containers_text = codes "SELECT count(*) FROM container"

pub counts_containers : (v : Version) → CountsRows v container count_containers_text
unfolding understood everything
counts_containers v = record { means = record { is = refl; plain = (refl, refl); whole = (le_refl _, refl, refl); unlisted = refl }; typed = refl }
