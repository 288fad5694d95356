-- The statements on the rows of permits: what their texts mean, what they leave or tell, and why they fail.
use Rattle.std.proofs.Common.{◌≡◌, ℕ, ℤ, pos, List, [], ◌∷◌, map, filter, codes, true, false, Result, OnOk, IfOk, IfErr}
use Rattle.std.proofs.Common.{nat_eq, refl, ◌∙◌}
use Rattle.std.specs.declared.cmp.Ordering.{Ordering}
use Rattle.sqlite.specs.Listing.{understood}
use Rattle.sqlite_schema.specs.Names.{same_name}
use Rattle.sqlite_tied.specs.Compute.{everything}
use Rattle.sqlite_value.specs.Keys.{joined, first_key}
use Rattle.office_tables.specs.Schema as tables
use Rattle.desk_store.specs.declared.reader_permits.Permit.{Permit}
use Rattle.desk_store.proofs.Common.{AllByRecursion, Binary, Chosen, Command, Compare, Delete, Eq, Finds, HasCause}
use Rattle.desk_store.proofs.Common.{HasNumbered, HasUnitRow, Insert, Int, IsLive, IsOrdered, IsUnlimited, IsWelcome}
use Rattle.desk_store.proofs.Common.{Key, Means, Misses, Null, OnlyTouches, PermitRow, PutsRow, Ran, Row, Select, State}
use Rattle.desk_store.proofs.Common.{StoreFault, Term, Trees, Values, Version, agree, all_numbered, ascending, asking}
use Rattle.desk_store.proofs.Common.{both, by_two_ints, cast_int, cast_null, choosing, col, column, delete_faults}
use Rattle.desk_store.proofs.Common.{delete_leaves, delete_only, edit_of, either_first, eq-eqb, has_null, has_parent}
use Rattle.desk_store.proofs.Common.{insert_faults, insert_puts, int_cmp, is_day_number, is_key_of, is_permit, le_refl}
use Rattle.desk_store.proofs.Common.{list_all, list_any, lit, next_rowid, next_welcome, none_agrees, on_ok_then, only}
use Rattle.desk_store.proofs.Common.{op2, or_right, ordering_then, permit, permit_alone, permit_cells, permit_fits}
use Rattle.desk_store.proofs.Common.{plain, same_number, schema, select_faults, select_finds, some_from, those_left}
use Rattle.desk_store.proofs.Common.{to_unit, unit, value_rows, without_permit}

-- ---- a permit for a unit that has its row

unit_fits : (v : Version) → list_all (is_key_of (schema v)) (to_unit 2 ∷ []) ≡ true
unfolding joined same_name
unit_fits v = refl

held_by_unit : (v : Version) (db : Trees) (row : Row)
    → list_any (λ parent. agree plain (0 ∷ []) parent (2 ∷ []) row) (db unit.tree) ≡ true
    → list_all (has_parent (schema v).tables db row) (to_unit 2 ∷ []) ≡ true
unfolding joined same_name
held_by_unit v db row h = rw (h, or_right (has_null (2 ∷ []) row) true refl) refl

unit_agrees : (u : ℕ) (parent row : Row) → column parent 0 ≡ Int (pos u) → column row 2 ≡ Int (pos u)
    → agree plain (0 ∷ []) parent (2 ∷ []) row ≡ true
unfolding first_key
unit_agrees u parent row at is = rw (at, is) (only (same_number u u ∙ eq-eqb u u refl))

has_its_unit : (v : Version) (db : Trees) (row : Row) (u : ℕ) → column row 2 ≡ Int (pos u) → HasUnitRow u db
    → list_all (has_parent (schema v).tables db row) (to_unit 2 ∷ []) ≡ true
has_its_unit v db row u is known =
    held_by_unit v db row (some_from (λ parent. agree plain (0 ∷ []) parent (2 ∷ []) row) (db unit.tree) known.0 known.1 (unit_agrees u known.0 row known.2 is))

-- ---- a new permit

abbrev pub insert_permit_text : List ℕ
insert_permit_text = codes "INSERT INTO permit (ticket, unit, until) VALUES (?1, ?2, ?3)"

abbrev insert_permit_terms : List Term
insert_permit_terms = lit Null ∷ col 0 0 ∷ col 0 1 ∷ col 0 2 ∷ []

abbrev pub insert_permit_command : Command
insert_permit_command = Insert 6 (Values insert_permit_terms 4)

pub insert_permit_means : (v : Version) → Means v insert_permit_text 3 insert_permit_command
unfolding understood everything
insert_permit_means v = record { is = refl; plain = (refl, refl); whole = (le_refl _, refl, refl); unlisted = refl }

same_permit : (a b : ℤ × PermitRow)
    → agree plain (1 ∷ 2 ∷ []) (permit_cells a) (1 ∷ 2 ∷ []) (permit_cells b) ≡ is_permit b.1.ticket b.1.unit a.1
unfolding first_key
same_permit a b = both (same_number a.1.ticket b.1.ticket) (same_number a.1.unit b.1.unit)

-- the same by the unit first
same_by_unit : (a b : ℤ × PermitRow)
    → agree plain (2 ∷ 1 ∷ []) (permit_cells a) (2 ∷ 1 ∷ []) (permit_cells b) ≡ is_permit b.1.ticket b.1.unit a.1
unfolding first_key
same_by_unit a b =
    both (same_number a.1.unit b.1.unit) (same_number a.1.ticket b.1.ticket)
    ∙ either_first (nat_eq b.1.unit a.1.unit) (nat_eq b.1.ticket a.1.ticket)

module _ (old new : State) (p : PermitRow) (v : Version) (has : old.now.schema ≡ schema v) where
  abbrev params : Row
  params = Int (pos p.ticket) ∷ Int (pos p.unit) ∷ Int p.until ∷ []

  abbrev added : ℤ × PermitRow
  added = (next_rowid (old.now.trees tables.permit.tree), p)

  news : (edit_of old.now.trees permit [] Chosen 0 (value_rows params 4 1 insert_permit_terms)).news ≡ permit_cells added ∷ []
  news = rw (cast_null, cast_int (pos p.ticket), cast_int (pos p.unit), cast_int p.until) refl

  pub insert_permit_puts : (r : Result Unit StoreFault) → Ran insert_permit_text params old new r
      → OnOk r (PutsRow tables.permit.tree (permit_cells added) old.now new.now)
  insert_permit_puts = insert_puts v 6 permit refl insert_permit_text insert_permit_terms 4 params (insert_permit_means v) old new has (permit_cells added) news

  module _ (ps : List PermitRow) (at : HasNumbered permit_cells (old.now.trees tables.permit.tree) ps) (none : list_any (is_permit p.ticket p.unit) ps ≡ false) (known : HasUnitRow p.unit old.now.trees) where
    welcome : IsWelcome (schema v) old.now.trees permit (permit_cells added)
    welcome =
        let apart : list_any (λ r. agree plain (1 ∷ 2 ∷ []) r (1 ∷ 2 ∷ []) (permit_cells added)) (old.now.trees permit.tree) ≡ false =
        none_agrees permit_cells (old.now.trees permit.tree) ps at (1 ∷ 2 ∷ []) (permit_cells added) (is_permit p.ticket p.unit) (λ x. same_permit x added) none in
        let apart_too : list_any (λ r. agree plain (2 ∷ 1 ∷ []) r (2 ∷ 1 ∷ []) (permit_cells added)) (old.now.trees permit.tree) ≡ false =
        none_agrees permit_cells (old.now.trees permit.tree) ps at (2 ∷ 1 ∷ []) (permit_cells added) (is_permit p.ticket p.unit) (λ x. same_by_unit x added) none in
        next_welcome v permit permit_cells (λ (p : PermitRow). Int (pos p.ticket) ∷ Int (pos p.unit) ∷ Int p.until ∷ []) (λ _. refl) p ps old.now.trees at (rw (apart, apart_too) refl)
        (record { typed = refl; present = refl; checked = refl; referred = unit_fits v; parents = has_its_unit v old.now.trees (permit_cells added) p.unit refl known })

    pub insert_permit_faults : IsUnlimited old → IsLive old → (r : Result Unit StoreFault)
        → Ran insert_permit_text params old new r → IfErr r (HasCause old new)
    insert_permit_faults = insert_faults v 6 permit refl insert_permit_text insert_permit_terms 4 params (insert_permit_means v) old new has (permit_cells added) news refl welcome

-- ---- a permit is taken

abbrev pub clear_permit_text : List ℕ
clear_permit_text = codes "DELETE FROM permit WHERE ticket = ?1 AND unit = ?2"

abbrev of_both : List Term
of_both = op2 (Compare Eq Binary) (col 1 1) (col 0 0) ∷ op2 (Compare Eq Binary) (col 1 2) (col 0 1) ∷ []

abbrev pub clear_permit_command : Command
clear_permit_command = Delete 6 (choosing permit of_both (col 1 0 ∷ []))

pub clear_permit_means : (v : Version) → Means v clear_permit_text 2 clear_permit_command
unfolding understood everything
clear_permit_means v = record { is = refl; plain = (refl, refl); whole = (le_refl _, refl, refl); unlisted = refl }

module _ (old new : State) (t u : ℕ) (v : Version) (has : old.now.schema ≡ schema v) (r : Result Unit StoreFault) (ran : Ran clear_permit_text (Int (pos t) ∷ Int (pos u) ∷ []) old new r) where
  pub clear_permit_leaves : (ps : List PermitRow) → HasNumbered permit_cells (old.now.trees tables.permit.tree) ps
      → OnOk r (HasNumbered permit_cells (new.now.trees tables.permit.tree) (without_permit t u ps))
  clear_permit_leaves ps at =
      on_ok_then r _ _ (λ has. those_left permit_cells (old.now.trees tables.permit.tree) (new.now.trees tables.permit.tree) ps at (is_permit t u) has.are)
      (delete_leaves v 6 permit refl (permit_alone v) clear_permit_text of_both (col 1 0 ∷ []) (Int (pos t) ∷ Int (pos u) ∷ []) (clear_permit_means v) old new has permit_cells (λ x. x.0) (λ _. refl) at.numbered at.are at.rise
      (λ (x : ℤ × PermitRow). is_permit t u x.1) (λ x. both (same_number x.1.ticket t) (same_number x.1.unit u)) (λ (x : ℤ × PermitRow). Int x.0 ∷ []) (λ _. refl) (λ _. refl) r ran)

  pub clear_permit_only : OnOk r (OnlyTouches (tables.permit.tree ∷ []) old.now new.now)
  clear_permit_only = delete_only v 6 permit refl clear_permit_text _ (Int (pos t) ∷ Int (pos u) ∷ []) old new has (permit_alone v) (clear_permit_means v) r ran

  pub clear_permit_faults : IsUnlimited old → IsLive old → IfErr r (HasCause old new)
  clear_permit_faults free live =
      delete_faults v 6 permit refl (permit_alone v) clear_permit_text of_both (col 1 0 ∷ []) (Int (pos t) ∷ Int (pos u) ∷ []) (clear_permit_means v) old new has (permit_fits v) refl free live r ran

-- ---- the permits of a ticket

abbrev pub permits_text : List ℕ
permits_text = codes "SELECT unit, until FROM permit WHERE ticket = ?1 ORDER BY ticket, unit"

abbrev of_ticket : List Term
of_ticket = op2 (Compare Eq Binary) (col 1 1) (col 0 0) ∷ []

abbrev permit_columns : List Term
permit_columns = col 1 2 ∷ col 1 3 ∷ []

abbrev permit_names : List (List ℕ)
permit_names = codes "unit" ∷ codes "until" ∷ []

abbrev in_order : List (Term × Key)
in_order = (col 1 1, ascending Binary) ∷ (col 1 2, ascending Binary) ∷ []

abbrev pub permits_command : Command
permits_command = Select (asking permit of_ticket permit_columns in_order) permit_names

pub permits_means : (v : Version) → Means v permits_text 1 permits_command
unfolding understood everything
permits_means v = record { is = refl; plain = (refl, refl); whole = (le_refl _, refl, refl); unlisted = refl }

abbrev pub permit_of : PermitRow → Permit
permit_of p = record { unit = p.unit; until = p.until }

abbrev pub told_of : ℤ × PermitRow → Permit
told_of x = permit_of x.1

abbrev pub told_cells : Permit → Row
told_cells p = Int (pos p.unit) ∷ Int p.until ∷ []

abbrev pub by_ticket : ℤ × PermitRow → ℤ × PermitRow → Ordering
by_ticket a b = ordering_then (int_cmp (pos a.1.ticket) (pos b.1.ticket)) (int_cmp (pos a.1.unit) (pos b.1.unit))

module _ (old new : State) (t : ℕ) (v : Version) (has : old.now.schema ≡ schema v) (ps : List PermitRow) (at : HasNumbered permit_cells (old.now.trees tables.permit.tree) ps) {X : Type 0} (items : X → List Permit) (r : Result X StoreFault) where
  pub permits_finds : IfOk r (λ found. Finds told_cells permits_text (Int (pos t) ∷ []) old new (items found))
      → IfOk r (λ found. (ys : List (ℤ × PermitRow)) × IsOrdered by_ticket (filter (λ (x : ℤ × PermitRow). nat_eq t x.1.ticket) at.numbered) ys × (items found ≡ map told_of ys))
  permits_finds =
      select_finds v permit permits_text of_ticket permit_columns in_order permit_names (Int (pos t) ∷ []) (permits_means v) old new has permit_cells at.numbered at.are
      (λ (x : ℤ × PermitRow). nat_eq t x.1.ticket) (λ x. only (same_number x.1.ticket t)) (λ x. told_cells (told_of x)) (λ (x : ℤ × PermitRow). Int (pos x.1.ticket) ∷ Int (pos x.1.unit) ∷ []) (λ _. refl)
      by_ticket (λ _. refl) (λ a b. by_two_ints (pos a.1.ticket) (pos b.1.ticket) (pos a.1.unit) (pos b.1.unit)) told_cells items told_of (λ _. refl) r

  pub permits_faults : AllByRecursion (λ (p : PermitRow). is_day_number p.until ≡ true) ps → IsUnlimited old
      → IfErr r (Misses told_cells (λ p. is_day_number p.until ≡ true) permits_text (Int (pos t) ∷ []) old new)
      → IfErr r (HasCause old new)
  permits_faults legible free =
      select_faults v permit permits_text of_ticket permit_columns in_order permit_names (Int (pos t) ∷ []) (permits_means v) old new has permit_cells at.numbered at.are
      (λ (x : ℤ × PermitRow). nat_eq t x.1.ticket) (λ x. only (same_number x.1.ticket t)) (λ x. told_cells (told_of x)) (λ (x : ℤ × PermitRow). Int (pos x.1.ticket) ∷ Int (pos x.1.unit) ∷ []) (λ _. refl)
      by_ticket (λ _. refl) (λ a b. by_two_ints (pos a.1.ticket) (pos b.1.ticket) (pos a.1.unit) (pos b.1.unit)) told_cells items told_of (λ _. refl) (λ (p : Permit). is_day_number p.until ≡ true) refl free
      (all_numbered permit_cells (old.now.trees tables.permit.tree) ps at (λ (p : PermitRow). is_day_number p.until ≡ true) legible) r
