-- The statements on the rows of readers: what their texts mean, what they leave or tell, and why they fail.
use Rattle.std.proofs.Common.{◌≡◌, ◌≤◌, ◌<◌, ◌^◌, ℕ, zero, suc, ℤ, pos, List, [], ◌∷◌, map, filter, length, drop, codes}
use Rattle.std.proofs.Common.{Bool, true, false, if◌then◌else◌, ltb, Result, OnOk, IfOk, IfErr, nat_eq, refl, arith}
use Rattle.std.specs.declared.cmp.Ordering.{Ordering}
use Rattle.sqlite.specs.Listing.{understood}
use Rattle.sqlite_schema.specs.Names.{same_name}
use Rattle.sqlite_tied.specs.Compute.{everything}
use Rattle.sqlite_value.specs.Keys.{joined}
use Rattle.office_tables.proofs.UpdateCauses.{KeepsTable}
use Rattle.office_tables.specs.Schema as tables
use Rattle.desk_store.specs.declared.readers.NamedReader.{NamedReader}
use Rattle.desk_store.proofs.Common.{AllByRecursion, AreCounted, Binary, Chosen, Command, Compare, Eq, Finds}
use Rattle.desk_store.proofs.Common.{FindsFirst, First, HasCause, HasRows, Holds, Insert, Int, IsLegibleReader, IsLive}
use Rattle.desk_store.proofs.Common.{IsOrdered, IsTotalOrder, IsUnlimited, IsUtf8, IsWelcome, Key, Means, Misses, Null}
use Rattle.desk_store.proofs.Common.{OnlyTouches, PutsRow, Ran, ReaderRow, Row, Second, Select, State, StoreFault, Term}
use Rattle.desk_store.proofs.Common.{Text, Trees, Update, Values, Version, all_weaker, ascending, asking, by_one_int}
use Rattle.desk_store.proofs.Common.{cast_int, cast_null, cast_row, choosing, col, column, counted_rises, edit_of}
use Rattle.desk_store.proofs.Common.{insert_faults, insert_puts, int_cmp, int_cmp_total, is_day_number, last_faults}
use Rattle.desk_store.proofs.Common.{last_finds, last_of, le_refl, list_any, lit, ltb-true, most_tickets}
use Rattle.desk_store.proofs.Common.{number_welcome, on_total, only, op2, reader, reader_cells, renewed_readers}
use Rattle.desk_store.proofs.Common.{same_number, schema, select_faults, select_finds, update_faults, update_leaves}
use Rattle.desk_store.proofs.Common.{update_only, value_rows}

-- ---- a new reader

abbrev pub insert_reader_text : List ℕ
insert_reader_text = codes "INSERT INTO reader (ticket, name, until) VALUES (?1, ?2, ?3)"

abbrev pub insert_reader_terms : List Term
insert_reader_terms = col 0 0 ∷ lit Null ∷ col 0 1 ∷ col 0 2 ∷ []

abbrev pub insert_reader_command : Command
insert_reader_command = Insert 0 (Values insert_reader_terms 4)

pub insert_reader_means : (v : Version) → Means v insert_reader_text 3 insert_reader_command
unfolding understood everything
insert_reader_means v = record { is = refl; plain = (refl, refl); whole = (le_refl _, refl, refl); unlisted = refl }

reader_welcome : (r : ReaderRow) (xs : List ReaderRow) (v : Version) (db : Trees)
    → db tables.reader.tree ≡ map reader_cells xs → list_any (λ (x : ReaderRow). nat_eq r.ticket x.ticket) xs ≡ false
    → IsWelcome (schema v) db reader (reader_cells r)
reader_welcome r xs v db stored none =
    number_welcome v reader reader_cells (λ x. x.ticket) (λ _. refl) r xs db stored none refl
    (record { typed = refl; present = refl; checked = refl; referred = refl; parents = refl })

module _ (old new : State) (x : ReaderRow) (v : Version) (has : old.now.schema ≡ schema v) where
  abbrev params : Row
  params = Int (pos x.ticket) ∷ Text x.name ∷ Int x.until ∷ []

  news : (edit_of old.now.trees reader [] Chosen 0 (value_rows params 4 1 insert_reader_terms)).news ≡ reader_cells x ∷ []
  news = rw (cast_int (pos x.ticket), cast_null, cast_int x.until) refl

  pub insert_reader_puts : (r : Result Unit StoreFault) → Ran insert_reader_text params old new r
      → OnOk r (PutsRow tables.reader.tree (reader_cells x) old.now new.now)
  insert_reader_puts = insert_puts v 0 reader refl insert_reader_text insert_reader_terms 4 params (insert_reader_means v) old new has (reader_cells x) news

  pub insert_reader_faults : (xs : List ReaderRow) → Holds reader reader_cells old xs
      → list_any (λ (r : ReaderRow). nat_eq x.ticket r.ticket) xs ≡ false → IsUnlimited old → IsLive old
      → (r : Result Unit StoreFault) → Ran insert_reader_text params old new r → IfErr r (HasCause old new)
  insert_reader_faults xs stored none =
      insert_faults v 0 reader refl insert_reader_text insert_reader_terms 4 params (insert_reader_means v) old new has (reader_cells x) news refl (reader_welcome x xs v old.now.trees stored none)

-- ---- another last day

abbrev pub set_last_day_text : List ℕ
set_last_day_text = codes "UPDATE reader SET until = ?2 WHERE ticket = ?1"

abbrev with_its_number : List Term
with_its_number = op2 (Compare Eq Binary) (col 1 0) (col 0 0) ∷ []

abbrev set_last_day_columns : List Term
set_last_day_columns = col 1 0 ∷ col 1 0 ∷ lit Null ∷ col 1 2 ∷ col 0 1 ∷ []

abbrev pub set_last_day_command : Command
set_last_day_command = Update 0 (choosing reader with_its_number set_last_day_columns)

pub set_last_day_means : (v : Version) → Means v set_last_day_text 2 set_last_day_command
unfolding understood everything
set_last_day_means v = record { is = refl; plain = (refl, refl); whole = (le_refl _, refl, refl); unlisted = refl }

-- the ticket stays
abbrev kept_of_reader : ℕ → Bool
kept_of_reader p = ltb p 2

reader_kept : (v : Version) → KeepsTable kept_of_reader (schema v) 0 reader
unfolding joined same_name
reader_kept First = record { listed = refl; apart = refl; spared = refl; fits = refl }
reader_kept Second = record { listed = refl; apart = refl; spared = refl; fits = refl }

abbrev renewed_to : ℤ → ReaderRow → ReaderRow
renewed_to until r = record r { until = until }

reader_alike : (until : ℤ) (r : ReaderRow) (p : ℕ) → ltb p 2 ≡ true
    → column (reader_cells r) p ≡ column (reader_cells (renewed_to until r)) p
reader_alike until r zero h = refl
reader_alike until r (suc zero) h = refl
reader_alike until r (suc (suc p)) h = absurd (omega (arith, ltb-true _ _ h))

module _ (old new : State) (t : ℕ) (until : ℤ) (v : Version) (has : old.now.schema ≡ schema v) (r : Result Unit StoreFault) (ran : Ran set_last_day_text (Int (pos t) ∷ Int until ∷ []) old new r) where
  pub set_last_day_only : OnOk r (OnlyTouches (tables.reader.tree ∷ []) old.now new.now)
  set_last_day_only = update_only v 0 reader refl set_last_day_text _ (Int (pos t) ∷ Int until ∷ []) old new has (set_last_day_means v) r ran

  module _ (xs : List ReaderRow) (stored : Holds reader reader_cells old xs) (counted : AreCounted (λ (x : ReaderRow). x.ticket) xs) where
    abbrev source : ReaderRow → Row
    source x = Int (pos x.ticket) ∷ Int (pos x.ticket) ∷ Null ∷ Text x.name ∷ Int until ∷ []

    casts : (x : ReaderRow) → cast_row reader (drop 1 (source x)) ≡ reader_cells (renewed_to until x)
    casts x = rw (cast_int (pos x.ticket), cast_null, cast_int until) refl

    pub set_last_day_leaves : OnOk r (HasRows tables.reader.tree (map reader_cells (renewed_readers t until xs)) old.now new.now)
    set_last_day_leaves =
        update_leaves v 0 reader refl set_last_day_text with_its_number set_last_day_columns (Int (pos t) ∷ Int until ∷ []) (set_last_day_means v) old new has reader_cells (λ x. pos x.ticket) (λ _. refl) xs stored (counted_rises (λ (x : ReaderRow). x.ticket) 1 xs counted)
        (λ (x : ReaderRow). nat_eq t x.ticket) (λ x. only (same_number x.ticket t)) source (λ _. refl) (λ _. refl) (renewed_to until) (λ _. refl) (λ x _ _. casts x) r ran

    pub set_last_day_faults : IsUnlimited old → IsLive old → IfErr r (HasCause old new)
    set_last_day_faults free live =
        update_faults v 0 reader refl set_last_day_text with_its_number set_last_day_columns (Int (pos t) ∷ Int until ∷ []) (set_last_day_means v) old new has reader_cells (λ x. pos x.ticket) (λ _. refl) xs stored (counted_rises (λ (x : ReaderRow). x.ticket) 1 xs counted)
        (λ (x : ReaderRow). nat_eq t x.ticket) (λ x. only (same_number x.ticket t)) source (λ _. refl) (λ _. refl) (renewed_to until) (λ _. refl) (λ x _ _. casts x)
        kept_of_reader (reader_kept v) (reader_alike until) (λ _. refl) (λ _. refl) (λ _. refl) refl free live r ran

-- ---- the reader with a ticket

abbrev pub by_ticket : ReaderRow → ReaderRow → Ordering
by_ticket a b = int_cmp (pos a.ticket) (pos b.ticket)

pub by_ticket_total : IsTotalOrder by_ticket
by_ticket_total = on_total (λ (r : ReaderRow). pos r.ticket) int_cmp_total

abbrev pub named : ReaderRow → NamedReader
named r = record { name = r.name; until = r.until }

abbrev pub named_cells : NamedReader → Row
named_cells r = Text r.name ∷ Int r.until ∷ []

abbrev pub IsNamed : NamedReader → Type 0
IsNamed r = IsUtf8 r.name × (is_day_number r.until ≡ true)

abbrev in_order : List (Term × Key)
in_order = (col 1 0, ascending Binary) ∷ []

abbrev named_columns : List Term
named_columns = col 1 2 ∷ col 1 3 ∷ []

abbrev named_names : List (List ℕ)
named_names = codes "name" ∷ codes "until" ∷ []

abbrev pub find_reader_text : List ℕ
find_reader_text = codes "SELECT name, until FROM reader WHERE ticket = ?1 ORDER BY ticket"

abbrev pub find_reader_command : Command
find_reader_command = Select (asking reader with_its_number named_columns in_order) named_names

pub find_reader_means : (v : Version) → Means v find_reader_text 1 find_reader_command
unfolding understood everything
find_reader_means v = record { is = refl; plain = (refl, refl); whole = (le_refl _, refl, refl); unlisted = refl }

module _ (old new : State) (t : ℕ) (v : Version) (has : old.now.schema ≡ schema v) (xs : List ReaderRow) (stored : Holds reader reader_cells old xs) {X : Type 0} (items : X → List NamedReader) (r : Result X StoreFault) where
  pub find_reader_finds : IfOk r (λ found. Finds named_cells find_reader_text (Int (pos t) ∷ []) old new (items found))
      → IfOk r (λ found. (ys : List ReaderRow) × IsOrdered by_ticket (filter (λ (x : ReaderRow). nat_eq t x.ticket) xs) ys × (items found ≡ map named ys))
  find_reader_finds =
      select_finds v reader find_reader_text with_its_number named_columns in_order named_names (Int (pos t) ∷ []) (find_reader_means v) old new has reader_cells xs stored
      (λ (x : ReaderRow). nat_eq t x.ticket) (λ x. only (same_number x.ticket t)) (λ x. named_cells (named x)) (λ (x : ReaderRow). Int (pos x.ticket) ∷ []) (λ _. refl) by_ticket (λ _. refl) (λ a b. by_one_int (pos a.ticket) (pos b.ticket))
      named_cells items named (λ _. refl) r

  pub find_reader_faults : AllByRecursion IsLegibleReader xs → IsUnlimited old
      → IfErr r (Misses named_cells IsNamed find_reader_text (Int (pos t) ∷ []) old new) → IfErr r (HasCause old new)
  find_reader_faults legible free =
      select_faults v reader find_reader_text with_its_number named_columns in_order named_names (Int (pos t) ∷ []) (find_reader_means v) old new has reader_cells xs stored
      (λ (x : ReaderRow). nat_eq t x.ticket) (λ x. only (same_number x.ticket t)) (λ x. named_cells (named x)) (λ (x : ReaderRow). Int (pos x.ticket) ∷ []) (λ _. refl) by_ticket (λ _. refl) (λ a b. by_one_int (pos a.ticket) (pos b.ticket))
      named_cells items named (λ _. refl) IsNamed refl free (all_weaker IsLegibleReader (λ x. IsNamed (named x)) (λ x h. (h.name, h.until)) xs legible) r

-- ---- the greatest ticket

abbrev pub last_ticket_text : List ℕ
last_ticket_text = codes "SELECT ticket FROM reader ORDER BY ticket DESC LIMIT 1"

abbrev pub last_ticket_command : Command
last_ticket_command = Select (last_of reader) (codes "ticket" ∷ [])

pub last_ticket_means : (v : Version) → Means v last_ticket_text 0 last_ticket_command
unfolding understood everything
last_ticket_means v = record { is = refl; plain = (refl, refl); whole = (le_refl _, refl, refl); unlisted = refl }

module _ (old new : State) (v : Version) (has : old.now.schema ≡ schema v) (xs : List ReaderRow) (stored : Holds reader reader_cells old xs) (counted : AreCounted (λ (x : ReaderRow). x.ticket) xs) (r : Result ℕ StoreFault) where
  pub last_ticket_finds : IfOk r (FindsFirst last_ticket_text [] old new) → IfOk r (λ n. n ≡ length xs)
  last_ticket_finds = last_finds (λ (x : ReaderRow). x.ticket) v reader last_ticket_text (codes "ticket" ∷ []) (last_ticket_means v) old new has reader_cells (λ _. refl) xs stored counted r

  pub last_ticket_faults : length xs ≤ most_tickets → IsUnlimited old
      → IfErr r (Misses (λ n. Int (pos n) ∷ []) (λ n. n < 2 ^ 32) last_ticket_text [] old new)
      → IfErr r (HasCause old new)
  last_ticket_faults few free =
      last_faults (λ (x : ReaderRow). x.ticket) v reader last_ticket_text (codes "ticket" ∷ []) (last_ticket_means v) old new has reader_cells (λ _. refl) xs stored counted refl (omega (arith, few)) free r

-- a ticket that is renewed is the same ticket
pub same_tickets : (t : ℕ) (until : ℤ) (r : ReaderRow)
    → (if nat_eq t r.ticket then renewed_to until r else r).ticket ≡ r.ticket
same_tickets t until r = elim (nat_eq t r.ticket) as (λ b. (if b then renewed_to until r else r).ticket ≡ r.ticket) [ true ↦ refl | false ↦ refl ]
