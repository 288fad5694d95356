-- The statements on the containers: what their texts mean, what they leave or tell, and why they fail.
use Rattle.std.proofs.Common.{◌≡◌, ℕ, pos, List, [], ◌∷◌, map, filter, take, codes, true, false, ◌&&◌, Result, OnOk}
use Rattle.std.proofs.Common.{IfOk, IfErr, Ordering, nat_eq, refl, sym, ap, ap₂, subst, ◌∙◌}
use Rattle.std.specs.Bool.{⊤}
use Rattle.sqlite.specs.Listing.{understood}
use Rattle.sqlite.specs.Source.TheVariants.{Values}
use Rattle.sqlite_schema.specs.declared.program.Program.{Program}
use Rattle.sqlite_tied.specs.Compute.{everything}
use Rattle.sqlite_value.specs.Keys.{first_key}
use Rattle.isad_core.specs.LegibleValues.{IsLegibleBox}
use Rattle.office_tables.proofs.Limits.{limited_query, first_answers}
use Rattle.catalogue_statements.proofs.Common.{AllByRecursion, Binary, BoxKey, Chosen, Command, Compare, Eq, Finds}
use Rattle.catalogue_statements.proofs.Common.{HasCause, Holds, IfOk-weaker, Insert, Int, IsLive, IsOrdered}
use Rattle.catalogue_statements.proofs.Common.{IsUnlimited, IsWelcome, Key, Means, Misses, Null, PutsRow, Ran, Row}
use Rattle.catalogue_statements.proofs.Common.{Select, Shown, State, StoreFault, Term, Text, Version, agree, all_caused}
use Rattle.catalogue_statements.proofs.Common.{all_of, any_mapped, ascending, asking, both, by_container, by_one_int}
use Rattle.catalogue_statements.proofs.Common.{cast_int, cast_null, col, container, edit_of, end, inner, insert_faults}
use Rattle.catalogue_statements.proofs.Common.{insert_puts, int_cmp, is_same_box, kept_all, key_cmp, le_refl, list_any}
use Rattle.catalogue_statements.proofs.Common.{lit, map-map, none_refuse, number_welcome, numbered_container_cells}
use Rattle.catalogue_statements.proofs.Common.{only, op2, plain, read_cause, reads_as, same_bytes, same_number, schema}
use Rattle.catalogue_statements.proofs.Common.{select_faults, select_finds, sums_nothing, take-map, then-Equal}
use Rattle.catalogue_statements.proofs.Common.{value_cmp-Int, value_rows}

-- a container under its number
abbrev Numbered : Type 0
Numbered = ℕ × BoxKey

abbrev box_cells : BoxKey → Row
box_cells b = Text b.name ∷ Text b.location ∷ Text b.kind ∷ []

abbrev number_cells : ℕ → Row
number_cells n = Int (pos n) ∷ []

-- ---- a new container

abbrev pub insert_container_text : List ℕ
insert_container_text = codes "INSERT INTO container (id, name, location, kind) VALUES (?1, ?2, ?3, ?4)"

abbrev insert_container_terms : List Term
insert_container_terms = col 0 0 ∷ lit Null ∷ col 0 1 ∷ col 0 2 ∷ col 0 3 ∷ []

abbrev pub insert_container_command : Command
insert_container_command = Insert 10 (Values insert_container_terms 5)

pub insert_container_means : (v : Version) → Means v insert_container_text 4 insert_container_command
unfolding understood everything
insert_container_means v = record { is = refl; plain = (refl, refl); whole = (le_refl _, refl, refl); unlisted = refl }

same_container : (m n : ℕ) (a b : BoxKey)
    → agree plain (2 ∷ 3 ∷ 4 ∷ []) (numbered_container_cells (m, a)) (2 ∷ 3 ∷ 4 ∷ []) (numbered_container_cells (n, b)) ≡ is_same_box a b
unfolding first_key
same_container m n a b =
    ap₂ ◌&&◌ (same_bytes a.name b.name) (both (same_bytes a.location b.location) (same_bytes a.kind b.kind))

module _ (old new : State) (n : ℕ) (b : BoxKey) (v : Version) (has : old.now.schema ≡ schema v) where
  abbrev params : Row
  params = Int (pos n) ∷ Text b.name ∷ Text b.location ∷ Text b.kind ∷ []

  news : (edit_of old.now.trees container [] Chosen 0 (value_rows params 5 1 insert_container_terms)).news ≡ numbered_container_cells (n, b) ∷ []
  news = rw (cast_int (pos n), cast_null) refl

  pub insert_container_puts : (r : Result Unit StoreFault) → Ran insert_container_text params old new r
      → OnOk r (PutsRow container.tree (numbered_container_cells (n, b)) old.now new.now)
  insert_container_puts = insert_puts v 10 container refl insert_container_text insert_container_terms 5 params (insert_container_means v) old new has (numbered_container_cells (n, b)) news

  module _ (xs : List Numbered) (stored : Holds container numbered_container_cells old xs) (none : list_any (λ (c : Numbered). nat_eq n c.0) xs ≡ false) (other : list_any (λ (c : Numbered). is_same_box c.1 b) xs ≡ false) where
    welcome : IsWelcome (schema v) old.now.trees container (numbered_container_cells (n, b))
    welcome =
        let apart : list_any (λ r. agree plain (2 ∷ 3 ∷ 4 ∷ []) r (2 ∷ 3 ∷ 4 ∷ []) (numbered_container_cells (n, b))) (old.now.trees container.tree) ≡ false =
        ap (list_any (λ r. agree plain (2 ∷ 3 ∷ 4 ∷ []) r (2 ∷ 3 ∷ 4 ∷ []) (numbered_container_cells (n, b)))) stored ∙ any_mapped numbered_container_cells _ (λ (c : Numbered). is_same_box c.1 b) (λ c. same_container c.0 n c.1 b) xs ∙ other in
        number_welcome v container numbered_container_cells (λ c. c.0) (λ _. refl) (n, b) xs old.now.trees stored none (rw apart refl) (record { typed = refl; present = refl; checked = refl; referred = refl; parents = refl })

    pub insert_container_faults : IsUnlimited old → IsLive old → (r : Result Unit StoreFault)
        → Ran insert_container_text params old new r → IfErr r (HasCause old new)
    insert_container_faults =
        insert_faults v 10 container refl insert_container_text insert_container_terms 5 params (insert_container_means v) old new has (numbered_container_cells (n, b)) news refl welcome

-- ---- the containers of a number, and the numbers of a container

abbrev by_id : List (Term × Key)
by_id = (col 1 0, ascending Binary) ∷ []

abbrev of_number : List Term
of_number = op2 (Compare Eq Binary) (col 1 0) (col 0 0) ∷ []

abbrev pub find_container_text : List ℕ
find_container_text = codes "SELECT name, location, kind FROM container WHERE id = ?1 ORDER BY id"

abbrev find_container_columns : List Term
find_container_columns = col 1 2 ∷ col 1 3 ∷ col 1 4 ∷ []

abbrev find_container_names : List (List ℕ)
find_container_names = codes "name" ∷ codes "location" ∷ codes "kind" ∷ []

abbrev pub find_container_command : Command
find_container_command = Select (asking container of_number find_container_columns by_id) find_container_names

pub find_container_means : (v : Version) → Means v find_container_text 1 find_container_command
unfolding understood everything
find_container_means v = record { is = refl; plain = (refl, refl); whole = (le_refl _, refl, refl); unlisted = refl }

abbrev pub container_number_text : List ℕ
container_number_text = codes "SELECT id FROM container WHERE name = ?1 AND location = ?2 AND kind = ?3 ORDER BY id"

abbrev of_box : List Term
of_box = op2 (Compare Eq Binary) (col 1 2) (col 0 0) ∷ op2 (Compare Eq Binary) (col 1 3) (col 0 1) ∷ op2 (Compare Eq Binary) (col 1 4) (col 0 2) ∷ []

abbrev pub container_number_command : Command
container_number_command = Select (asking container of_box (col 1 0 ∷ []) by_id) (codes "id" ∷ [])

pub container_number_means : (v : Version) → Means v container_number_text 3 container_number_command
unfolding understood everything
container_number_means v = record { is = refl; plain = (refl, refl); whole = (le_refl _, refl, refl); unlisted = refl }

module _ (old new : State) (v : Version) (has : old.now.schema ≡ schema v) (xs : List Numbered) (stored : Holds container numbered_container_cells old xs) {X : Type 0} where
  module _ (n : ℕ) (items : X → List BoxKey) (r : Result X StoreFault) where
    pub find_container_finds : IfOk r (λ found. Finds box_cells find_container_text (Int (pos n) ∷ []) old new (items found))
        → IfOk r (λ found. (ys : List Numbered) × IsOrdered by_container (filter (λ (c : Numbered). nat_eq n c.0) xs) ys × (items found ≡ map (λ (c : Numbered). c.1) ys))
    find_container_finds =
        select_finds v container find_container_text of_number find_container_columns by_id find_container_names (Int (pos n) ∷ []) (find_container_means v) old new has numbered_container_cells xs stored
        (λ (c : Numbered). nat_eq n c.0) (λ c. only (same_number c.0 n)) (λ c. box_cells c.1) (λ (c : Numbered). Int (pos c.0) ∷ []) (λ _. refl)
        by_container (λ _. refl) (λ a b. by_one_int (pos a.0) (pos b.0)) box_cells items (λ (c : Numbered). c.1) (λ _. refl) r

    pub find_container_faults : AllByRecursion (λ (c : Numbered). IsLegibleBox c.1) xs → IsUnlimited old
        → IfErr r (Misses box_cells IsLegibleBox find_container_text (Int (pos n) ∷ []) old new)
        → IfErr r (HasCause old new)
    find_container_faults legible free =
        select_faults v container find_container_text of_number find_container_columns by_id find_container_names (Int (pos n) ∷ []) (find_container_means v) old new has numbered_container_cells xs stored
        (λ (c : Numbered). nat_eq n c.0) (λ c. only (same_number c.0 n)) (λ c. box_cells c.1) (λ (c : Numbered). Int (pos c.0) ∷ []) (λ _. refl)
        by_container (λ _. refl) (λ a b. by_one_int (pos a.0) (pos b.0)) box_cells items (λ (c : Numbered). c.1) (λ _. refl) IsLegibleBox refl free legible r

  module _ (b : BoxKey) (items : X → List ℕ) (r : Result X StoreFault) where
    pub container_number_finds : IfOk r (λ found. Finds number_cells container_number_text (box_cells b) old new (items found))
        → IfOk r (λ found. (ys : List Numbered) × IsOrdered by_container (filter (λ (c : Numbered). is_same_box c.1 b) xs) ys × (items found ≡ map (λ (c : Numbered). c.0) ys))
    container_number_finds =
        select_finds v container container_number_text of_box (col 1 0 ∷ []) by_id (codes "id" ∷ []) (box_cells b) (container_number_means v) old new has numbered_container_cells xs stored
        (λ (c : Numbered). is_same_box c.1 b) (λ c. ap₂ ◌&&◌ (same_bytes c.1.name b.name) (both (same_bytes c.1.location b.location) (same_bytes c.1.kind b.kind))) (λ c. number_cells c.0) (λ (c : Numbered). Int (pos c.0) ∷ []) (λ _. refl)
        by_container (λ _. refl) (λ a b. by_one_int (pos a.0) (pos b.0)) number_cells items (λ (c : Numbered). c.0) (λ _. refl) r

    pub container_number_faults : IsUnlimited old
        → IfErr r (Misses number_cells (λ _. ⊤) container_number_text (box_cells b) old new)
        → IfErr r (HasCause old new)
    container_number_faults free =
        select_faults v container container_number_text of_box (col 1 0 ∷ []) by_id (codes "id" ∷ []) (box_cells b) (container_number_means v) old new has numbered_container_cells xs stored
        (λ (c : Numbered). is_same_box c.1 b) (λ c. ap₂ ◌&&◌ (same_bytes c.1.name b.name) (both (same_bytes c.1.location b.location) (same_bytes c.1.kind b.kind))) (λ c. number_cells c.0) (λ (c : Numbered). Int (pos c.0) ∷ []) (λ _. refl)
        by_container (λ _. refl) (λ a b. by_one_int (pos a.0) (pos b.0)) number_cells items (λ (c : Numbered). c.0) (λ _. refl) (λ _. ⊤) refl free (all_of (λ (_ : Numbered). ⊤) (λ _. tt) xs) r

-- ---- the greatest number

abbrev descending : Key
descending = record { collation = Binary; descending = true }

abbrev pub last_container_text : List ℕ
last_container_text = codes "SELECT id FROM container ORDER BY id DESC LIMIT 1"

abbrev last_container_program : Program
last_container_program =
    record { lets = []; body = limited_query (inner container.tree end) [] (col 1 0 ∷ []) ((col 1 0, descending) ∷ []) 1 }

abbrev pub last_container_command : Command
last_container_command = Select last_container_program (codes "id" ∷ [])

pub last_container_means : (v : Version) → Means v last_container_text 0 last_container_command
unfolding understood everything
last_container_means v = record { is = refl; plain = (refl, refl); whole = (le_refl _, refl, refl); unlisted = refl }

-- the greatest number first
abbrev pub from_the_last : Numbered → Numbered → Ordering
from_the_last a b = int_cmp (pos b.0) (pos a.0)

by_one_back : (a b : Numbered)
    → key_cmp 0 (descending ∷ []) (Int (pos a.0) ∷ []) (Int (pos b.0) ∷ []) ≡ from_the_last a b
by_one_back a b = then-Equal _ ∙ value_cmp-Int (pos b.0) (pos a.0)

module _ (old new : State) (v : Version) (has : old.now.schema ≡ schema v) (xs : List Numbered) (stored : Holds container numbered_container_cells old xs) {X : Type 0} (items : X → List ℕ) (r : Result X StoreFault) where
  last_rows : (rows : List Row) → Shown last_container_text [] old new rows
      → (ys : List Numbered) × IsOrdered from_the_last xs ys × (rows ≡ map number_cells (take 1 (map (λ (c : Numbered). c.0) ys)))
  last_rows rows shown =
      let means = last_container_means v in
      let read = reads_as last_container_text [] old new (schema v) has last_container_command means.is means.plain means.unlisted rows shown in
      let got = first_answers container.tree [] (col 1 0 ∷ []) ((col 1 0, descending) ∷ []) old.now.trees []
      numbered_container_cells xs (λ _. true) (λ c. number_cells c.0) (λ (c : Numbered). Int (pos c.0) ∷ []) from_the_last
      stored (λ _. refl) (λ _. refl) (λ _. refl) by_one_back 1 rows (read.answer Null) in
      let numbers = map (λ (c : Numbered). c.0) got.0 in (
        got.0,
        subst (λ l. IsOrdered from_the_last l got.0) (kept_all xs) (got.1, got.2),
        got.3 ∙ sym (take-map (λ (c : Numbered). number_cells c.0) 1 got.0) ∙ ap (take 1) (sym (map-map number_cells (λ (c : Numbered). c.0) got.0)) ∙ take-map number_cells 1 numbers,
      )

  pub last_container_finds : IfOk r (λ found. Finds number_cells last_container_text [] old new (items found))
      → IfOk r (λ found. (ys : List Numbered) × IsOrdered from_the_last xs ys × (items found ≡ take 1 (map (λ (c : Numbered). c.0) ys)))
  last_container_finds found = IfOk-weaker r _ _ (λ all it. let got = last_rows it.rows it.shown in (got.0, got.1, it.are (take 1 (map (λ (c : Numbered). c.0) got.0)) got.2)) found

  pub last_container_faults : IsUnlimited old → IfErr r (Misses number_cells (λ _. ⊤) last_container_text [] old new)
      → IfErr r (HasCause old new)
  last_container_faults free missed =
      let means = last_container_means v in
      all_caused number_cells (λ _. ⊤) last_container_text [] old new r missed
      (read_cause last_container_text [] old new (schema v) has last_container_program (codes "id" ∷ []) means.is means.plain means.whole means.unlisted
      (λ db e refused. none_refuse refused (λ t. let clash : true ≡ false = t in cc) (sums_nothing _)) free)
      (λ rows shown. let got = last_rows rows shown in (take 1 (map (λ (c : Numbered). c.0) got.0), got.2, all_of (λ (_ : ℕ). ⊤) (λ _. tt) _))
