-- The statements on a container: what their texts mean, what they tell, and why they fail. And the container that is told.
use Rattle.std.proofs.Common.{◌≡◌, ℕ, pos, List, [], ◌∷◌, map, filter, codes, Result, IfOk, IfErr, Ordering, nat_eq}
use Rattle.std.proofs.Common.{refl}
use Rattle.sqlite.specs.Listing.{understood}
use Rattle.sqlite_tied.specs.Compute.{everything}
use Rattle.isad_core.specs.LegibleValues.{IsLegibleBox}
use Rattle.desk_store.proofs.Common.{AllByRecursion, Binary, BoxKey, Command, Compare, Eq, Finds, HasCause, Holds, Int}
use Rattle.desk_store.proofs.Common.{IsOrdered, IsTotalOrder, IsUnlimited, Means, Misses, Row, Select, State}
use Rattle.desk_store.proofs.Common.{StoreFault, Term, Text, Version, all_of, asking, by_one_int, col, container}
use Rattle.desk_store.proofs.Common.{int_cmp, int_cmp_total, le_refl, numbered_container_cells, on_total, only, op2}
use Rattle.desk_store.proofs.Common.{same_number, schema, select_faults, select_finds, ⊤}
use Rattle.desk_store.proofs.CardRows.{in_order}

-- a container under its number
abbrev pub Numbered : Type 0
Numbered = ℕ × BoxKey

abbrev pub by_number : Numbered → Numbered → Ordering
by_number a b = int_cmp (pos a.0) (pos b.0)

pub by_number_total : IsTotalOrder by_number
by_number_total = on_total (λ (b : Numbered). pos b.0) int_cmp_total

abbrev pub written_cells : BoxKey → Row
written_cells b = Text b.name ∷ Text b.location ∷ Text b.kind ∷ []

abbrev with_its_number : List Term
with_its_number = op2 (Compare Eq Binary) (col 1 0) (col 0 0) ∷ []

abbrev box_columns : List Term
box_columns = col 1 2 ∷ col 1 3 ∷ col 1 4 ∷ []

abbrev box_names : List (List ℕ)
box_names = codes "name" ∷ codes "location" ∷ codes "kind" ∷ []

abbrev pub box_text : List ℕ
box_text = codes "SELECT name, location, kind FROM container WHERE id = ?1 ORDER BY id"

abbrev pub box_command : Command
box_command = Select (asking container with_its_number box_columns in_order) box_names

pub box_means : (v : Version) → Means v box_text 1 box_command
unfolding understood everything
box_means v = record { is = refl; plain = (refl, refl); whole = (le_refl _, refl, refl); unlisted = refl }

module _ (old new : State) (n : ℕ) (v : Version) (has : old.now.schema ≡ schema v) (bs : List Numbered) (stored : Holds container numbered_container_cells old bs) {X : Type 0} (items : X → List BoxKey) (r : Result X StoreFault) where
  pub box_finds : IfOk r (λ found. Finds written_cells box_text (Int (pos n) ∷ []) old new (items found))
      → IfOk r (λ found. (ys : List Numbered) × IsOrdered by_number (filter (λ (b : Numbered). nat_eq n b.0) bs) ys × (items found ≡ map (λ (b : Numbered). b.1) ys))
  box_finds =
      select_finds v container box_text with_its_number box_columns in_order box_names (Int (pos n) ∷ []) (box_means v) old new has numbered_container_cells bs stored
      (λ (b : Numbered). nat_eq n b.0) (λ b. only (same_number b.0 n)) (λ b. written_cells b.1) (λ (b : Numbered). Int (pos b.0) ∷ []) (λ _. refl) by_number (λ _. refl) (λ a b. by_one_int (pos a.0) (pos b.0))
      written_cells items (λ (b : Numbered). b.1) (λ _. refl) r

  pub box_faults : AllByRecursion (λ (b : Numbered). IsLegibleBox b.1) bs → IsUnlimited old
      → IfErr r (Misses written_cells IsLegibleBox box_text (Int (pos n) ∷ []) old new) → IfErr r (HasCause old new)
  box_faults legible free =
      select_faults v container box_text with_its_number box_columns in_order box_names (Int (pos n) ∷ []) (box_means v) old new has numbered_container_cells bs stored
      (λ (b : Numbered). nat_eq n b.0) (λ b. only (same_number b.0 n)) (λ b. written_cells b.1) (λ (b : Numbered). Int (pos b.0) ∷ []) (λ _. refl) by_number (λ _. refl) (λ a b. by_one_int (pos a.0) (pos b.0))
      written_cells items (λ (b : Numbered). b.1) (λ _. refl) IsLegibleBox refl free legible r

-- ---- whether it is there

abbrev pub number_cells : ℕ → Row
number_cells n = Int (pos n) ∷ []

abbrev pub number_text : List ℕ
number_text = codes "SELECT id FROM container WHERE id = ?1 ORDER BY id"

abbrev pub number_command : Command
number_command = Select (asking container with_its_number (col 1 0 ∷ []) in_order) (codes "id" ∷ [])

pub number_means : (v : Version) → Means v number_text 1 number_command
unfolding understood everything
number_means v = record { is = refl; plain = (refl, refl); whole = (le_refl _, refl, refl); unlisted = refl }

module _ (old new : State) (n : ℕ) (v : Version) (has : old.now.schema ≡ schema v) (bs : List Numbered) (stored : Holds container numbered_container_cells old bs) {X : Type 0} (items : X → List ℕ) (r : Result X StoreFault) where
  pub number_finds : IfOk r (λ found. Finds number_cells number_text (Int (pos n) ∷ []) old new (items found))
      → IfOk r (λ found. (ys : List Numbered) × IsOrdered by_number (filter (λ (b : Numbered). nat_eq n b.0) bs) ys × (items found ≡ map (λ (b : Numbered). b.0) ys))
  number_finds =
      select_finds v container number_text with_its_number (col 1 0 ∷ []) in_order (codes "id" ∷ []) (Int (pos n) ∷ []) (number_means v) old new has numbered_container_cells bs stored
      (λ (b : Numbered). nat_eq n b.0) (λ b. only (same_number b.0 n)) (λ b. number_cells b.0) (λ (b : Numbered). Int (pos b.0) ∷ []) (λ _. refl) by_number (λ _. refl) (λ a b. by_one_int (pos a.0) (pos b.0))
      number_cells items (λ (b : Numbered). b.0) (λ _. refl) r

  pub number_faults : IsUnlimited old → IfErr r (Misses number_cells (λ _. ⊤) number_text (Int (pos n) ∷ []) old new)
      → IfErr r (HasCause old new)
  number_faults free =
      select_faults v container number_text with_its_number (col 1 0 ∷ []) in_order (codes "id" ∷ []) (Int (pos n) ∷ []) (number_means v) old new has numbered_container_cells bs stored
      (λ (b : Numbered). nat_eq n b.0) (λ b. only (same_number b.0 n)) (λ b. number_cells b.0) (λ (b : Numbered). Int (pos b.0) ∷ []) (λ _. refl) by_number (λ _. refl) (λ a b. by_one_int (pos a.0) (pos b.0))
      number_cells items (λ (b : Numbered). b.0) (λ _. refl) (λ _. ⊤) refl free (all_of (λ (_ : Numbered). ⊤) (λ _. tt) bs) r
