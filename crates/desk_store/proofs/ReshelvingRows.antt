-- The statement on the containers at the desk: what its text means, what it tells, and why it fails.
use Rattle.std.proofs.Common.{◌≡◌, ℕ, pos, List, [], ◌∷◌, map, filter, codes, Result, IfOk, IfErr, nat_eq, refl}
use Rattle.sqlite.specs.Listing.{understood}
use Rattle.sqlite_tied.specs.Compute.{everything}
use Rattle.desk_store.proofs.Common.{Binary, Command, Compare, Eq, Finds, HasCause, HoldingRow, Holds, Int, IsOrdered}
use Rattle.desk_store.proofs.Common.{IsUnlimited, Means, Misses, Row, Select, State, StoreFault, Term, Version, all_of}
use Rattle.desk_store.proofs.Common.{asking, by_one_int, col, holding, holding_cells, le_refl, lit, only, op2}
use Rattle.desk_store.proofs.Common.{same_number, schema, select_faults, select_finds, ⊤}
use Rattle.desk_store.proofs.CardRows.{in_order}
use Rattle.desk_store.proofs.LoanRows.{by_container}

abbrev pub number_cells : ℕ → Row
number_cells n = Int (pos n) ∷ []

abbrev is_there : List Term
is_there = op2 (Compare Eq Binary) (col 1 3) (lit (Int (pos 1))) ∷ []

abbrev pub desk_text : List ℕ
desk_text = codes "SELECT container FROM holding WHERE place = 1 ORDER BY container"

abbrev pub desk_command : Command
desk_command = Select (asking holding is_there (col 1 0 ∷ []) in_order) (codes "container" ∷ [])

pub desk_means : (v : Version) → Means v desk_text 0 desk_command
unfolding understood everything
desk_means v = record { is = refl; plain = (refl, refl); whole = (le_refl _, refl, refl); unlisted = refl }

module _ (old new : State) (v : Version) (has : old.now.schema ≡ schema v) (xs : List HoldingRow) (stored : Holds holding holding_cells old xs) {X : Type 0} (items : X → List ℕ) (r : Result X StoreFault) where
  pub desk_finds : IfOk r (λ found. Finds number_cells desk_text [] old new (items found))
      → IfOk r (λ found. (ys : List HoldingRow) × IsOrdered by_container (filter (λ (h : HoldingRow). nat_eq 1 h.place) xs) ys × (items found ≡ map (λ (h : HoldingRow). h.container) ys))
  desk_finds =
      select_finds v holding desk_text is_there (col 1 0 ∷ []) in_order (codes "container" ∷ []) [] (desk_means v) old new has holding_cells xs stored
      (λ (h : HoldingRow). nat_eq 1 h.place) (λ h. only (same_number h.place 1)) (λ h. number_cells h.container) (λ (h : HoldingRow). Int (pos h.container) ∷ []) (λ _. refl) by_container (λ _. refl) (λ a b. by_one_int (pos a.container) (pos b.container))
      number_cells items (λ (h : HoldingRow). h.container) (λ _. refl) r

  pub desk_faults : IsUnlimited old → IfErr r (Misses number_cells (λ _. ⊤) desk_text [] old new)
      → IfErr r (HasCause old new)
  desk_faults free =
      select_faults v holding desk_text is_there (col 1 0 ∷ []) in_order (codes "container" ∷ []) [] (desk_means v) old new has holding_cells xs stored
      (λ (h : HoldingRow). nat_eq 1 h.place) (λ h. only (same_number h.place 1)) (λ h. number_cells h.container) (λ (h : HoldingRow). Int (pos h.container) ∷ []) (λ _. refl) by_container (λ _. refl) (λ a b. by_one_int (pos a.container) (pos b.container))
      number_cells items (λ (h : HoldingRow). h.container) (λ _. refl) (λ _. ⊤) refl free (all_of (λ _. ⊤) (λ _. tt) xs) r
