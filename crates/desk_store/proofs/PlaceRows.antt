-- The statement on where a container is: what its text means, what it tells, and why it fails. And the place that it tells.
use Rattle.std.proofs.Common.{◌≡◌, ℕ, pos, Bool, List, [], ◌∷◌, map, filter, find, codes, true, false, cond, Option}
use Rattle.std.proofs.Common.{Some, None, Result, IfOk, IfErr, nat_eq, refl, sym, subst}
use Rattle.sqlite.specs.Listing.{understood}
use Rattle.sqlite_tied.specs.Compute.{everything}
use Rattle.desk_core.specs.declared.reader.Place.TheVariants.{Desk as AtTheDesk}
use Rattle.desk_store.specs.declared.queues.PlaceEntry.{PlaceEntry}
use Rattle.desk_store.proofs.Common.{AllByRecursion, Binary, Command, Compare, Eq, Finds, HasCause, HoldingRow, Holds}
use Rattle.desk_store.proofs.Common.{Int, IsAt, IsKnownPlace, IsLegibleHolding, IsOrdered, IsUnlimited, Means, Misses}
use Rattle.desk_store.proofs.Common.{Out, Place, Row, Select, Shelf, State, StoreFault, Term, Version, all_of, asking}
use Rattle.desk_store.proofs.Common.{by_one_int, col, holding, holding_cells, le_refl, only, op2, option_map, or_null}
use Rattle.desk_store.proofs.Common.{same_number, schema, select_faults, select_finds, ⊤}
use Rattle.desk_store.proofs.CardRows.{in_order}
use Rattle.desk_store.proofs.LoanRows.{by_container}

abbrev pub place_entry : HoldingRow → PlaceEntry
place_entry h = record { place = h.place; held_by = h.held_by }

abbrev pub place_cells : PlaceEntry → Row
place_cells h = Int (pos h.place) ∷ or_null Int (option_map pos h.held_by) ∷ []

abbrev with_its_number : List Term
with_its_number = op2 (Compare Eq Binary) (col 1 0) (col 0 0) ∷ []

abbrev place_columns : List Term
place_columns = col 1 3 ∷ col 1 2 ∷ []

abbrev place_names : List (List ℕ)
place_names = codes "place" ∷ codes "held_by" ∷ []

abbrev pub place_text : List ℕ
place_text = codes "SELECT place, held_by FROM holding WHERE container = ?1 ORDER BY container"

abbrev pub place_command : Command
place_command = Select (asking holding with_its_number place_columns in_order) place_names

pub place_means : (v : Version) → Means v place_text 1 place_command
unfolding understood everything
place_means v = record { is = refl; plain = (refl, refl); whole = (le_refl _, refl, refl); unlisted = refl }

module _ (old new : State) (n : ℕ) (v : Version) (has : old.now.schema ≡ schema v) (xs : List HoldingRow) (stored : Holds holding holding_cells old xs) {X : Type 0} (items : X → List PlaceEntry) (r : Result X StoreFault) where
  pub place_finds : IfOk r (λ found. Finds place_cells place_text (Int (pos n) ∷ []) old new (items found))
      → IfOk r (λ found. (ys : List HoldingRow) × IsOrdered by_container (filter (λ (h : HoldingRow). nat_eq n h.container) xs) ys × (items found ≡ map place_entry ys))
  place_finds =
      select_finds v holding place_text with_its_number place_columns in_order place_names (Int (pos n) ∷ []) (place_means v) old new has holding_cells xs stored
      (λ (h : HoldingRow). nat_eq n h.container) (λ h. only (same_number h.container n)) (λ h. place_cells (place_entry h)) (λ (h : HoldingRow). Int (pos h.container) ∷ []) (λ _. refl) by_container (λ _. refl) (λ a b. by_one_int (pos a.container) (pos b.container))
      place_cells items place_entry (λ _. refl) r

  pub place_faults : IsUnlimited old → IfErr r (Misses place_cells (λ _. ⊤) place_text (Int (pos n) ∷ []) old new)
      → IfErr r (HasCause old new)
  place_faults free =
      select_faults v holding place_text with_its_number place_columns in_order place_names (Int (pos n) ∷ []) (place_means v) old new has holding_cells xs stored
      (λ (h : HoldingRow). nat_eq n h.container) (λ h. only (same_number h.container n)) (λ h. place_cells (place_entry h)) (λ (h : HoldingRow). Int (pos h.container) ∷ []) (λ _. refl) by_container (λ _. refl) (λ a b. by_one_int (pos a.container) (pos b.container))
      place_cells items place_entry (λ _. refl) (λ _. ⊤) refl free (all_of (λ _. ⊤) (λ _. tt) xs) r

-- ---- the place that is told

-- the row of an entry, of whatever container
abbrev pub row_of : PlaceEntry → HoldingRow
row_of e = record { container = 0; place = e.place; held_by = e.held_by }

same_place : (h : HoldingRow) (place : Place) → IsAt (Some (row_of (place_entry h))) place → IsAt (Some h) place
same_place h Shelf at = at
same_place h AtTheDesk at = at
same_place h (Out o) at = at

pub at_entry : (h : Option HoldingRow) (e : PlaceEntry) (place : Place) → option_map place_entry h ≡ Some e
    → IsAt (Some (row_of e)) place → IsAt h place
at_entry None e place is at = absurd (cc)
at_entry (Some h) e place is at =
    let same : place_entry h ≡ e = cc in
    same_place h place (subst (λ (x : PlaceEntry). IsAt (Some (row_of x)) place) (sym same) at)

pub at_shelf : (h : Option HoldingRow) → option_map place_entry h ≡ None → IsAt h Shelf
at_shelf None is = refl
at_shelf (Some h) is = absurd (cc)

-- an entry of a legible row is in a place that there is
pub legible_place : (p : HoldingRow → Bool) (xs : List HoldingRow) → AllByRecursion IsLegibleHolding xs
    → (e : PlaceEntry) → option_map place_entry (find p xs) ≡ Some e → IsKnownPlace e.place e.held_by
legible_place p [] all e is = absurd (cc)
legible_place p (x ∷ xs) all e is =
    (elim (p x) as (λ b. option_map place_entry (cond b (Some x) (find p xs)) ≡ Some e → IsKnownPlace e.place e.held_by) [
      | true ↦ λ k. let same : place_entry x ≡ e = cc in subst (λ (y : PlaceEntry). IsKnownPlace y.place y.held_by) same all.0.place
      | false ↦ λ k. legible_place p xs all.1 e k
    ]) is
