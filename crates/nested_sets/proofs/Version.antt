-- The statement that writes the version: what its text means, what it leaves, and why it fails.
use Rattle.std.proofs.Common.{◌≡◌, ℕ, pos, List, [], ◌∷◌, drop, codes, true, false, Result, OnOk, IfErr, refl}
use Rattle.sqlite.specs.Listing.{understood}
use Rattle.sqlite.specs.Term.{lit}
use Rattle.sqlite_tied.specs.Compute.{everything}
use Rattle.office_tables.proofs.statements.LeafOf.{office_kept}
use Rattle.office_tables.proofs.statements.OnlyOf.{update_only}
use Rattle.office_tables.proofs.statements.UpdateOf.{update_leaves, update_faults}
use Rattle.nested_sets.proofs.Common.{Binary, Command, Compare, Eq, First, HasCause, HasRows, Int, IsLive, IsUnlimited}
use Rattle.nested_sets.proofs.Common.{Means, Null, OfficeRow, OnlyTouches, Ran, Row, Second, State, StoreFault, Term}
use Rattle.nested_sets.proofs.Common.{Update, VersionedRow, cast_int, cast_null, cast_row, choosing, col, in_version_2}
use Rattle.nested_sets.proofs.Common.{le_refl, office, office_row, only, op2, same_number, schema, versioned_cells}

abbrev pub set_version_text : List ℕ
set_version_text = codes "UPDATE office SET version = ?1 WHERE one = 1"

abbrev the_one : List Term
the_one = op2 (Compare Eq Binary) (col 1 0) (lit (Int (pos 1))) ∷ []

abbrev set_version_columns : List Term
set_version_columns = col 1 0 ∷ col 1 0 ∷ lit Null ∷ col 0 0 ∷ col 1 3 ∷ col 1 4 ∷ col 1 5 ∷ col 1 6 ∷ col 1 7 ∷ col 1 8 ∷ col 1 9 ∷ col 1 10 ∷ []

abbrev pub set_version_command : Command
set_version_command = Update 7 (choosing office the_one set_version_columns)

pub set_version_means : Means Second set_version_text 1 set_version_command
unfolding understood everything
set_version_means = record { is = refl; plain = (refl, refl); whole = (le_refl _, refl, refl); unlisted = refl }

module _ (old new : State) (has : old.now.schema ≡ schema Second) (r : Result Unit StoreFault) (ran : Ran set_version_text (Int (pos 2) ∷ []) old new r) where
  pub set_version_only : OnOk r (OnlyTouches (office.tree ∷ []) old.now new.now)
  set_version_only = update_only Second 7 office refl set_version_text _ (Int (pos 2) ∷ []) old new has set_version_means r ran

  module _ (o : OfficeRow) (stored : old.now.trees office.tree ≡ office_row First o ∷ []) where
    abbrev one : List VersionedRow
    one = (First, o) ∷ []

    abbrev source : VersionedRow → Row
    source x = Int (pos 1) ∷ versioned_cells (in_version_2 x)

    casts : (x : VersionedRow) → cast_row office (drop 1 (source x)) ≡ versioned_cells (in_version_2 x)
    casts x =
        rw (cast_int (pos 1), cast_null, cast_int (pos 2), cast_int (pos x.1.seats), cast_int (pos x.1.daily), cast_int (pos x.1.hands), cast_int (pos x.1.run_size), cast_int x.1.day, cast_int (pos x.1.next_unit)) refl

    pub set_version_leaves : OnOk r (HasRows office.tree (office_row Second o ∷ []) old.now new.now)
    set_version_leaves =
        update_leaves Second 7 office refl set_version_text the_one set_version_columns (Int (pos 2) ∷ []) set_version_means old new has versioned_cells (λ _. pos 1) (λ _. refl) one stored (tt, tt)
        (λ _. true) (λ _. only (same_number 1 1)) source (λ _. refl) (λ _. refl) in_version_2 (λ _. refl) (λ x _ _. casts x) r ran

    pub set_version_faults : IsUnlimited old → IsLive old → IfErr r (HasCause old new)
    set_version_faults free live =
        update_faults Second 7 office refl set_version_text the_one set_version_columns (Int (pos 2) ∷ []) set_version_means old new has versioned_cells (λ _. pos 1) (λ _. refl) one stored (tt, tt)
        (λ _. true) (λ _. only (same_number 1 1)) source (λ _. refl) (λ _. refl) in_version_2 (λ _. refl) (λ x _ _. casts x)
        (λ _. false) (office_kept Second) (λ x p h. absurd (let k : false ≡ true = h in cc)) (λ _. refl) (λ _. refl) (λ _. refl) refl free live r ran
