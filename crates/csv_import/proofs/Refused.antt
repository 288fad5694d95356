-- Files that are refused before a row of them is entered.
use Rattle.std.proofs.Common.{◌≡◌, ℕ, ◌+◌, Bool, true, false, ◌||◌, List, [], ◌∷◌, length, Some, Ok, Err, refl, sym, ap}
use Rattle.std.proofs.Common.{◌∙◌, arith}
use Rattle.std.specs.Prelude.{None, Result}
use Rattle.catalogue_core.proofs.UnitsAfter.{length-numbered}
use Rattle.office_core.specs.State.{State}
use Rattle.office_core.specs.declared.command.Command.TheVariants as command
use Rattle.csv_import.proofs.Common.{BadFile, BadName, Bytes, CanBePlaced, Catalogue, File, Full, IsSoundOffice, Taken}
use Rattle.csv_import.proofs.Common.{and_from, bad_file, false≢true, faults_below, file_of, first_that_holds, gate}
use Rattle.csv_import.proofs.Common.{has_room, intake_of, is_full, is_source, le-leb, ltb-false, merged}
use Rattle.csv_import.proofs.Common.{most_containers, most_unit_numbers, most_units, nat_le, nat_lt, new_of}
use Rattle.csv_import.proofs.Common.{numbered_from, or_first, plan_of, refusal, size, take_rows, too_much, unless, when}
use Rattle.csv_import.proofs.Common.{with_file, with_import}
use Rattle.csv_import.proofs.Imports.{merged_size}

-- the file itself is at fault
taken_bad : (s : State) (source bytes : Bytes) (row cause : ℕ) → file_of bytes ≡ Err (row, cause)
    → intake_of s source bytes ≡ Err (row, cause)
unfolding Rattle.catalogue_core.specs.Intake.take
taken_bad s source bytes row cause e = ap (take_rows s.catalogue source) e

refused_bad : (s : State) (source bytes : Bytes) (row cause : ℕ) → is_source source ≡ true
    → intake_of s source bytes ≡ Err (row, cause) → refusal s (command.Import source bytes) ≡ Some (BadFile row cause)
refused_bad s source bytes row cause named e =
    ap (λ (t : Taken). first_that_holds (unless (is_source source) BadName ∷ bad_file t ∷ too_much t ∷ gate (with_import s t) ∷ [])) e
    ∙ ap (λ (b : Bool). first_that_holds (unless b BadName ∷ Some (BadFile row cause) ∷ None ∷ gate s ∷ [])) named

pub bad : (s : State) (source bytes : Bytes) (row cause : ℕ) → is_source source ≡ true
    → file_of bytes ≡ Err (row, cause) → refusal s (command.Import source bytes) ≡ Some (BadFile row cause)
bad s source bytes row cause named e = refused_bad s source bytes row cause named (taken_bad s source bytes row cause e)

same_fault : (fault other : ℕ × ℕ) → ◌≡◌ {A = Result ℕ (ℕ × ℕ)} (Err fault) (Err other) → fault ≡ other
same_fault fault other e = cc

module _ (s : State) (source bytes : Bytes) (file : File) (read : file_of bytes ≡ Ok file) where
  abbrev faults : List (ℕ × ℕ)
  faults = faults_below s.catalogue.forest source [] (new_of s.catalogue.forest source file.rows)

  abbrev made : Catalogue
  made = merged s.catalogue source file.rows (numbered_from s.catalogue.forest source s.catalogue.next [] (new_of s.catalogue.forest source file.rows))

  taken_as : intake_of s source bytes ≡ with_file file (or_first (faults_below s.catalogue.forest source [] (new_of s.catalogue.forest source file.rows)) made)
  unfolding Rattle.catalogue_core.specs.Intake.take
  taken_as = ap (take_rows s.catalogue source) read

  -- a row cannot be placed
  pub faulty : IsSoundOffice s → is_source source ≡ true → (row cause : ℕ)
      → Err (row, cause) ≡ plan_of s.catalogue.forest source file.rows
      → refusal s (command.Import source bytes) ≡ Some (BadFile row cause)
  faulty sound named row cause e = refused_bad s source bytes row cause named (taken_as ∙ at faults e)
    where
      at : (found : List (ℕ × ℕ))
          → Err (row, cause) ≡ or_first found (length (new_of s.catalogue.forest source file.rows))
          → with_file file (or_first found made) ≡ Err (row, cause)
      at [] h = absurd (cc)
      at (fault ∷ later) h = ap (λ p. (let t : Taken = Err p in t)) (sym (same_fault (row, cause) fault h))

  -- there is no room for the new units
  pub full : IsSoundOffice s → is_source source ≡ true → (new : ℕ) → CanBePlaced source file new s
      → has_room new s.catalogue ≡ false → refusal s (command.Import source bytes) ≡ Some Full
  full sound named new fits none =
      ap (λ (t : Taken). first_that_holds (unless (is_source source) BadName ∷ bad_file t ∷ too_much t ∷ gate (with_import s t) ∷ [])) (taken_as ∙ ap (λ found. with_file file (or_first found made)) fits.faults)
      ∙ (ap (λ (b : Bool). first_that_holds (unless b BadName ∷ None ∷ when (is_full made) Full ∷ gate (record s { catalogue = made }) ∷ [])) named
      ∙ ap (λ (b : Bool). first_that_holds (when b Full ∷ gate (record s { catalogue = made }) ∷ [])) too_many)
    where
      too_many : is_full made ≡ true
      too_many = at (nat_lt most_units (size made.forest)) (nat_lt (most_unit_numbers + 1) made.next) refl refl
        where
          at : (a b : Bool) → nat_lt most_units (size made.forest) ≡ a → nat_lt (most_unit_numbers + 1) made.next ≡ b
              → (nat_lt most_units (size made.forest) || (nat_lt (most_unit_numbers + 1) made.next || nat_lt most_containers (length made.containers))) ≡ true
          at true b e f = ap (λ (x : Bool). x || (nat_lt (most_unit_numbers + 1) made.next || nat_lt most_containers (length made.containers))) e
          at false true e f =
              ap (λ (x : Bool). x || (nat_lt (most_unit_numbers + 1) made.next || nat_lt most_containers (length made.containers))) e
              ∙ ap (λ (x : Bool). x || nat_lt most_containers (length made.containers)) f
          at false false e f =
              let many = fits.new_is in
              let sized = merged_size s.catalogue source file.rows (new_of s.catalogue.forest source file.rows) sound.sound.units in
              let numbered = length-numbered s.catalogue.forest source s.catalogue.next [] (new_of s.catalogue.forest source file.rows) in
              let few = ltb-false most_units (size made.forest) e in
              let low = ltb-false (most_unit_numbers + 1) made.next f in
              let there : has_room new s.catalogue ≡ true = and_from (nat_le (size s.catalogue.forest + new) most_units) (nat_le (s.catalogue.next + new) (most_unit_numbers + 1))
              (le-leb (size s.catalogue.forest + new) most_units (omega (arith, many, sized, few))) (le-leb (s.catalogue.next + new) (most_unit_numbers + 1) (omega (arith, many, numbered, low))) in
              absurd (false≢true (sym none ∙ there))

-- all of its rows can be placed
pub fits_planned : (s : State) (source : Bytes) (file : File) (new : ℕ)
    → Ok new ≡ plan_of s.catalogue.forest source file.rows → CanBePlaced source file new s
fits_planned s source file new e =
    at (faults_below s.catalogue.forest source [] (new_of s.catalogue.forest source file.rows)) refl e
  where
    at : (found : List (ℕ × ℕ))
        → faults_below s.catalogue.forest source [] (new_of s.catalogue.forest source file.rows) ≡ found
        → Ok new ≡ or_first found (length (new_of s.catalogue.forest source file.rows))
        → CanBePlaced source file new s
    at [] f h = record { faults = f; new_is = cc }
    at ((r, k) ∷ later) f h = absurd (cc)
