-- Who may see a container, by the units that name it and by what the tables say of permits.
use Rattle.std.proofs.Common.{◌≡◌, ℕ, ℤ, Bool, true, false, not, ◌&&◌, List, [], ◌∷◌, length, map, Option, Some, None}
use Rattle.std.proofs.Common.{refl, sym, ap, ap₂, subst, ◌∙◌, nat_eq, arith}
use Rattle.std.specs.Prelude.{◌||◌, filter, IsPermutation}
use Rattle.desk_core.specs.DeskRows.{Desk}
use Rattle.catalogue_core.proofs.OpenLemmas.{open_by_marks}
use Rattle.catalogue_core.proofs.UnitsAfter.{each_there}
use Rattle.catalogue_core.specs.ContainerContents.{is_open}
use Rattle.desk_store.specs.Permits.{permits_of}
use Rattle.desk_store.specs.declared.reader_permits.Permit.{Permit}
use Rattle.office_core.specs.State.{State}
use Rattle.office_core.specs.State as office
use Rattle.state_encoding.proofs.ReadBack.{permits_known}
use Rattle.access.proofs.Common.{All-from_recursion, All-permutation, AllByRecursion, BoxKey, CanBeJudged, First}
use Rattle.access.proofs.Common.{Forest, IsPermutation-refl, PermitRow, Unit, Version, all_filtered, allows, eqb_comm}
use Rattle.access.proofs.Common.{false≢true, fun_ext, has_unit, int_le, is_clean_for, is_permitted, is_some_there}
use Rattle.access.proofs.Common.{list_all, list_all-map, list_any, list_any-IsPermutation, list_any-map, named_by}
use Rattle.access.proofs.Common.{names_container, naming, nodes, nth, opens, permit_rows, recursion_from_All, some_and}
use Rattle.access.proofs.Common.{tables}
use Rattle.access.proofs.MorePermits.{open_to_all}
use Rattle.access.proofs.NamedContainers.{named, names_it}

-- ---- lists

all_by_any : {X : Type 0} (p : X → Bool) (xs : List X) → list_all p xs ≡ not (list_any (λ x. not (p x)) xs)
all_by_any p [] = refl
all_by_any p (x ∷ xs) = at (p x) (all_by_any p xs)
  where
    at : (b : Bool) → list_all p xs ≡ not (list_any (λ x. not (p x)) xs)
        → (b && list_all p xs) ≡ not (not b || list_any (λ x. not (p x)) xs)
    at true e = e
    at false e = refl

pub all_alike : {X : Type 0} (p : X → Bool) (xs ys : List X) → IsPermutation xs ys → list_all p xs ≡ list_all p ys
all_alike p xs ys same =
    all_by_any p xs ∙ ap not (list_any-IsPermutation (λ x. not (p x)) xs ys same) ∙ sym (all_by_any p ys)

some_by_any : {X : Type 0} (xs : List X) → is_some_there xs ≡ list_any (λ x. true) xs
some_by_any [] = refl
some_by_any (x ∷ xs) = refl

some_alike : {X : Type 0} (xs ys : List X) → IsPermutation xs ys → is_some_there xs ≡ is_some_there ys
some_alike xs ys same = some_by_any xs ∙ list_any-IsPermutation (λ x. true) xs ys same ∙ sym (some_by_any ys)

none_named : (boxes : List BoxKey) → list_any (λ b. false) boxes ≡ false
none_named [] = refl
none_named (b ∷ boxes) = none_named boxes

nothing_named : (units : List Unit) → filter (names_it None) units ≡ []
nothing_named [] = refl
nothing_named (unit ∷ units) = rw (none_named unit.values.boxes) (nothing_named units)

-- ---- by the units that name it

module _ (s : State) (judged : CanBeJudged s) (t n : ℕ) where
  abbrev forest : Forest Unit
  forest = s.catalogue.forest

  abbrev permitted : ℕ → Bool
  permitted = is_permitted s.day (s.permits t)

  abbrev clean : Unit → Bool
  clean unit = is_clean_for permitted s.day forest unit.id

  by_container : (units : List Unit) (o : Option BoxKey) → IsPermutation (filter (names_it o) (nodes forest)) units
      → some_and (λ box. is_open forest box permitted s.day) o ≡ (is_some_there units && list_all clean units)
  by_container units None same =
      let none : is_some_there units ≡ false =
      sym (some_alike (filter (names_it None) (nodes forest)) units same)
      ∙ ap is_some_there (nothing_named (nodes forest)) in
      sym (ap (λ b. b && list_all clean units) none)
  by_container units (Some box) same =
      open_by_marks forest box permitted s.day judged.units
      ∙ ap₂ ◌&&◌ (some_alike (naming box forest) units same) (all_alike clean (naming box forest) units same)

  pub opens_by : (units : List Unit) → IsPermutation (filter (names_container s.catalogue.containers n) (nodes forest)) units
      → opens s t n ≡ (is_some_there units && list_all clean units)
  opens_by units same =
      by_container units (nth s.catalogue.containers n)
      (subst (λ l. IsPermutation l units) (named s.catalogue.containers judged.containers.apart n (nodes forest) judged.containers.known) same)

-- ---- by the permits that are read

same_of : (t : ℕ) (rows : List PermitRow)
    → filter (λ (row : PermitRow). nat_eq t row.ticket) rows ≡ filter (λ (row : PermitRow). nat_eq row.ticket t) rows
same_of t rows = ap (λ p. filter p rows) (fun_ext (λ (row : PermitRow). eqb_comm t row.ticket))

pub allowed : (s : State) → CanBeJudged s → (t : ℕ) (d : Desk) → d.permits ≡ permit_rows s
    → (day : ℤ) (permits : List Permit) → IsPermutation (permits_of t d) permits
    → allows day permits ≡ is_permitted day (s.permits t)
allowed s judged t d are day permits same = fun_ext (λ u.
    sym (list_any-IsPermutation (λ (permit : Permit). nat_eq permit.unit u && int_le day permit.until) (permits_of t d) permits same)
    ∙ list_any-map (λ (permit : Permit). nat_eq permit.unit u && int_le day permit.until) (λ (row : PermitRow). record { unit = row.unit; until = row.until }) (filter (λ (row : PermitRow). nat_eq t row.ticket) d.permits)
    ∙ ap (list_any (λ (row : PermitRow). nat_eq row.unit u && int_le day row.until)) (same_of t d.permits ∙ ap (filter (λ (row : PermitRow). nat_eq row.ticket t)) are)
    ∙ sym (list_any-map (λ (permit : office.Permit). nat_eq permit.unit u && int_le day permit.until) (λ (row : PermitRow). record { unit = row.unit; until = row.until }) (filter (λ (row : PermitRow). nat_eq row.ticket t) (permit_rows s)))
    ∙ ap (λ (of : ℕ → List office.Permit). is_permitted day (of t) u) (permits_known s judged.permits))

-- ---- by the numbers of the units that name it

some_mapped : (units : List Unit) → is_some_there units ≡ is_some_there (map (λ (unit : Unit). unit.id) units)
some_mapped [] = refl
some_mapped (unit ∷ units) = refl

mapped : (P : ℕ → Type 0) (units : List Unit) → AllByRecursion (λ (unit : Unit). P unit.id) units
    → AllByRecursion P (map (λ (unit : Unit). unit.id) units)
mapped P [] h = tt
mapped P (unit ∷ units) h = (h.0, mapped P units h.1)

nothing : (units : List ℕ) → length units ≡ 0 → is_some_there units ≡ false
nothing [] e = refl
nothing (u ∷ units) e = absurd (omega (arith, e))

something : (units : List ℕ) → nat_eq (length units) 0 ≡ false → is_some_there units ≡ true
something [] e = absurd (false≢true (sym e))
something (u ∷ units) e = refl

module _ (s : State) (judged : CanBeJudged s) (n : ℕ) (units : List ℕ) (are : IsPermutation (named_by s.catalogue n) units) where
  abbrev naming_it : List Unit
  naming_it = filter (names_container s.catalogue.containers n) (nodes s.catalogue.forest)

  -- they are units of the catalogue
  pub all_there : AllByRecursion (λ u. has_unit s.catalogue.forest u ≡ true) units
  all_there =
      let f = s.catalogue.forest in
      let P : ℕ → Type 0 = λ id. has_unit f id ≡ true in
      let here = mapped P naming_it (all_filtered (λ (unit : Unit). P unit.id) (names_container s.catalogue.containers n) (nodes f) (each_there (nodes f) (nodes f) (λ v h. h))) in
      recursion_from_All P units (All-permutation P (map (λ (unit : Unit). unit.id) naming_it) units are (All-from_recursion P (map (λ (unit : Unit). unit.id) naming_it) here))

  some_unit : is_some_there naming_it ≡ is_some_there units
  some_unit = some_mapped naming_it ∙ some_alike (map (λ (unit : Unit). unit.id) naming_it) units are

  module _ (t : ℕ) where
    -- there is none
    pub none_open : length units ≡ 0 → false ≡ opens s t n
    none_open empty =
        let none : is_some_there naming_it ≡ false = some_unit ∙ nothing units empty in
        sym (opens_by s judged t n naming_it (IsPermutation-refl naming_it) ∙ ap (λ b. b && list_all (λ (unit : Unit). is_clean_for (is_permitted s.day (s.permits t)) s.day s.catalogue.forest unit.id) naming_it) none)

    module _ (some : nat_eq (length units) 0 ≡ false) where
      -- the answer is whether all of them are clean for the reader
      pub open_by : (version : Version) (permits : List Permit)
          → IsPermutation (permits_of t (tables version s).desk) permits → (clean : Bool)
          → clean ≡ list_all (is_clean_for (allows s.day permits) s.day s.catalogue.forest) units
          → clean ≡ opens s t n
      open_by version permits same clean is =
          let f = s.catalogue.forest in
          let permitted = is_permitted s.day (s.permits t) in
          let any : is_some_there naming_it ≡ true = some_unit ∙ something units some in
          is ∙ ap (λ may. list_all (is_clean_for may s.day f) units) (allowed s judged t (tables version s).desk refl s.day permits same)
          ∙ sym (all_alike (is_clean_for permitted s.day f) (map (λ (unit : Unit). unit.id) naming_it) units are)
          ∙ list_all-map (is_clean_for permitted s.day f) (λ (unit : Unit). unit.id) naming_it
          ∙ sym (ap (λ b. b && list_all (λ (unit : Unit). is_clean_for permitted s.day f unit.id) naming_it) any)
          ∙ sym (opens_by s judged t n naming_it (IsPermutation-refl naming_it))

      -- what is open to a reader without permits is open to everybody
      pub open_to_public : list_all (is_clean_for (allows s.day []) s.day s.catalogue.forest) units ≡ true
          → true ≡ opens s t n
      open_to_public clean =
          let read = permits_of t (tables First s).desk in
          open_by First read (IsPermutation-refl read) true (sym (open_to_all s.day read s.catalogue.forest units clean))
