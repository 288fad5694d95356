-- The permits that are left where units are taken away.
use Rattle.std.proofs.Common.{◌≡◌, ℕ, Bool, true, false, not, cond, List, [], ◌∷◌, ◌++◌, length, map, inl, inr, refl}
use Rattle.std.proofs.Common.{sym, ap, ap₂, ◌∙◌, nat_eq}
use Rattle.std.proofs.lemmas.List.Elements.{filter-append}
use Rattle.tree_core.proofs.Pieces.{still_there}
use Rattle.tree_core.proofs.SpanShifts.{tree_apart}
use Rattle.desk_core.specs.DeskRows.{PermitRow}
use Rattle.catalogue_statements.specs.Removals.{without_records}
use Rattle.office_core.specs.Soundness.{ArePermitsOfUnits}
use Rattle.office_core.specs.Words.{numbers_to}
use Rattle.catalogue_commands.proofs.Common.{AllByRecursion, Forest, HasDistinctIds, Permit, State, Unit, all_append}
use Rattle.catalogue_commands.proofs.Common.{branch, cases_Bool, cut, cut-each, each, filter, flat_map, has, has-each}
use Rattle.catalogue_commands.proofs.Common.{has_id, has_unit, list_any, permit_row, permit_rows, removed}

abbrev id_of : Unit → ℕ
id_of unit = unit.id

-- a unit is left where it is not of the branch
left_or_gone : (u v : ℕ) (f : Forest Unit) → HasDistinctIds (each id_of f) → has_unit f u ≡ true → has_unit f v ≡ true
    → has_unit (cut (has_id u) f) v ≡ not (list_any (nat_eq v) (branch (nat_eq u) (each id_of f)))
left_or_gone u v f once there known =
    elim (cases_Bool (list_any (nat_eq v) (branch (nat_eq u) (each id_of f)))) [
      | inl gone ↦
          sym (has-each (nat_eq v) id_of (cut (has_id u) f)) ∙ ap (has (nat_eq v)) (cut-each (nat_eq u) id_of f)
          ∙ tree_apart u v (each id_of f) once (has-each (nat_eq u) id_of f ∙ there) gone ∙ sym (ap not gone)
      | inr left ↦ still_there id_of u v f once there known left ∙ sym (ap not left)
    ]

module _ (q : ℕ → Bool) where
  of_one : (t : ℕ) (ps : List Permit)
      → map (permit_row t) (filter (λ (p : Permit). q p.unit) ps) ≡ filter (λ (row : PermitRow). q row.unit) (map (permit_row t) ps)
  of_one t [] = refl
  of_one t (p ∷ ps) = at (q p.unit) (of_one t ps)
    where
      at : (b : Bool)
          → map (permit_row t) (filter (λ (p : Permit). q p.unit) ps) ≡ filter (λ (row : PermitRow). q row.unit) (map (permit_row t) ps)
          → map (permit_row t) (cond b (p ∷ filter (λ (p : Permit). q p.unit) ps) (filter (λ (p : Permit). q p.unit) ps)) ≡ cond b (permit_row t p ∷ filter (λ (row : PermitRow). q row.unit) (map (permit_row t) ps)) (filter (λ (row : PermitRow). q row.unit) (map (permit_row t) ps))
      at true e = ap (λ l. permit_row t p ∷ l) e
      at false e = e

  of_all : (permits : ℕ → List Permit) (ts : List ℕ)
      → flat_map (λ t. map (permit_row t) (filter (λ (p : Permit). q p.unit) (permits t))) ts ≡ filter (λ (row : PermitRow). q row.unit) (flat_map (λ t. map (permit_row t) (permits t)) ts)
  of_all permits [] = refl
  of_all permits (t ∷ ts) =
      ap₂ ◌++◌ (of_one t (permits t)) (of_all permits ts)
      ∙ sym (filter-append (λ (row : PermitRow). q row.unit) (map (permit_row t) (permits t)) (flat_map (λ t. map (permit_row t) (permits t)) ts))

filter_alike : {X : Type 0} (p q : X → Bool) (xs : List X) → AllByRecursion (λ x. p x ≡ q x) xs
    → filter p xs ≡ filter q xs
filter_alike p q [] h = refl
filter_alike p q (x ∷ xs) h = ap₂ (λ b l. cond b (x ∷ l) l) h.0 (filter_alike p q xs h.1)

rows_of_all : (P : ℕ → Type 0) (permits : ℕ → List Permit)
    → ((t : ℕ) → AllByRecursion (λ (p : Permit). P p.unit) (permits t)) → (ts : List ℕ)
    → AllByRecursion (λ (row : PermitRow). P row.unit) (flat_map (λ t. map (permit_row t) (permits t)) ts)
rows_of_all P permits all [] = tt
rows_of_all P permits all (t ∷ ts) =
    all_append (λ (row : PermitRow). P row.unit) (map (permit_row t) (permits t)) (flat_map (λ t. map (permit_row t) (permits t)) ts) (one (permits t) (all t)) (rows_of_all P permits all ts)
  where
    one : (ps : List Permit) → AllByRecursion (λ (p : Permit). P p.unit) ps
        → AllByRecursion (λ (row : PermitRow). P row.unit) (map (permit_row t) ps)
    one [] h = tt
    one (p ∷ ps) h = (h.0, one ps h.1)

-- the permits for the units of the branch are gone, and no others
pub permits_left : (s : State) (u : ℕ) → HasDistinctIds (each id_of s.catalogue.forest)
    → has_unit s.catalogue.forest u ≡ true → ArePermitsOfUnits s
    → permit_rows (removed s u) ≡ without_records (λ (row : PermitRow). row.unit) (branch (nat_eq u) (each id_of s.catalogue.forest)) (permit_rows s)
permits_left s u once there known =
    let f = s.catalogue.forest in
    let q : ℕ → Bool = has_unit (cut (has_id u) f) in
    of_all q s.permits (numbers_to (length s.readers))
    ∙ filter_alike (λ (row : PermitRow). q row.unit) (λ (row : PermitRow). not (list_any (nat_eq row.unit) (branch (nat_eq u) (each id_of f)))) (permit_rows s)
    (rows_of_all (λ v. q v ≡ not (list_any (nat_eq v) (branch (nat_eq u) (each id_of f)))) s.permits (λ t. all_so_far t (s.permits t) (known t)) (numbers_to (length s.readers)))
  where
    all_so_far : (t : ℕ) (ps : List Permit)
        → AllByRecursion (λ (p : Permit). has_unit s.catalogue.forest p.unit ≡ true) ps
        → AllByRecursion (λ (p : Permit). has_unit (cut (has_id u) s.catalogue.forest) p.unit ≡ not (list_any (nat_eq p.unit) (branch (nat_eq u) (each id_of s.catalogue.forest)))) ps
    all_so_far t [] h = tt
    all_so_far t (p ∷ ps) h = (left_or_gone u p.unit s.catalogue.forest once there h.0, all_so_far t ps h.1)
