-- The numbers of rows' units, once the rows are entered.
use Rattle.std.proofs.Common.{◌≡◌, ℕ, ◌+◌, true, false, cond, List, [], ◌∷◌, map, Option, Some, None, refl, sym, ap}
use Rattle.std.proofs.Common.{ap₂, ◌∙◌, subst}
use Rattle.catalogue_core.proofs.EachOf.{none_found}
use Rattle.csv_import.proofs.Common.{AllByRecursion, AreToCome, Bytes, Catalogue, IsTurn, Row, TellsUnits, Unit}
use Rattle.csv_import.proofs.Common.{and_from, and_then, bytes_eq, catalogue_after, is_from, is_new, new_at, new_unit}
use Rattle.csv_import.proofs.Common.{nodes, number_there, option_map, or_as_before, other_way, placed_added, same_text}
use Rattle.csv_import.proofs.Common.{units_from, unwrap_or, with_rows}
use Rattle.csv_import.proofs.KnownUnits.{counts_new, known_still, number_still, valued_still}
use Rattle.csv_import.proofs.OneRow.{entered_known, entered_new, may_come, none_there}
use Rattle.csv_import.proofs.RowsToCome.{one_entered}

-- the row's unit has the number that it had, or else the next
its_number : (source : Bytes) (row : Row) (next : ℕ) (c : Catalogue) → IsTurn source row next c
    → number_there (catalogue_after source (row ∷ []) c) source row.legacy ≡ Some (unwrap_or (number_there c source row.legacy) next)
its_number source row next c turn = at (number_there c source row.legacy) refl
  where
    at : (r : Option ℕ) → number_there c source row.legacy ≡ r
        → number_there (catalogue_after source (row ∷ []) c) source row.legacy ≡ Some (unwrap_or (number_there c source row.legacy) next)
    at (Some id) e =
        ap (λ d. number_there d source row.legacy) (entered_known turn e)
        ∙ (valued_still id row.values c source row.legacy ∙ (e ∙ sym (ap (λ o. Some (unwrap_or o next)) e)))
    at None e =
        let unit = new_unit source (new_at c source row) in
        let it : is_from source row.legacy unit ≡ true =
        and_from (bytes_eq source source) (bytes_eq row.legacy row.legacy) (same_text source) (same_text row.legacy) in
        let none = none_found (is_from source row.legacy) (nodes c.forest) (none_there c source row.legacy e) in
        let placed = placed_added (is_from source row.legacy) unit it (new_at c source row).parent c.forest none (may_come turn e).place.place in
        ap (λ d. number_there d source row.legacy) (entered_new turn e)
        ∙ (ap (option_map (λ (u : Unit). u.id)) placed.found ∙ (ap Some (sym turn.number) ∙ sym (ap (λ o. Some (unwrap_or o next)) e)))

-- the first row is entered, and then the others
entered_first : (source : Bytes) (row : Row) (rows : List Row) (next : ℕ) (c : Catalogue)
    → (come : AreToCome source (row ∷ rows) next c)
    → catalogue_after source (row ∷ rows) c ≡ catalogue_after source rows (catalogue_after source (row ∷ []) c)
entered_first source row rows next c come =
    let it = one_entered source row rows next c come in
    let one : catalogue_after source (row ∷ []) c ≡ it.after =
    ap (λ r. or_as_before c (and_then (with_rows source []) r)) it.placed in
    ap (λ r. or_as_before c (and_then (with_rows source rows) r)) it.placed
    ∙ (ap (or_as_before c) it.rest.room.placed ∙ (sym (ap (or_as_before it.after) it.rest.room.placed) ∙ ap (catalogue_after source rows) (sym one)))

-- what is to come after the first row
rest_comes : (source : Bytes) (row : Row) (rows : List Row) (next : ℕ) (c : Catalogue)
    → AreToCome source (row ∷ rows) next c
    → AreToCome source rows (next + cond (is_new c.forest source row) 1 0) (catalogue_after source (row ∷ []) c)
rest_comes source row rows next c come =
    let it = one_entered source row rows next c come in
    let one : catalogue_after source (row ∷ []) c ≡ it.after =
    ap (λ r. or_as_before c (and_then (with_rows source []) r)) it.placed in
    subst (AreToCome source rows (next + cond (is_new c.forest source row) 1 0)) (sym one) it.rest

-- rows with other numbers leave it
rest_still : (source : Bytes) (rows : List Row) (next : ℕ) (c : Catalogue) (legacy : Bytes)
    → AreToCome source rows next c → AllByRecursion (λ (r : Row). bytes_eq r.legacy legacy ≡ false) rows
    → number_there (catalogue_after source rows c) source legacy ≡ number_there c source legacy
rest_still source [] next c legacy come others = refl
rest_still source (row ∷ rows) next c legacy come others =
    ap (λ d. number_there d source legacy) (entered_first source row rows next c come)
    ∙ (rest_still source rows (next + cond (is_new c.forest source row) 1 0) (catalogue_after source (row ∷ []) c) legacy (rest_comes source row rows next c come) others.1
    ∙ number_still source row next c (one_entered source row rows next c come).turn legacy others.0)

turned : (legacy : Bytes) (rows : List Row) → AllByRecursion (λ (r : Row). bytes_eq legacy r.legacy ≡ false) rows
    → AllByRecursion (λ (r : Row). bytes_eq r.legacy legacy ≡ false) rows
turned legacy [] h = tt
turned legacy (r ∷ rows) h = (other_way legacy r.legacy h.0, turned legacy rows h.1)

-- the units of the rows, in their order
pub units_told : (source : Bytes) (rows : List Row) (next : ℕ) (c : Catalogue) (numbers : Bytes → Option ℕ)
    → AreToCome source rows next c → TellsUnits c source rows numbers
    → map Some (units_from numbers next rows) ≡ map (λ (row : Row). number_there (catalogue_after source rows c) source row.legacy) rows
units_told source [] next c numbers come told = refl
units_told source (row ∷ rows) next c numbers come told =
    let it = one_entered source row rows next c come in
    let first = entered_first source row rows next c come in
    let after = catalogue_after source (row ∷ []) c in
    let on = next + cond (is_new c.forest source row) 1 0 in
    let new = counts_new c source row told.0 in
    ap₂ (λ o os. o ∷ os)
    (ap (λ o. Some (unwrap_or o next)) told.0 ∙ (sym (its_number source row next c it.turn)
    ∙ (sym (rest_still source rows on after row.legacy (rest_comes source row rows next c come) (turned row.legacy rows come.told.once.0)) ∙ ap (λ d. number_there d source row.legacy) (sym first))))
    (ap (λ n. map Some (units_from numbers (next + n) rows)) (sym new)
    ∙ (units_told source rows on after numbers (rest_comes source row rows next c come) (known_still source row rows next c numbers come told.1)
    ∙ ap (λ d. map (λ (r : Row). number_there d source r.legacy) rows) (sym first)))
