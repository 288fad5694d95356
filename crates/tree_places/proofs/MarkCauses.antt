-- Why reading marks fails: never for the units of a catalogue within its limits.
use Rattle.std.proofs.Common.{◌≡◌, ℕ, ◌<◌, List, map, find, length, get_or, Some, None, option_map, nat_eq, sym, ap}
use Rattle.std.proofs.Common.{◌∙◌, arith}
use Rattle.catalogue_statements.specs.declared.row_types.Status.{Status}
use Rattle.tree_places.proofs.Common.{AllByRecursion, Catalogue, Forest, Has, IsKept, IsLegibleUnit, IsPermutation-sym}
use Rattle.tree_places.proofs.Common.{RepresentsUnits, Span, Trees, Unit, all-get_or, all-permutation, get_or-map, had}
use Rattle.tree_places.proofs.Common.{length-map, nodes}
use Rattle.tree_places.proofs.MarkReads.{blank_unit, found_unit}

-- ---- the units of a catalogue

pub legible_units : (db : Trees) (c : Catalogue) (at : RepresentsUnits db c.forest) → IsKept c
    → AllByRecursion IsLegibleUnit at.units
legible_units db c at kept = all-permutation IsLegibleUnit (nodes c.forest) at.units at.are kept.units

-- ---- a unit's status

-- a unit that is there has one
pub status_there : (db : Trees) (f : Forest Unit) (at : RepresentsUnits db f) (id : ℕ) (u : Unit) → Has (nodes f) u
    → id ≡ u.id
    → option_map (λ (x : Unit). (let y : Status = record { draft = x.draft; until = x.until } in y)) (find (λ (x : Unit). nat_eq id x.id) at.units) ≡ None
    → ⊥
status_there db f at id u there same none =
    let in_units : Has at.units u = had at.units (nodes f) (IsPermutation-sym (nodes f) at.units at.are) u there in
    let status = λ (x : Unit). (let y : Status = record { draft = x.draft; until = x.until } in y) in
    let clash : None ≡ Some (status u) =
    sym none ∙ ap (option_map status) (found_unit at.units id u at.rise in_units same) in
    absurd (cc)

-- ---- the units of some rows

-- the unit of a row
pub unit_at : (f : Forest Unit) (spans : List Span) (units : List Unit) (i : ℕ) (s : Span)
    → AllByRecursion (Has (nodes f)) units → map (λ (s : Span). s.id) spans ≡ map (λ (u : Unit). u.id) units
    → i < length spans → s ≡ get_or spans i s
    → (u : Unit) × Has (nodes f) u × (s.id ≡ u.id)
unit_at f spans units i s all same low here =
    let low' : i < length units =
    omega (arith, length-map spans (λ (s : Span). s.id), ap length same, length-map units (λ (u : Unit). u.id)) in
    let u = get_or units i blank_unit in (
      u,
      all-get_or (Has (nodes f)) units i blank_unit all low',
      ap (λ (x : Span). x.id) here ∙ sym (get_or-map (λ (s : Span). s.id) spans i s 0 low)
          ∙ ap (λ l. get_or l i 0) same ∙ get_or-map (λ (u : Unit). u.id) units i blank_unit 0 low',
    )
