-- A row that is placed: its unit is there, or comes below a parent that is.
use Rattle.std.proofs.Common.{◌≡◌, ◌<◌, ◌≤◌, ℕ, Bool, true, false, cond, ◌&&◌, ◌||◌, ◌+◌, length, inl, inr, List, []}
use Rattle.std.proofs.Common.{◌∷◌, Option, Some, None, Ok, refl, sym, ap, ap₂, ◌∙◌, subst, arith, is_lt, nat_cmp, Less}
use Rattle.std.proofs.Common.{Equal, Greater}
use Rattle.std.specs.Prelude.{map}
use Rattle.catalogue_core.proofs.EachOf.{none_found}
use Rattle.catalogue_core.specs.UnitLookup.{FindsUnit}
use Rattle.catalogue_store.specs.UnitValues.{values_of_unit}
use Rattle.catalogue_store.specs.declared.unit_values.UnitValues.{UnitValues}
use Rattle.csv_import.specs.declared.row_entry.Entry.TheVariants as entry
use Rattle.csv_import.proofs.Common.{AllByRecursion, AreGoodUnits, AreWhole, Bytes, Catalogue, IfSome, IsGoodRow}
use Rattle.csv_import.proofs.Common.{IsTurn, IsTurnOfUnit, MayChange, MayCome, Row, Unit, Values, all_of_found}
use Rattle.csv_import.proofs.Common.{and_parts, and_then, box_number, catalogue_after, cause_at, depth_there}
use Rattle.csv_import.proofs.Common.{each_there, entry_of, eqb-true, false≢true, find, find_none, found_numbers, has}
use Rattle.csv_import.proofs.Common.{has_id, has_place, is_from, is_some, list_any, nat_lt, ne_eqb, new_at, new_unit}
use Rattle.csv_import.proofs.Common.{nodes, number_there, option_and_then, option_map, or_as_before, or_cases, or_parts}
use Rattle.csv_import.proofs.Common.{path, same_values, some_found, unless_cause, unwrap_or, with_new, with_row_at}
use Rattle.csv_import.proofs.Common.{with_rows, with_values}

-- ---- the unit with a number in a source

-- the unit that has the number, and is found by it too
pub record IsFound (c : Catalogue) (source legacy : Bytes) (id : ℕ) : Type 0 where
  pub unit : Unit
  pub number : unit.id ≡ id
  pub by_source : find (is_from source legacy) (nodes c.forest) ≡ Some unit
  pub by_number : find (has_id id) (nodes c.forest) ≡ Some unit

same_find : (p q : Unit → Bool) (us : List Unit) → AllByRecursion (λ u. p u ≡ q u) us → find p us ≡ find q us
same_find p q [] h = refl
same_find p q (u ∷ us) h = ap₂ (λ (b : Bool) r. cond b (Some u) r) h.0 (same_find p q us h.1)

none_is : (is : Unit → Bool) (us : List Unit) → list_any is us ≡ false → AllByRecursion (λ (u : Unit). is u ≡ false) us
none_is is [] h = tt
none_is is (u ∷ us) h = let r = or_parts (is u) (list_any is us) h in (r.0, none_is is us r.1)

pub is_found : (c : Catalogue) (source legacy : Bytes) (id : ℕ) → AreGoodUnits c
    → number_there c source legacy ≡ Some id → IsFound c source legacy id
is_found c source legacy id good e = at (find (is_from source legacy) (nodes c.forest)) refl e
  where
    at : (r : Option Unit) → find (is_from source legacy) (nodes c.forest) ≡ r
        → option_map (λ (u : Unit). u.id) r ≡ Some id → IsFound c source legacy id
    at None f k = absurd (cc)
    at (Some v) f k =
        let number : v.id ≡ id = cc in
        let alike = subst (λ n. AllByRecursion (λ (u : Unit). has_id n u ≡ is_from source legacy u) (nodes c.forest)) number (found_numbers source legacy (nodes c.forest) v good.ids good.pairs f) in
        record {
          unit = v;
          number = number;
          by_source = f;
          by_number = same_find (has_id id) (is_from source legacy) (nodes c.forest) alike ∙ f;
        }

pub none_there : (c : Catalogue) (source legacy : Bytes) → number_there c source legacy ≡ None
    → find (is_from source legacy) (nodes c.forest) ≡ None
none_there c source legacy e = at (find (is_from source legacy) (nodes c.forest)) refl e
  where
    at : (r : Option Unit) → find (is_from source legacy) (nodes c.forest) ≡ r
        → option_map (λ (u : Unit). u.id) r ≡ None → find (is_from source legacy) (nodes c.forest) ≡ None
    at None f k = f
    at (Some v) f k = absurd (cc)

-- a unit that is found by its number in the source has this number
finds_it : (is : Unit → Bool) (us : List Unit) (v : Unit) (id : ℕ)
    → AllByRecursion (λ (u : Unit). has_id v.id u ≡ is u) us → list_any (λ u. is u && has_id id u) us ≡ true → id ≡ v.id
finds_it is [] v id h e = absurd (false≢true e)
finds_it is (u ∷ us) v id h e =
    elim (or_cases (is u && has_id id u) (list_any (λ u. is u && has_id id u) us) e) [
      | inl here ↦
          let parts = and_parts (is u) (has_id id u) here in
          eqb-true id u.id parts.1 ∙ sym (eqb-true v.id u.id (h.0 ∙ parts.0))
      | inr later ↦ finds_it is us v id h.1 later
    ]

none_passes : (p q : Unit → Bool) (us : List Unit) → AllByRecursion (λ u. p u ≡ false) us
    → list_any (λ u. p u && q u) us ≡ true → false ≡ true
none_passes p q [] h e = e
none_passes p q (u ∷ us) h e = none_passes p q us h.1 (sym (ap (λ (b : Bool). (b && q u) || list_any (λ u. p u && q u) us) h.0) ∙ e)

pub finds_number : (c : Catalogue) (source legacy : Bytes) (found : Option ℕ) → AreGoodUnits c
    → FindsUnit (is_from source legacy) c.forest found → found ≡ number_there c source legacy
finds_number c source legacy None good h =
    sym (ap (option_map (λ (u : Unit). u.id)) (find_none (is_from source legacy) (nodes c.forest) h))
finds_number c source legacy (Some id) good h = at (find (is_from source legacy) (nodes c.forest)) refl
  where
    at : (r : Option Unit) → find (is_from source legacy) (nodes c.forest) ≡ r
        → Some id ≡ option_map (λ (u : Unit). u.id) r
    at None f = absurd (false≢true (none_passes (is_from source legacy) (has_id id) (nodes c.forest) (none_is (is_from source legacy) (nodes c.forest) (none_found (is_from source legacy) (nodes c.forest) f)) h))
    at (Some v) f = ap Some (finds_it (is_from source legacy) (nodes c.forest) v id (found_numbers source legacy (nodes c.forest) v good.ids good.pairs f) h)

-- ---- a row of a unit that is there

whole_row : (row : Row) → IsGoodRow row → AreWhole row.values
whole_row row good = record { places = good.texts_count; once = good.apart }

module _ {source : Bytes} {row : Row} {next : ℕ} {c : Catalogue} (turn : IsTurn source row next c) where
  pub entered_known : {id : ℕ} → number_there c source row.legacy ≡ Some id
      → catalogue_after source (row ∷ []) c ≡ with_values id row.values c
  entered_known e = ap (λ n. or_as_before c (and_then (with_rows source []) (with_row_at n source row c))) e

  pub may_change : {id : ℕ} → number_there c source row.legacy ≡ Some id → MayChange id row.values c
  may_change {id} e =
      let it = is_found c source row.legacy id turn.units e in
      record {
        units = turn.units;
        kept = turn.kept;
        there = record { knows = turn.knows; there = some_found (has_id id) (nodes c.forest) it.unit it.by_number };
        whole = whole_row row turn.good;
      }

  -- ---- a row of none

  module _ (e : number_there c source row.legacy ≡ None) where
    no_cause : (r : Option ℕ) → unless_cause row r (with_new source row c) ≡ Ok turn.after → r ≡ None
    no_cause None k = refl
    no_cause (Some cause) k = absurd (cc)

    unless_is : unless_cause row (cause_at (depth_there c source row.parent)) (with_new source row c) ≡ Ok turn.after
    unless_is = sym (ap (λ n. with_row_at n source row c) e) ∙ turn.placed

    pub none_against : cause_at (depth_there c source row.parent) ≡ None
    none_against = no_cause (cause_at (depth_there c source row.parent)) unless_is

    pub entered_new : catalogue_after source (row ∷ []) c ≡ with_new source row c
    entered_new =
        ap (λ n. or_as_before c (and_then (with_rows source []) (with_row_at n source row c))) e
        ∙ ap (λ r. or_as_before c (and_then (with_rows source []) (unless_cause row r (with_new source row c)))) none_against

    parent_there : (p : Option Bytes) → cause_at (depth_there c source p) ≡ None
        → has_place has_id (option_and_then (number_there c source) p) c.forest ≡ true
    parent_there None k = refl
    parent_there (Some legacy) k = at (find (is_from source legacy) (nodes c.forest)) refl
      where
        at : (r : Option Unit) → find (is_from source legacy) (nodes c.forest) ≡ r
            → has_place has_id (option_map (λ (u : Unit). u.id) r) c.forest ≡ true
        at None f = absurd (let no : Some 11 ≡ None = sym (ap (λ (b : Bool). cause_at (cond b (Some (length (path (is_from source legacy) c.forest) + 1)) None)) (none_found (is_from source legacy) (nodes c.forest) f)) ∙ k in cc)
        at (Some w) f = all_of_found (λ (u : Unit). list_any (has_id u.id) (nodes c.forest) ≡ true) (is_from source legacy) (nodes c.forest) w f (each_there (nodes c.forest) (nodes c.forest) (λ n h. h))

    no_such : (n : ℕ) (us : List Unit) → AllByRecursion (λ (u : Unit). (1 ≤ u.id) × (u.id < n)) us
        → list_any (has_id n) us ≡ false
    no_such n [] h = refl
    no_such n (u ∷ us) h =
        ap₂ (λ (a b : Bool). a || b) (ne_eqb n u.id (λ i. let same = i in let low = h.0.1 in absurd (omega (arith, low, same)))) (no_such n us h.1)

    pub may_come : MayCome source row next c
    may_come = record {
      units = turn.units;
      kept = turn.kept;
      number = turn.number;
      new = record {
        number = no_such c.next (nodes c.forest) turn.units.given;
        origin = none_found (is_from source row.legacy) (nodes c.forest) (none_there c source row.legacy e);
        whole = whole_row row turn.good;
      };
      place = record { knows = turn.knows; place = parent_there row.parent none_against };
    }

-- ---- a row of a unit with a number

its_own : (o : Option ℕ) (unit next : ℕ) → unit ≡ unwrap_or o next → is_some o ≡ true → o ≡ Some unit
its_own None unit next is some = absurd (false≢true some)
its_own (Some id) unit next is some = ap Some (sym is)

the_next : (o : Option ℕ) (unit next : ℕ) → unit ≡ unwrap_or o next → is_some o ≡ false → (o ≡ None) × (next ≡ unit)
the_next None unit next is none = (refl, sym is)
the_next (Some id) unit next is none = absurd (false≢true (sym none))

compared : (less same : Bool) → is_lt (cond less Less (cond same Equal Greater)) ≡ less
compared true same = refl
compared false true = refl
compared false false = refl

module _ {source : Bytes} {row : Row} {first unit : ℕ} {c : Catalogue} (it : IsTurnOfUnit source row first unit c) {low : Bool} (told : low ≡ is_lt (nat_cmp unit first)) where
  known_where : {b : Bool} → low ≡ b → is_some (number_there c source row.legacy) ≡ b
  known_where here = sym it.known ∙ (sym (told ∙ compared (nat_lt unit first) _) ∙ here)

  pub turn_known : low ≡ true → number_there c source row.legacy ≡ Some unit
  turn_known here =
      its_own (number_there c source row.legacy) unit c.next it.unit_is (known_where here)

  pub turn_new : low ≡ false → (number_there c source row.legacy ≡ None) × IsTurn source row unit c
  turn_new here =
      let so = the_next (number_there c source row.legacy) unit c.next it.unit_is (known_where here) in
      (so.0, subst (λ n. IsTurn source row n c) so.1 it.turn)

-- a catalogued unit has a number that was given
pub was_given : (c : Catalogue) (source legacy : Bytes) → AreGoodUnits c
    → IfSome (number_there c source legacy) (λ id. id < c.next)
was_given c source legacy good = at (find (is_from source legacy) (nodes c.forest)) refl
  where
    at : (r : Option Unit) → find (is_from source legacy) (nodes c.forest) ≡ r
        → IfSome (option_map (λ (u : Unit). u.id) r) (λ id. id < c.next)
    at None f = tt
    at (Some v) f =
        (all_of_found (λ (u : Unit). (1 ≤ u.id) × (u.id < c.next)) (is_from source legacy) (nodes c.forest) v f good.given).1

-- the values of a unit that is there
pub record IsValued (c : Catalogue) (id : ℕ) : Type 0 where
  pub unit : Unit
  pub by_number : find (has_id id) (nodes c.forest) ≡ Some unit

pub is_valued : (c : Catalogue) (id : ℕ) → has (has_id id) c.forest ≡ true → IsValued c id
is_valued c id h = at (find (has_id id) (nodes c.forest)) refl
  where
    at : (r : Option Unit) → find (has_id id) (nodes c.forest) ≡ r → IsValued c id
    at None f = absurd (false≢true (sym (none_found (has_id id) (nodes c.forest) f) ∙ h))
    at (Some v) f = record { unit = v; by_number = f }

pub not_untold : (c : Catalogue) (id : ℕ) → has (has_id id) c.forest ≡ true → None ≡ values_of_unit id c → ⊥
not_untold c id h e =
    let it = is_valued c id h in
    let told : None ≡ Some _ =
    e
    ∙ ap (option_map (λ (u : Unit). (let x : UnitValues = record { values = u.values; containers = map (box_number c.containers) u.values.boxes } in x))) it.by_number in
    cc

pub told_of_it : (c : Catalogue) (id : ℕ) (u : Unit) (told : UnitValues) → find (has_id id) (nodes c.forest) ≡ Some u
    → Some told ≡ values_of_unit id c → told.values ≡ u.values
told_of_it c id u told found e =
    let same : Some told ≡ Some (record { values = u.values; containers = map (box_number c.containers) u.values.boxes }) =
    e
    ∙ ap (option_map (λ (u : Unit). (let x : UnitValues = record { values = u.values; containers = map (box_number c.containers) u.values.boxes } in x))) found in
    let is : told ≡ record { values = u.values; containers = map (box_number c.containers) u.values.boxes } = cc in
    ap (λ (x : UnitValues). x.values) is

-- what becomes of it, by its values as they are told
pub entry_told : (c : Catalogue) (id : ℕ) (values : Values) {u : Unit} {told : UnitValues} {same b : Bool}
    → find (has_id id) (nodes c.forest) ≡ Some u → Some told ≡ values_of_unit id c
    → same ≡ same_values told.values values → same ≡ b → cond b entry.Same entry.Changed ≡ entry_of (Some u) values
entry_told c id values {u} {told} found is alike here =
    ap (λ (b : Bool). cond b entry.Same entry.Changed) (sym here ∙ (alike ∙ ap (λ (w : Values). same_values w values) (told_of_it c id u told found is)))

-- the unit of a row, by the number that comes next
pub unit_comes : (source : Bytes) (row : Row) (next : ℕ) (c : Catalogue) → next ≡ c.next
    → record (new_unit source (new_at c source row)) { id = next } ≡ new_unit source (new_at c source row)
unit_comes source row next c e = ap (λ n. record (new_unit source (new_at c source row)) { id = n }) e
