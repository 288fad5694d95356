-- The rows of the units of a sound catalogue, and of their places, have their keys and no cause.
use Rattle.std.proofs.Common.{◌≡◌, ℕ, ◌+◌, ◌*◌, ◌^◌, ◌<◌, ◌≤◌, true, false, not, List, [], ◌∷◌, length, Option, Some}
use Rattle.std.proofs.Common.{None, refl, sym, ap, ◌∙◌, subst, nat_eq, arith, map}
use Rattle.std.proofs.lemmas.Slice.Eq.{bytes_eq-Decides}
use Rattle.std.specs.List.{IsDistinct}
use Rattle.std.specs.Prelude.{ℤ, nat_lt}
use Rattle.tree_core.proofs.LinkPaths.{ids-rows_below}
use Rattle.tree_core.proofs.NumberingWalk.{ids-number}
use Rattle.catalogue_core.proofs.Heights.{height-each}
use Rattle.catalogue_core.proofs.NodeLemmas.{length-nodes}
use Rattle.catalogue_core.specs.Sources.{is_between}
use Rattle.office_core.specs.Words.{stands}
use Rattle.state_encoding.proofs.Common.{AllByRecursion, Forest, In, IsGoodUnit, IsPermutation-refl, IsSomeDay}
use Rattle.state_encoding.proofs.Common.{IsSoundCatalogue, Links, OfficeRow, Spans, State, TreeEncoding, Unit, UnitRow}
use Rattle.state_encoding.proofs.Common.{Version, all_stand_in, and_from, any_from_In, are_good_places, are_good_units}
use Rattle.state_encoding.proofs.Common.{each, encoding, faultless, height, is_blank_text, is_country, is_day_number}
use Rattle.state_encoding.proofs.Common.{is_day_number-true, is_good_link, is_good_office, is_good_span}
use Rattle.state_encoding.proofs.Common.{is_good_unit_row, is_named_alike, is_repository, is_same_unit, is_some}
use Rattle.state_encoding.proofs.Common.{is_some_day, is_source, is_unit_number, le-leb, leb-true, length-map}
use Rattle.state_encoding.proofs.Common.{link_faultless, list_all, list_all-map, lt-ltb, most_bytes, most_daily}
use Rattle.state_encoding.proofs.Common.{most_deep, most_hands, most_run_size, most_seats, most_unit_numbers}
use Rattle.state_encoding.proofs.Common.{most_units, nat_le, no_fault, no_link_fault, nodes, nodes-each, not_from_false}
use Rattle.state_encoding.proofs.Common.{place_numbers, place_rows, places_said, same_number, siblings, size}
use Rattle.state_encoding.proofs.Common.{spans_from, tables, unit_from_rows, unit_number, unit_numbers, unit_row}
use Rattle.state_encoding.proofs.Common.{version_number}
use Rattle.state_encoding.proofs.UnitRows.{units_back}
use Rattle.state_encoding.proofs.RowsByNumber.{in_all, each_in, in_map}
use Rattle.state_encoding.proofs.PlaceNumbers.{links_numbered, spans_numbered}

-- ---- the office

between : (low high n : ℕ) → low ≤ n → n ≤ high → is_between low high n ≡ true
between low high n a b = and_from (nat_le low n) (nat_le n high) (le-leb low n a) (le-leb n high b)

pub office_shown : (version : Version) (s : State) → IsSoundCatalogue s
    → is_good_office version (tables version s).office ≡ true
office_shown version s g =
    let row : OfficeRow = (tables version s).office in
    and_from (nat_eq row.version (version_number version)) _ (same_number (version_number version))
    (and_from (is_country row.country) _ g.settings.country
    (and_from (is_repository row.repo) _ g.settings.repo
    (and_from (is_between 1 most_seats row.seats) _ g.settings.seats
    (and_from (is_between 1 most_daily row.daily) _ g.settings.daily
    (and_from (is_between 1 most_hands row.hands) _ g.settings.hands
    (and_from (is_between 1 most_run_size row.run_size) _ g.settings.run_size
    (and_from (is_day_number row.day) (is_between 1 (most_unit_numbers + 1) row.next_unit) (is_day_number-true row.day g.today)
    (between 1 (most_unit_numbers + 1) row.next_unit g.units.next.0 g.units.next.1))))))))

-- ---- the places

-- there are more numbers of 32 bits than two for each unit
enough : 1 + 2 * most_units ≤ 2 ^ 32
enough = leb-true (1 + 2 * most_units) (2 ^ 32) refl

places_shown : (way : TreeEncoding) (f : Forest ℕ) → IsDistinct nat_eq (nodes f)
    → ((u : ℕ) → In u (nodes f) → is_unit_number u ≡ true) → size f ≤ most_units
    → are_good_places way (place_rows way f) ≡ true
places_shown Links f d n few =
    and_from (list_all is_good_link (siblings f)) _ (links_numbered None 1 f refl n (omega (arith, few, enough)))
    (ap (λ fault. not (is_some fault)) (no_link_fault (siblings f) (link_faultless f (siblings f) (record { distinct = d; rows = IsPermutation-refl (siblings f) }))))
places_shown Spans f d n few =
    and_from (list_all is_good_span (spans_from 1 f)) _ (spans_numbered 1 f n (omega (arith, few, enough)))
    (ap (λ fault. not (is_some fault)) (no_fault (spans_from 1 f) (faultless f (spans_from 1 f) (record { distinct = d; rows = refl }))))

numbers_placed : (way : TreeEncoding) (f : Forest ℕ) → place_numbers (place_rows way f) ≡ nodes f
numbers_placed Links f = ids-rows_below None 1 f
numbers_placed Spans f = ids-number 1 f

numbers_of_rows : (us : List Unit) → map (λ (row : UnitRow). row.id) (map unit_row us) ≡ map unit_number us
numbers_of_rows [] = refl
numbers_of_rows (u ∷ us) = ap (λ l. u.id ∷ l) (numbers_of_rows us)

-- ---- the units

day_shown : (until : Option ℤ) → IsSomeDay until → is_some_day until ≡ true
day_shown None h = refl
day_shown (Some day) h = is_day_number-true day h

row_shown : (next : ℕ) (u : Unit) → (1 ≤ u.id) × (u.id < next) → IsSomeDay u.until
    → (is_source u.source ≡ true) × (is_blank_text u.legacy ≡ false) × (length u.legacy ≤ most_bytes) × (length u.values.level ≤ most_bytes)
    → is_good_unit_row next (unit_row u) ≡ true
row_shown next u n d g =
    and_from (nat_lt u.id next) _ (lt-ltb u.id next n.1)
    (and_from (is_source u.source) _ g.0
    (and_from (not (is_blank_text u.legacy)) _ (not_from_false (is_blank_text u.legacy) g.1)
    (and_from (nat_le (length u.legacy) most_bytes) _ (le-leb (length u.legacy) most_bytes g.2)
    (and_from (nat_le (length u.values.level) most_bytes) (is_some_day u.until) (le-leb (length u.values.level) most_bytes g.3) (day_shown u.until d)))))

names_shown : (us : List Unit) → IsDistinct is_same_unit us → IsDistinct is_named_alike (map unit_row us)
unfolding IsDistinct
names_shown [] d = tt
names_shown (u ∷ us) d = (others us d.0, names_shown us d.1)
  where
    flips : (v : Unit) → is_named_alike (unit_row u) (unit_row v) ≡ is_same_unit u v
    flips v = grind (arith, bytes_eq-Decides v.source u.source, bytes_eq-Decides u.source v.source, bytes_eq-Decides v.legacy u.legacy, bytes_eq-Decides u.legacy v.legacy)

    others : (vs : List Unit) → AllByRecursion (λ v. is_same_unit u v ≡ false) vs
        → AllByRecursion (λ row. is_named_alike (unit_row u) row ≡ false) (map unit_row vs)
    others [] h = tt
    others (v ∷ vs) h = (flips v ∙ h.0, others vs h.1)

stand_in_themselves : (ns : List ℕ) → all_stand_in ns ns ≡ true
stand_in_themselves ns = in_all (λ n. stands n ns) ns (λ n i. any_from_In ns n i)

pub record AreShownUnits (version : Version) (s : State) : Type 0 where
  pub places : are_good_places (encoding version) (tables version s).catalogue.places ≡ true
  pub units : are_good_units (tables version s).office.next_unit (tables version s).catalogue ≡ true
  pub numbers : IsDistinct nat_eq (unit_numbers (tables version s).catalogue)
  pub names : IsDistinct is_named_alike (tables version s).catalogue.units
  pub placed : IsDistinct nat_eq (place_numbers (tables version s).catalogue.places)
  pub told : unit_numbers (tables version s).catalogue ≡ map unit_number (nodes s.catalogue.forest)

pub units_shown : (version : Version) (s : State) → IsSoundCatalogue s → AreShownUnits version s
units_shown version s g =
    let us = nodes s.catalogue.forest in
    let f : Forest ℕ = each unit_number s.catalogue.forest in
    let ids : nodes f ≡ map unit_number us = nodes-each unit_number s.catalogue.forest in
    let apart : IsDistinct nat_eq (nodes f) = subst (IsDistinct nat_eq) (sym ids) g.units.ids in
    let told : unit_numbers (tables version s).catalogue ≡ map unit_number us = numbers_of_rows us in
    let placed : place_numbers (tables version s).catalogue.places ≡ map unit_number us =
    numbers_placed (encoding version) f ∙ ids in
    let rows : list_all (is_good_unit_row s.catalogue.next) (map unit_row us) ≡ true =
    list_all-map (is_good_unit_row s.catalogue.next) unit_row us
    ∙ in_all (λ u. is_good_unit_row s.catalogue.next (unit_row u)) us (λ u i.
    let k = each_in (IsGoodUnit s.catalogue.containers) us u g.units.each i in
    row_shown s.catalogue.next u (each_in (λ (unit : Unit). (1 ≤ unit.id) × (unit.id < s.catalogue.next)) us u g.units.given i) (each_in (λ (unit : Unit). IsSomeDay unit.until) us u g.closures i) (k.source, k.legacy, k.legacy_short, k.level_short)) in
    let count : length (map unit_row us) ≡ size s.catalogue.forest =
    length-map us unit_row ∙ length-nodes s.catalogue.forest in
    let few = g.units.few in
    let same_count : size f ≡ size s.catalogue.forest =
    sym (length-nodes f) ∙ (ap length ids ∙ (length-map us unit_number ∙ length-nodes s.catalogue.forest)) in
    let next = g.units.next in
    let numbers : (u : ℕ) → In u (nodes f) → is_unit_number u ≡ true = λ u i.
    let r = in_map unit_number us u (subst (In u) ids i) in
    let given = each_in (λ (unit : Unit). (1 ≤ unit.id) × (unit.id < s.catalogue.next)) us r.it g.units.given r.there in
    subst (λ n. is_unit_number n ≡ true) r.is (between 1 most_unit_numbers r.it.id given.0 (omega (arith, given, next))) in
    let t = tables version s in
    let same_height : height (places_said t.catalogue.places) ≡ height s.catalogue.forest =
    sym (height-each (unit_from_rows t.catalogue) (places_said t.catalogue.places))
    ∙ ap (λ g. height g) (units_back version s g.units.ids g.units.each) in
    let deep : height (places_said t.catalogue.places) ≤ most_deep =
    subst (λ n. n ≤ most_deep) (sym same_height) g.units.depth in
    record {
      places = places_shown (encoding version) f apart numbers (omega (arith, few, same_count));
      units = and_from (list_all (is_good_unit_row s.catalogue.next) (map unit_row us)) _ rows
          (and_from (all_stand_in (place_numbers (tables version s).catalogue.places) (unit_numbers (tables version s).catalogue)) _ (ap (λ ns. all_stand_in ns (unit_numbers (tables version s).catalogue)) placed ∙ (ap (all_stand_in (map unit_number us)) told ∙ stand_in_themselves (map unit_number us)))
          (and_from (all_stand_in (unit_numbers (tables version s).catalogue) (place_numbers (tables version s).catalogue.places)) _ (ap (λ ns. all_stand_in ns (place_numbers (tables version s).catalogue.places)) told ∙ (ap (all_stand_in (map unit_number us)) placed ∙ stand_in_themselves (map unit_number us)))
          (and_from (nat_le (length (map unit_row us)) most_units) (nat_le (height (places_said t.catalogue.places)) most_deep) (le-leb (length (map unit_row us)) most_units (omega (arith, few, count))) (le-leb (height (places_said t.catalogue.places)) most_deep deep))));
      numbers = subst (IsDistinct nat_eq) (sym told) g.units.ids;
      names = names_shown us g.units.pairs;
      placed = subst (IsDistinct nat_eq) (sym placed) g.units.ids;
      told = told;
    }
