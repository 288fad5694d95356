-- Places without a fault are those of the forest that they say.
use Rattle.std.proofs.Common.{◌≡◌, ℕ, true, List, None, sym, ap, ◌∙◌, subst, nat_eq, map}
use Rattle.std.specs.List.{IsDistinct}
use Rattle.tree_core.proofs.LinkPaths.{ids-rows_below}
use Rattle.tree_core.proofs.NumberingWalk.{ids-number}
use Rattle.tree_core.specs.LinkFaults.{link_fault}
use Rattle.tree_core.specs.SpanFaults.{span_fault}
use Rattle.state_encoding.proofs.Common.{ArePlacesOf, Forest, HoldsLinks, In, In-permutation, IsPermutation}
use Rattle.state_encoding.proofs.Common.{IsPermutation-map, IsPermutation-refl, IsPermutation-sym, Link, LinkRows}
use Rattle.state_encoding.proofs.Common.{Links, PlaceRows, RepresentsSpans, Span, SpanRows, Spans, TreeEncoding}
use Rattle.state_encoding.proofs.Common.{and_parts, are_good_places, false≢true, held_without_fault, is_good_link}
use Rattle.state_encoding.proofs.Common.{is_good_span, is_unit_number, list_all, nodes, place_numbers, place_rows}
use Rattle.state_encoding.proofs.Common.{places_said, shown_without_fault, siblings, spans_from}
use Rattle.state_encoding.proofs.Judging.{nothing_there}
use Rattle.state_encoding.proofs.RowsByNumber.{in_map, all_in}
use Rattle.state_encoding.proofs.Nested.{spans_say}
use Rattle.state_encoding.proofs.Linked.{links_say}

pub record ArePlaced (way : TreeEncoding) (places : PlaceRows) (f : Forest ℕ) : Type 0 where
  pub apart : IsDistinct nat_eq (nodes f)
  pub numbered : (u : ℕ) → In u (nodes f) → In u (place_numbers places)
  pub placed : (u : ℕ) → In u (place_numbers places) → In u (nodes f)
  pub rows : ArePlacesOf (place_rows way f) places

links_placed : (links : List Link) → link_fault links ≡ None
    → ArePlaced Links (LinkRows links) (places_said (LinkRows links))
links_placed links e =
    let r = held_without_fault links e in
    let f : Forest ℕ = r.0 in
    let h : HoldsLinks f links = r.1 in
    let ids : IsPermutation (map (λ (link : Link). link.id) (siblings f)) (map (λ (link : Link). link.id) links) =
    IsPermutation-map (λ (link : Link). link.id) (siblings f) links h.rows in
    let same : IsPermutation (nodes f) (place_numbers (LinkRows links)) =
    subst (λ ns. IsPermutation ns (place_numbers (LinkRows links))) (ids-rows_below None 1 f) ids in
    let placed : ArePlaced Links (LinkRows links) f = record {
      apart = h.distinct;
      numbered = λ u i. In-permutation (place_numbers (LinkRows links)) (nodes f) u (IsPermutation-sym (nodes f) (place_numbers (LinkRows links)) same) i;
      placed = λ u i. In-permutation (nodes f) (place_numbers (LinkRows links)) u same i;
      rows = h.rows;
    } in
    subst (ArePlaced Links (LinkRows links)) (sym (links_say f links h)) placed

spans_placed : (spans : List Span) → span_fault spans ≡ None
    → ArePlaced Spans (SpanRows spans) (places_said (SpanRows spans))
spans_placed spans e =
    let r = shown_without_fault spans e in
    let f : Forest ℕ = r.0 in
    let h : RepresentsSpans f spans = r.1 in
    let same : place_numbers (SpanRows spans) ≡ nodes f = ap (map (λ (span : Span). span.id)) h.rows ∙ ids-number 1 f in
    let placed : ArePlaced Spans (SpanRows spans) f = record {
      apart = h.distinct;
      numbered = λ u i. subst (In u) (sym same) i;
      placed = λ u i. subst (In u) same i;
      rows = subst (IsPermutation (spans_from 1 f)) (sym h.rows) (IsPermutation-refl (spans_from 1 f));
    } in
    subst (ArePlaced Spans (SpanRows spans)) (sym (ap (λ rows. places_said (SpanRows rows)) h.rows ∙ spans_say f)) placed

-- places that are stored in this way, without a fault
pub good_places : (way : TreeEncoding) (places : PlaceRows) → are_good_places way places ≡ true
    → ArePlaced way places (places_said places)
good_places Links (LinkRows links) h =
    links_placed links (nothing_there (link_fault links) (and_parts (list_all is_good_link links) _ h).1)
good_places Spans (SpanRows spans) h =
    spans_placed spans (nothing_there (span_fault spans) (and_parts (list_all is_good_span spans) _ h).1)
good_places Links (SpanRows spans) h = absurd (false≢true h)
good_places Spans (LinkRows links) h = absurd (false≢true h)

-- a place has a number that a unit may have
pub numbers_given : (way : TreeEncoding) (places : PlaceRows) (u : ℕ) → are_good_places way places ≡ true
    → In u (place_numbers places) → is_unit_number u ≡ true
numbers_given Links (LinkRows links) u h i =
    let at = in_map (λ (link : Link). link.id) links u i in
    let good = all_in is_good_link links at.it (and_parts (list_all is_good_link links) _ h).0 at.there in
    subst (λ n. is_unit_number n ≡ true) at.is (and_parts (is_unit_number at.it.id) _ good).0
numbers_given Spans (SpanRows spans) u h i =
    let at = in_map (λ (span : Span). span.id) spans u i in
    let good = all_in is_good_span spans at.it (and_parts (list_all is_good_span spans) _ h).0 at.there in
    subst (λ n. is_unit_number n ≡ true) at.is (and_parts (is_unit_number at.it.id) _ good).0
numbers_given Links (SpanRows spans) u h i = absurd (false≢true h)
numbers_given Spans (LinkRows links) u h i = absurd (false≢true h)
