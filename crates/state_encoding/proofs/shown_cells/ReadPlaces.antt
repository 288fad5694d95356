-- The places of the units, as they are read.
use Rattle.std.proofs.Common.{◌≡◌, ◌⊎◌, ◌<◌, ℕ, true, false, not, List, refl, sym, ap, ◌∙◌, subst, inl, nat_eq}
use Rattle.std.specs.List.{IsDistinct}
use Rattle.std.specs.Prelude.{filter_map}
use Rattle.desk_core.proofs.OrderLemmas.{in_order-permutation}
use Rattle.desk_core.specs.Orders.{in_order}
use Rattle.office_tables.specs.Schema as tables
use Rattle.row_decoding.specs.TableRows.{by, then_by, places_in, places_are_unread}
use Rattle.state_encoding.proofs.Common.{ArePlacesOf, Forest, HasPlaces, HoldsLinks, IsPermutation, IsPermutation-map}
use Rattle.state_encoding.proofs.Common.{IsPermutation-refl, IsPermutation-trans, Link, LinkRows, Links, PlaceRows}
use Rattle.state_encoding.proofs.Common.{Span, SpanRows, Spans, TreeEncoding, Trees, and_from, and_parts}
use Rattle.state_encoding.proofs.Common.{are_good_places, is_good_link, is_some, link_cells, link_faultless, list_all}
use Rattle.state_encoding.proofs.Common.{no_link_fault, nodes, place_numbers, place_rows, places_said, read_link}
use Rattle.state_encoding.proofs.Common.{read_span, siblings, span_cells, spans_from, ⊤}
use Rattle.state_encoding.proofs.Grouped.{order_weaker}
use Rattle.state_encoding.proofs.Linked.{links_say}
use Rattle.state_encoding.proofs.shown_cells.KeyOrder.{then_by_again, spans_in_order}
use Rattle.state_encoding.proofs.shown_cells.OtherOrders.{all_too}
use Rattle.state_encoding.proofs.shown_cells.ReadCells.{AreRead, keyed_read, link_back, span_back}

-- the same places: of links in whatever order
pub record AreSamePlaces (way : TreeEncoding) (these those : PlaceRows) : Type 0 where
  pub rows : ArePlacesOf these those
  pub good : are_good_places way these ≡ true → are_good_places way those ≡ true
  pub numbers : IsPermutation (place_numbers these) (place_numbers those)
  pub said : places_said those ≡ places_said these

links_too : (f : Forest ℕ) (links : List Link) → IsDistinct nat_eq (nodes f) → IsPermutation (siblings f) links
    → AreSamePlaces Links (LinkRows (siblings f)) (LinkRows links)
links_too f links d same =
    let held : HoldsLinks f links = record { distinct = d; rows = same } in
    record {
      rows = same;
      good = λ g. and_from (list_all is_good_link links) _ (all_too is_good_link (siblings f) links same (and_parts (list_all is_good_link (siblings f)) _ g).0)
          (ap (λ fault. not (is_some fault)) (no_link_fault links (link_faultless f links held)));
      numbers = IsPermutation-map (λ (link : Link). link.id) (siblings f) links same;
      said = links_say f links held ∙ sym (links_say f (siblings f) (record { distinct = d; rows = IsPermutation-refl (siblings f) }));
    }

spans_too : (f : Forest ℕ) (spans : List Span) → spans ≡ spans_from 1 f
    → AreSamePlaces Spans (SpanRows (spans_from 1 f)) (SpanRows spans)
spans_too f spans e =
    subst (λ l. AreSamePlaces Spans (SpanRows (spans_from 1 f)) (SpanRows l)) (sym e)
    (record { rows = IsPermutation-refl (spans_from 1 f); good = λ g. g; numbers = IsPermutation-refl (place_numbers (SpanRows (spans_from 1 f))); said = refl })

pub record ArePlacesRead (way : TreeEncoding) (db : Trees) (f : Forest ℕ) : Type 0 where
  pub all : places_are_unread way db ≡ false
  pub same : AreSamePlaces way (place_rows way f) (places_in way db)

pub places_read : (way : TreeEncoding) (db : Trees) (f : Forest ℕ) → IsDistinct nat_eq (nodes f)
    → HasPlaces db (place_rows way f) → ArePlacesRead way db f
places_read Links db f d has =
    let it : AreRead read_link (db tables.link.tree) (siblings f) =
    keyed_read read_link link_cells (λ _. ⊤) (λ row h. link_back row) (db tables.link.tree) (siblings f) has (λ row i. tt) in
    let rows = filter_map read_link (db tables.link.tree) in
    record {
      all = it.all;
      same = links_too f (in_order (by (λ (row : Link). row.id)) rows) d
          (IsPermutation-trans (siblings f) rows (in_order (by (λ (row : Link). row.id)) rows) it.same (in_order-permutation (by (λ (row : Link). row.id)) rows));
    }
places_read Spans db f d has =
    let it : AreRead read_span (db tables.span.tree) (spans_from 1 f) =
    keyed_read read_span span_cells (λ _. ⊤) (λ row h. span_back row) (db tables.span.tree) (spans_from 1 f) has (λ row i. tt) in
    record {
      all = it.all;
      same = spans_too f (in_order (then_by (λ (row : Span). row.lft) (λ (row : Span). row.id)) (filter_map read_span (db tables.span.tree)))
          (then_by_again (λ (row : Span). row.lft) (λ (row : Span). row.id) (spans_from 1 f) (filter_map read_span (db tables.span.tree))
          (order_weaker (λ (a b : Span). a.lft < b.lft) (λ (a b : Span). (a.lft < b.lft) ⊎ ((a.lft ≡ b.lft) × (a.id < b.id))) (spans_from 1 f) (λ a b l. inl l) (spans_in_order 1 f)) it.same);
    }
