-- The numbers of containers as the code stores them.
use Rattle.std.specs.Prelude.{◌≡◌, ℕ, List, length, Option, unwrap_or}
use Rattle.std.specs.Borrow.{Bor}
use Rattle.std.specs.BTreeMap.{BTreeMap, btree_map_len, get_by}
use Rattle.std.specs.Cmp.Lexicographic.{slice_cmp}
use Rattle.std.specs.Ordering.{nat_cmp, ordering_then}
use Rattle.std.specs.declared.cmp.Ordering.{Ordering}
use Rattle.isad_core.specs.Texts.{Bytes}
use Rattle.isad_core.specs.declared.values.BoxKey.{BoxKey}
use Rattle.isad_core.specs.Boxes.{distinct}
use Rattle.catalogue_core.specs.CatalogueMerge.{number_among}

-- a container by references to its three texts: its name, its location and its kind
abbrev pub Texts : Type 0
Texts = Bor Bytes × Bor Bytes × Bor Bytes

-- how the map compares a container, by its three texts, with one that it contains
abbrev pub compare_container : Bytes → Bytes → Bytes → Texts → Ordering
compare_container name location kind other = ordering_then (ordering_then (slice_cmp nat_cmp name other.0.now) (slice_cmp nat_cmp location other.1.now)) (slice_cmp nat_cmp kind other.2.now)

-- the number of a container in the map
abbrev pub mapped_number : BTreeMap Texts ℕ → BoxKey → Option ℕ
mapped_number numbers b = get_by (compare_container b.name b.location b.kind) numbers

-- the map has the numbers of these containers, in the order in which they first appear
pub record AreNumbered (seen : List BoxKey) (numbers : BTreeMap Texts ℕ) : Type 0 where
  pub numbered : (b : BoxKey) → mapped_number numbers b ≡ number_among (distinct seen) b
  pub count : btree_map_len numbers ≡ length (distinct seen)

-- the number of a container, by the map; 0 if it has none
abbrev pub number_by : BTreeMap Texts ℕ → BoxKey → ℕ
number_by numbers b = unwrap_or (mapped_number numbers b) 0
