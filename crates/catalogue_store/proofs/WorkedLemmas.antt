-- The worked catalogue is within the limits, and its tables show it.
use Rattle.std.proofs.Common.{◌≡◌, map, ℕ, zero, suc, [], ◌∷◌, true, Option, None, replicate, codes, lit≤, IfSome}
use Rattle.std.proofs.Common.{IsUtf8, refl, arith}
use Rattle.std.proofs.lemmas.Str.{IsUtf8-from_is_utf8}
use Rattle.std.specs.List.{IsDistinct}
use Rattle.std.specs.Str.{is_utf8, chars}
use lib.Utf8.{encode}
use Rattle.tree_core.proofs.LinkPaths.{length-path}
use Rattle.tree_core.specs.declared.rows.Link.{Link}
use Rattle.office_tables.proofs.Puts.{not_falling}
use Rattle.catalogue_store.specs.WorkedExamples.{first_box, dock_fonds, dock_series, example_catalogue, settings}
use Rattle.catalogue_store.specs.WorkedExamples.{element_rows, housing_rows, link_rows, example_database}
use Rattle.catalogue_store.proofs.Common.{AllByRecursion, Bytes, First, HasAllPlaces, IsKept, IsLegibleUnit}
use Rattle.catalogue_store.proofs.Common.{IsPermutation-refl, KnowsItsContainers, Represents, RepresentsLinkRows, Unit}
use Rattle.catalogue_store.proofs.Common.{each}

-- texts that are not there
no_texts : (n : ℕ) → AllByRecursion (λ (text : Option Bytes). IfSome text IsUtf8) (replicate n None)
no_texts zero = tt
no_texts (suc n) = (tt, no_texts n)

-- a text that is there
text : (t : Bytes) → is_utf8 t ≡ true → IsUtf8 t
text = IsUtf8-from_is_utf8

legible_fonds : IsLegibleUnit dock_fonds
unfolding is_utf8 chars encode
legible_fonds = record { level = text (codes "Fonds") refl; texts = (text (codes "HUL") refl, (text (codes "Hull Dock Company") refl, no_texts 23)); until = tt }

legible_series : IsLegibleUnit dock_series
unfolding is_utf8 chars encode
legible_series = record { level = text (codes "Series") refl; texts = (tt, (text (codes "Minutes") refl, (tt, (text (codes "2 m") refl, no_texts 21)))); until = refl }

pub worked_kept : IsKept example_catalogue
unfolding is_utf8 chars encode
worked_kept = record {
  places = record {
    few = lit≤ tt;
    low = (lit≤ tt, (lit≤ tt, tt));
    shallow = λ id. let short = length-path id (each (λ (u : Unit). u.id) example_catalogue.forest) in omega (arith, short);
  };
  units = (legible_fonds, (legible_series, tt));
  boxes = (record { name = text first_box.name refl; location = text first_box.location refl; kind = text first_box.kind refl }, tt);
  few_boxes = lit≤ tt;
}

pub worked_known : KnowsItsContainers example_catalogue
worked_known = record { apart = refl; known = (refl, (refl, tt)) }

pub worked_places : HasAllPlaces example_catalogue
worked_places = (refl, (refl, tt))

pub worked_shown : Represents RepresentsLinkRows First example_database settings example_catalogue
unfolding IsDistinct
worked_shown = record {
  catalogue = record {
    schema_is = refl;
    office = refl;
    next = refl;
    units = record { units = dock_fonds ∷ dock_series ∷ []; rows = refl; rise = ((refl, tt), (tt, tt)); are = IsPermutation-refl _ };
    elements = record {
      elements = map (λ e. e.1) element_rows;
      rows = record { numbered = element_rows; are = refl; rise = ((refl, (refl, (refl, tt))), ((refl, (refl, tt)), ((refl, tt), (tt, tt)))); tell = IsPermutation-refl _ };
      are = (IsPermutation-refl _, (IsPermutation-refl _, tt));
      others = (refl, (refl, (refl, (refl, tt))));
    };
    containers = refl;
    housings = record { housings = map (λ h. h.1) housing_rows; rows = record { numbered = housing_rows; are = refl; rise = (tt, tt); tell = IsPermutation-refl _ }; are = (IsPermutation-refl _, (IsPermutation-refl _, tt)); others = (refl, tt) };
  };
  shown = record {
    links = link_rows;
    rows = refl;
    rise = ((refl, tt), (tt, tt));
    are = record { distinct = ((refl, tt), (tt, tt)); rows = IsPermutation-refl _; ascending = not_falling (λ (l : Link). l.id) link_rows ((refl, tt), (tt, tt)) };
  };
}
