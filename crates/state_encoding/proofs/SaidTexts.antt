-- The texts of a state that rows say are texts of the rows.
use Rattle.std.proofs.Common.{◌≡◌, ℕ, zero, suc, ◌&&◌, Bool, length, List, [], ◌∷◌, Option, Some, None, map, refl}
use Rattle.std.proofs.Common.{nat_eq, IsUtf8, sym, subst}
use Rattle.std.proofs.lemmas.Str.{IsUtf8-nil}
use Rattle.std.specs.Prelude.{unwrap_or, false}
use Rattle.isad_core.specs.LegibleValues.{IsLegibleBox, AreLegibleValues}
use Rattle.catalogue_core.specs.LegibleCatalogues.{HasLegibleTexts}
use Rattle.state_encoding.proofs.Common.{AllByRecursion, AreLegibleRows, AreTexts, BoxKey, Bytes, ContainerRow}
use Rattle.state_encoding.proofs.Common.{ElementRow, HousingRow, IfSome, In, IsLegibleContainerRow, IsLegibleUnitRow}
use Rattle.state_encoding.proofs.Common.{OfficeRows, ReaderRow, UnitRow, after_level, box_at, box_from, boxes_from}
use Rattle.state_encoding.proofs.Common.{cons_option, find, find_some, housings_of, nodes, nodes-each, nth}
use Rattle.state_encoding.proofs.Common.{numbers_from, option_map, places_said, reader_from, state_of, text_said}
use Rattle.state_encoding.proofs.Common.{unit_from, unit_from_rows, values_from_rows}
use Rattle.state_encoding.proofs.RowsByNumber.{each_in}
use Rattle.state_encoding.proofs.NumberedRows.{numbered_in}

readers_said : (rows : List ReaderRow) → AllByRecursion (λ (row : ReaderRow). IsUtf8 row.name) rows
    → AllByRecursion (λ reader. IsUtf8 reader.name) (map reader_from rows)
readers_said [] h = tt
readers_said (row ∷ rows) h = (h.0, readers_said rows h.1)

boxes_legible : (rows : List ContainerRow) → AllByRecursion IsLegibleContainerRow rows
    → AllByRecursion IsLegibleBox (map box_from rows)
boxes_legible [] h = tt
boxes_legible (row ∷ rows) h =
    (record { name = h.0.name; location = h.0.location; kind = h.0.kind }, boxes_legible rows h.1)

text_legible : (elements : List ElementRow) (u k : ℕ) → AllByRecursion (λ (row : ElementRow). IsUtf8 row.value) elements
    → IfSome (text_said elements u k) IsUtf8
text_legible elements u k h = at (find is_it elements) refl
  where
    is_it : ElementRow → Bool
    is_it row = nat_eq row.unit u && nat_eq row.k (after_level k)

    at : (r : Option ElementRow) → find is_it elements ≡ r
        → IfSome (option_map (λ (row : ElementRow). row.value) r) IsUtf8
    at None e = tt
    at (Some row) e = each_in (λ (row : ElementRow). IsUtf8 row.value) elements row h (find_some is_it elements row e).0

texts_legible : (elements : List ElementRow) (u : ℕ) (ns : List ℕ)
    → AllByRecursion (λ (row : ElementRow). IsUtf8 row.value) elements
    → AllByRecursion (λ text. IfSome text IsUtf8) (map (text_said elements u) ns)
texts_legible elements u [] h = tt
texts_legible elements u (n ∷ ns) h = (text_legible elements u n h, texts_legible elements u ns h)

own_boxes_legible : (boxes : List BoxKey) (mine : List HousingRow) (n more : ℕ) → AllByRecursion IsLegibleBox boxes
    → AllByRecursion IsLegibleBox (boxes_from boxes mine n more)
own_boxes_legible boxes mine n zero h = tt
own_boxes_legible boxes mine n (suc more) h =
    at (find (λ (row : HousingRow). nat_eq row.ord n) mine) (own_boxes_legible boxes mine (suc n) more h)
  where
    passes : (r : Option BoxKey) → ((b : BoxKey) → r ≡ Some b → In b boxes) → (rest : List BoxKey)
        → AllByRecursion IsLegibleBox rest → AllByRecursion IsLegibleBox (cons_option r rest)
    passes None f rest all = all
    passes (Some b) f rest all = (each_in IsLegibleBox boxes b h (f b refl), all)

    at : (r : Option HousingRow) → AllByRecursion IsLegibleBox (boxes_from boxes mine (suc n) more)
        → AllByRecursion IsLegibleBox (cons_option (box_at boxes r) (boxes_from boxes mine (suc n) more))
    at None all = all
    at (Some row) all = passes (nth boxes row.container) (λ b e. numbered_in boxes row.container b e) (boxes_from boxes mine (suc n) more) all

module _ (t : OfficeRows) (l : AreLegibleRows t) where
  boxes : AllByRecursion IsLegibleBox (map box_from t.catalogue.containers)
  boxes = boxes_legible t.catalogue.containers l.containers

  values_legible : (u : ℕ) (level : Bytes) → IsUtf8 level → AreLegibleValues (values_from_rows t.catalogue u level)
  values_legible u level h =
      record {
        level = h;
        texts = texts_legible t.catalogue.elements u (numbers_from 1 25) l.elements;
        boxes = own_boxes_legible (map box_from t.catalogue.containers) (housings_of u t.catalogue.housings) 1 (length (housings_of u t.catalogue.housings)) boxes;
      }

  unit_legible : (u : ℕ) → HasLegibleTexts (unit_from_rows t.catalogue u)
  unit_legible u = at (find (λ (row : UnitRow). nat_eq row.id u) t.catalogue.units) refl
    where
      at : (r : Option UnitRow) → find (λ (row : UnitRow). nat_eq row.id u) t.catalogue.units ≡ r
          → HasLegibleTexts (unwrap_or (option_map (unit_from t.catalogue) r) (record { id = u; source = []; legacy = []; values = values_from_rows t.catalogue u []; draft = false; until = None }))
      at None e = record { source = IsUtf8-nil; legacy = IsUtf8-nil; values = values_legible u [] IsUtf8-nil }
      at (Some row) e =
          let texts = each_in IsLegibleUnitRow t.catalogue.units row l.units (find_some (λ (row : UnitRow). nat_eq row.id u) t.catalogue.units row e).0 in
          record { source = texts.source; legacy = texts.legacy; values = values_legible row.id row.level texts.level }

  units_legible : (us : List ℕ) → AllByRecursion HasLegibleTexts (map (unit_from_rows t.catalogue) us)
  units_legible [] = tt
  units_legible (u ∷ us) = (unit_legible u, units_legible us)

  pub texts_said : AreTexts (state_of t)
  texts_said =
      record {
        country = l.country;
        repo = l.repo;
        catalogue = record {
          units = subst (AllByRecursion HasLegibleTexts) (sym (nodes-each (unit_from_rows t.catalogue) (places_said t.catalogue.places))) (units_legible (nodes (places_said t.catalogue.places)));
          containers = boxes;
        };
        readers = readers_said t.desk.readers l.readers;
      }
