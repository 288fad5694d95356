-- The texts of the tables of a sound office are UTF-8.
use Rattle.std.proofs.Common.{ℕ, suc, List, [], ◌∷◌, ◌++◌, Option, Some, None, sym, subst, map, IsUtf8}
use Rattle.isad_core.specs.LegibleValues.{IsLegibleBox}
use Rattle.catalogue_core.specs.LegibleCatalogues.{HasLegibleTexts}
use Rattle.state_encoding.proofs.Common.{AllByRecursion, AreLegibleRows, AreTexts, BoxKey, Bytes, ElementRow, IfSome}
use Rattle.state_encoding.proofs.Common.{IsLegibleContainerRow, IsLegibleUnitRow, Reader, ReaderRow, State, Unit}
use Rattle.state_encoding.proofs.Common.{Version, container_row, element_rows_from, flat_map, flat_map-cons, nodes}
use Rattle.state_encoding.proofs.Common.{reader_row, rows_from, tables, unit_row}

units_legible : (us : List Unit) → AllByRecursion HasLegibleTexts us → AllByRecursion IsLegibleUnitRow (map unit_row us)
units_legible [] h = tt
units_legible (u ∷ us) h =
    (record { source = h.0.source; legacy = h.0.legacy; level = h.0.values.level }, units_legible us h.1)

abbrev IsLegibleElement : ElementRow → Type 0
IsLegibleElement row = IsUtf8 row.value

texts_legible : (u k : ℕ) (texts : List (Option Bytes)) → AllByRecursion (λ text. IfSome text IsUtf8) texts
    → AllByRecursion IsLegibleElement (element_rows_from u k texts)
texts_legible u k [] h = tt
texts_legible u k (None ∷ texts) h = texts_legible u (suc k) texts h.1
texts_legible u k (Some text ∷ texts) h = (h.0, texts_legible u (suc k) texts h.1)

joined : (P : ElementRow → Type 0) (xs ys : List ElementRow) → AllByRecursion P xs → AllByRecursion P ys
    → AllByRecursion P (xs ++ ys)
joined P [] ys h k = k
joined P (x ∷ xs) ys h k = (h.0, joined P xs ys h.1 k)

elements_legible : (us : List Unit) → AllByRecursion HasLegibleTexts us
    → AllByRecursion IsLegibleElement (flat_map (λ (unit : Unit). element_rows_from unit.id 1 unit.values.texts) us)
elements_legible [] h = tt
elements_legible (u ∷ us) h =
    let rows : Unit → List ElementRow = λ unit. element_rows_from unit.id 1 unit.values.texts in
    subst (AllByRecursion IsLegibleElement) (sym (flat_map-cons rows u us))
    (joined IsLegibleElement (rows u) (flat_map rows us) (texts_legible u.id 1 u.values.texts h.0.values.texts) (elements_legible us h.1))

boxes_legible : (n : ℕ) (boxes : List BoxKey) → AllByRecursion IsLegibleBox boxes
    → AllByRecursion IsLegibleContainerRow (rows_from container_row n boxes)
boxes_legible n [] h = tt
boxes_legible n (box ∷ boxes) h =
    (record { name = h.0.name; location = h.0.location; kind = h.0.kind }, boxes_legible (suc n) boxes h.1)

readers_legible : (n : ℕ) (readers : List Reader) → AllByRecursion (λ (reader : Reader). IsUtf8 reader.name) readers
    → AllByRecursion (λ (row : ReaderRow). IsUtf8 row.name) (rows_from reader_row n readers)
readers_legible n [] h = tt
readers_legible n (reader ∷ readers) h = (h.0, readers_legible (suc n) readers h.1)

pub tables_legible : (version : Version) (s : State) → AreTexts s → AreLegibleRows (tables version s)
tables_legible version s h = record {
  country = h.country;
  repo = h.repo;
  units = units_legible (nodes s.catalogue.forest) h.catalogue.units;
  elements = elements_legible (nodes s.catalogue.forest) h.catalogue.units;
  containers = boxes_legible 1 s.catalogue.containers h.catalogue.containers;
  readers = readers_legible 1 s.readers h.readers;
}
