-- After an import each unit is a good one: those that were there, with old or new values, and those that come.
use Rattle.std.proofs.Common.{◌≡◌, ◌≤◌, Bool, true, false, cond, ◌||◌, List, [], ◌∷◌, ◌++◌, length, Option, Some, None}
use Rattle.std.proofs.Common.{refl, sym, ap, ◌∙◌}
use Rattle.isad_core.proofs.BoxLemmas.{same_sym}
use Rattle.catalogue_core.proofs.Common.{AllByRecursion, BoxKey, Bytes, IsGoodRow, IsGoodUnit, New, Row, Unit, Values}
use Rattle.catalogue_core.proofs.Common.{and_from, and_parts, bytes_eq, distinct, find, flat_map, has_legacy}
use Rattle.catalogue_core.proofs.Common.{is_good_text, is_same_box, is_source, list_all, list_any, list_any-append}
use Rattle.catalogue_core.proofs.Common.{merged_boxes, most_bytes, new_unit, option_map, or_left, or_right, revised}
use Rattle.catalogue_core.proofs.Common.{unwrap_or}
use Rattle.catalogue_core.proofs.EachOf.{all_and, all_of_found}
use Rattle.catalogue_core.proofs.ImportedAgain.{box_itself, stands_box, still_stands}

-- ---- containers that are known

-- the container is one of these
abbrev pub is_known_box : List BoxKey → BoxKey → Bool
is_known_box boxes box = list_any (is_same_box box) boxes

known_stands : (box : BoxKey) (boxes : List BoxKey) → is_known_box boxes box ≡ stands_box box boxes
known_stands box [] = refl
known_stands box (b ∷ boxes) = ap (λ t. t || is_known_box boxes box) (same_sym box b) ∙ ap (λ t. is_same_box b box || t) (known_stands box boxes)

known_once : (box : BoxKey) (boxes : List BoxKey) → is_known_box (distinct boxes) box ≡ is_known_box boxes box
known_once box boxes = known_stands box (distinct boxes) ∙ (still_stands box boxes ∙ sym (known_stands box boxes))

known_before : (rows : List Row) (boxes : List BoxKey) (box : BoxKey) → is_known_box boxes box ≡ true
    → is_known_box (merged_boxes rows boxes) box ≡ true
known_before rows boxes box h =
    let told = flat_map (λ (row : Row). row.values.boxes) rows in
    known_once box (boxes ++ told) ∙ (list_any-append (is_same_box box) boxes told ∙ or_left (is_known_box boxes box) (is_known_box told box) h)

known_now : (rows : List Row) (boxes : List BoxKey) (box : BoxKey)
    → is_known_box (flat_map (λ (row : Row). row.values.boxes) rows) box ≡ true
    → is_known_box (merged_boxes rows boxes) box ≡ true
known_now rows boxes box h =
    let told = flat_map (λ (row : Row). row.values.boxes) rows in
    known_once box (boxes ++ told) ∙ (list_any-append (is_same_box box) boxes told ∙ or_right (is_known_box boxes box) (is_known_box told box) h)

all_known_so : (xs ys bs : List BoxKey) → ((b : BoxKey) → is_known_box xs b ≡ true → is_known_box ys b ≡ true)
    → list_all (is_known_box xs) bs ≡ true → list_all (is_known_box ys) bs ≡ true
all_known_so xs ys [] f h = refl
all_known_so xs ys (b ∷ bs) f h =
    let r = and_parts (is_known_box xs b) (list_all (is_known_box xs) bs) h in
    and_from (is_known_box ys b) (list_all (is_known_box ys) bs) (f b r.0) (all_known_so xs ys bs f r.1)

all_among : (ys bs : List BoxKey) → ((b : BoxKey) → is_known_box bs b ≡ true → is_known_box ys b ≡ true)
    → list_all (is_known_box ys) bs ≡ true
all_among ys [] f = refl
all_among ys (b ∷ bs) f =
    and_from (is_known_box ys b) (list_all (is_known_box ys) bs) (f b (or_left (is_same_box b b) (is_known_box bs b) (box_itself b)))
    (all_among ys bs (λ c h. f c (or_right (is_same_box c b) (is_known_box bs c) h)))

rows_among : (ys : List BoxKey) (rows : List Row)
    → ((b : BoxKey) → is_known_box (flat_map (λ (row : Row). row.values.boxes) rows) b ≡ true → is_known_box ys b ≡ true)
    → AllByRecursion (λ (row : Row). list_all (is_known_box ys) row.values.boxes ≡ true) rows
rows_among ys [] f = tt
rows_among ys (row ∷ rows) f =
    let later = flat_map (λ (row : Row). row.values.boxes) rows in (
      all_among ys row.values.boxes (λ b h. f b (list_any-append (is_same_box b) row.values.boxes later ∙ or_left (is_known_box row.values.boxes b) (is_known_box later b) h)),
      rows_among ys rows (λ b h. f b (list_any-append (is_same_box b) row.values.boxes later ∙ or_right (is_known_box row.values.boxes b) (is_known_box later b) h)),
    )

-- ---- values

-- what values of a unit have to be, where these are the containers
pub record AreGoodValues (boxes : List BoxKey) (values : Values) : Type 0 where
  pub level_short : length values.level ≤ most_bytes
  pub texts : list_all is_good_text values.texts ≡ true
  pub texts_count : length values.texts ≡ 25
  pub known : list_all (is_known_box boxes) values.boxes ≡ true
  pub apart : distinct values.boxes ≡ values.boxes

told_values : (boxes : List BoxKey) (row : Row) → IsGoodRow row → list_all (is_known_box boxes) row.values.boxes ≡ true
    → AreGoodValues boxes row.values
told_values boxes row g k =
    record { level_short = g.level_short; texts = g.texts; texts_count = g.texts_count; known = k; apart = g.apart }

-- those of each row of a file
pub all_told : (rows : List Row) (boxes : List BoxKey) → AllByRecursion IsGoodRow rows
    → AllByRecursion (λ row. AreGoodValues (merged_boxes rows boxes) row.values) rows
all_told rows boxes g =
    all_and IsGoodRow (λ row. list_all (is_known_box (merged_boxes rows boxes)) row.values.boxes ≡ true) (λ row. AreGoodValues (merged_boxes rows boxes) row.values)
    (told_values (merged_boxes rows boxes)) rows g (rows_among (merged_boxes rows boxes) rows (known_now rows boxes))

-- ---- units

with_values : (boxes after : List BoxKey) (unit : Unit) (values : Values) → IsGoodUnit boxes unit
    → AreGoodValues after values → IsGoodUnit after (record unit { values = values })
with_values boxes after unit values g v =
    record {
      source = g.source;
      legacy = g.legacy;
      legacy_short = g.legacy_short;
      level_short = v.level_short;
      texts = v.texts;
      texts_count = v.texts_count;
      known = v.known;
      apart = v.apart;
    }

own_values : (rows : List Row) (boxes : List BoxKey) (unit : Unit) → IsGoodUnit boxes unit
    → AreGoodValues (merged_boxes rows boxes) unit.values
own_values rows boxes unit g =
    record {
      level_short = g.level_short;
      texts = g.texts;
      texts_count = g.texts_count;
      known = all_known_so boxes (merged_boxes rows boxes) unit.values.boxes (known_before rows boxes) g.known;
      apart = g.apart;
    }

-- a unit that was there, with the values of its row or its own
pub good_revised : (source : Bytes) (rows : List Row) (boxes : List BoxKey) (unit : Unit)
    → AllByRecursion (λ row. AreGoodValues (merged_boxes rows boxes) row.values) rows → IsGoodUnit boxes unit
    → IsGoodUnit (merged_boxes rows boxes) (revised source rows unit)
good_revised source rows boxes unit v g = at (bytes_eq unit.source source)
  where
    after : List BoxKey
    after = merged_boxes rows boxes

    found : (r : Option Row) → find (has_legacy unit.legacy) rows ≡ r
        → AreGoodValues after (unwrap_or (option_map (λ row. row.values) r) unit.values)
    found None e = own_values rows boxes unit g
    found (Some row) e = all_of_found (λ row. AreGoodValues after row.values) (has_legacy unit.legacy) rows row e v

    at : (b : Bool)
        → IsGoodUnit after (cond b (record unit { values = unwrap_or (option_map (λ row. row.values) (find (has_legacy unit.legacy) rows)) unit.values }) unit)
    at true = with_values boxes after unit (unwrap_or (option_map (λ row. row.values) (find (has_legacy unit.legacy) rows)) unit.values) g (found (find (has_legacy unit.legacy) rows) refl)
    at false = with_values boxes after unit unit.values g (own_values rows boxes unit g)

-- the unit of a row
pub good_new : (source : Bytes) (boxes : List BoxKey) (new : New) → is_source source ≡ true → IsGoodRow new.row
    → AreGoodValues boxes new.row.values → IsGoodUnit boxes (new_unit source new)
good_new source boxes new s g v =
    record {
      source = s;
      legacy = g.legacy;
      legacy_short = g.legacy_short;
      level_short = v.level_short;
      texts = v.texts;
      texts_count = v.texts_count;
      known = v.known;
      apart = v.apart;
    }
