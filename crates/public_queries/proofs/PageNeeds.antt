-- What is read of the units of a path is that of each by its mark, and all that the page of the last needs.
use Rattle.std.proofs.Common.{◌≡◌, ℕ, zero, suc, ◌+◌, ◌<◌, ◌≤◌, true, false, cond, List, [], ◌∷◌, ◌++◌, length, take}
use Rattle.std.proofs.Common.{drop, get_or, slice_get, Option, Some, None, refl, sym, ap, ap₂, ◌∙◌, arith}
use Rattle.std.specs.List.{find}
use Rattle.std.specs.Prelude.{map, ◌||◌, ◌==◌}
use Rattle.isad_core.specs.Elements.{is_found_above}
use Rattle.isad_core.specs.Values.{text_at_place, text_of, text_place}
use Rattle.isad_core.specs.declared.element.Element.{Element}
use Rattle.isad_core.specs.declared.display.Page.{Page}
use Rattle.isad_core.specs.declared.values.Values.{Values}
use Rattle.catalogue_core.specs.ContainerContents.{is_some_there}
use Rattle.catalogue_core.specs.Pages.{Coded}
use Rattle.catalogue_store.specs.UnitValues.{no_values, values_or_none}
use Rattle.public_queries.specs.PageNeeds.{are_boxed, level_needed}
use Rattle.public_queries.specs.PathValues.{on_path}
use Rattle.public_queries.proofs.Common.{AllByRecursion, AreMarks, BoxKey, Bytes, Catalogue, IsMarked, IsTellable}
use Rattle.public_queries.proofs.Common.{Mark, OnPath, PageBox, Repository, Shown, Unit, all_needed, box_number}
use Rattle.public_queries.proofs.Common.{coded_of, coded_way, eqb-true, filter_map, has_id, housed_lines, identifier}
use Rattle.public_queries.proofs.Common.{identifiers_of, line_elements, lines_or, nearest_lines, nearest_value, nodes}
use Rattle.public_queries.proofs.Common.{option_map, page, page_line, told_head, told_text, unit_values, unwrap_or}
use Rattle.public_queries.proofs.Common.{values_needed, ⊤}
use Rattle.public_queries.proofs.MarkedPaths.{boxed_same, first_and_others, id_same, no_marks, no_units}

-- ---- one unit after another

-- the values that are found by the number of a unit
pub values_there : (n : ℕ) (c : Catalogue) (u : Unit) → find (has_id n) (nodes c.forest) ≡ Some u
    → values_or_none n c ≡ u.values
values_there n c u is = ap (λ (found : Option Unit). unwrap_or (option_map (λ (u : Unit). u.values) found) no_values) is

-- the level is read of the last alone
pub of_last : (below : List Mark) (u : Unit) → (length below == 0) ≡ true → level_needed below u ≡ u.values.level
of_last [] u e = refl
of_last (m ∷ below) u e = absurd (omega (arith, eqb-true (length (m ∷ below)) 0 e))

pub of_others : (below : List Mark) (u : Unit) → (length below == 0) ≡ false → level_needed below u ≡ []
of_others [] u e = absurd (let clash : true ≡ false = e in cc)
of_others (m ∷ below) u e = refl

-- the mark at an index is that of a unit, of which is read what the page needs
pub record MarkedAt (c : Catalogue) (ms : List Mark) (us : List Unit) (i : ℕ) (m : Mark) : Type 0 where
  pub unit : Unit
  pub marked : IsMarked c m unit
  pub next : take (i + 1) (all_needed c.containers ms us) ≡ take i (all_needed c.containers ms us) ++ values_needed c.containers (drop (i + 1) ms) unit ∷ []

pub marked_at : (c : Catalogue) → IsTellable c → (ms : List Mark) (us : List Unit) (i : ℕ) (m : Mark) → i < length ms
    → m ≡ get_or ms i m → AllByRecursion (λ (u : Unit). find (has_id u.id) (nodes c.forest) ≡ Some u) us
    → AreMarks us ms → MarkedAt c ms us i m
marked_at c tellable [] us i m within is found are = absurd (omega (arith, within))
marked_at c tellable (x ∷ ms) [] i m within is found are = no_units x ms are
marked_at c tellable (x ∷ ms) (u ∷ us) zero m within is found are =
    let first = (first_and_others x ms u us are).0 in
    record {
      unit = u;
      marked = record {
        tellable = tellable;
        found = ap (λ n. find (has_id n) (nodes c.forest)) (ap (λ (k : Mark). k.id) is ∙ id_same x u first) ∙ found.0;
        boxed = ap (λ (k : Mark). k.boxed) is ∙ boxed_same x u first;
      };
      next = refl;
    }
marked_at c tellable (x ∷ ms) (u ∷ us) (suc i) m within is found are =
    let it = marked_at c tellable ms us i m (omega (arith, within)) is found.1 (first_and_others x ms u us are).1 in
    let all = all_needed c.containers (x ∷ ms) (u ∷ us) in
    let one : suc i + 1 ≡ suc (i + 1) = omega arith in
    record {
      unit = it.unit;
      marked = it.marked;
      next = ap (λ n. take n all) one
          ∙ ap (λ l. values_needed c.containers ms u ∷ l) it.next
          ∙ ap (λ n. take (suc i) all ++ values_needed c.containers (drop n (x ∷ ms)) it.unit ∷ []) (sym one);
    }

pub no_more : (boxes : List BoxKey) (ms : List Mark) (us : List Unit) → length (all_needed boxes ms us) ≤ length ms
no_more boxes [] us = omega arith
no_more boxes (m ∷ ms) [] = omega arith
no_more boxes (m ∷ ms) (u ∷ us) = omega (arith, no_more boxes ms us)

pub same_needed_identifiers : (boxes : List BoxKey) (ms : List Mark) (us : List Unit) → AreMarks us ms
    → identifiers_of (all_needed boxes ms us) ≡ identifiers_of (map (unit_values boxes) us)
same_needed_identifiers boxes [] [] are = refl
same_needed_identifiers boxes [] (u ∷ us) are = no_marks u us are
same_needed_identifiers boxes (m ∷ ms) [] are = no_units m ms are
same_needed_identifiers boxes (m ∷ ms) (u ∷ us) are =
    ap (λ l. identifier u.values ∷ l) (same_needed_identifiers boxes ms us (first_and_others m ms u us are).1)

-- ---- lines of elements depend on the texts alone

-- units with the same codes and texts
abbrev pub AreAlike : List OnPath → List OnPath → Type 0
AreAlike [] [] = ⊤
AreAlike [] (y ∷ ys) = ⊥
AreAlike (x ∷ xs) [] = ⊥
AreAlike (x ∷ xs) (y ∷ ys) = (x.code ≡ y.code) × (x.unit.values.texts ≡ y.unit.values.texts) × AreAlike xs ys

text_same : (element : Element) (a b : Values) → a.texts ≡ b.texts → text_of element a ≡ text_of element b
text_same element a b e = at (text_place element)
  where
    at : (place : Option ℕ) → text_at_place place a ≡ text_at_place place b
    at None = refl
    at (Some i) = ap (λ (l : List (Option Bytes)). unwrap_or (slice_get l i) None) e

module _ (element : Element) where
  nearest_some : (unit : Coded) (higher : List Coded) (text : Bytes) → text_of element unit.values ≡ Some text
      → nearest_value element (unit ∷ higher) ≡ Some (element, text, Some unit.code)
  nearest_some unit higher text e = rw e refl

  nearest_none : (unit : Coded) (higher : List Coded) → text_of element unit.values ≡ None
      → nearest_value element (unit ∷ higher) ≡ nearest_value element higher
  nearest_none unit higher e = rw e refl

  line_some : (unit : Coded) (higher : List Coded) (text : Bytes) → text_of element unit.values ≡ Some text
      → page_line (unit ∷ higher) element ≡ Some (element, text, None)
  line_some unit higher text e = rw e refl

  line_none : (unit : Coded) (higher : List Coded) → text_of element unit.values ≡ None
      → page_line (unit ∷ higher) element ≡ cond (is_found_above element) (nearest_value element higher) None
  line_none unit higher e = rw e refl

  nearest_same : (xs ys : List OnPath) → AreAlike xs ys
      → nearest_value element (map coded_of xs) ≡ nearest_value element (map coded_of ys)
  nearest_same [] [] h = refl
  nearest_same [] (y ∷ ys) h = absurd h
  nearest_same (x ∷ xs) [] h = absurd h
  nearest_same (x ∷ xs) (y ∷ ys) h = at (text_of element y.unit.values) refl (nearest_same xs ys h.2)
    where
      at : (text : Option Bytes) → text_of element y.unit.values ≡ text
          → nearest_value element (map coded_of xs) ≡ nearest_value element (map coded_of ys)
          → nearest_value element (map coded_of (x ∷ xs)) ≡ nearest_value element (map coded_of (y ∷ ys))
      at None e further =
          nearest_none (coded_of x) (map coded_of xs) (text_same element x.unit.values y.unit.values h.1 ∙ e)
          ∙ further
          ∙ sym (nearest_none (coded_of y) (map coded_of ys) e)
      at (Some text) e further =
          nearest_some (coded_of x) (map coded_of xs) text (text_same element x.unit.values y.unit.values h.1 ∙ e)
          ∙ ap (λ code. Some (element, text, Some code)) h.0
          ∙ sym (nearest_some (coded_of y) (map coded_of ys) text e)

  line_same : (xs ys : List OnPath) → AreAlike xs ys
      → page_line (map coded_of xs) element ≡ page_line (map coded_of ys) element
  line_same [] [] h = refl
  line_same [] (y ∷ ys) h = absurd h
  line_same (x ∷ xs) [] h = absurd h
  line_same (x ∷ xs) (y ∷ ys) h = at (text_of element y.unit.values) refl
    where
      at : (text : Option Bytes) → text_of element y.unit.values ≡ text
          → page_line (map coded_of (x ∷ xs)) element ≡ page_line (map coded_of (y ∷ ys)) element
      at None e =
          line_none (coded_of x) (map coded_of xs) (text_same element x.unit.values y.unit.values h.1 ∙ e)
          ∙ ap (λ (line : Option (Element × Bytes × Option Bytes)). cond (is_found_above element) line None) (nearest_same xs ys h.2)
          ∙ sym (line_none (coded_of y) (map coded_of ys) e)
      at (Some text) e =
          line_some (coded_of x) (map coded_of xs) text (text_same element x.unit.values y.unit.values h.1 ∙ e)
          ∙ sym (line_some (coded_of y) (map coded_of ys) text e)

same_filter_map : {X Y : Type 0} (f g : X → Option Y) → ((x : X) → f x ≡ g x) → (xs : List X)
    → filter_map f xs ≡ filter_map g xs
same_filter_map f g same [] = refl
same_filter_map f g same (x ∷ xs) = rw (same x, same_filter_map f g same xs) refl

-- ---- the page

-- containers further up count only if there are none here
own_or : (from : Option Bytes) (numbers : List ℕ) (boxes : List BoxKey) (f g : List PageBox)
    → (is_some_there boxes ≡ false → f ≡ g) → lines_or from numbers boxes f ≡ lines_or from numbers boxes g
own_or from numbers [] f g same = same refl
own_or from numbers (box ∷ boxes) f g same = refl

module _ (at : Repository) (boxes : List BoxKey) (below : List (ℕ × Shown)) where
  -- each unit above has the same code and texts, and the same containers if none are found below
  along : (above : List Bytes) (xs ys : List OnPath) (m : Mark) (ms : List Mark) (u : Unit) (us : List Unit)
      → AreMarks (u ∷ us) (m ∷ ms) → AreAlike xs ys
      → (are_boxed (m ∷ ms) ≡ false → nearest_lines xs ≡ nearest_lines ys)
      → told_text (coded_way at above xs (all_needed boxes (m ∷ ms) (u ∷ us))) below
      ≡ told_text (coded_way at above ys (map (unit_values boxes) (u ∷ us))) below
  along above xs ys m [] u [] are alike higher =
      let x : OnPath = on_path at above (unit_values boxes u) in
      let own = boxed_same m u (first_and_others m [] u [] are).0 in
      let housed : housed_lines (x ∷ xs) ≡ housed_lines (x ∷ ys) =
      own_or None x.unit.containers u.values.boxes (nearest_lines xs) (nearest_lines ys) (λ none. higher (ap (λ b. b || false) (own ∙ none)))
      in
      let lines : filter_map (page_line (map coded_of (x ∷ xs))) line_elements ≡ filter_map (page_line (map coded_of (x ∷ ys))) line_elements =
      same_filter_map (page_line (map coded_of (x ∷ xs))) (page_line (map coded_of (x ∷ ys))) (λ element. line_same element (x ∷ xs) (x ∷ ys) (refl, refl, alike)) line_elements
      in
      ap (λ l. page (let p : Page = record { head = told_head x; lines = l; boxes = housed_lines (x ∷ xs); below = below } in p)) lines
      ∙ ap (λ l. page (let p : Page = record { head = told_head x; lines = filter_map (page_line (map coded_of (x ∷ ys))) line_elements; boxes = l; below = below } in p)) housed
  along above xs ys m [] u (v ∷ us) are alike higher = no_marks v us (first_and_others m [] u (v ∷ us) are).1
  along above xs ys m (n ∷ ms) u [] are alike higher = no_units n ms (first_and_others m (n ∷ ms) u [] are).1
  along above xs ys m (n ∷ ms) u (v ∷ us) are alike higher =
      let parts = first_and_others m (n ∷ ms) u (v ∷ us) are in
      let x : OnPath = on_path at above (values_needed boxes (n ∷ ms) u) in
      let y : OnPath = on_path at above (unit_values boxes u) in
      let own = boxed_same m u parts.0 in
      along (above ++ identifier u.values ∷ []) (x ∷ xs) (y ∷ ys) n ms v us parts.1 (refl, refl, alike)
      (λ none.
      ap (λ b. lines_or (Some y.code) (map (box_number boxes) (cond b [] u.values.boxes)) (cond b [] u.values.boxes) (nearest_lines xs)) none
      ∙ own_or (Some y.code) y.unit.containers u.values.boxes (nearest_lines xs) (nearest_lines ys) (λ mine. higher (ap₂ ◌||◌ (own ∙ mine) none)))

  pub enough_read : (ms : List Mark) (us : List Unit) → AreMarks us ms
      → told_text (coded_way at [] [] (all_needed boxes ms us)) below
      ≡ told_text (coded_way at [] [] (map (unit_values boxes) us)) below
  enough_read [] [] are = refl
  enough_read [] (u ∷ us) are = no_marks u us are
  enough_read (m ∷ ms) [] are = no_units m ms are
  enough_read (m ∷ ms) (u ∷ us) are = along [] [] [] m ms u us are tt (λ none. refl)
