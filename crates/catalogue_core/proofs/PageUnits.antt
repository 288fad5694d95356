-- What stands on a page is told of units of its path, and its containers are those that the unit lies in.
use Rattle.std.proofs.Common.{◌≡◌, ℕ, ℤ, Bool, true, false, cond, ◌||◌, List, [], ◌∷◌, ◌++◌, map, Option, Some, None}
use Rattle.std.proofs.Common.{refl, sym, ap, ap₂, ◌∙◌, subst, inl, inr, ◌⊎◌, append_assoc}
use Rattle.std.proofs.lemmas.Option.{same_Some}
use Rattle.std.specs.Prelude.{not}
use Rattle.isad_core.specs.declared.element.Element.{Element}
use Rattle.catalogue_core.proofs.Common.{AllByRecursion, AreToldOn, BoxIsTold, BoxKey, Bytes, Coded, Empty, Forest}
use Rattle.catalogue_core.proofs.Common.{LineIsTold, Node, Page, PageBox, PageLine, PagesTellTheHousing, Press}
use Rattle.catalogue_core.proofs.Common.{PublicUnit, Repository, StandsIn, Stub, Told, Unit, Values, before_last}
use Rattle.catalogue_core.proofs.Common.{box_number, boxes_on_page, boxes_or, cases_Bool, code_of, coded_below}
use Rattle.catalogue_core.proofs.Common.{cons_option, false≢true, filter_map, has, has_id, has_public_number}
use Rattle.catalogue_core.proofs.Common.{housed_below, identifier_of, is_told, is_unit_closed, line_elements, list_any}
use Rattle.catalogue_core.proofs.Common.{map-append, nearest_boxes, nearest_value, number_and_name, numbered_boxes}
use Rattle.catalogue_core.proofs.Common.{or_parts, own_or, page_at, page_boxes, page_line, page_of, path, public_of}
use Rattle.catalogue_core.proofs.Common.{public_unit, text_of, with_codes}
use Rattle.catalogue_core.proofs.EachOf.{all_append}
use Rattle.catalogue_core.proofs.OneRule.{public_is}
use Rattle.catalogue_core.proofs.PublishedUnits.{before_last-push}
use Rattle.catalogue_core.proofs.PublicPaths.{IsTold, stand, nowhere, known_of, told_above, known_path}

-- ---- options

pub by_option : {X : Type 0} (o : Option X) → (o ≡ None) ⊎ ((x : X) × (o ≡ Some x))
by_option None = inl refl
by_option (Some x) = inr (x, refl)

pub all_made : {X Y : Type 0} (P : Y → Type 0) (f : X → Option Y) → ((x : X) (y : Y) → f x ≡ Some y → P y)
    → (xs : List X) → AllByRecursion P (filter_map f xs)
all_made P f h [] = tt
all_made P f h (x ∷ xs) = at (f x) (h x) (all_made P f h xs)
  where
    at : (o : Option _) → ((y : _) → o ≡ Some y → P y) → AllByRecursion P (filter_map f xs)
        → AllByRecursion P (cons_option o (filter_map f xs))
    at None k rest = rest
    at (Some y) k rest = (k y refl, rest)

-- ---- the units of a path, the lowest first, each at its place

pub record AtPlace (at : Repository) (way below : List PublicUnit) (unit : Coded) : Type 0 where
  pub above : List PublicUnit
  pub id : ℕ
  pub stands : way ≡ above ++ Told id unit.values ∷ below
  pub code : unit.code ≡ code_of at.country at.repo (map identifier_of (above ++ Told id unit.values ∷ []))

abbrev IsHigher : Repository → List PublicUnit → Coded → Type 0
IsHigher at way unit = (next : PublicUnit) × (below : List PublicUnit) × AtPlace at way (next ∷ below) unit

record AreCoded (at : Repository) (way : List PublicUnit) (units : List Coded) : Type 0 where
  head : Coded
  higher : List Coded
  are : units ≡ head ∷ higher
  own : AtPlace at way [] head
  theirs : AllByRecursion (IsHigher at way) higher

coded_on : (press : Press) (full pre : List PublicUnit) (higher : List Coded) (unit : PublicUnit) (way : List PublicUnit)
    → full ≡ pre ++ unit ∷ way → AllByRecursion IsTold (unit ∷ way) → AllByRecursion (IsHigher press.at full) higher
    → AreCoded press.at full (coded_below press (map identifier_of pre) higher (unit ∷ way))
coded_on press full pre higher (Stub id identifier level until) way e t h = absurd (false≢true t.0)
coded_on press full pre higher (Told id values) [] e t h =
    record {
      head = record { code = code_of press.at.country press.at.repo (map identifier_of pre ++ identifier_of (Told id values) ∷ []); values = values };
      higher = higher;
      are = refl;
      own = record { above = pre; id = id; stands = e; code = ap (code_of press.at.country press.at.repo) (sym (map-append identifier_of pre (Told id values ∷ []))) };
      theirs = h;
    }
coded_on press full pre higher (Told id values) (next ∷ way) e t h =
    let unit : Coded = record { code = code_of press.at.country press.at.repo (map identifier_of pre ++ identifier_of (Told id values) ∷ []); values = values } in
    let its : AtPlace press.at full (next ∷ way) unit =
    record { above = pre; id = id; stands = e; code = ap (code_of press.at.country press.at.repo) (sym (map-append identifier_of pre (Told id values ∷ []))) } in
    subst (λ ids. AreCoded press.at full (coded_below press ids (unit ∷ higher) (next ∷ way))) (map-append identifier_of pre (Told id values ∷ []))
    (coded_on press full (pre ++ Told id values ∷ []) (unit ∷ higher) next way (e ∙ sym (append_assoc pre (Told id values ∷ []) (next ∷ way))) t.1 ((next, way, its), h))

coded_way : (press : Press) (above : List PublicUnit) (unit : PublicUnit) → AllByRecursion IsTold above → IsTold unit
    → AreCoded press.at (above ++ unit ∷ []) (with_codes press (above ++ unit ∷ []))
coded_way press [] unit a t = coded_on press (unit ∷ []) [] [] unit [] refl (t, tt) tt
coded_way press (top ∷ above) unit a t =
    coded_on press (top ∷ (above ++ unit ∷ [])) [] [] top (above ++ unit ∷ []) refl (a.0, all_append IsTold above (unit ∷ []) a.1 (t, tt)) tt

-- ---- lines and containers

own_told : (at : Repository) (way : List PublicUnit) (unit : Coded) → AtPlace at way [] unit
    → AreToldOn at way None unit.values
own_told at way unit p = record { above = p.above; id = p.id; below = []; stands = p.stands; named = refl }

higher_told : (at : Repository) (way : List PublicUnit) (unit : Coded) → IsHigher at way unit
    → AreToldOn at way (Some unit.code) unit.values
higher_told at way unit h = let p = h.2 in record { above = p.above; id = p.id; below = h.0 ∷ h.1; stands = p.stands; named = ap Some p.code }

nearest_told : (at : Repository) (way : List PublicUnit) (element : Element) (units : List Coded)
    → AllByRecursion (IsHigher at way) units → (line : PageLine) → nearest_value element units ≡ Some line
    → LineIsTold at way line
nearest_told at way element [] h line e = absurd (cc)
nearest_told at way element (unit ∷ units) h line e = elim (by_option (text_of element unit.values)) [
  | inl n ↦ nearest_told at way element units h.1 line (rw n at e)
  | inr s ↦
      let is = s.1 in
      let k : Some (element, s.0, Some unit.code) ≡ Some line = rw is at e in
      subst (LineIsTold at way) (same_Some (element, s.0, Some unit.code) line k) (record { values = unit.values; of_unit = higher_told at way unit h.0; text = is })
]

line_told : (at : Repository) (way : List PublicUnit) (head : Coded) (higher : List Coded) → AtPlace at way [] head
    → AllByRecursion (IsHigher at way) higher → (element : Element) (line : PageLine)
    → page_line (head ∷ higher) element ≡ Some line → LineIsTold at way line
line_told at way head higher p h element line e = elim (by_option (text_of element head.values)) [
  | inl n ↦ found (Rattle.isad_core.specs.Elements.is_found_above element) (rw n at e)
  | inr s ↦
      let is = s.1 in
      let k : Some (element, s.0, None) ≡ Some line = rw is at e in
      subst (LineIsTold at way) (same_Some (element, s.0, None) line k) (record { values = head.values; of_unit = own_told at way head p; text = is })
]
  where
    found : (b : Bool) → cond b (nearest_value element higher) None ≡ Some line → LineIsTold at way line
    found true k = nearest_told at way element higher h line k
    found false k = absurd (cc)

boxes_told_on : (press : Press) (way : List PublicUnit) (from : Option Bytes) (values : Values)
    → AreToldOn press.at way from values → (boxes : List BoxKey)
    → ((box : BoxKey) → StandsIn box boxes → StandsIn box values.boxes)
    → AllByRecursion (BoxIsTold press way) (page_boxes press from boxes)
boxes_told_on press way from values p [] f = tt
boxes_told_on press way from values p (box ∷ boxes) f =
    (record { values = values; of_unit = p; box = box; stands = f box (inl refl); is = (refl, refl) }, boxes_told_on press way from values p boxes (λ b h. f b (inr h)))

or_told : (press : Press) (way : List PublicUnit) (from : Option Bytes) (values : Values)
    → AreToldOn press.at way from values → (boxes : List BoxKey)
    → ((box : BoxKey) → StandsIn box boxes → StandsIn box values.boxes) → (further : List PageBox)
    → AllByRecursion (BoxIsTold press way) further
    → AllByRecursion (BoxIsTold press way) (boxes_or press from boxes further)
or_told press way from values p [] f further h = h
or_told press way from values p (box ∷ boxes) f further h = boxes_told_on press way from values p (box ∷ boxes) f

nearest_boxes_told : (press : Press) (way : List PublicUnit) (units : List Coded)
    → AllByRecursion (IsHigher press.at way) units → AllByRecursion (BoxIsTold press way) (nearest_boxes press units)
nearest_boxes_told press way [] h = tt
nearest_boxes_told press way (unit ∷ units) h =
    or_told press way (Some unit.code) unit.values (higher_told press.at way unit h.0) unit.values.boxes (λ b k. k) (nearest_boxes press units) (nearest_boxes_told press way units h.1)

-- ---- the page

abbrev pub AreTold : Press → List PublicUnit → Page → Type 0
AreTold press way shown =
    AllByRecursion (LineIsTold press.at way) shown.lines × AllByRecursion (BoxIsTold press way) shown.boxes

page_at_told : (press : Press) (above : List PublicUnit) (unit : PublicUnit) (below : Forest PublicUnit) (shown : Page)
    → AllByRecursion IsTold above → page_at press (above ++ unit ∷ []) (Node unit below Empty) ≡ Some shown
    → AreTold press (above ++ unit ∷ []) shown
page_at_told press above (Stub id identifier level until) below shown a e =
    subst (AreTold press (above ++ Stub id identifier level until ∷ [])) (same_Some _ shown e) (tt, tt)
page_at_told press above (Told id values) below shown a e =
    let way : List PublicUnit = above ++ Told id values ∷ [] in
    let it = coded_way press above (Told id values) a refl in
    let lines = subst (λ units. AllByRecursion (LineIsTold press.at way) (filter_map (page_line units) line_elements)) (sym it.are) (all_made (LineIsTold press.at way) (page_line (it.head ∷ it.higher)) (line_told press.at way it.head it.higher it.own it.theirs) line_elements) in
    let boxes = subst (λ units. AllByRecursion (BoxIsTold press way) (boxes_on_page press units)) (sym it.are) (or_told press way None it.head.values (own_told press.at way it.head it.own) it.head.values.boxes (λ b k. k) (nearest_boxes press it.higher) (nearest_boxes_told press way it.higher it.theirs)) in
    subst (AreTold press way) (same_Some _ shown e) (lines, boxes)

pub there_where_shown : (press : Press) (u : ℕ) (f : Forest PublicUnit) (shown : Page) → page_of press u f ≡ Some shown
    → has (has_public_number u) f ≡ true
there_where_shown press u f shown e = elim (cases_Bool (has (has_public_number u) f)) [
  | inl y ↦ y
  | inr n ↦ let empty = nowhere (has_public_number u) f n in absurd (let k : None ≡ Some shown = sym (ap (page_at press (path (has_public_number u) f)) empty) ∙ e in cc)
]

pub page_told : (press : Press) (day : ℤ) (f : Forest Unit) (u : ℕ) (shown : Page)
    → page_of press u (public_of day f) ≡ Some shown → AreTold press (path (has_public_number u) (public_of day f)) shown
page_told press day f u shown e =
    let it = stand (has_public_number u) (public_of day f) (there_where_shown press u (public_of day f) shown e) in
    let above : AllByRecursion IsTold it.above =
    subst (AllByRecursion IsTold) (ap before_last it.way ∙ before_last-push it.above it.unit) (told_above day (has_public_number u) f) in
    let k : page_at press (it.above ++ it.unit ∷ []) (Node it.unit it.below Empty) ≡ Some shown =
    sym (ap₂ (page_at press) it.way it.alone) ∙ e in
    subst (λ way. AreTold press way shown) (sym it.way) (page_at_told press it.above it.unit it.below shown above k)

-- ---- the containers that a unit lies in

-- those of the nearest unit that has some
near : List Coded → List BoxKey
near [] = []
near (unit ∷ units) = own_or unit.values.boxes (near units)

bare_boxes : (press : Press) (from : Option Bytes) (boxes : List BoxKey)
    → map number_and_name (page_boxes press from boxes) ≡ numbered_boxes (box_number press.containers) boxes
bare_boxes press from [] = refl
bare_boxes press from (box ∷ boxes) =
    ap (λ l. (box_number press.containers box, box.name) ∷ l) (bare_boxes press from boxes)

bare_or : (press : Press) (from : Option Bytes) (boxes above : List BoxKey) (further : List PageBox)
    → map number_and_name further ≡ numbered_boxes (box_number press.containers) above
    → map number_and_name (boxes_or press from boxes further) ≡ numbered_boxes (box_number press.containers) (own_or boxes above)
bare_or press from [] above further e = e
bare_or press from (box ∷ boxes) above further e = bare_boxes press from (box ∷ boxes)

bare_nearest : (press : Press) (units : List Coded)
    → map number_and_name (nearest_boxes press units) ≡ numbered_boxes (box_number press.containers) (near units)
unfolding near
bare_nearest press [] = refl
bare_nearest press (unit ∷ units) =
    bare_or press (Some unit.code) unit.values.boxes (near units) (nearest_boxes press units) (bare_nearest press units)

bare_page : (press : Press) (units : List Coded)
    → map number_and_name (boxes_on_page press units) ≡ numbered_boxes (box_number press.containers) (near units)
unfolding near
bare_page press [] = refl
bare_page press (unit ∷ units) =
    bare_or press None unit.values.boxes (near units) (nearest_boxes press units) (bare_nearest press units)

open_known : (day : ℤ) (unit : Unit) → is_unit_closed day unit ≡ false → known_of day unit ≡ Told unit.id unit.values
open_known day unit k = ap (λ b. public_unit (unit, b)) k

near_housed : (press : Press) (day : ℤ) (ids : List Bytes) (higher : List Coded) (way : List Unit)
    → list_any (is_unit_closed day) way ≡ false
    → near (coded_below press ids higher (map (known_of day) way)) ≡ housed_below (near higher) way
unfolding near
near_housed press day ids higher [] h = refl
near_housed press day ids higher (unit ∷ way) h =
    let none = or_parts (is_unit_closed day unit) (list_any (is_unit_closed day) way) h in
    let told : PublicUnit = Told unit.id unit.values in
    let coded_unit : Coded =
    record { code = code_of press.at.country press.at.repo (ids ++ identifier_of told ∷ []); values = unit.values } in
    ap (λ x. near (coded_below press ids higher (x ∷ map (known_of day) way))) (open_known day unit none.0)
    ∙ near_housed press day (ids ++ identifier_of told ∷ []) (coded_unit ∷ higher) way none.1

boxes_of_page : (press : Press) (way : List PublicUnit) (unit : PublicUnit) (below : Forest PublicUnit) (shown : Page)
    → IsTold unit → page_at press way (Node unit below Empty) ≡ Some shown
    → shown.boxes ≡ boxes_on_page press (with_codes press way)
boxes_of_page press way (Stub id identifier level until) below shown t e = absurd (false≢true t)
boxes_of_page press way (Told id values) below shown t e = sym (ap (λ (p : Page). p.boxes) (same_Some _ shown e))

-- the last of a path that is open is told
last_told : (day : ℤ) (way : List Unit) (above : List PublicUnit) (unit : PublicUnit)
    → list_any (is_unit_closed day) way ≡ false → map (known_of day) way ≡ above ++ unit ∷ [] → IsTold unit
last_told day [] [] unit h e = absurd (let k : [] ≡ unit ∷ [] = e in cc)
last_told day [] (x ∷ above) unit h e = absurd (cc)
last_told day (u ∷ way) [] unit h e =
    let none = or_parts (is_unit_closed day u) (list_any (is_unit_closed day) way) h in
    let k : known_of day u ≡ unit = cc in
    ap is_told (sym k) ∙ ap is_told (open_known day u none.0)
last_told day (u ∷ way) (x ∷ above) unit h e =
    let none = or_parts (is_unit_closed day u) (list_any (is_unit_closed day) way) h in
    last_told day way above unit none.1 (let k : map (known_of day) way ≡ above ++ unit ∷ [] = cc in k)

pub pages_tell_the_housing : PagesTellTheHousing
unfolding near
pages_tell_the_housing press day f u shown d e p =
    let there = there_where_shown press u (public_of day f) shown e in
    let it = stand (has_public_number u) (public_of day f) there in
    let way = known_path day u f d there in
    let shut : (list_any (λ (unit : Unit). unit.draft) (path (has_id u) f) || list_any (is_unit_closed day) (path (has_id u) f)) ≡ false =
    not_so _ (sym (public_is day (path (has_id u) f)) ∙ p) in
    let none = (or_parts (list_any (λ (unit : Unit). unit.draft) (path (has_id u) f)) (list_any (is_unit_closed day) (path (has_id u) f)) shut).1 in
    let told = last_told day (path (has_id u) f) it.above it.unit none (sym way ∙ it.way) in
    let k : page_at press (path (has_public_number u) (public_of day f)) (Node it.unit it.below Empty) ≡ Some shown =
    sym (ap (page_at press (path (has_public_number u) (public_of day f))) it.alone) ∙ e in
    ap (map number_and_name) (boxes_of_page press (path (has_public_number u) (public_of day f)) it.unit it.below shown told k)
    ∙ (bare_page press (with_codes press (path (has_public_number u) (public_of day f)))
    ∙ ap (numbered_boxes (box_number press.containers)) (ap (λ l. near (with_codes press l)) way ∙ near_housed press day [] [] (path (has_id u) f) none))
  where
    not_so : (b : Bool) → not b ≡ true → b ≡ false
    not_so true e = absurd (false≢true e)
    not_so false e = refl
