-- Where units are published, or closures of units end, what was open stays open.
use Rattle.std.proofs.Common.{◌≡◌, ℕ, ℤ, Bool, true, false, cond, not, List, [], ◌∷◌, ◌++◌, filter, map, Some, None}
use Rattle.std.proofs.Common.{refl, sym, ap, ap₂, ◌∙◌}
use Rattle.std.specs.Prelude.{◌&&◌, ◌||◌}
use Rattle.desk_core.specs.declared.refusal.Refusal.TheVariants.{WithReader}
use Rattle.catalogue_core.specs.ContainerContents.{is_open}
use Rattle.office_core.specs.State.{State}
use Rattle.access.proofs.Common.{BoxKey, Empty, Forest, IsSoundOffice, Node, Unit, and_parts, any_agree, containers}
use Rattle.access.proofs.Common.{each, false≢true, first_that, gate, housed_below, is_kept_from_holder, is_permitted}
use Rattle.access.proofs.Common.{is_some_there, is_unit_closed, is_withheld_from, list_all, list_any, list_any-map}
use Rattle.access.proofs.Common.{map-append, option_map, own_or, paths_below}
use Rattle.access.proofs.BranchesApart.{in_it, lies, lying, neither}
use Rattle.access.proofs.OpenElsewhere.{still_open}

-- A change of units after which none is a draft that was published, and none is closed on the day that was not. Numbers
-- and containers stay.
pub record OnlyOpens (day : ℤ) (change : Unit → Unit) : Type 0 where
  pub ids : (unit : Unit) → (change unit).id ≡ unit.id
  pub boxes : (unit : Unit) → (change unit).values.boxes ≡ unit.values.boxes
  pub published : (unit : Unit) → unit.draft ≡ false → (change unit).draft ≡ false
  pub unclosed : (unit : Unit) → is_unit_closed day unit ≡ false → is_unit_closed day (change unit) ≡ false

none_first : {X : Type 0} (p : X → Bool) → ((x : X) → p x ≡ false) → (xs : List X) → first_that p xs ≡ None
none_first p never [] = refl
none_first p never (x ∷ xs) = ap (λ b. cond b (Some x) (first_that p xs)) (never x) ∙ none_first p never xs

none_after : (p : Unit → Bool) (change : Unit → Unit) → ((unit : Unit) → p unit ≡ false → p (change unit) ≡ false)
    → (way : List Unit) → list_any p way ≡ false → list_any p (map change way) ≡ false
none_after p change stays [] none = refl
none_after p change stays (unit ∷ way) none =
    let two = neither (p unit) (list_any p way) none in
    ap₂ ◌||◌ (stays unit two.0) (none_after p change stays way two.1)

-- by whether a draft is on a path, whether something closed is, and whether a permit is
permitted_past : (closed : Bool) → not (false || (closed && not (false || true))) ≡ true
permitted_past true = refl
permitted_past false = refl

less_withheld : (draft closed permit draft_after closed_after : Bool) → (draft ≡ false → draft_after ≡ false)
    → (closed ≡ false → closed_after ≡ false)
    → not (draft || (closed && not (false || permit))) ≡ true
    → not (draft_after || (closed_after && not (false || permit))) ≡ true
less_withheld true closed permit d c published unclosed seen = absurd (false≢true seen)
less_withheld false true false d c published unclosed seen = absurd (false≢true seen)
less_withheld false true true d c published unclosed seen = ap (λ b. not (b || (c && not (false || true)))) (published refl) ∙ permitted_past c
less_withheld false false permit d c published unclosed seen = ap₂ (λ a b. not (a || (b && not (false || permit)))) (published refl) (unclosed refl)

module _ (day : ℤ) (change : Unit → Unit) (opens : OnlyOpens day change) where
  housed_same : (above : List BoxKey) (way : List Unit) → housed_below above (map change way) ≡ housed_below above way
  housed_same above [] = refl
  housed_same above (unit ∷ way) =
      ap (λ boxes. housed_below (own_or boxes above) (map change way)) (opens.boxes unit)
      ∙ housed_same (own_or unit.values.boxes above) way

  paths_each : (above : List Unit) (f : Forest Unit)
      → paths_below (map change above) (each change f) ≡ map (map change) (paths_below above f)
  paths_each above Empty = refl
  paths_each above (Node unit c o) =
      let way = above ++ unit ∷ [] in
      let here : map change above ++ change unit ∷ [] ≡ map change way = sym (map-append change above (unit ∷ [])) in
      ap₂ (λ first rest. first ∷ rest) here
      (ap₂ ◌++◌ (ap (λ w. paths_below w (each change c)) here ∙ paths_each way c) (paths_each above o)
      ∙ sym (map-append (map change) (paths_below way c) (paths_below above o)))

  module _ (box : BoxKey) (permitted : ℕ → Bool) where
    abbrev seen : List Unit → Bool
    seen way = not (is_withheld_from permitted day way)

    lies_same : (way : List Unit) → lies box (map change way) ≡ lies box way
    lies_same way = ap (in_it box) (housed_same [] way)

    seen_after : (way : List Unit) → seen way ≡ true → seen (map change way) ≡ true
    seen_after way is =
        let permits : list_any (λ (unit : Unit). permitted unit.id) (map change way) ≡ list_any (λ (unit : Unit). permitted unit.id) way =
        list_any-map (λ (unit : Unit). permitted unit.id) change way
        ∙ any_agree (λ unit. permitted (change unit).id) (λ (unit : Unit). permitted unit.id) way (λ unit. ap permitted (opens.ids unit)) in
        ap (λ b. not (list_any (λ (unit : Unit). unit.draft) (map change way) || (list_any (is_unit_closed day) (map change way) && not (false || b)))) permits
        ∙ less_withheld (list_any (λ (unit : Unit). unit.draft) way) (list_any (is_unit_closed day) way) (list_any (λ (unit : Unit). permitted unit.id) way)
        (list_any (λ (unit : Unit). unit.draft) (map change way)) (list_any (is_unit_closed day) (map change way))
        (none_after (λ (unit : Unit). unit.draft) change opens.published way) (none_after (is_unit_closed day) change opens.unclosed way) is

    some_after : (ways : List (List Unit)) → is_some_there (filter (lies box) ways) ≡ true
        → is_some_there (filter (lies box) (map (map change) ways)) ≡ true
    some_after [] some = some
    some_after (way ∷ ways) some = at (lies box way) (lies_same way) some (some_after ways)
      where
        at : (b : Bool) → lies box (map change way) ≡ b
            → is_some_there (cond b (way ∷ filter (lies box) ways) (filter (lies box) ways)) ≡ true
            → (is_some_there (filter (lies box) ways) ≡ true → is_some_there (filter (lies box) (map (map change) ways)) ≡ true)
            → is_some_there (cond (lies box (map change way)) (map change way ∷ filter (lies box) (map (map change) ways)) (filter (lies box) (map (map change) ways))) ≡ true
        at true is some later = ap (λ b. is_some_there (cond b (map change way ∷ filter (lies box) (map (map change) ways)) (filter (lies box) (map (map change) ways)))) is
        at false is some later =
            ap (λ b. is_some_there (cond b (map change way ∷ filter (lies box) (map (map change) ways)) (filter (lies box) (map (map change) ways)))) is
            ∙ later some

    all_after : (ways : List (List Unit)) → list_all seen (filter (lies box) ways) ≡ true
        → list_all seen (filter (lies box) (map (map change) ways)) ≡ true
    all_after [] all = refl
    all_after (way ∷ ways) all = at (lies box way) (lies_same way) all (all_after ways)
      where
        at : (b : Bool) → lies box (map change way) ≡ b
            → list_all seen (cond b (way ∷ filter (lies box) ways) (filter (lies box) ways)) ≡ true
            → (list_all seen (filter (lies box) ways) ≡ true → list_all seen (filter (lies box) (map (map change) ways)) ≡ true)
            → list_all seen (cond (lies box (map change way)) (map change way ∷ (filter (lies box) (map (map change) ways))) (filter (lies box) (map (map change) ways))) ≡ true
        at true is all later =
            let parts = and_parts (seen way) (list_all seen (filter (lies box) ways)) all in
            ap (λ b. list_all seen (cond b (map change way ∷ (filter (lies box) (map (map change) ways))) (filter (lies box) (map (map change) ways)))) is ∙ ap₂ ◌&&◌ (seen_after way parts.0) (later parts.1)
        at false is all later =
            ap (λ b. list_all seen (cond b (map change way ∷ (filter (lies box) (map (map change) ways))) (filter (lies box) (map (map change) ways)))) is
            ∙ later all

    pub opens_more : (f : Forest Unit) → is_open f box permitted day ≡ true
        → is_open (each change f) box permitted day ≡ true
    unfolding is_open
    opens_more f was =
        let parts = and_parts (is_some_there (lying box [] f)) (list_all seen (lying box [] f)) was in
        let ways : lying box [] (each change f) ≡ filter (lies box) (map (map change) (paths_below [] f)) =
        ap (filter (lies box)) (paths_each [] f) in
        ap₂ ◌&&◌ (ap is_some_there ways ∙ some_after (paths_below [] f) parts.0) (ap (list_all seen) ways ∙ all_after (paths_below [] f) parts.1)

-- Such a change withholds nothing that is out: the gate lets it pass.
pub passes : (s : State) → IsSoundOffice s → (change : Unit → Unit) → OnlyOpens s.day change
    → (let new : State = record s { catalogue = record s.catalogue { forest = each change s.catalogue.forest } } in gate new ≡ None)
passes s sound change opens =
    let new : State = record s { catalogue = record s.catalogue { forest = each change s.catalogue.forest } } in
    ap (option_map WithReader)
    (none_first (is_kept_from_holder new)
    (λ c. still_open s sound (each change s.catalogue.forest) s.permits c
    (λ t box is was. opens_more s.day change opens box (is_permitted s.day (s.permits t)) s.catalogue.forest was))
    (containers new))
